-- Some words are a line exactly where they are its words.
use Rattle.std.proofs.Common.{◌≡◌, ℕ, ◌-◌, ◌^◌, ◌==◌, Bool, true, false, cond, ◌&&◌, List, [], ◌∷◌, map, ℤ, pos, neg_ℤ, refl, sym, ap, ◌∙◌, subst, arith, inl, inr, ◌⊎◌, Option, Some, None, option_map, option_and_then}
use Rattle.std.specs.List.{list_all}
use Rattle.std.specs.Str.{bytes_eq}
use Rattle.std.specs.Fmt.{decimal, signed_decimal}
use Rattle.std.proofs.lemmas.Int.{ints}
use Rattle.std.proofs.lemmas.Bool.{and_parts, and_from, eqb-true}
use Rattle.std.proofs.lemmas.Slice.Eq.{bytes_eq-Decides}
use lib.Chars.{codes}
use Rattle.qf_base.specs.declared.names.Bound.{Bound}
use Rattle.qf_base.specs.declared.names.Bound.TheVariants.{Low, High}
use Rattle.qf_base.specs.declared.names.RowName.{RowName}
use Rattle.qf_base.specs.declared.names.RowName.TheVariants.{Start, Inserted}
use Rattle.qf_csv.specs.Numerals.{count_of}
use Rattle.qf_tree.specs.declared.cert.Answer.{Answer}
use Rattle.qf_tree.specs.declared.cert.Answer.TheVariants.{Repair, Nothing, Budget, Best}
use Rattle.qf_tree.specs.declared.line.Line.{Line}
use Rattle.qf_tree.specs.declared.line.Line.TheVariants as line
use Rattle.qf_tree.specs.Lines.{is_number, is_value, is_small_end, is_small_bound, is_named_row, answer_fits, line_fits}
use Rattle.qf_certtext.specs.Spelling.{row_word, answer_words, line_words}
use Rattle.qf_certtext.specs.Words.{value_of_word, end_of_word, param_of_word, row_of_word, bare_line, short_line, split_line, bound_line, long_line, numbered_line, values_of_words, bare_answer, answer_behind, line_behind, line_of_words}
use Rattle.qf_certtext.proofs.Numbers.{FitsRange, count_spelled, count_decimal, value_spelled, value_read}

-- ---- options and tests

some_same : {X : Type 0} (a b : X) → (◌≡◌ {A = Option X} (Some a) (Some b)) → a ≡ b
some_same a b e = cc

picked : {X : Type 0} (flag : Bool) (a b : Option X) (x : X) → cond flag a b ≡ Some x → ((flag ≡ true) × (a ≡ Some x)) ⊎ (b ≡ Some x)
picked true a b x e = inl (refl, e)
picked false a b x e = inr e

mapped : {X Y : Type 0} (f : X → Y) (o : Option X) (y : Y) → option_map f o ≡ Some y → (x : X) × (o ≡ Some x) × (f x ≡ y)
mapped f None y e = cc
mapped f (Some x) y e = (x, refl, some_same (f x) y e)

chained : {X Y : Type 0} (f : X → Option Y) (o : Option X) (y : Y) → option_and_then f o ≡ Some y → (x : X) × (o ≡ Some x) × (f x ≡ Some y)
chained f None y e = cc
chained f (Some x) y e = (x, refl, e)

same_bytes : (word text : List ℕ) → bytes_eq word text ≡ true → word ≡ text
same_bytes word text e = (bytes_eq-Decides word text).0 e

-- ---- numbers and names

value_range : FitsRange (neg_ℤ (pos (2 ^ 63))) (pos (2 ^ 63 - 1))
value_range = (omega (arith, ints), omega (arith, ints))

end_range : FitsRange (neg_ℤ (pos (2 ^ 60))) (pos (2 ^ 60))
end_range = (omega (arith, ints), omega (arith, ints))

value_to : (word : List ℕ) (z : ℤ) → value_of_word word ≡ Some z → (is_value z ≡ true) × (word ≡ signed_decimal z)
value_to word z e = value_spelled (neg_ℤ (pos (2 ^ 63))) (pos (2 ^ 63 - 1)) word z value_range e

value_from : (z : ℤ) → is_value z ≡ true → value_of_word (signed_decimal z) ≡ Some z
value_from z e = value_read (neg_ℤ (pos (2 ^ 63))) (pos (2 ^ 63 - 1)) z value_range e

end_to : (word : List ℕ) (z : ℤ) → end_of_word word ≡ Some z → (is_small_end z ≡ true) × (word ≡ signed_decimal z)
end_to word z e = value_spelled (neg_ℤ (pos (2 ^ 60))) (pos (2 ^ 60)) word z end_range e

end_from : (z : ℤ) → is_small_end z ≡ true → end_of_word (signed_decimal z) ≡ Some z
end_from z e = value_read (neg_ℤ (pos (2 ^ 60))) (pos (2 ^ 60)) z end_range e

param_to : (word : List ℕ) (n : ℕ) → param_of_word word ≡ Some n → (is_number n ≡ true) × (word ≡ 112 ∷ decimal n)
param_to [] n e = cc
param_to (c ∷ ds) n e =
    elim (picked (c == 112) (count_of ds) None n e) [
      | inl h ↦
          let p = count_spelled ds n h.1 in
          let first : c ≡ 112 = eqb-true c 112 h.0 in
          (p.0, ap (λ (x : ℕ). x ∷ ds) first ∙ ap (λ (xs : List ℕ). 112 ∷ xs) p.1)
      | inr h ↦ cc
    ]

param_from : (n : ℕ) → is_number n ≡ true → param_of_word (112 ∷ decimal n) ≡ Some n
param_from n h = count_decimal n h

row_to : (word : List ℕ) (row : RowName) → row_of_word word ≡ Some row → (is_named_row row ≡ true) × (word ≡ row_word row)
row_to [] row e = cc
row_to (c ∷ ds) row e =
    elim (picked (c == 114) (option_map Start (count_of ds)) (cond (c == 105) (option_map Inserted (count_of ds)) None) row e) [
      | inl h ↦
          let m = mapped Start (count_of ds) row h.1 in
          let p = count_spelled ds m.0 m.1 in
          let first : c ≡ 114 = eqb-true c 114 h.0 in
          subst (λ r. (is_named_row r ≡ true) × (c ∷ ds ≡ row_word r)) m.2 (p.0, ap (λ (x : ℕ). x ∷ ds) first ∙ ap (λ (xs : List ℕ). 114 ∷ xs) p.1)
      | inr k ↦
          elim (picked (c == 105) (option_map Inserted (count_of ds)) None row k) [
            | inl h ↦
                let m = mapped Inserted (count_of ds) row h.1 in
                let p = count_spelled ds m.0 m.1 in
                let first : c ≡ 105 = eqb-true c 105 h.0 in
                subst (λ r. (is_named_row r ≡ true) × (c ∷ ds ≡ row_word r)) m.2 (p.0, ap (λ (x : ℕ). x ∷ ds) first ∙ ap (λ (xs : List ℕ). 105 ∷ xs) p.1)
            | inr h ↦ cc
          ]
    ]

row_from : (row : RowName) → is_named_row row ≡ true → row_of_word (row_word row) ≡ Some row
row_from (Start n) h = rw (count_decimal n h) refl
row_from (Inserted n) h = rw (count_decimal n h) refl

values_to : (words : List (List ℕ)) (zs : List ℤ) → values_of_words words ≡ Some zs → (list_all is_value zs ≡ true) × (words ≡ map signed_decimal zs)
values_to [] zs e =
    let same : [] ≡ zs = some_same [] zs e in
    subst (λ (ys : List ℤ). (list_all is_value ys ≡ true) × ([] ≡ map signed_decimal ys)) same (refl, refl)
values_to (word ∷ words) zs e =
    let first = chained (λ z. option_map (λ (more : List ℤ). z ∷ more) (values_of_words words)) (value_of_word word) zs e in
    let rest = mapped (λ (more : List ℤ). first.0 ∷ more) (values_of_words words) zs first.2 in
    let p = value_to word first.0 first.1 in
    let q = values_to words rest.0 rest.1 in
    subst (λ (ys : List ℤ). (list_all is_value ys ≡ true) × (word ∷ words ≡ map signed_decimal ys)) rest.2 (
      and_from (is_value first.0) (list_all is_value rest.0) p.0 q.0,
      ap (λ (w : List ℕ). w ∷ words) p.1 ∙ ap (λ (ws : List (List ℕ)). signed_decimal first.0 ∷ ws) q.1,
    )

values_from : (zs : List ℤ) → list_all is_value zs ≡ true → values_of_words (map signed_decimal zs) ≡ Some zs
values_from [] h = refl
values_from (z ∷ zs) h =
    let parts = and_parts (is_value z) (list_all is_value zs) h in
    rw (value_from z parts.0, values_from zs parts.1) refl

-- ---- from words to a line

abbrev IsLineOf : List (List ℕ) → Line → Type 0
IsLineOf words l = (line_fits l ≡ true) × (words ≡ line_words l)

bare_is : (made l : Line) (word text : List ℕ) → line_fits made ≡ true → line_words made ≡ text ∷ [] → bytes_eq word text ≡ true → (◌≡◌ {A = Option Line} (Some made) (Some l)) → IsLineOf (word ∷ []) l
bare_is made l word text fits words e s =
    subst (λ m. IsLineOf (word ∷ []) m) (some_same made l s) (fits, ap (λ (x : List ℕ). x ∷ []) (same_bytes word text e) ∙ sym words)

bare_to : (word : List ℕ) (l : Line) → bare_line word ≡ Some l → IsLineOf (word ∷ []) l
bare_to word l e =
    elim (picked (bytes_eq word (codes "empty")) (Some line.Empty) (cond (bytes_eq word (codes "dear")) (Some line.Dear) (cond (bytes_eq word (codes "open")) (Some line.Open) (cond (bytes_eq word (codes "end")) (Some line.End) None))) l e) [
      | inl h ↦ bare_is line.Empty l word (codes "empty") refl refl h.0 h.1
      | inr e2 ↦
          elim (picked (bytes_eq word (codes "dear")) (Some line.Dear) (cond (bytes_eq word (codes "open")) (Some line.Open) (cond (bytes_eq word (codes "end")) (Some line.End) None)) l e2) [
            | inl h ↦ bare_is line.Dear l word (codes "dear") refl refl h.0 h.1
            | inr e3 ↦
                elim (picked (bytes_eq word (codes "open")) (Some line.Open) (cond (bytes_eq word (codes "end")) (Some line.End) None) l e3) [
                  | inl h ↦ bare_is line.Open l word (codes "open") refl refl h.0 h.1
                  | inr e4 ↦
                      elim (picked (bytes_eq word (codes "end")) (Some line.End) None l e4) [
                        | inl h ↦ bare_is line.End l word (codes "end") refl refl h.0 h.1
                        | inr h ↦ cc
                      ]
                ]
          ]
    ]

head_to : (kind word : List ℕ) (l : Line) → bytes_eq kind (codes "qfix-cert") ≡ true → cond (bytes_eq word (codes "1")) (Some line.Head) None ≡ Some l → IsLineOf (kind ∷ word ∷ []) l
head_to kind word l k e =
    elim (picked (bytes_eq word (codes "1")) (Some line.Head) None l e) [
      | inl h ↦
          subst (λ m. IsLineOf (kind ∷ word ∷ []) m) (some_same line.Head l h.1) (refl, ap (λ (x : List ℕ). x ∷ word ∷ []) (same_bytes kind (codes "qfix-cert") k) ∙ ap (λ (x : List ℕ). codes "qfix-cert" ∷ x ∷ []) (same_bytes word (codes "1") h.0))
      | inr h ↦ cc
    ]

refuted_to : (kind word : List ℕ) (l : Line) → bytes_eq kind (codes "refuted") ≡ true → option_map line.Refuted (row_of_word word) ≡ Some l → IsLineOf (kind ∷ word ∷ []) l
refuted_to kind word l k e =
    let m = mapped line.Refuted (row_of_word word) l e in
    let p = row_to word m.0 m.1 in
    subst (λ x. IsLineOf (kind ∷ word ∷ []) x) m.2 (p.0, ap (λ (x : List ℕ). x ∷ word ∷ []) (same_bytes kind (codes "refuted") k) ∙ ap (λ (x : List ℕ). codes "refuted" ∷ x ∷ []) p.1)

case_to : (kind word : List ℕ) (l : Line) → bytes_eq kind (codes "case") ≡ true → option_map line.Case (count_of word) ≡ Some l → IsLineOf (kind ∷ word ∷ []) l
case_to kind word l k e =
    let m = mapped line.Case (count_of word) l e in
    let p = count_spelled word m.0 m.1 in
    subst (λ x. IsLineOf (kind ∷ word ∷ []) x) m.2 (p.0, ap (λ (x : List ℕ). x ∷ word ∷ []) (same_bytes kind (codes "case") k) ∙ ap (λ (x : List ℕ). codes "case" ∷ x ∷ []) p.1)

short_to : (kind word : List ℕ) (l : Line) → short_line kind word ≡ Some l → IsLineOf (kind ∷ word ∷ []) l
short_to kind word l e =
    elim (picked (bytes_eq kind (codes "qfix-cert")) (cond (bytes_eq word (codes "1")) (Some line.Head) None) (cond (bytes_eq kind (codes "refuted")) (option_map line.Refuted (row_of_word word)) (cond (bytes_eq kind (codes "case")) (option_map line.Case (count_of word)) None)) l e) [
      | inl h ↦ head_to kind word l h.0 h.1
      | inr e2 ↦
          elim (picked (bytes_eq kind (codes "refuted")) (option_map line.Refuted (row_of_word word)) (cond (bytes_eq kind (codes "case")) (option_map line.Case (count_of word)) None) l e2) [
            | inl h ↦ refuted_to kind word l h.0 h.1
            | inr e3 ↦
                elim (picked (bytes_eq kind (codes "case")) (option_map line.Case (count_of word)) None l e3) [
                  | inl h ↦ case_to kind word l h.0 h.1
                  | inr h ↦ cc
                ]
          ]
    ]

-- four words, each as its own equation
four_words : (a b c d w x y z : List ℕ) → a ≡ w → b ≡ x → c ≡ y → d ≡ z → a ∷ b ∷ c ∷ d ∷ [] ≡ w ∷ x ∷ y ∷ z ∷ []
four_words a b c d w x y z p q r s = rw (p, q, r, s) refl

split_to : (kind a b c : List ℕ) (l : Line) → bytes_eq kind (codes "split") ≡ true → split_line a b c ≡ Some l → IsLineOf (kind ∷ a ∷ b ∷ c ∷ []) l
split_to kind a b c l k e =
    let x = chained (λ n. option_and_then (λ z. option_map (λ r. line.Split n z r) (row_of_word c)) (value_of_word b)) (param_of_word a) l e in
    let y = chained (λ z. option_map (λ r. line.Split x.0 z r) (row_of_word c)) (value_of_word b) l x.2 in
    let z = mapped (λ r. line.Split x.0 y.0 r) (row_of_word c) l y.2 in
    let p = param_to a x.0 x.1 in
    let q = value_to b y.0 y.1 in
    let r = row_to c z.0 z.1 in
    subst (λ m. IsLineOf (kind ∷ a ∷ b ∷ c ∷ []) m) z.2 (
      and_from (is_number x.0 && is_value y.0) (is_named_row z.0) (and_from (is_number x.0) (is_value y.0) p.0 q.0) r.0,
      four_words kind a b c (codes "split") (112 ∷ decimal x.0) (signed_decimal y.0) (row_word z.0) (same_bytes kind (codes "split") k) p.1 q.1 r.1,
    )

bound_to : (side : ℤ → Bound) (name kind a b c : List ℕ) (l : Line) → ((z : ℤ) → is_small_bound (side z) ≡ is_small_end z) → ((n v : ℕ) (z : ℤ) → line_words (line.Tight n v (side z)) ≡ name ∷ decimal n ∷ decimal v ∷ signed_decimal z ∷ []) → bytes_eq kind name ≡ true → bound_line side a b c ≡ Some l → IsLineOf (kind ∷ a ∷ b ∷ c ∷ []) l
bound_to side name kind a b c l small words k e =
    let x = chained (λ n. option_and_then (λ v. option_map (λ z. line.Tight n v (side z)) (end_of_word c)) (count_of b)) (count_of a) l e in
    let y = chained (λ v. option_map (λ z. line.Tight x.0 v (side z)) (end_of_word c)) (count_of b) l x.2 in
    let z = mapped (λ z. line.Tight x.0 y.0 (side z)) (end_of_word c) l y.2 in
    let p = count_spelled a x.0 x.1 in
    let q = count_spelled b y.0 y.1 in
    let r = end_to c z.0 z.1 in
    subst (λ m. IsLineOf (kind ∷ a ∷ b ∷ c ∷ []) m) z.2 (
      and_from (is_number x.0 && is_number y.0) (is_small_bound (side z.0)) (and_from (is_number x.0) (is_number y.0) p.0 q.0) (small z.0 ∙ r.0),
      four_words kind a b c name (decimal x.0) (decimal y.0) (signed_decimal z.0) (same_bytes kind name k) p.1 q.1 r.1 ∙ sym (words x.0 y.0 z.0),
    )

long_to : (kind a b c : List ℕ) (l : Line) → long_line kind a b c ≡ Some l → IsLineOf (kind ∷ a ∷ b ∷ c ∷ []) l
long_to kind a b c l e =
    elim (picked (bytes_eq kind (codes "split")) (split_line a b c) (cond (bytes_eq kind (codes "ge")) (bound_line Low a b c) (cond (bytes_eq kind (codes "le")) (bound_line High a b c) None)) l e) [
      | inl h ↦ split_to kind a b c l h.0 h.1
      | inr e2 ↦
          elim (picked (bytes_eq kind (codes "ge")) (bound_line Low a b c) (cond (bytes_eq kind (codes "le")) (bound_line High a b c) None) l e2) [
            | inl h ↦ bound_to Low (codes "ge") kind a b c l (λ z. refl) (λ n v z. refl) h.0 h.1
            | inr e3 ↦
                elim (picked (bytes_eq kind (codes "le")) (bound_line High a b c) None l e3) [
                  | inl h ↦ bound_to High (codes "le") kind a b c l (λ z. refl) (λ n v z. refl) h.0 h.1
                  | inr h ↦ cc
                ]
          ]
    ]

numbered_to : (kind : List ℕ) (words : List (List ℕ)) (l : Line) → numbered_line kind words ≡ Some l → IsLineOf (kind ∷ words) l
numbered_to kind [] l e = cc
numbered_to kind (a ∷ []) l e = short_to kind a l e
numbered_to kind (a ∷ b ∷ []) l e = cc
numbered_to kind (a ∷ b ∷ c ∷ []) l e = long_to kind a b c l e
numbered_to kind (a ∷ b ∷ c ∷ d ∷ more) l e = cc

abbrev IsAnswerOf : List (List ℕ) → Answer → Type 0
IsAnswerOf words a = (answer_fits a ≡ true) × (words ≡ answer_words a)

stated_to : (f : List ℤ → Answer) (name kind : List ℕ) (words : List (List ℕ)) (a : Answer) → ((p : List ℤ) → answer_fits (f p) ≡ list_all is_value p) → ((p : List ℤ) → answer_words (f p) ≡ name ∷ map signed_decimal p) → bytes_eq kind name ≡ true → option_map f (values_of_words words) ≡ Some a → IsAnswerOf (kind ∷ words) a
stated_to f name kind words a fits text k e =
    let m = mapped f (values_of_words words) a e in
    let p = values_to words m.0 m.1 in
    subst (λ x. IsAnswerOf (kind ∷ words) x) m.2 (
      fits m.0 ∙ p.0,
      ap (λ (x : List ℕ). x ∷ words) (same_bytes kind name k) ∙ ap (λ (ws : List (List ℕ)). name ∷ ws) p.1 ∙ sym (text m.0),
    )

bare_answer_to : (kind : List ℕ) (words : List (List ℕ)) (a : Answer) → bare_answer kind words ≡ Some a → IsAnswerOf (kind ∷ words) a
bare_answer_to kind [] a e =
    elim (picked (bytes_eq kind (codes "none")) (Some Nothing) (cond (bytes_eq kind (codes "budget")) (Some Budget) None) a e) [
      | inl h ↦
          subst (λ x. IsAnswerOf (kind ∷ []) x) (some_same Nothing a h.1) (refl, ap (λ (x : List ℕ). x ∷ []) (same_bytes kind (codes "none") h.0))
      | inr e2 ↦
          elim (picked (bytes_eq kind (codes "budget")) (Some Budget) None a e2) [
            | inl h ↦
                subst (λ x. IsAnswerOf (kind ∷ []) x) (some_same Budget a h.1) (refl, ap (λ (x : List ℕ). x ∷ []) (same_bytes kind (codes "budget") h.0))
            | inr h ↦ cc
          ]
    ]
bare_answer_to kind (word ∷ words) a e = cc

answer_to : (words : List (List ℕ)) (a : Answer) → answer_behind words ≡ Some a → IsAnswerOf words a
answer_to [] a e = cc
answer_to (kind ∷ words) a e =
    elim (picked (bytes_eq kind (codes "repair")) (option_map Repair (values_of_words words)) (cond (bytes_eq kind (codes "best")) (option_map Best (values_of_words words)) (bare_answer kind words)) a e) [
      | inl h ↦ stated_to Repair (codes "repair") kind words a (λ p. refl) (λ p. refl) h.0 h.1
      | inr e2 ↦
          elim (picked (bytes_eq kind (codes "best")) (option_map Best (values_of_words words)) (bare_answer kind words) a e2) [
            | inl h ↦ stated_to Best (codes "best") kind words a (λ p. refl) (λ p. refl) h.0 h.1
            | inr h ↦ bare_answer_to kind words a h
          ]
    ]

behind_to : (kind : List ℕ) (words : List (List ℕ)) (l : Line) → line_behind kind words ≡ Some l → IsLineOf (kind ∷ words) l
behind_to kind words l e =
    elim (picked (bytes_eq kind (codes "answer")) (option_map line.Answer (answer_behind words)) (numbered_line kind words) l e) [
      | inl h ↦
          let m = mapped line.Answer (answer_behind words) l h.1 in
          let p = answer_to words m.0 m.1 in
          subst (λ x. IsLineOf (kind ∷ words) x) m.2 (p.0, ap (λ (x : List ℕ). x ∷ words) (same_bytes kind (codes "answer") h.0) ∙ ap (λ (ws : List (List ℕ)). codes "answer" ∷ ws) p.1)
      | inr h ↦ numbered_to kind words l h
    ]

-- what the words are read as is spelled by them
pub line_to : (words : List (List ℕ)) (l : Line) → line_of_words words ≡ Some l → (line_fits l ≡ true) × (words ≡ line_words l)
line_to [] l e = cc
line_to (word ∷ []) l e = bare_to word l e
line_to (kind ∷ word ∷ words) l e = behind_to kind (word ∷ words) l e

-- ---- from a line to its words, and back

answer_from : (a : Answer) → answer_fits a ≡ true → answer_behind (answer_words a) ≡ Some a
answer_from (Repair p) h = rw (values_from p h) refl
answer_from Nothing h = refl
answer_from Budget h = refl
answer_from (Best p) h = rw (values_from p h) refl

split_from : (n : ℕ) (z : ℤ) (row : RowName) → line_fits (line.Split n z row) ≡ true → split_line (112 ∷ decimal n) (signed_decimal z) (row_word row) ≡ Some (line.Split n z row)
split_from n z row h =
    let parts = and_parts (is_number n && is_value z) (is_named_row row) h in
    let two = and_parts (is_number n) (is_value z) parts.0 in
    rw (param_from n two.0, value_from z two.1, row_from row parts.1) refl

low_from : (n v : ℕ) (z : ℤ) → line_fits (line.Tight n v (Low z)) ≡ true → bound_line Low (decimal n) (decimal v) (signed_decimal z) ≡ Some (line.Tight n v (Low z))
low_from n v z h =
    let parts = and_parts (is_number n && is_number v) (is_small_end z) h in
    let two = and_parts (is_number n) (is_number v) parts.0 in
    rw (count_decimal n two.0, count_decimal v two.1, end_from z parts.1) refl

high_from : (n v : ℕ) (z : ℤ) → line_fits (line.Tight n v (High z)) ≡ true → bound_line High (decimal n) (decimal v) (signed_decimal z) ≡ Some (line.Tight n v (High z))
high_from n v z h =
    let parts = and_parts (is_number n && is_number v) (is_small_end z) h in
    let two = and_parts (is_number n) (is_number v) parts.0 in
    rw (count_decimal n two.0, count_decimal v two.1, end_from z parts.1) refl

-- the words of a line are read as the line
pub line_from : (l : Line) → line_fits l ≡ true → line_of_words (line_words l) ≡ Some l
line_from line.Head h = refl
line_from (line.Answer (Repair p)) h = ap (option_map line.Answer) (answer_from (Repair p) h)
line_from (line.Answer Nothing) h = refl
line_from (line.Answer Budget) h = refl
line_from (line.Answer (Best p)) h = ap (option_map line.Answer) (answer_from (Best p) h)
line_from (line.Split n z row) h = split_from n z row h
line_from (line.Refuted row) h = ap (option_map line.Refuted) (row_from row h)
line_from (line.Tight n v (Low z)) h = low_from n v z h
line_from (line.Tight n v (High z)) h = high_from n v z h
line_from line.Empty h = refl
line_from (line.Case v) h = ap (option_map line.Case) (count_decimal v h)
line_from line.Dear h = refl
line_from line.Open h = refl
line_from line.End h = refl
