-- Texts that join a list, and what is counted by their places.
use Rattle.std.specs.Prelude.{◌≡◌, ℕ, suc, ◌+◌, ◌*◌, ◌<◌, ◌≤◌, Bool, true, false, not, ◌&&◌, ◌||◌, cond, List, [], ◌∷◌, ◌++◌, length, map, slice_get, if◌then◌else◌}
use Rattle.std.specs.declared.option.Option.TheVariants.{Some}
use Rattle.std.specs.List.{list_any, flat_map, position_or_len, AllByRecursion}
use Rattle.std.proofs.Common.{refl, ap, sym, ◌∙◌, arith, take, eq-eqb}
use Rattle.std.proofs.lemmas.List.{length-append, append-nil, append_assoc}
use Rattle.std.proofs.lemmas.List.Folds.{list_any-append}
use Rattle.qf_ir.specs.declared.cell.Cell.TheVariants as cell
use Rattle.qf_ir.specs.declared.table.Column.{Column}
use Rattle.qf_ir.specs.Plan.{Plan}
use Rattle.qf_ir.specs.Texts.{is_text, code_in, with_text, with_texts}
use Rattle.qf_forms.specs.Stated.{stated_by}
use Rattle.qf_forms.specs.declared.complaint.WishCell.{WishCell}
use Rattle.qf_forms.specs.declared.complaint.WishCell.TheVariants.{Int, Text}
use Rattle.qf_forms.specs.declared.complaint.Complaint.{Complaint}
use Rattle.qf_forms.specs.Complaints.{Stated}
use Rattle.qf_goal.specs.Asked.{text_of, text_in, stated_texts, cell_of, with_joined}
use Rattle.qf_goal.proofs.ListLemmas.{map-push, flat_map-push, take-more}

-- ---- a place that passes a test

place-none : {X : Type 0} (p : X → Bool) (xs ys : List X) → list_any p xs ≡ false → position_or_len p (xs ++ ys) ≡ length xs + position_or_len p ys
place-none p [] ys none = let e : position_or_len p ys ≡ 0 + position_or_len p ys = omega arith in e
place-none p (x ∷ xs) ys none =
    elim (p x) as (λ b. (b || list_any p xs) ≡ false → cond (not b) (1 + position_or_len p (xs ++ ys)) 0 ≡ suc (length xs) + position_or_len p ys)
    [ true ↦ λ none. absurd (cc) | false ↦ λ none. omega (arith, place-none p xs ys none) ] none

place-some : {X : Type 0} (p : X → Bool) (xs ys : List X) → list_any p xs ≡ true → (position_or_len p (xs ++ ys) ≡ position_or_len p xs) × (position_or_len p xs < length xs)
place-some p [] ys some = absurd (cc)
place-some p (x ∷ xs) ys some =
    elim (p x) as (λ b. (b || list_any p xs) ≡ true → (cond (not b) (1 + position_or_len p (xs ++ ys)) 0 ≡ cond (not b) (1 + position_or_len p xs) 0) × (cond (not b) (1 + position_or_len p xs) 0 < suc (length xs)))
    [ true ↦ λ some. (refl, omega arith) | false ↦ λ some. let rest = place-some p xs ys some in (ap (λ n. 1 + n) rest.0, omega (arith, rest.1)) ] some

-- ---- texts

pub with_texts-append : (texts others more : List (List ℕ)) → with_texts (with_texts texts others) more ≡ with_texts texts (others ++ more)
with_texts-append texts [] more = refl
with_texts-append texts (text ∷ others) more = with_texts-append (with_text texts text) others more

with_text-after : (texts : List (List ℕ)) (text : List ℕ) → (more : List (List ℕ)) × (with_text texts text ≡ texts ++ more)
with_text-after texts text =
    elim (list_any (is_text text) texts) as (λ b. (more : List (List ℕ)) × ((if b then texts else texts ++ text ∷ []) ≡ texts ++ more))
    [ true ↦ ([], sym (append-nil texts)) | false ↦ (text ∷ [], refl) ]

length-with_text : (texts : List (List ℕ)) (text : List ℕ) → length (with_text texts text) ≤ length texts + 1
length-with_text texts text =
    elim (list_any (is_text text) texts) as (λ b. length (if b then texts else texts ++ text ∷ []) ≤ length texts + 1)
    [ true ↦ omega arith | false ↦ omega (arith, length-append texts (text ∷ [])) ]

pub length-with_texts : (texts others : List (List ℕ)) → length (with_texts texts others) ≤ length texts + length others
length-with_texts texts [] = omega arith
length-with_texts texts (text ∷ others) = omega (arith, length-with_texts (with_text texts text) others, length-with_text texts text)

-- what joins comes behind
pub with_texts-after : (texts others : List (List ℕ)) → (more : List (List ℕ)) × (with_texts texts others ≡ texts ++ more)
with_texts-after texts [] = ([], sym (append-nil texts))
with_texts-after texts (text ∷ others) =
    let one = with_text-after texts text in
    let rest = with_texts-after (with_text texts text) others in
    (one.0 ++ rest.0, rest.1 ∙ ap (λ ts. ts ++ rest.0) one.1 ∙ append_assoc texts one.0 rest.0)

-- a text that is held keeps its place
held_more : (texts : List (List ℕ)) (text other : List ℕ) → list_any (is_text text) texts ≡ true
    → (list_any (is_text text) (with_text texts other) ≡ true) × (code_in (with_text texts other) text ≡ code_in texts text)
held_more texts text other held =
    elim (list_any (is_text other) texts) as (λ b. (list_any (is_text text) (if b then texts else texts ++ other ∷ []) ≡ true) × (code_in (if b then texts else texts ++ other ∷ []) text ≡ code_in texts text)) [
      | true ↦ (held, refl)
      | false ↦ (list_any-append (is_text text) texts (other ∷ []) ∙ ap (λ b. b || list_any (is_text text) (other ∷ [])) held, (place-some (is_text text) texts (other ∷ []) held).0)
    ]

held_stays : (texts others : List (List ℕ)) (text : List ℕ) → list_any (is_text text) texts ≡ true
    → (list_any (is_text text) (with_texts texts others) ≡ true) × (code_in (with_texts texts others) text ≡ code_in texts text)
held_stays texts [] text held = (held, refl)
held_stays texts (other ∷ others) text held =
    let more = held_more texts text other held in
    let rest = held_stays (with_text texts other) others text more.0 in
    (rest.0, rest.1 ∙ more.1)

is_text-same : (text : List ℕ) → is_text text text ≡ true
is_text-same [] = refl
is_text-same (c ∷ cs) = ap (λ b. b && is_text cs cs) (eq-eqb c c refl) ∙ is_text-same cs

text_joins : (texts : List (List ℕ)) (text : List ℕ) → (list_any (is_text text) (with_text texts text) ≡ true) × (code_in (with_text texts text) text ≡ code_in texts text)
text_joins texts text = by_test (list_any (is_text text) texts) refl
  where
    by_test : (test : Bool) → list_any (is_text text) texts ≡ test
        → (list_any (is_text text) (if test then texts else texts ++ text ∷ []) ≡ true) × (code_in (if test then texts else texts ++ text ∷ []) text ≡ code_in texts text)
    by_test true held = (held, refl)
    by_test false none = (
      list_any-append (is_text text) texts (text ∷ []) ∙ ap (λ b. b || (is_text text text || false)) none ∙ ap (λ b. b || false) (is_text-same text),
      place-none (is_text text) texts (text ∷ []) none ∙ ap (λ b. length texts + cond (not b) (1 + 0) 0) (is_text-same text)
          ∙ sym (place-none (is_text text) texts [] none) ∙ ap (λ ts. code_in ts text) (append-nil texts),
    )

-- the code of a text that joins is the one that it has afterwards
pub code_stays : (texts more : List (List ℕ)) (text : List ℕ) → code_in (with_texts texts (text ∷ more)) text ≡ code_in texts text
code_stays texts more text = let here = text_joins texts text in (held_stays (with_text texts text) more text here.0).1 ∙ here.1

pub cell_stays : (texts more : List (List ℕ)) (value : WishCell) → cell_of (with_texts (with_texts texts (text_of value)) more) value ≡ cell_of texts value
cell_stays texts more (Int number) = refl
cell_stays texts more (Text text) = ap (λ code. cell.Text code) (code_stays texts more text)

-- the texts that join are held
pub held_all : (texts others : List (List ℕ)) → AllByRecursion (λ text. code_in (with_texts texts others) text < length (with_texts texts others)) others
held_all texts [] = tt
held_all texts (text ∷ others) =
    let here = text_joins texts text in
    let held = held_stays (with_text texts text) others text here.0 in
    ((place-some (is_text text) (with_texts (with_text texts text) others) [] held.0).1, held_all (with_text texts text) others)

-- ---- how many texts

pub length-text_of : (value : WishCell) → length (text_of value) ≤ 1
length-text_of (Int number) = omega arith
length-text_of (Text text) = omega arith

pub length-texts_in : (stated : List Stated) → length (flat_map text_in stated) ≤ length stated
length-texts_in [] = omega arith
length-texts_in (s ∷ stated) = omega (arith, length-append (text_in s) (flat_map text_in stated), length-texts_in stated, length-text_of s.1)

pub length-stated_texts : (complaints : List Complaint) → AllByRecursion (λ (c : Complaint). length (stated_by c.wish) ≤ 32) complaints
    → length (stated_texts complaints) ≤ 32 * length complaints
length-stated_texts [] few = omega arith
length-stated_texts (c ∷ complaints) few =
    omega (arith, length-append (flat_map text_in (stated_by c.wish)) (stated_texts complaints), length-stated_texts complaints few.1, length-texts_in (stated_by c.wish), few.0)

-- ---- a list of what is made of items, whose texts join the program one after another

-- how many texts the program has so far
pub length-joined : {X : Type 0} (texts_of : X → List (List ℕ)) (initial program : Plan) (items : List X) (i : ℕ) → program ≡ with_joined initial (flat_map texts_of (take i items))
    → length program.texts ≤ length initial.texts + length (flat_map texts_of (take i items))
length-joined texts_of initial program items i is =
    omega (arith, ap (λ (p : Plan). length p.texts) is, length-with_texts initial.texts (flat_map texts_of (take i items)))

module _ {X Y : Type 0} (texts_of : X → List (List ℕ)) (made : List Column → List (List ℕ) → X → Y) where
  pub joined_step : (initial : Plan) (items : List X) (i : ℕ) (x : X) (program next : Plan) (ys grown : List Y) (y : Y) → slice_get items i ≡ Some x
      → program ≡ with_joined initial (flat_map texts_of (take i items)) → ((more : List (List ℕ)) → ys ≡ map (made initial.columns (with_texts program.texts more)) (take i items))
      → ((more : List (List ℕ)) → y ≡ made program.columns (with_texts next.texts more) x) → next ≡ with_joined program (texts_of x) → grown ≡ ys ++ y ∷ []
      → (next ≡ with_joined initial (flat_map texts_of (take (i + 1) items)))
      × ((more : List (List ℕ)) → grown ≡ map (made initial.columns (with_texts next.texts more)) (take (i + 1) items))
  joined_step initial items i x program next ys grown y at is each one is_next is_grown =
      let taken : take (i + 1) items ≡ take i items ++ x ∷ [] = take-more items i x at in (
        is_next ∙ ap (λ p. with_joined p (texts_of x)) is
            ∙ ap (λ texts. record initial { texts = texts }) (with_texts-append initial.texts (flat_map texts_of (take i items)) (texts_of x))
            ∙ ap (λ others. with_joined initial others) (sym (flat_map-push texts_of (take i items) x) ∙ ap (flat_map texts_of) (sym taken)),
        λ more.
            let texts_are : next.texts ≡ with_texts program.texts (texts_of x) = ap (λ (p : Plan). p.texts) is_next in
            let earlier : with_texts program.texts (texts_of x ++ more) ≡ with_texts next.texts more = sym (with_texts-append program.texts (texts_of x) more) ∙ ap (λ texts. with_texts texts more) (sym texts_are) in
            let columns_are : program.columns ≡ initial.columns = ap (λ (p : Plan). p.columns) is in
            is_grown ∙ ap (λ zs. zs ++ y ∷ []) (each (texts_of x ++ more) ∙ ap (λ texts. map (made initial.columns texts) (take i items)) earlier)
            ∙ ap (λ z. map (made initial.columns (with_texts next.texts more)) (take i items) ++ z ∷ []) (one more ∙ ap (λ columns. made columns (with_texts next.texts more) x) columns_are)
            ∙ sym (map-push (made initial.columns (with_texts next.texts more)) (take i items) x) ∙ ap (map (made initial.columns (with_texts next.texts more))) (sym taken),
      )
