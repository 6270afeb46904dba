-- The statements that a log gives, and what they use.
use Rattle.std.proofs.Common.{◌≡◌, ℕ, ◌+◌, Bool, true, false, cond, List, [], ◌∷◌, ◌++◌, refl, sym, ap, subst, ◌∙◌, append_assoc, Option, Some, None, Result, Ok, Err}
use Rattle.std.specs.Prelude.{ℤ, filter, option_to_list}
use Rattle.std.specs.List.{AllByRecursion, flat_map, list_any}
use Rattle.std.proofs.lemmas.List.{append-nil}
use Rattle.qf_grammar.specs.declared.lexeme.Lexeme.{Lexeme}
use Rattle.qf_grammar.specs.declared.lexeme.Lexeme.TheVariants as lex
use Rattle.qf_grammar.specs.declared.lexeme.Mark.TheVariants as mark
use Rattle.qf_grammar.specs.declared.tree.Factor.{Factor}
use Rattle.qf_grammar.specs.declared.tree.Factor.TheVariants as factor
use Rattle.qf_grammar.specs.declared.tree.Form.{Form}
use Rattle.qf_grammar.specs.declared.uses.Use.{Use}
use Rattle.qf_grammar.specs.declared.judging.Stated.{Stated}
use Rattle.qf_grammar.specs.declared.fault.LogFault.{LogFault}
use Rattle.qf_grammar.specs.declared.fault.LogFault.TheVariants as fault
use Rattle.qf_grammar.specs.Spelling.{Lexemes, IsForm}
use Rattle.qf_grammar.specs.Reading.{factor_of, is_star, form_at}
use Rattle.qf_grammar.specs.Usage.{uses_of, is_alike, has_big_factor, single, both, product_of, product_or, uses_in, factor_lexeme, use_lexemes, is_atom}
use Rattle.qf_grammar.specs.Statements.{is_semicolon, pieces_of, onto, table_of, is_table, judged_with, judged_form, judged, judged_next, first_table, statements_from, statements_of, with_stated, Gives}
use Rattle.qf_grammar.specs.Laws.{IsStated, AreStated}
use Rattle.qf_grammar.proofs.StatementLaws.{form_is}
use Rattle.qf_grammar.proofs.UsageLaws.{form_used, form_uses, other_step}

-- ---- one statement

pub judged_as : (numbers : List ℤ) (first : Option ℕ) (k : ℕ) (piece : Lexemes) (f : Form) (us : List Use) → Some f ≡ form_at piece → us ≡ uses_in piece → judged_with numbers first k f us ≡ judged numbers first k piece
judged_as numbers first k piece f us e u =
    ap (judged_with numbers first k f) (u ∙ form_uses piece f (form_is piece f e)) ∙ ap (judged_form numbers first k) e

pub gives_same : {A : Type 0} (r s : Result A LogFault) → r ≡ s → Gives r s
gives_same (Ok a) s e = sym e
gives_same (Err fault.NoMemory) s e = tt
gives_same (Err (fault.BadSyntax k)) s e = sym e
gives_same (Err (fault.NotLinear k)) s e = sym e
gives_same (Err (fault.BigCoefficient k)) s e = sym e
gives_same (Err (fault.OtherTable k)) s e = sym e

-- what was answered where no fault was found
abbrev Chosen : Bool → Bool → Bool → ℕ → Stated → Result Stated LogFault
Chosen a b c k s = cond a (Err (fault.NotLinear k)) (cond b (Err (fault.BigCoefficient k)) (cond c (Ok s) (Err (fault.OtherTable k))))

chosen : (a b c : Bool) (k : ℕ) (s t : Stated) → Chosen a b c k s ≡ Ok t → (a ≡ false) × (b ≡ false) × (s ≡ t)
chosen false false true k s t e = (refl, refl, cc)
chosen true b c k s t e = absurd cc
chosen false true c k s t e = absurd cc
chosen false false false k s t e = absurd cc

form_stated : (numbers : List ℤ) (first : Option ℕ) (k : ℕ) (piece : Lexemes) (o : Option Form) (s : Stated) → o ≡ form_at piece → judged_form numbers first k o ≡ Ok s → IsStated numbers s × IsForm 32 piece s.form
form_stated numbers first k piece None s e h = absurd cc
form_stated numbers first k piece (Some f) s e h =
    let all = chosen (list_any is_alike (uses_of f)) (list_any (has_big_factor numbers) (uses_of f)) (is_table first (table_of f)) k (record { form = f; uses = uses_of f }) s h in
    subst (λ (t : Stated). IsStated numbers t × IsForm 32 piece t.form) all.2 (record { piece = piece; spelled = form_is piece f e; uses = refl; linear = all.0; small = all.1 }, form_is piece f e)

pub stated : (numbers : List ℤ) (first : Option ℕ) (k : ℕ) (piece : Lexemes) (s : Stated) → judged numbers first k piece ≡ Ok s → IsStated numbers s × IsForm 32 piece s.form
stated numbers first k piece s h = form_stated numbers first k piece (form_at piece) s refl h

-- ---- all pieces

-- the pieces with semicolons between
abbrev joined_by : List Lexemes → Lexemes
joined_by [] = []
joined_by (piece ∷ []) = piece
joined_by (piece ∷ next ∷ pieces) = piece ++ lex.Mark mark.Semicolon ∷ joined_by (next ∷ pieces)

semicolon_is : (x : Lexeme) → is_semicolon x ≡ true → x ≡ lex.Mark mark.Semicolon
semicolon_is (lex.Mark mark.Semicolon) e = refl
semicolon_is x e = absurd cc

joined_onto : (x : Lexeme) (ps : List Lexemes) → joined_by (onto x ps) ≡ x ∷ joined_by ps
joined_onto x [] = refl
joined_onto x (piece ∷ []) = refl
joined_onto x (piece ∷ next ∷ pieces) = refl

new_piece : (xs : Lexemes) (ps : List Lexemes) → ps ≡ pieces_of xs → joined_by ([] ∷ ps) ≡ lex.Mark mark.Semicolon ∷ joined_by ps
new_piece xs (piece ∷ pieces) e = refl
new_piece xs [] e = absurd (some_piece xs e)
  where
    some_onto : (x : Lexeme) (ps : List Lexemes) → ◌≡◌ {A = List Lexemes} [] (onto x ps) → ⊥
    some_onto x [] e = cc
    some_onto x (p ∷ ps) e = cc

    some_case : (x : Lexeme) (xs : Lexemes) (v : Bool) → is_semicolon x ≡ v → ◌≡◌ {A = List Lexemes} [] (pieces_of (x ∷ xs)) → ⊥
    some_case x xs true h e = let f : ◌≡◌ {A = List Lexemes} [] ([] ∷ pieces_of xs) = rw h at e in cc
    some_case x xs false h e = some_onto x (pieces_of xs) (rw h at e)

    some_piece : (xs : Lexemes) → ◌≡◌ {A = List Lexemes} [] (pieces_of xs) → ⊥
    some_piece [] e = cc
    some_piece (x ∷ xs) e = some_case x xs (is_semicolon x) refl e

joined_case : (x : Lexeme) (xs : Lexemes) (v : Bool) → is_semicolon x ≡ v → joined_by (pieces_of xs) ≡ xs → joined_by (pieces_of (x ∷ xs)) ≡ x ∷ xs
joined_case x xs true e h = rw e (new_piece xs (pieces_of xs) refl ∙ ap (λ ys. lex.Mark mark.Semicolon ∷ ys) h ∙ ap (λ y. y ∷ xs) (sym (semicolon_is x e)))
joined_case x xs false e h = rw e (joined_onto x (pieces_of xs) ∙ ap (λ ys. x ∷ ys) h)

joined_pieces : (xs : Lexemes) → joined_by (pieces_of xs) ≡ xs
joined_pieces [] = refl
joined_pieces (x ∷ xs) = joined_case x xs (is_semicolon x) refl (joined_pieces xs)

abbrev pub all_uses : List Stated → List Use
all_uses all = flat_map (λ (s : Stated). s.uses) all

-- a piece that uses these before the others
piece_before : (piece : Lexemes) (us vs : List Use) (pieces : List Lexemes) → ((rest : Lexemes) → uses_in (piece ++ lex.Mark mark.Semicolon ∷ rest) ≡ us ++ uses_in (lex.Mark mark.Semicolon ∷ rest)) → uses_in piece ≡ us → vs ≡ uses_in (joined_by pieces) → us ++ vs ≡ uses_in (joined_by (piece ∷ pieces))
unfolding uses_in
piece_before piece us vs [] before alone h = ap (λ t. us ++ t) h ∙ append-nil us ∙ sym alone
piece_before piece us vs (next ∷ pieces) before alone h =
    ap (λ t. us ++ t) (h ∙ sym (other_step (lex.Mark mark.Semicolon) (joined_by (next ∷ pieces)) refl)) ∙ sym (before (joined_by (next ∷ pieces)))

abbrev Good : List ℤ → List Lexemes → List Stated → Type 0
Good numbers pieces all = AllByRecursion (IsStated numbers) all × (all_uses all ≡ uses_in (joined_by pieces))

abbrev Whole : List ℤ → List Lexemes → Result (List Stated) LogFault → Type 0
Whole numbers pieces (Ok all) = Good numbers pieces all
Whole numbers pieces (Err e) = Unit {0}

empty_before : (numbers : List ℤ) (pieces : List Lexemes) (r : Result (List Stated) LogFault) → Whole numbers pieces r → Whole numbers ([] ∷ pieces) r
unfolding uses_in
empty_before numbers pieces (Err e) h = tt
empty_before numbers pieces (Ok all) h = (h.0, piece_before [] [] (all_uses all) pieces (λ rest. refl) refl h.1)

with_before : (numbers : List ℤ) (piece : Lexemes) (pieces : List Lexemes) (s : Stated) (r : Result (List Stated) LogFault) → IsStated numbers s → IsForm 32 piece s.form → Whole numbers pieces r → Whole numbers (piece ∷ pieces) (with_stated s r)
with_before numbers piece pieces s (Err e) i f h = tt
with_before numbers piece pieces s (Ok all) i f h = (
  (i, h.0),
  piece_before piece s.uses (all_uses all) pieces
      (λ rest. form_used piece s.form f (lex.Mark mark.Semicolon ∷ rest) refl ∙ ap (λ us. us ++ uses_in (lex.Mark mark.Semicolon ∷ rest)) (sym i.uses)) (form_uses piece s.form f ∙ sym i.uses) h.1,
)

next_before : (numbers : List ℤ) (first : Option ℕ) (k : ℕ) (piece : Lexemes) (pieces : List Lexemes) (next : Stated → Result (List Stated) LogFault) (r : Result Stated LogFault) → judged numbers first k piece ≡ r → ((s : Stated) → Whole numbers pieces (next s)) → Whole numbers (piece ∷ pieces) (judged_next next r)
next_before numbers first k piece pieces next (Err e) j h = tt
next_before numbers first k piece pieces next (Ok s) j h = let both = stated numbers first k piece s j in with_before numbers piece pieces s (next s) both.0 both.1 (h s)

from_pieces : (numbers : List ℤ) (first : Option ℕ) (k : ℕ) (pieces : List Lexemes) → Whole numbers pieces (statements_from numbers first k pieces)
unfolding uses_in
from_pieces numbers first k [] = (tt, refl)
from_pieces numbers first k ([] ∷ pieces) = empty_before numbers pieces (statements_from numbers first k pieces) (from_pieces numbers first k pieces)
from_pieces numbers first k ((x ∷ xs) ∷ pieces) =
    next_before numbers first k (x ∷ xs) pieces (λ s. statements_from numbers (first_table first s.form) (k + 1) pieces) (judged numbers first k (x ∷ xs)) refl (λ s. from_pieces numbers (first_table first s.form) (k + 1) pieces)

-- ---- what is used are the names, texts and numbers

factor_is : (x : Lexeme) (l : Factor) → factor_of x ≡ Some l → x ≡ factor_lexeme l
factor_is (lex.Number n) l e = let f : factor.Number n ≡ l = cc in ap factor_lexeme f
factor_is (lex.Name c) l e = let f : factor.Name c ≡ l = cc in ap factor_lexeme f
factor_is (lex.Key k) l e = absurd cc
factor_is (lex.Text t) l e = absurd cc
factor_is (lex.Mark m) l e = absurd cc

factor_atom : (l : Factor) → is_atom (factor_lexeme l) ≡ true
factor_atom (factor.Number n) = refl
factor_atom (factor.Name c) = refl

star_atom : (y : Lexeme) → is_star y ≡ true → is_atom y ≡ false
star_atom (lex.Mark m) e = refl
star_atom (lex.Key k) e = refl
star_atom (lex.Name c) e = absurd cc
star_atom (lex.Number n) e = absurd cc
star_atom (lex.Text t) e = absurd cc

both_are : (a b : Option Factor) (p : Factor × Factor) → both a b ≡ Some p → (a ≡ Some p.0) × (b ≡ Some p.1)
both_are (Some l) (Some r) p e = let f : ◌≡◌ {A = Factor × Factor} (l, r) p = cc in (ap (λ (q : Factor × Factor). Some q.0) f, ap (λ (q : Factor × Factor). Some q.1) f)
both_are None b p e = absurd cc
both_are (Some l) None p e = absurd cc

product_is : (x y z : Lexeme) (p : Factor × Factor) (v : Bool) → is_star y ≡ v → product_of x y z ≡ Some p → (factor_of x ≡ Some p.0) × (factor_of z ≡ Some p.1) × (is_star y ≡ true)
product_is x y z p true e h = let q = both_are (factor_of x) (factor_of z) p (rw e at h) in (q.0, q.1, e)
product_is x y z p false e h = let none : ◌≡◌ {A = Option (Factor × Factor)} None (Some p) = rw e at h in absurd cc

single_atom : (x : Lexeme) (xs : Lexemes) → flat_map use_lexemes (option_to_list (single x)) ++ filter is_atom xs ≡ filter is_atom (x ∷ xs)
single_atom (lex.Name c) xs = refl
single_atom (lex.Text t) xs = refl
single_atom (lex.Number n) xs = refl
single_atom (lex.Key k) xs = refl
single_atom (lex.Mark m) xs = refl

flat_join : (us vs : List Use) → flat_map use_lexemes (us ++ vs) ≡ flat_map use_lexemes us ++ flat_map use_lexemes vs
flat_join [] vs = refl
flat_join (u ∷ us) vs = ap (λ t. use_lexemes u ++ t) (flat_join us vs) ∙ sym (append_assoc (use_lexemes u) (flat_map use_lexemes us) (flat_map use_lexemes vs))

three_atoms : (x y z : Lexeme) (xs : Lexemes) (next after : List Use) (o : Option (Factor × Factor)) → product_of x y z ≡ o → flat_map use_lexemes next ≡ filter is_atom (y ∷ z ∷ xs) → flat_map use_lexemes after ≡ filter is_atom xs
    → flat_map use_lexemes (product_or x o next after) ≡ filter is_atom (x ∷ y ∷ z ∷ xs)
three_atoms x y z xs next after None e h k =
    flat_join (option_to_list (single x)) next ∙ ap (λ t. flat_map use_lexemes (option_to_list (single x)) ++ t) h ∙ single_atom x (y ∷ z ∷ xs)
three_atoms x y z xs next after (Some p) e h k =
    let q = product_is x y z p (is_star y) refl e in
    ap (λ t. factor_lexeme p.0 ∷ factor_lexeme p.1 ∷ t) k
    ∙ rw (factor_is x p.0 q.0, factor_is z p.1 q.1, factor_atom p.0, factor_atom p.1, star_atom y q.2) refl

pub used_atoms : (xs : Lexemes) → flat_map use_lexemes (uses_in xs) ≡ filter is_atom xs
unfolding uses_in
used_atoms [] = refl
used_atoms (x ∷ []) = flat_join (option_to_list (single x)) [] ∙ single_atom x []
used_atoms (x ∷ y ∷ []) = flat_join (option_to_list (single x)) (uses_in (y ∷ [])) ∙ ap (λ t. flat_map use_lexemes (option_to_list (single x)) ++ t) (used_atoms (y ∷ [])) ∙ single_atom x (y ∷ [])
used_atoms (x ∷ y ∷ z ∷ xs) = three_atoms x y z xs (uses_in (y ∷ z ∷ xs)) (uses_in xs) (product_of x y z) refl (used_atoms (y ∷ z ∷ xs)) (used_atoms xs)

pub are_stated : (numbers : List ℤ) (xs : Lexemes) (all : List Stated) → statements_of numbers xs ≡ Ok all → AreStated numbers xs all
are_stated numbers xs all e =
    let good : Good numbers (pieces_of xs) all = subst (Whole numbers (pieces_of xs)) e (from_pieces numbers None 1 (pieces_of xs)) in
    record {
      each = good.0;
      in_order = ap (flat_map use_lexemes) (good.1 ∙ ap uses_in (joined_pieces xs)) ∙ used_atoms xs;
    }
