-- Pieces between semicolons.
use Rattle.std.proofs.Common.{◌≡◌, ℕ, ◌+◌, ◌<◌, ◌≤◌, Bool, true, false, List, [], ◌∷◌, ◌++◌, length, get_or, take, drop, refl, sym, ap, ◌∙◌, add-one, append_assoc, Option, Some, None}
use Rattle.std.proofs.lemmas.List.{take_more, drop_all, append-nil, take_all}
use Rattle.std.proofs.Math.Seq.{drop-cons}
use Rattle.qf_grammar.specs.declared.lexeme.Lexeme.{Lexeme}
use Rattle.qf_grammar.specs.Spelling.{Lexemes}
use Rattle.qf_grammar.specs.Statements.{is_semicolon, cut_at, onto, pieces_of}

pub drop_one : (xs : Lexemes) (n : ℕ) (d : Lexeme) → n < length xs → drop n xs ≡ get_or xs n d ∷ drop (n + 1) xs
drop_one xs n d lt = rw add-one (drop-cons xs n d lt)

-- ---- pieces

abbrev pub Cut : Type 0
Cut = Lexemes × Option Lexemes

abbrev pub glued : Lexemes → Cut → Cut
glued front c = (front ++ c.0, c.1)

cut_here : (ys : Lexemes) (x : Lexeme) (rest : Lexemes) → ys ≡ x ∷ rest → is_semicolon x ≡ true → ◌≡◌ {A = Cut} (cut_at ys) ([], Some rest)
cut_here ys x rest e h = ap cut_at e ∙ rw h refl

cut_later : (ys : Lexemes) (x : Lexeme) (rest : Lexemes) → ys ≡ x ∷ rest → is_semicolon x ≡ false → ◌≡◌ {A = Cut} (cut_at ys) (x ∷ (cut_at rest).0, (cut_at rest).1)
cut_later ys x rest e h = ap cut_at e ∙ rw h refl

pub cut_more : (xs : Lexemes) (i : ℕ) (d : Lexeme) → i < length xs → is_semicolon (get_or xs i d) ≡ false → glued (take i xs) (cut_at (drop i xs)) ≡ cut_at xs → glued (take (i + 1) xs) (cut_at (drop (i + 1) xs)) ≡ cut_at xs
cut_more xs i d lt h e =
    let rest = cut_at (drop (i + 1) xs) in
    let here : ◌≡◌ {A = Cut} (cut_at (drop i xs)) (get_or xs i d ∷ rest.0, rest.1) = cut_later (drop i xs) (get_or xs i d) (drop (i + 1) xs) (drop_one xs i d lt) h in
    let front : take (i + 1) xs ++ rest.0 ≡ take i xs ++ (get_or xs i d ∷ rest.0) = ap (λ t. t ++ rest.0) (take_more xs i d lt) ∙ append_assoc (take i xs) (get_or xs i d ∷ []) rest.0 in
    let first : ◌≡◌ {A = Cut} (take (i + 1) xs ++ rest.0, rest.1) (take i xs ++ (get_or xs i d ∷ rest.0), rest.1) = ap (λ (t : Lexemes). (t, rest.1)) front in
    let second : ◌≡◌ {A = Cut} (take i xs ++ (get_or xs i d ∷ rest.0), rest.1) (glued (take i xs) (cut_at (drop i xs))) = sym (ap (λ (c : Cut). (take i xs ++ c.0, c.1)) here) in
    first ∙ second ∙ e

pub cut_found : (xs : Lexemes) (i : ℕ) (d : Lexeme) → i < length xs → is_semicolon (get_or xs i d) ≡ true → glued (take i xs) (cut_at (drop i xs)) ≡ cut_at xs → ◌≡◌ {A = Cut} (take i xs, Some (drop (i + 1) xs)) (cut_at xs)
cut_found xs i d lt h e =
    let here : ◌≡◌ {A = Cut} (cut_at (drop i xs)) ([], Some (drop (i + 1) xs)) = cut_here (drop i xs) (get_or xs i d) (drop (i + 1) xs) (drop_one xs i d lt) h in
    let front : ◌≡◌ {A = Cut} (take i xs, Some (drop (i + 1) xs)) (take i xs ++ [], Some (drop (i + 1) xs)) = ap (λ (t : Lexemes). (t, Some (drop (i + 1) xs))) (sym (append-nil (take i xs))) in
    let second : ◌≡◌ {A = Cut} (take i xs ++ [], Some (drop (i + 1) xs)) (glued (take i xs) (cut_at (drop i xs))) = sym (ap (λ (c : Cut). (take i xs ++ c.0, c.1)) here) in
    front ∙ second ∙ e

pub cut_none : (xs : Lexemes) (i : ℕ) → length xs ≤ i → glued (take i xs) (cut_at (drop i xs)) ≡ cut_at xs → ◌≡◌ {A = Cut} (xs, None) (cut_at xs)
cut_none xs i le e =
    let here : ◌≡◌ {A = Cut} (cut_at (drop i xs)) ([], None) = ap cut_at (drop_all i xs le) in
    let front : ◌≡◌ {A = Cut} (xs, None) (take i xs ++ [], None) = ap (λ (t : Lexemes). (t, None)) (sym (take_all i xs le) ∙ sym (append-nil (take i xs))) in
    let second : ◌≡◌ {A = Cut} (take i xs ++ [], None) (glued (take i xs) (cut_at (drop i xs))) = sym (ap (λ (c : Cut). (take i xs ++ c.0, c.1)) here) in
    front ∙ second ∙ e

-- the pieces behind a semicolon, where there is one
abbrev pub pieces_left : Option Lexemes → List Lexemes
pieces_left None = []
pieces_left (Some xs) = pieces_of xs

pieces_case : (x : Lexeme) (xs : Lexemes) (v : Bool) → is_semicolon x ≡ v → pieces_of xs ≡ (cut_at xs).0 ∷ pieces_left (cut_at xs).1 → pieces_of (x ∷ xs) ≡ (cut_at (x ∷ xs)).0 ∷ pieces_left (cut_at (x ∷ xs)).1
pieces_case x xs true e h = rw e refl
pieces_case x xs false e h = rw e (ap (onto x) h)

pub pieces_cut : (xs : Lexemes) → pieces_of xs ≡ (cut_at xs).0 ∷ pieces_left (cut_at xs).1
pieces_cut [] = refl
pieces_cut (x ∷ xs) = pieces_case x xs (is_semicolon x) refl (pieces_cut xs)
