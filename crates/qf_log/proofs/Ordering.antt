-- The numbers of a log stand in the order of their places: so its parameters are numbered 1, 2, .. in text order.
use Rattle.std.proofs.Common.{◌≡◌, ℕ, zero, suc, ◌+◌, ◌≤◌, List, [], ◌∷◌, ◌++◌, length, map, filter, refl, sym, ap, subst, ◌∙◌, append_assoc, arith, get_or}
use Rattle.std.specs.List.{flat_map, range_with_len}
use Rattle.std.proofs.lemmas.List.{length-append}
use Rattle.qf_grammar.specs.declared.lexeme.Lexeme.{Lexeme}
use Rattle.qf_grammar.specs.declared.lexeme.Lexeme.TheVariants as lex
use Rattle.qf_grammar.specs.declared.tree.Factor.TheVariants as factor
use Rattle.qf_grammar.specs.declared.uses.Use.{Use}
use Rattle.qf_grammar.specs.declared.uses.Use.TheVariants as used
use Rattle.qf_grammar.specs.Spelling.{Lexemes}
use Rattle.qf_grammar.specs.Usage.{use_lexemes, is_atom}
use Rattle.qf_log.specs.Said.{Said, key, name, number, text, mark}
use Rattle.qf_log.specs.Lexed.{numbers_of, lexemes_from}
use Rattle.qf_log.specs.Parameters.{parameters_in, ids_from}
use Rattle.qf_log.specs.Lowered.{id_at}

-- the place of a number
abbrev pub place_in : Lexeme → List ℕ
place_in (lex.Number n) = n ∷ []
place_in _ = []

abbrev pub places_of : Lexemes → List ℕ
places_of xs = flat_map place_in xs

pub atom_places : (xs : Lexemes) → places_of (filter is_atom xs) ≡ places_of xs
atom_places [] = refl
atom_places (lex.Number n ∷ xs) = ap (λ t. n ∷ t) (atom_places xs)
atom_places (lex.Name c ∷ xs) = atom_places xs
atom_places (lex.Text t ∷ xs) = atom_places xs
atom_places (lex.Key k ∷ xs) = atom_places xs
atom_places (lex.Mark m ∷ xs) = atom_places xs

pub range_length : (k n : ℕ) → length (range_with_len k n) ≡ n
range_length k zero = refl
range_length k (suc n) = ap suc (range_length (k + 1) n)

pub lexeme_places : (names texts : List (List ℕ)) (k : ℕ) (saids : List Said) → places_of (lexemes_from names texts k saids) ≡ range_with_len k (length (numbers_of saids))
lexeme_places names texts k [] = refl
lexeme_places names texts k (number z ∷ saids) = ap (λ t. k ∷ t) (lexeme_places names texts (k + 1) saids)
lexeme_places names texts k (key x ∷ saids) = ap (λ m. places_of (lexemes_from names texts m saids)) (omega arith) ∙ lexeme_places names texts k saids
lexeme_places names texts k (name n ∷ saids) = ap (λ m. places_of (lexemes_from names texts m saids)) (omega arith) ∙ lexeme_places names texts k saids
lexeme_places names texts k (text t ∷ saids) = ap (λ m. places_of (lexemes_from names texts m saids)) (omega arith) ∙ lexeme_places names texts k saids
lexeme_places names texts k (mark m ∷ saids) = ap (λ m. places_of (lexemes_from names texts m saids)) (omega arith) ∙ lexeme_places names texts k saids

-- the places of the numbers that are used
abbrev pub used_places : List Use → List ℕ
used_places us = places_of (flat_map use_lexemes us)

-- they go on one by one from a place
abbrev pub GoOn : ℕ → List ℕ → Type 0
GoOn k [] = Unit {0}
GoOn k (n ∷ ns) = (n ≡ k) × GoOn (k + 1) ns

pub go_on : (k n : ℕ) → GoOn k (range_with_len k n)
go_on k zero = tt
go_on k (suc n) = (refl, go_on (k + 1) n)

-- ---- the numbers of the parameters

behind : (front rest : List ℕ) (x : ℕ) → get_or (front ++ x ∷ rest) (length front) 0 ≡ x
behind [] rest x = refl
behind (y ∷ front) rest x = behind front rest x

one_more : (front : List ℕ) (x : ℕ) → length (front ++ x ∷ []) ≡ length front + 1
one_more front x = length-append front (x ∷ [])

next_on : (front : List ℕ) (x : ℕ) (ns : List ℕ) → GoOn (length front + 1) ns → GoOn (length (front ++ x ∷ [])) ns
next_on front x ns h = subst (λ k. GoOn k ns) (sym (one_more front x)) h

moved : (front ids ns : List ℕ) (x : ℕ) → map (id_at ((front ++ x ∷ []) ++ ids)) ns ≡ map (id_at (front ++ x ∷ ids)) ns
moved front ids ns x = ap (λ t. map (id_at t) ns) (append_assoc front (x ∷ []) ids)

-- the k-th parameter has the number k
pub numbered : (us : List Use) (front : List ℕ) (k : ℕ) → GoOn (length front) (used_places us) → map (id_at (front ++ ids_from k us)) (parameters_in us) ≡ range_with_len (k + 1) (length (parameters_in us))
numbered [] front k h = refl
numbered (used.Number n ∷ us) front k h =
    let here : id_at (front ++ (k + 1) ∷ ids_from (k + 1) us) n ≡ k + 1 = ap (id_at (front ++ (k + 1) ∷ ids_from (k + 1) us)) h.0 ∙ behind front (ids_from (k + 1) us) (k + 1) in
    let rest = numbered us (front ++ (k + 1) ∷ []) (k + 1) (next_on front (k + 1) (used_places us) h.1) in
    ap (λ x. x ∷ map (id_at (front ++ (k + 1) ∷ ids_from (k + 1) us)) (parameters_in us)) here
    ∙ ap (λ t. (k + 1) ∷ t) (sym (moved front (ids_from (k + 1) us) (parameters_in us) (k + 1)) ∙ rest)
numbered (used.Name c ∷ us) front k h = numbered us front k h
numbered (used.Text t ∷ us) front k h = numbered us front k h
numbered (used.Product (factor.Name c) (factor.Name d) ∷ us) front k h = numbered us front k h
numbered (used.Product (factor.Number m) (factor.Name d) ∷ us) front k h =
    sym (moved front (ids_from k us) (parameters_in us) 0) ∙ numbered us (front ++ 0 ∷ []) k (next_on front 0 (used_places us) h.1)
numbered (used.Product (factor.Name c) (factor.Number n) ∷ us) front k h =
    sym (moved front (ids_from k us) (parameters_in us) 0) ∙ numbered us (front ++ 0 ∷ []) k (next_on front 0 (used_places us) h.1)
numbered (used.Product (factor.Number m) (factor.Number n) ∷ us) front k h =
    sym (moved front (0 ∷ ids_from k us) (parameters_in us) 0) ∙ sym (moved (front ++ 0 ∷ []) (ids_from k us) (parameters_in us) 0)
    ∙ numbered us ((front ++ 0 ∷ []) ++ 0 ∷ []) k (next_on (front ++ 0 ∷ []) 0 (used_places us) (subst (λ j. GoOn j (used_places us)) (ap (λ j. j + 1) (sym (one_more front 0))) h.1.1))

-- ---- the parameters stand in order

abbrev pub Ascends : ℕ → List ℕ → Type 0
Ascends k [] = Unit {0}
Ascends k (n ∷ ns) = (k ≤ n) × Ascends (n + 1) ns

ascends_from : (j k : ℕ) (ns : List ℕ) → j ≤ k → Ascends k ns → Ascends j ns
ascends_from j k [] le h = tt
ascends_from j k (n ∷ ns) le h = (omega (arith, h.0), h.1)

pub ascending : (us : List Use) (k : ℕ) → GoOn k (used_places us) → Ascends k (parameters_in us)
ascending [] k h = tt
ascending (used.Number n ∷ us) k h = (omega (arith, h.0), ascends_from (n + 1) (k + 1) (parameters_in us) (omega (arith, h.0)) (ascending us (k + 1) h.1))
ascending (used.Name c ∷ us) k h = ascending us k h
ascending (used.Text t ∷ us) k h = ascending us k h
ascending (used.Product (factor.Name c) (factor.Name d) ∷ us) k h = ascending us k h
ascending (used.Product (factor.Number m) (factor.Name d) ∷ us) k h = ascends_from k (k + 1) (parameters_in us) (omega arith) (ascending us (k + 1) h.1)
ascending (used.Product (factor.Name c) (factor.Number n) ∷ us) k h = ascends_from k (k + 1) (parameters_in us) (omega arith) (ascending us (k + 1) h.1)
ascending (used.Product (factor.Number m) (factor.Number n) ∷ us) k h = ascends_from k (k + 1 + 1) (parameters_in us) (omega arith) (ascending us (k + 1 + 1) h.1.1)
