-- Further parts, one after the other.
use Rattle.std.proofs.Common.{◌≡◌, ℕ, suc, ◌+◌, ◌-◌, ◌<◌, ◌≤◌, List, [], ◌∷◌, ◌++◌, refl, sym, ap, ◌∙◌, append_assoc, arith, Option, Some, None}
use Rattle.std.specs.Prelude.{option_map}
use Rattle.std.proofs.lemmas.List.{append-nil}
use Rattle.qf_grammar.specs.Spelling.{Lexemes}
use Rattle.qf_grammar.specs.Reading.{Further, further_at}

-- the parts that were read, and those that are still read
abbrev pub with_front : {A : Type 0} → List A → Option (List A × Lexemes) → Option (List A × Lexemes)
with_front front o = option_map (λ q. (front ++ q.0, q.1)) o

front_push : {A : Type 0} (front : List A) (a : A) (o : Option (List A × Lexemes)) → with_front front (option_map (λ q. (a ∷ q.0, q.1)) o) ≡ with_front (front ++ a ∷ []) o
front_push front a None = refl
front_push front a (Some q) = ap (λ xs. Some (xs, q.1)) (sym (append_assoc front (a ∷ []) q.0))

nil_front : {A : Type 0} (o : Option (List A × Lexemes)) → with_front [] o ≡ o
nil_front None = refl
nil_front (Some q) = refl

pub further_start : {A : Type 0} (next : Lexemes → Further A) (count : ℕ) (xs : Lexemes) → with_front [] (further_at next (count - 0) xs) ≡ further_at next count xs
further_start next count xs = nil_front (further_at next (count - 0) xs) ∙ ap (λ n. further_at next n xs) (omega arith)

pub further_more : {A : Type 0} (next : Lexemes → Further A) (front : List A) (count i : ℕ) (rest : Lexemes) (a : A) (after : Lexemes) (all : Option (List A × Lexemes)) → i < count
    → ◌≡◌ {A = Further A} (Some (Some (a, after))) (next rest) → with_front front (further_at next (count - i) rest) ≡ all → with_front (front ++ a ∷ []) (further_at next (count - (i + 1)) after) ≡ all
unfolding further_at
further_more next front count i rest a after all lt e h =
    let k : count - i ≡ suc (count - (i + 1)) = omega arith in
    let one : with_front front (further_at next (count - i) rest) ≡ with_front (front ++ a ∷ []) (further_at next (count - (i + 1)) after) = rw (k, ← e) (front_push front a (further_at next (count - (i + 1)) after)) in
    sym one ∙ h

pub further_none : {A : Type 0} (next : Lexemes → Further A) (front : List A) (count i : ℕ) (rest : Lexemes) (all : Option (List A × Lexemes)) → i < count
    → ◌≡◌ {A = Further A} (Some None) (next rest) → with_front front (further_at next (count - i) rest) ≡ all → None ≡ all
unfolding further_at
further_none {A} next front count i rest all lt e h =
    let k : count - i ≡ suc (count - (i + 1)) = omega arith in
    let one : with_front front (further_at next (count - i) rest) ≡ None = rw (k, ← e) refl in
    sym one ∙ h

pub further_last : {A : Type 0} (next : Lexemes → Further A) (front : List A) (count i : ℕ) (rest : Lexemes) (all : Option (List A × Lexemes)) → i < count
    → ◌≡◌ {A = Further A} None (next rest) → with_front front (further_at next (count - i) rest) ≡ all → Some (front, rest) ≡ all
unfolding further_at
further_last {A} next front count i rest all lt e h =
    let k : count - i ≡ suc (count - (i + 1)) = omega arith in
    let one : with_front front (further_at next (count - i) rest) ≡ Some (front, rest) = rw (k, ← e) (ap (λ xs. Some (xs, rest)) (append-nil front)) in
    sym one ∙ h

pub further_out : {A : Type 0} (next : Lexemes → Further A) (front : List A) (count i : ℕ) (rest : Lexemes) (all : Option (List A × Lexemes)) → count ≤ i
    → with_front front (further_at next (count - i) rest) ≡ all → Some (front, rest) ≡ all
unfolding further_at
further_out {A} next front count i rest all le h =
    let k : count - i ≡ 0 = omega arith in
    let one : with_front front (further_at next (count - i) rest) ≡ Some (front, rest) = rw k (ap (λ xs. Some (xs, rest)) (append-nil front)) in
    sym one ∙ h
