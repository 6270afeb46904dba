-- A text stands at its code, also when more texts follow.
use Rattle.std.proofs.Common.{◌≡◌, ◌∙◌, ap, sym, refl, ℕ, zero, suc, ◌+◌, Bool, true, false, cond, not, ◌||◌, if◌then◌else◌, List, [], ◌∷◌, ◌++◌, Some, slice_get, arith}
use Rattle.std.specs.List.{list_any, position_or_len}
use Rattle.std.specs.Str.{bytes_eq}
use Rattle.std.proofs.lemmas.Slice.Eq.{bytes_eq-Decides}
use Rattle.std.proofs.lemmas.Bool.{false≢true}
use Rattle.std.proofs.lemmas.Option.{none-some}
use Rattle.qf_ir.specs.Texts.{is_text, code_in, with_text}

-- each text of a list stands at its place in the other
abbrev pub Keeps : List (List ℕ) → List (List ℕ) → Type 0
Keeps texts others = (code : ℕ) (text : List ℕ) → slice_get texts code ≡ Some text → slice_get others code ≡ Some text

pub keeps-behind : (xs ys : List (List ℕ)) → Keeps xs (xs ++ ys)
keeps-behind [] ys code text got = absurd (none-some _ got)
keeps-behind (x ∷ xs) ys zero text got = got
keeps-behind (x ∷ xs) ys (suc code) text got = keeps-behind xs ys code text got

keeps-case : (xs : List (List ℕ)) (text : List ℕ) (b : Bool) → Keeps xs (if b then xs else xs ++ text ∷ [])
keeps-case xs text true = λ code other got. got
keeps-case xs text false = keeps-behind xs (text ∷ [])

pub keeps-with : (xs : List (List ℕ)) (text : List ℕ) → Keeps xs (with_text xs text)
keeps-with xs text = keeps-case xs text (list_any (is_text text) xs)

next-place : (x : List ℕ) (xs : List (List ℕ)) (n : ℕ) → slice_get (x ∷ xs) (1 + n) ≡ slice_get xs n
next-place x xs n = let e : 1 + n ≡ suc n = omega arith in ap (λ (k : ℕ). slice_get (x ∷ xs) k) e

held-there : (xs : List (List ℕ)) (text : List ℕ) → list_any (is_text text) xs ≡ true → slice_get xs (code_in xs text) ≡ Some text
held-there [] text held = absurd (false≢true held)
held-there (x ∷ xs) text held =
    elim (bytes_eq x text) as (λ b. bytes_eq x text ≡ b → (b || list_any (is_text text) xs) ≡ true
    → slice_get (x ∷ xs) (cond (not b) (1 + position_or_len (is_text text) xs) 0) ≡ Some text) [
      | true ↦ λ e h. ap (λ (t : List ℕ). Some t) ((bytes_eq-Decides x text).0 e)
      | false ↦ λ e h. next-place x xs (position_or_len (is_text text) xs) ∙ held-there xs text h
    ] refl held

added-there : (xs : List (List ℕ)) (text : List ℕ) → list_any (is_text text) xs ≡ false → slice_get (xs ++ text ∷ []) (code_in xs text) ≡ Some text
added-there [] text new = refl
added-there (x ∷ xs) text new =
    elim (bytes_eq x text) as (λ b. (b || list_any (is_text text) xs) ≡ false
    → slice_get (x ∷ (xs ++ text ∷ [])) (cond (not b) (1 + position_or_len (is_text text) xs) 0) ≡ Some text) [
      | true ↦ λ h. absurd (false≢true (sym h))
      | false ↦ λ h. next-place x (xs ++ text ∷ []) (position_or_len (is_text text) xs) ∙ added-there xs text h
    ] new

pub coded : (xs : List (List ℕ)) (text : List ℕ) → slice_get (with_text xs text) (code_in xs text) ≡ Some text
coded xs text =
    elim (list_any (is_text text) xs) as (λ b. list_any (is_text text) xs ≡ b → slice_get (if b then xs else xs ++ text ∷ []) (code_in xs text) ≡ Some text) [
      | true ↦ λ e. held-there xs text e
      | false ↦ λ e. added-there xs text e
    ] refl
