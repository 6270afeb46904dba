-- Places in lists: of a keyword in its table, of a name among the names.
use Rattle.std.proofs.Common.{◌≡◌, ◌≢◌, ℕ, ◌+◌, ◌<◌, ◌≤◌, suc, Bool, true, false, cond, not, ◌||◌, List, [], ◌∷◌, ◌++◌, Some, None, Result, Ok, Err, length, get_or, drop, refl, sym, ◌∙◌, arith, add-one, Option}
use Rattle.std.specs.List.{find, list_any, position_or_len}
use Rattle.std.proofs.Math.Seq.{drop-cons}
use Rattle.std.proofs.lemmas.List.{drop_all}
use Rattle.std.specs.Result.{OnOk}
use Rattle.qf_ir.specs.Texts.{is_text, code_in, with_text}

pub drop_one : {A : Type 0} (xs : List A) (n : ℕ) (d : A) → n < length xs → drop n xs ≡ get_or xs n d ∷ drop (n + 1) xs
drop_one xs n d lt = rw add-one (drop-cons xs n d lt)

-- ---- the first that passes

pub find_here : {A : Type 0} (p : A → Bool) (xs : List A) (i : ℕ) (x : A) (found : Option A) → i < length xs → x ≡ get_or xs i x → p x ≡ true → find p (drop i xs) ≡ found → Some x ≡ found
find_here p xs i x found lt e h k = rw (← k, drop_one xs i x lt, ← e, h) refl

pub find_next : {A : Type 0} (p : A → Bool) (xs : List A) (i : ℕ) (x : A) (found : Option A) → i < length xs → x ≡ get_or xs i x → p x ≡ false → find p (drop i xs) ≡ found → find p (drop (i + 1) xs) ≡ found
find_next p xs i x found lt e h k =
    let step : find p (drop i xs) ≡ find p (drop (i + 1) xs) = rw (drop_one xs i x lt, ← e, h) refl in
    sym step ∙ k

pub find_none : {A : Type 0} (p : A → Bool) (xs : List A) (i : ℕ) (found : Option A) → length xs ≤ i → find p (drop i xs) ≡ found → None ≡ found
find_none p xs i found le k = rw (← k, drop_all i xs le) refl

-- ---- a name among the names

absent : {X : Type 0} (p : X → Bool) (xs : List X) → length xs ≤ position_or_len p xs → list_any p xs ≡ false
absent p [] past = refl
absent p (x ∷ xs) past =
    elim (p x) as (λ b. suc (length xs) ≤ cond (not b) (1 + position_or_len p xs) 0 → (b || list_any p xs) ≡ false) [
      | true ↦ λ past. absurd (omega arith)
      | false ↦ λ past. absent p xs (omega arith)
    ] past

present : {X : Type 0} (p : X → Bool) (xs : List X) → position_or_len p xs ≢ length xs → list_any p xs ≡ true
present p [] off = absurd (off refl)
present p (x ∷ xs) off =
    elim (p x) as (λ b. cond (not b) (1 + position_or_len p xs) 0 ≢ suc (length xs) → (b || list_any p xs) ≡ true) [
      | true ↦ λ off. refl
      | false ↦ λ off. present p xs (λ e. off (omega (arith, e)))
    ] off

pub name_new : (names : List (List ℕ)) (name : List ℕ) (number : ℕ) → number ≡ code_in names name → number ≡ length names → names ++ name ∷ [] ≡ with_text names name
name_new names name number e h = rw (absent (is_text name) names (omega (arith, e, h))) refl

pub name_held : (names : List (List ℕ)) (name : List ℕ) (number : ℕ) → number ≡ code_in names name → number ≢ length names → names ≡ with_text names name
name_held names name number e h = rw (present (is_text name) names (λ k. h (e ∙ k))) refl

pub on_ok_then : {A E : Type 0} (r : Result A E) (P Q : Type 0) → OnOk r P → (P → Q) → OnOk r Q
on_ok_then (Ok a) P Q h f = f h
on_ok_then (Err e) P Q h f = tt
