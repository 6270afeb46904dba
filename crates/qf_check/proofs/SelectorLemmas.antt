-- The selectors of a circuit rise, so that a search by halves finds each of them.
use Rattle.std.proofs.Common.{◌≡◌, ◌≢◌, ◌∙◌, ap, sym, refl, ℕ, zero, suc, ◌+◌, ◌<◌, ◌≤◌, Bool, true, false, cond, ◌==◌, List, [], ◌∷◌, length, get_or, Result, Ok, Err, arith}
use Rattle.std.specs.Prelude.{is_ok}
use Rattle.std.specs.List.{list_any}
use Rattle.std.specs.List.Sorted.{IsNonDecreasing, IsBinarySearchResult}
use Rattle.std.specs.Ordering.{nat_cmp}
use Rattle.std.proofs.lemmas.Bool.Decides.{nat_tests}
use Rattle.std.proofs.lemmas.List.{get_or_default}
use Rattle.std.proofs.lemmas.List.Folds.{list_any_at, list_any_none}
use Rattle.std.proofs.lemmas.List.Sorted.{searched}
use Rattle.qf_circuit.specs.declared.circuit.Def.{Def}
use Rattle.qf_rows.specs.Encoding.{is_selector, selectors_from}

-- ---- they rise

-- numbers from this one on
abbrev AreFrom : ℕ → List ℕ → Type 0
AreFrom v vars = (j d : ℕ) → j < length vars → v ≤ get_or vars j d

from_cons : (v : ℕ) (is : Bool) (later : List ℕ) → AreFrom (v + 1) later → AreFrom v (cond is (v ∷ later) later)
from_cons v true later more zero d h = omega arith
from_cons v true later more (suc j) d h = omega (arith, more j d (omega (arith, h)))
from_cons v false later more j d h = omega (arith, more j d h)

rises_cons : (v : ℕ) (is : Bool) (later : List ℕ) → AreFrom (v + 1) later → IsNonDecreasing later → IsNonDecreasing (cond is (v ∷ later) later)
rises_cons v true later more up zero j d le h = from_cons v true later more j d h
rises_cons v true later more up (suc i) zero d le h = absurd (omega (arith, le))
rises_cons v true later more up (suc i) (suc j) d le h = up i j d (omega (arith, le)) (omega (arith, h))
rises_cons v false later more up i j d le h = up i j d le h

selectors_above : (v : ℕ) (defs : List Def) → AreFrom v (selectors_from v defs)
selectors_above v [] = λ j d h. absurd (omega (arith, h))
selectors_above v (def ∷ defs) = from_cons v (is_selector def) (selectors_from (v + 1) defs) (selectors_above (v + 1) defs)

pub selectors_rise : (v : ℕ) (defs : List Def) → IsNonDecreasing (selectors_from v defs)
selectors_rise v [] = λ i j d le h. absurd (omega (arith, h))
selectors_rise v (def ∷ defs) =
    rises_cons v (is_selector def) (selectors_from (v + 1) defs) (selectors_above (v + 1) defs) (selectors_rise (v + 1) defs)

-- ---- a search by halves

same_is : (m n : ℕ) → m ≡ n → (m == n) ≡ true
same_is m n e = grind (arith, nat_tests)

is_same : (m n : ℕ) → (m == n) ≡ true → m ≡ n
is_same m n e = grind (arith, nat_tests)

is_not : (m n : ℕ) → m ≢ n → (m == n) ≡ false
is_not m n differ =
    elim (m == n) as (λ b. (m == n) ≡ b → b ≡ false) [
      | true ↦ λ e. absurd (differ (is_same m n e))
      | false ↦ λ e. refl
    ] refl

-- it finds a number exactly where the number is in the list
pub found_in : (vars : List ℕ) (var : ℕ) (r : Result ℕ ℕ) → IsNonDecreasing vars → IsBinarySearchResult (λ y. nat_cmp y var) vars r → is_ok r ≡ list_any (λ s. s == var) vars
found_in vars var (Ok i) up h =
    let at = searched vars var (Ok i) h (λ i j le lt. up i j 0 le lt) in
    sym (list_any_at (λ s. s == var) vars i 0 at.0 (same_is (get_or vars i 0) var at.1))
found_in vars var (Err i) up h =
    let at = searched vars var (Err i) h (λ i j le lt. up i j 0 le lt) in
    let other : (j : ℕ) → j < length vars → get_or vars j 0 ≢ var = λ j lt same.
    let not_before : j < i → ⊥ = λ before. omega (arith, at.1 j before, same) in
    let not_after : i ≤ j → ⊥ = λ after. omega (arith, at.2 j after lt, same) in
    omega arith
    in
    sym (list_any_none (λ s. s == var) vars (λ j d lt. ap (λ s. s == var) (get_or_default vars j d 0 lt) ∙ is_not (get_or vars j 0) var (other j lt)))
