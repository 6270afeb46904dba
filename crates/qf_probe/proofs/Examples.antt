-- The systems of the tests fit their bounds: each condition is computed.
use Rattle.std.specs.Prelude.{◌≡◌, ◌≢◌, ℕ, ◌<◌, ◌≤◌, ◌^◌, Bool, true, false, not, ◌&&◌, ◌==◌, nat_le, List, [], ◌∷◌, length, sum_by, ℤ, pos, negsuc, unsigned_abs, All, AllPairs}
use Rattle.std.specs.List.{list_all}
use Rattle.std.specs.Ordering.{int_eq}
use Rattle.std.proofs.Common.{arith, refl, subst, get_or}
use Rattle.std.proofs.lemmas.Bool.{and_parts, eq-eqb}
use Rattle.std.proofs.lemmas.Bool.Decides.{nat_tests}
use Rattle.std.proofs.lemmas.List.Elements.{All-nil, All-cons}
use Rattle.std.proofs.lemmas.List.Kept.{AllPairs-cons}
use Rattle.qf_base.specs.Values.{Bounds, Term}
use Rattle.qf_lin.specs.declared.inequality.Inequality.{Inequality}
use Rattle.qf_lin.specs.declared.inequality.System.{System}
use Rattle.qf_lin.specs.Inequalities.{NamesVars, largest_size, is_empty}
use Rattle.qf_lin.specs.Steps.{is_number_of}
use Rattle.qf_tree.specs.Steps.{RowFits}
use Rattle.qf_prop.specs.Sweeps.{Fits}
use Rattle.qf_prop.proofs.Derivations.{number_exists}

all_by : {X : Type 0} (p : X → Bool) (P : X → Type 0) → ((x : X) → p x ≡ true → P x) → (xs : List X) → list_all p xs ≡ true → All P xs
all_by p P f [] h = All-nil P
all_by p P f (x ∷ xs) h =
    let parts = and_parts (p x) (list_all p xs) h in
    All-cons P x xs (f x parts.0) (all_by p P f xs parts.1)

abbrev are_apart : List Term → Bool
are_apart [] = true
are_apart (t ∷ ts) = list_all (λ u. not (t.1 == u.1)) ts && are_apart ts

differ : (a b : ℕ) → not (a == b) ≡ true → a ≢ b
differ a b h same = let e = rw (eq-eqb a b same) at h in cc

apart_by : (ts : List Term) → are_apart ts ≡ true → AllPairs (λ t u. t.1 ≢ u.1) ts
apart_by [] h = λ i j d before within. absurd (omega arith)
apart_by (t ∷ ts) h =
    let parts = and_parts (list_all (λ u. not (t.1 == u.1)) ts) (are_apart ts) h in
    AllPairs-cons (λ t u. t.1 ≢ u.1) t ts (all_by (λ u. not (t.1 == u.1)) (λ u. t.1 ≢ u.1) (λ u e. differ t.1 u.1 e) ts parts.0) (apart_by ts parts.1)

not_zero : (z : ℤ) → not (int_eq z (pos 0)) ≡ true → z ≢ pos 0
not_zero z h same = let e = rw same at h in cc

abbrev row_is_usable : Bounds → Inequality → Bool
row_is_usable bounds row =
    ((list_all (λ t. is_number_of t.1 (length bounds)) row.terms && list_all (λ t. not (int_eq t.0 (pos 0))) row.terms) && are_apart row.terms) && (nat_le (unsigned_abs row.least) (2 ^ 58) && nat_le (sum_by (largest_size bounds) row.terms) (2 ^ 58))

row_usable : (bounds : Bounds) (row : Inequality) → row_is_usable bounds row ≡ true → RowFits bounds row
row_usable bounds row h =
    let named = list_all (λ (t : Term). is_number_of t.1 (length bounds)) row.terms in
    let nonzero = list_all (λ (t : Term). not (int_eq t.0 (pos 0))) row.terms in
    let small = nat_le (unsigned_abs row.least) (2 ^ 58) && nat_le (sum_by (largest_size bounds) row.terms) (2 ^ 58) in
    let halves = and_parts ((named && nonzero) && are_apart row.terms) small h in
    let left = and_parts (named && nonzero) (are_apart row.terms) halves.0 in
    let terms = and_parts named nonzero left.0 in
    let sizes = and_parts (nat_le (unsigned_abs row.least) (2 ^ 58)) (nat_le (sum_by (largest_size bounds) row.terms) (2 ^ 58)) halves.1 in
    record {
      small = record { least = at_most (unsigned_abs row.least) (2 ^ 58) sizes.0; terms = at_most (sum_by (largest_size bounds) row.terms) (2 ^ 58) sizes.1 };
      named = all_by (λ t. is_number_of t.1 (length bounds)) (λ t. (0 < t.1) × (t.1 ≤ length bounds)) (λ t e. number_exists t.1 (length bounds) e) row.terms terms.0;
      proper = (all_by (λ t. not (int_eq t.0 (pos 0))) (λ t. t.0 ≢ pos 0) (λ t e. not_zero t.0 e) row.terms terms.1, apart_by row.terms left.1);
    }
  where
    at_most : (a b : ℕ) → nat_le a b ≡ true → a ≤ b
    at_most a b h = grind (arith, nat_tests)

usable : (system : System) (bounds : Bounds) → length bounds ≡ system.vars → length system.inequalities < 2 ^ 32 → is_empty bounds ≡ false → list_all (row_is_usable bounds) system.inequalities ≡ true → list_all (λ var. is_number_of var (length bounds)) system.selectors ≡ true → Fits system bounds
usable system bounds vars few nonempty rows selectors =
    let each = all_by (row_is_usable bounds) (RowFits bounds) (row_usable bounds) system.inequalities rows in
    record {
      vars = vars;
      formed = record {
        few = few;
        named = λ k d within. subst (λ n. NamesVars (get_or system.inequalities k d).terms n) vars (each k d within).named;
        proper = λ k d within. (each k d within).proper;
        selectors = subst (λ n. All (λ (var : ℕ). (0 < var) × (var ≤ n)) system.selectors) vars (all_by (λ var. is_number_of var (length bounds)) (λ var. (0 < var) × (var ≤ length bounds)) (λ var e. number_exists var (length bounds) e) system.selectors selectors);
      };
      usable = λ _. record { rows = each; not_empty = nonempty };
    }

-- ---- the two systems

abbrev pub one_sum : System
one_sum = record {
  inequalities = record { terms = (pos 1, 1) ∷ (pos 1, 3) ∷ (negsuc 0, 4) ∷ []; least = pos 0 }
      ∷ record { terms = (negsuc 0, 1) ∷ (negsuc 0, 3) ∷ (pos 1, 4) ∷ []; least = pos 0 }
      ∷ record { terms = (pos 1, 2) ∷ []; least = pos 1 }
      ∷ record { terms = (pos 1, 4) ∷ []; least = pos 9 }
      ∷ record { terms = (negsuc 0, 4) ∷ []; least = negsuc 8 }
      ∷ [];
  vars = 4;
  selectors = [];
}

pub one_sum_fits : Fits one_sum ((pos 0, pos 0) ∷ (pos 1, pos 1) ∷ (pos 0, pos 10) ∷ (pos 0, pos 10) ∷ [])
one_sum_fits = usable one_sum ((pos 0, pos 0) ∷ (pos 1, pos 1) ∷ (pos 0, pos 10) ∷ (pos 0, pos 10) ∷ []) refl (omega arith) refl refl refl

abbrev pub two_cases : System
two_cases = record {
  inequalities = record { terms = (pos 1, 1) ∷ (pos 6, 2) ∷ []; least = pos 6 }
      ∷ record { terms = (negsuc 0, 1) ∷ (pos 5, 2) ∷ []; least = negsuc 4 }
      ∷ record { terms = (pos 1, 1) ∷ (negsuc 5, 2) ∷ []; least = pos 0 }
      ∷ record { terms = (negsuc 0, 1) ∷ (negsuc 4, 2) ∷ []; least = negsuc 9 }
      ∷ [];
  vars = 2;
  selectors = 2 ∷ [];
}

pub two_cases_fits : Fits two_cases ((pos 0, pos 10) ∷ (pos 0, pos 1) ∷ [])
two_cases_fits = usable two_cases ((pos 0, pos 10) ∷ (pos 0, pos 1) ∷ []) refl (omega arith) refl refl refl
