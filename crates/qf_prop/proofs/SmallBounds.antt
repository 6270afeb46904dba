-- The bounds that rows give are small, and so the steps of a sweep can be written.
use Rattle.std.specs.Prelude.{◌≡◌, ◌≢◌, ℕ, ◌<◌, ◌≤◌, ◌^◌, Bool, true, false, cond, ◌==◌, List, [], ◌∷◌, ◌++◌, sum_by, ℤ, pos, negsuc, ◌-ℤ◌, neg_ℤ, ◌<ℤ◌, int_lt, unsigned_abs, IsTrue}
use Rattle.std.proofs.Common.{arith, refl, sym, subst}
use Rattle.std.proofs.lemmas.Int.{ints}
use Rattle.std.proofs.lemmas.List.Sums.{sum_by-cons}
use Rattle.qf_base.specs.declared.names.Bound.{Bound}
use Rattle.qf_base.specs.Values.{Bounds, Term}
use Rattle.qf_base.proofs.Integers.{int_le_yes, int_lt_false, int_apart_above}
use Rattle.qf_lin.specs.declared.inequality.Inequality.{Inequality}
use Rattle.qf_lin.specs.Inequalities.{IsSmall, greatest_term, greatest_of_others, largest_size, factor_of, rounded_down, bound_by, tight_bound}
use Rattle.qf_lin.proofs.Sums.{greatest_term-size}
use Rattle.std.proofs.Math.Nat.{div-le_self}
use Rattle.std.proofs.lemmas.Bool.{lt-ltb}
use Rattle.std.proofs.lemmas.List.Elements.{All-append}
use Rattle.qf_lin.specs.declared.step.Step.{Step}
use Rattle.qf_lin.specs.declared.step.Step.TheVariants.{Tight}
use Rattle.qf_tree.specs.Lines.{StepsFit, line_fits, step_line, is_number, is_small_end, is_small_bound}
use Rattle.qf_prop.proofs.Derivations.{three_true}

part_size : (flag : Bool) (z : ℤ) → unsigned_abs (cond flag (pos 0) z) ≤ unsigned_abs z
part_size true z = omega arith
part_size false z = omega arith

others_size : (terms : List Term) (bounds : Bounds) (var : ℕ) → unsigned_abs (greatest_of_others terms bounds var) ≤ sum_by (largest_size bounds) terms
others_size [] bounds var = omega arith
others_size (t ∷ ts) bounds var =
    omega (arith, ints, sum_by-cons (largest_size bounds) t ts, part_size (t.1 == var) (greatest_term bounds t), greatest_term-size bounds t, others_size ts bounds var)

-- a quotient is no larger than the number
quotient_size : (z by : ℤ) (n : ℕ) → pos 0 <ℤ by → unsigned_abs z ≤ n → unsigned_abs (rounded_down z by) ≤ n
quotient_size (pos a) (pos d) n p q = omega (arith, ints, div-le_self a d)
quotient_size (negsuc a) (pos d) n p q = omega (arith, ints, div-le_self a d)
quotient_size z (negsuc d) n p q = absurd (omega (arith, ints))

small_end : (z : ℤ) → unsigned_abs z ≤ 2 ^ 59 → is_small_end z ≡ true
small_end z h = rw (int_le_yes (neg_ℤ (pos (2 ^ 60))) z (omega (arith, ints)), int_le_yes z (pos (2 ^ 60)) (omega (arith, ints))) refl

bound_size : (flag : Bool) (factor rest least : ℤ) → int_lt factor (pos 0) ≡ flag → factor ≢ pos 0 → unsigned_abs rest ≤ 2 ^ 58 → unsigned_abs least ≤ 2 ^ 58 → is_small_bound (bound_by factor rest least) ≡ true
bound_size true factor rest least e ne r l =
    let q = quotient_size (rest -ℤ least) (neg_ℤ factor) (2 ^ 59) (omega (arith, ints)) (omega (arith, ints)) in
    rw e (small_end (rounded_down (rest -ℤ least) (neg_ℤ factor)) q)
bound_size false factor rest least e ne r l =
    let q = quotient_size (neg_ℤ (least -ℤ rest)) factor (2 ^ 59) (int_apart_above factor (int_lt_false factor (pos 0) e) ne) (omega (arith, ints)) in
    rw e (small_end (neg_ℤ (rounded_down (neg_ℤ (least -ℤ rest)) factor)) (omega (arith, ints, q)))

-- ---- steps

pub small_step : (steps more : List Step) (n var : ℕ) (bound : Bound) → 0 < n → n < 2 ^ 32 → 0 < var → var < 2 ^ 32 → is_small_bound bound ≡ true → more ≡ steps ++ Tight n var bound ∷ [] → StepsFit steps → StepsFit more
small_step steps more n var bound a b c d small is fit =
    let one : line_fits (step_line (Tight n var bound)) ≡ true = three_true (is_number n) (is_number var) (is_small_bound bound) (number_is n a b) (number_is var c d) small in
    subst StepsFit (sym is) (All-append (λ (s : Step). IsTrue (line_fits (step_line s))) steps (Tight n var bound ∷ []) fit (λ k e within. rw (only k (omega arith)) one))
  where
    number_is : (n : ℕ) → 0 < n → n < 2 ^ 32 → is_number n ≡ true
    number_is n h k = rw (lt-ltb 0 n h, lt-ltb n (2 ^ 32) k) refl

    only : (k : ℕ) → k < 1 → k ≡ 0
    only k h = omega arith

pub tight_bound-small : (row : Inequality) (bounds : Bounds) (var : ℕ) → IsSmall row bounds → factor_of row.terms var ≢ pos 0 → is_small_bound (tight_bound row bounds var) ≡ true
tight_bound-small row bounds var small ne =
    bound_size (int_lt (factor_of row.terms var) (pos 0)) (factor_of row.terms var) (greatest_of_others row.terms bounds var) row.least refl ne (omega (arith, others_size row.terms bounds var, small.terms)) small.least
