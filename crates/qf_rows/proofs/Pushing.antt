-- One inequality after another.
use Rattle.std.proofs.Common.{◌≡◌, ℕ, List, [], ◌∷◌, ◌++◌, map, ℤ, pos, ◌-ℤ◌, neg_ℤ, append_assoc, refl}
use Rattle.std.specs.Int.{int_min}
use Rattle.qf_base.specs.Values.{Interval, Term}
use Rattle.qf_lin.specs.declared.inequality.Inequality.{Inequality}
use Rattle.qf_rows.specs.Encoding.{inequality, plus, minus, negated, linear_rows, chosen_rows, other_rows}

both : (rows middle new : List Inequality) (a b : Inequality) → middle ≡ rows ++ a ∷ [] → new ≡ middle ++ b ∷ [] → new ≡ rows ++ a ∷ b ∷ []
both rows middle new a b p q = rw (q, p, append_assoc) refl

pub linear_made : (rows middle new : List Inequality) (terms first second : List Term) (n least own : ℤ) (v : ℕ) → first ≡ terms ++ minus v ∷ [] → second ≡ map negated terms ++ plus v ∷ [] → least ≡ neg_ℤ n → own ≡ n → middle ≡ rows ++ inequality first least ∷ [] → new ≡ middle ++ inequality second own ∷ [] → new ≡ rows ++ linear_rows terms n v
linear_made rows middle new terms first second n least own v p q e o f g = rw (← p, ← q, ← e, ← o) (both rows middle new (inequality first least) (inequality second own) f g)

pub chosen_made : (rows middle new : List Inequality) (hv ha : Interval) (x a v : ℕ) (m n : ℤ) → m ≡ int_min (pos 0) (hv.0 -ℤ ha.1) → n ≡ int_min (pos 0) (ha.0 -ℤ hv.1) → middle ≡ rows ++ inequality (plus v ∷ minus a ∷ (m, x) ∷ []) m ∷ [] → new ≡ middle ++ inequality (plus a ∷ minus v ∷ (n, x) ∷ []) n ∷ [] → new ≡ rows ++ chosen_rows hv ha x a v
chosen_made rows middle new hv ha x a v m n p q f g = rw (← p, ← q) (both rows middle new (inequality (plus v ∷ minus a ∷ (m, x) ∷ []) m) (inequality (plus a ∷ minus v ∷ (n, x) ∷ []) n) f g)

pub other_made : (rows middle new : List Inequality) (hv hb : Interval) (x b v : ℕ) (m n : ℤ) → m ≡ neg_ℤ (int_min (pos 0) (hv.0 -ℤ hb.1)) → n ≡ neg_ℤ (int_min (pos 0) (hb.0 -ℤ hv.1)) → middle ≡ rows ++ inequality (plus v ∷ minus b ∷ (m, x) ∷ []) (pos 0) ∷ [] → new ≡ middle ++ inequality (plus b ∷ minus v ∷ (n, x) ∷ []) (pos 0) ∷ [] → new ≡ rows ++ other_rows hv hb x b v
other_made rows middle new hv hb x b v m n p q f g = rw (← p, ← q) (both rows middle new (inequality (plus v ∷ minus b ∷ (m, x) ∷ []) (pos 0)) (inequality (plus b ∷ minus v ∷ (n, x) ∷ []) (pos 0)) f g)
