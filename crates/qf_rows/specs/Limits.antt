-- The numbers that come up as a circuit's inequalities are made.
use Rattle.std.specs.Prelude.{◌≤◌, ◌^◌, List, ℤ, unsigned_abs, All as AllOf}
use Rattle.qf_base.specs.Values.{Interval, Term}
use Rattle.qf_circuit.specs.declared.circuit.Def.{Def}
use Rattle.qf_circuit.specs.declared.circuit.Def.TheVariants.{Param, Const, Linear, AtLeastZero, All, Any, Not, Choose}
use Rattle.qf_rows.specs.Encoding.{merged}

abbrev pub EndsFit : Interval → Type 0
EndsFit interval = (unsigned_abs interval.0 ≤ 2 ^ 58) × (unsigned_abs interval.1 ≤ 2 ^ 58)

-- the factors of a sum, also after those of equal variables are added up, and its constant
pub record FactorsFit (terms : List Term) (n : ℤ) : Type 0 where
  pub factors : AllOf (λ t. unsigned_abs t.0 ≤ 2 ^ 58) terms
  pub added_up : AllOf (λ t. unsigned_abs t.0 ≤ 2 ^ 58) (merged terms)
  pub constant : unsigned_abs n ≤ 2 ^ 58

abbrev pub SumFits : Def → Type 0
SumFits (Param k) = Unit {0}
SumFits (Const n) = Unit {0}
SumFits (Linear terms n) = FactorsFit terms n
SumFits (AtLeastZero u) = Unit {0}
SumFits (All xs) = Unit {0}
SumFits (Any xs) = Unit {0}
SumFits (Not x) = Unit {0}
SumFits (Choose x a b) = Unit {0}
