-- What may be relied on where the inequalities of a circuit are used.
use Rattle.std.specs.Prelude.{◌<◌, ◌≤◌, ◌^◌, List, sum_by, unsigned_abs, All as AllOf}
use Rattle.qf_base.specs.Values.{Interval, Bounds}
use Rattle.qf_lin.specs.Inequalities.{IsWellFormed, AreSmall, largest_size}
use Rattle.qf_circuit.specs.declared.circuit.Def.{Def}
use Rattle.qf_circuit.specs.declared.circuit.Def.TheVariants.{Param, Const, Linear, AtLeastZero, All, Any, Not, Choose}
use Rattle.qf_circuit.specs.Circuits.{IsCircuit, hull_of, circuit_size}
use Rattle.qf_rows.specs.Encoding.{rows_of, circuit_system}

abbrev pub SystemsAreWellFormed : Type 0
SystemsAreWellFormed =
    (hull : Bounds) (defs : List Def) → IsCircuit defs → circuit_size defs < 2 ^ 29 → IsWellFormed (circuit_system hull defs)

-- ---- numbers within 2^58

-- the products of a sum over the bounds are together within 2^57, and so is its constant
abbrev pub IsModestSum : Bounds → Def → Type 0
IsModestSum bounds (Param k) = Unit {0}
IsModestSum bounds (Const n) = Unit {0}
IsModestSum bounds (Linear terms n) = (sum_by (largest_size bounds) terms ≤ 2 ^ 57) × (unsigned_abs n ≤ 2 ^ 57)
IsModestSum bounds (AtLeastZero u) = Unit {0}
IsModestSum bounds (All xs) = Unit {0}
IsModestSum bounds (Any xs) = Unit {0}
IsModestSum bounds (Not x) = Unit {0}
IsModestSum bounds (Choose x a b) = Unit {0}

abbrev pub EndsWithin56 : Interval → Type 0
EndsWithin56 interval = (unsigned_abs interval.0 ≤ 2 ^ 56) × (unsigned_abs interval.1 ≤ 2 ^ 56)

-- the hull of a circuit over a box, and its sums there
pub record IsModest (box : Bounds) (defs : List Def) : Type 0 where
  pub ends : AllOf EndsWithin56 (hull_of box defs)
  pub sums : AllOf (λ def. IsModestSum (hull_of box defs) def) defs

-- the inequalities over the hull of a root box, as they are used over the hull of a box
abbrev pub SystemsAreSmall : Type 0
SystemsAreSmall =
    (defs : List Def) (root box : Bounds) → IsCircuit defs → circuit_size defs < 2 ^ 29 → IsModest root defs → IsModest box defs → AreSmall (rows_of (hull_of root defs) defs) (hull_of box defs)
