-- What a circuit's values and hull are for.
use Rattle.std.specs.Prelude.{◌≡◌, List, [], map, ℤ}
use Rattle.qf_base.specs.Values.{Interval, Bounds, IsWithin}
use Rattle.qf_circuit.specs.declared.circuit.Def.{Def}
use Rattle.qf_circuit.specs.Circuits.{eval, hull_of, IsCircuit, IsEvaluation}
use Rattle.qf_circuit.specs.Limits.{ValuesFit, HullsFit}

-- the values keep every definition, and no other list does
abbrev pub ValuesAreTheOnlyOnes : Type 0
ValuesAreTheOnlyOnes =
    (defs : List Def) (point : List ℤ) → IsCircuit defs → IsEvaluation point (eval point defs) defs × ((values : List ℤ) → IsEvaluation point values defs → values ≡ eval point defs)

-- the hull over a box holds the values at each point of the box
abbrev pub HullsHold : Type 0
HullsHold =
    (defs : List Def) (region : Bounds) (point : List ℤ) → IsCircuit defs → IsWithin point region → IsWithin (eval point defs) (hull_of region defs)

-- the interval of one value alone, and those of the values of a list: for a point, the box that is this point
abbrev pub alone : ℤ → Interval
alone z = (z, z)

abbrev pub each_alone : List ℤ → Bounds
each_alone values = map alone values

-- where the box is one point, the hull is exactly the values there
abbrev pub PointHullsAreValues : Type 0
PointHullsAreValues = (defs : List Def) (point : List ℤ) → hull_of (each_alone point) defs ≡ each_alone (eval point defs)

-- .. and the numbers of the values fit where those of the hull do
abbrev pub PointHullsFitValues : Type 0
PointHullsFitValues =
    (defs : List Def) (point : List ℤ) → HullsFit (each_alone point) [] defs → ValuesFit point [] defs
