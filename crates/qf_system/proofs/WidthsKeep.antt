-- Where each definition is small as it is made, all numbers of a circuit are.
use Rattle.std.proofs.Common.{All as AllOf, ◌≡◌, ℕ, suc, zero, ◌+◌, ◌-◌, ◌<◌, ◌≤◌, List, [], ◌∷◌, ◌++◌, length, map, get_or, pos, sum_by, arith, refl, sym, length-append, Ok}
use Rattle.std.specs.declared.option.Option.{Option}
use Rattle.std.specs.declared.option.Option.TheVariants.{Some, None}
use Rattle.std.specs.List.{AllByRecursion}
use Rattle.std.proofs.lemmas.List.Elements.{All-from_recursion, All-from_get_or, All-weaker}
use Rattle.std.proofs.lemmas.List.Sums.{sum_by-cons}
use Rattle.qf_base.specs.declared.names.RowName.{RowName}
use Rattle.qf_base.specs.Values.{Interval, Bounds, Term}
use Rattle.qf_lin.specs.Inequalities.{largest_size}
use Rattle.qf_circuit.specs.declared.circuit.Def.{Def}
use Rattle.qf_circuit.specs.declared.circuit.Def.TheVariants.{Param, Const, Linear, AtLeastZero, All, Any, Not, Choose}
use Rattle.qf_circuit.specs.Circuits.{built, hull_of, hull_of_def, named, IsCircuit}
use Rattle.qf_circuit.specs.Limits.{HullFits, HullsFit}
use Rattle.qf_circuit.proofs.Built.{built_stays}
use Rattle.qf_rows.specs.Limits.{EndsFit, SumFits}
use Rattle.qf_rows.specs.Systems.{IsModestSum, EndsWithin56}
use Rattle.qf_ir.specs.declared.ast.Statement.{Statement}
use Rattle.qf_ir.specs.Value.{Cells}
use Rattle.qf_ir.specs.Width.{widths_of}
use Rattle.qf_encode.specs.declared.coded.Coded.{Coded}
use Rattle.qf_encode.specs.Coding.{Defs, circuit_of}
use Rattle.qf_encode.specs.Lives.{BoxIn, RowsIn, StatementsIn}
use Rattle.qf_system.specs.WidthsKept.{IsPlainTable, ArePlainStatements, HasSmallEnds, IsSmallCircuit, MakesSmallCircuit}
use Rattle.qf_system.proofs.SmallSums.{IsBoxOf, sums_fit, box_of}
use Rattle.qf_system.proofs.SmallCircuits.{TameFrom, IsTame}
use Rattle.qf_system.proofs.SmallRows.{TameCircuit, circuits_tame}

def_fits : (hull : Bounds) (d : Def) → IsModestSum hull d → HullFits hull d
def_fits hull (Param k) h = tt
def_fits hull (Const n) h = tt
def_fits hull (Linear terms n) h = sums_fit hull terms n h.0 h.1
def_fits hull (AtLeastZero v) h = tt
def_fits hull (All xs) h = tt
def_fits hull (Any xs) h = tt
def_fits hull (Not x) h = tt
def_fits hull (Choose x a b) h = tt

hulls_from : (region hull : Bounds) (ds : Defs) → TameFrom region hull ds → HullsFit region hull ds
hulls_from region hull [] h = tt
hulls_from region hull (d ∷ ds) h = (def_fits hull d h.0.0, hulls_from region (hull ++ hull_of_def region hull d ∷ []) ds h.1)

sums_from : (region hull : Bounds) (ds : Defs) → TameFrom region hull ds → AllByRecursion SumFits ds
sums_from region hull [] h = tt
sums_from region hull (d ∷ ds) h = (h.0.1.0, sums_from region (hull ++ hull_of_def region hull d ∷ []) ds h.1)

ends_more : (hull : Bounds) (i : Interval) → AllByRecursion EndsWithin56 hull → EndsWithin56 i → AllByRecursion EndsWithin56 (hull ++ i ∷ [])
ends_more [] i h k = (k, tt)
ends_more (x ∷ hull) i h k = (h.0, ends_more hull i h.1 k)

ends_from : (region hull : Bounds) (ds : Defs) → AllByRecursion EndsWithin56 hull → TameFrom region hull ds → AllByRecursion EndsWithin56 (built (hull_of_def region) hull ds)
ends_from region hull [] e h = e
ends_from region hull (d ∷ ds) e h = ends_from region (hull ++ hull_of_def region hull d ∷ []) ds (ends_more hull (hull_of_def region hull d) e h.0.1.1) h.1

-- ---- a sum reads only what it names

abbrev nothing : Interval
nothing = (pos 0, pos 0)

largest_agree : (a b : Bounds) (n : ℕ) → ((k : ℕ) → k < n → get_or a k nothing ≡ get_or b k nothing) → (t : Term) → (0 < t.1) × (t.1 ≤ n) → largest_size a t ≡ largest_size b t
largest_agree a b n h t k = let e = h (t.1 - 1) (omega (arith, k.0, k.1)) in rw e refl

sizes_agree : (a b : Bounds) (n : ℕ) → ((k : ℕ) → k < n → get_or a k nothing ≡ get_or b k nothing) → (terms : List Term) → AllByRecursion (λ v. (0 < v) × (v ≤ n)) (map (λ t. t.1) terms) → sum_by (largest_size a) terms ≡ sum_by (largest_size b) terms
sizes_agree a b n h [] k = refl
sizes_agree a b n h (t ∷ ts) k = omega (arith, largest_agree a b n h t k.0, sizes_agree a b n h ts k.1, sum_by-cons (largest_size a) t ts, sum_by-cons (largest_size b) t ts)

modest_agrees : (a b : Bounds) (n : ℕ) (d : Def) → ((k : ℕ) → k < n → get_or a k nothing ≡ get_or b k nothing) → AllByRecursion (λ v. (0 < v) × (v ≤ n)) (named d) → IsModestSum a d → IsModestSum b d
modest_agrees a b n (Param k) h names m = tt
modest_agrees a b n (Const c) h names m = tt
modest_agrees a b n (Linear terms c) h names m = (omega (arith, m.0, sizes_agree a b n h terms names), m.1)
modest_agrees a b n (AtLeastZero v) h names m = tt
modest_agrees a b n (All xs) h names m = tt
modest_agrees a b n (Any xs) h names m = tt
modest_agrees a b n (Not x) h names m = tt
modest_agrees a b n (Choose x p q) h names m = tt

-- each sum is modest over the hull that it was made over, which is the beginning of the whole
modest_at : (region hull : Bounds) (ds : Defs) (place : ℕ) → place < length ds → TameFrom region hull ds → (before : Bounds) × (length before ≡ length hull + place) × ((k : ℕ) → k < length before → get_or before k nothing ≡ get_or (built (hull_of_def region) hull ds) k nothing) × IsModestSum before (get_or ds place (Const (pos 0)))
modest_at region hull [] place inside h = absurd (omega (arith, inside))
modest_at region hull (d ∷ ds) zero inside h = (hull, omega arith, λ k within. sym (built_stays (hull_of_def region) nothing hull (d ∷ ds) k within), h.0.0)
modest_at region hull (d ∷ ds) (suc place) inside h =
    let next = hull ++ hull_of_def region hull d ∷ [] in
    let more = modest_at region next ds place (omega (arith, inside)) h.1 in
    let longer = length-append hull (hull_of_def region hull d ∷ []) in
    (more.0, omega (arith, more.1, longer), more.2, more.3)

wider : (i : Interval) → EndsWithin56 i → EndsFit i
wider i h = (omega (arith, h.0), omega (arith, h.1))

pub tame_small : (region : Bounds) (c : Coded) → IsTame region c.circuit → IsCircuit c.circuit → IsSmallCircuit region c
tame_small region c tame circuit = record {
  hulls = hulls_from region [] c.circuit tame;
  modest = record {
    ends = All-from_recursion EndsWithin56 (hull_of region c.circuit) (ends_from region [] c.circuit tt tame);
    sums = All-from_get_or (λ d. IsModestSum (hull_of region c.circuit) d) c.circuit (Const (pos 0)) (λ place inside.
        let at = modest_at region [] c.circuit place inside tame in
        modest_agrees at.0 (hull_of region c.circuit) place (get_or c.circuit place (Const (pos 0))) (λ k below. at.2 k (omega (arith, below, at.1))) (circuit.names place inside) at.3);
  };
  ends = All-weaker EndsWithin56 EndsFit wider (hull_of region c.circuit) (All-from_recursion EndsWithin56 (hull_of region c.circuit) (ends_from region [] c.circuit tt tame));
  sums = All-from_recursion SumFits c.circuit (sums_from region [] c.circuit tame);
}

small_by : (region domains : Bounds) (box : IsBoxOf domains region) (o : Option Coded) → TameCircuit region domains box o → MakesSmallCircuit region o
small_by region domains box None tame = tt
small_by region domains box (Some c) tame = λ circuit. tame_small region c tame circuit

pub circuits_small : (width : ℕ) (table : List Cells) (statements : List Statement) (name : RowName) (domains final region : Bounds) → widths_of width table statements domains ≡ Ok final → RowsIn width table → StatementsIn width statements → IsPlainTable table → ArePlainStatements width statements → BoxIn region domains → AllOf HasSmallEnds region → MakesSmallCircuit region (circuit_of width table statements name)
circuits_small width table statements name domains final region is rows i cells p inside small =
    let box = box_of domains region inside small in
    small_by region domains box (circuit_of width table statements name) (circuits_tame region domains box width table statements name final is rows i cells p)
