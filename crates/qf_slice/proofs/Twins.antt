-- A row is born at all points or at none, and its cells are as many.
use Rattle.std.proofs.Common.{◌≡◌, ◌∙◌, sym, refl, ℕ, zero, suc, ◌-◌, ◌≤◌, Bool, true, false, if◌then◌else◌, List, [], ◌∷◌, length, slice_get}
use Rattle.std.specs.declared.option.Option.{Option}
use Rattle.std.specs.declared.option.Option.TheVariants.{Some, None}
use Rattle.qf_base.specs.declared.names.RowName.{RowName}
use Rattle.qf_base.specs.declared.names.RowName.TheVariants.{Start, Inserted}
use Rattle.qf_ir.specs.declared.ast.Expr.{Expr}
use Rattle.qf_ir.specs.declared.ast.Statement.{Statement}
use Rattle.qf_ir.specs.declared.ast.Statement.TheVariants.{Update, Delete, Insert}
use Rattle.qf_ir.specs.declared.cell.Outcome.{Outcome}
use Rattle.qf_ir.specs.declared.cell.Outcome.TheVariants.{Gone}
use Rattle.qf_ir.specs.Value.{Cells, Values, is_met}
use Rattle.qf_ir.specs.Replay.{with_sets, inserted_cell, inserted_table, outcome_of}
use Rattle.qf_ir.specs.Life.{Moment, next_moment, last_moment, ending, Birth, born_or, inserted_birth, birth, ending_of}
use Rattle.qf_ir.specs.Flow.{Place, Reaches}
use Rattle.qf_ir.specs.Laws.{param_at, SameAt, EndAlike}
use Rattle.qf_ir.proofs.FlowLaws.{lives_alike, length-with_sets, length-cells_from}
use Rattle.qf_ir.proofs.History.{outcome-start, outcome-inserted}

-- ---- the last moment of a row, if it is born

abbrev pub last_of_birth : Option Birth → Values → Option Moment
last_of_birth None point = None
last_of_birth (Some b) point = Some (last_moment point b.rest b.first)

abbrev pub outcome_of_last : Option Moment → Outcome
outcome_of_last None = Gone
outcome_of_last (Some m) = ending m

abbrev pub AlikeAt : Place → Option Moment → Option Moment → Type 0
AlikeAt x None None = Unit {0}
AlikeAt x None (Some n) = ⊥
AlikeAt x (Some m) None = ⊥
AlikeAt x (Some m) (Some n) = SameAt x m n

abbrev pub AsLong : Option Moment → Option Moment → Type 0
AsLong None None = Unit {0}
AsLong None (Some n) = ⊥
AsLong (Some m) None = ⊥
AsLong (Some m) (Some n) = length m.cells ≡ length n.cells

ending-last : (b : Option Birth) (point : Values) → ending_of b point ≡ outcome_of_last (last_of_birth b point)
ending-last None point = refl
ending-last (Some b) point = refl

alike-last : (x : Place) (p q : Values) (a b : Option Birth) → EndAlike x p q a b → AlikeAt x (last_of_birth a p) (last_of_birth b q)
alike-last x p q None None h = tt
alike-last x p q None (Some b) h = h
alike-last x p q (Some a) None h = h
alike-last x p q (Some a) (Some b) h = h

-- ---- births at two points

abbrev Twins : Option Birth → Option Birth → Type 0
Twins None None = Unit {0}
Twins None (Some b) = ⊥
Twins (Some a) None = ⊥
Twins (Some a) (Some b) = length a.first.cells ≡ length b.first.cells

twins-self : (a : Option Birth) → Twins a a
twins-self None = tt
twins-self (Some a) = refl

tuple-twins : (width : ℕ) (columns : List ℕ) (ss : List Statement) (p q : Values) (other other' : Option Birth) → Twins other other' → (tuples : List (List Expr)) (place : ℕ)
    → Twins (born_or (slice_get (inserted_table width columns tuples p) place) ss other) (born_or (slice_get (inserted_table width columns tuples q) place) ss other')
tuple-twins width columns ss p q other other' twins [] place = twins
tuple-twins width columns ss p q other other' twins (tuple ∷ tuples) zero =
    length-cells_from 0 width (inserted_cell columns tuple p) ∙ sym (length-cells_from 0 width (inserted_cell columns tuple q))
tuple-twins width columns ss p q other other' twins (tuple ∷ tuples) (suc place) = tuple-twins width columns ss p q other other' twins tuples place

inserted-twins : (width : ℕ) (p q : Values) (ss : List Statement) (place : ℕ) → Twins (inserted_birth width p ss place) (inserted_birth width q ss place)
inserted-twins width p q [] place = tt
inserted-twins width p q (Update sets where_ ∷ ss) place = inserted-twins width p q ss place
inserted-twins width p q (Delete where_ ∷ ss) place = inserted-twins width p q ss place
inserted-twins width p q (Insert columns tuples ∷ ss) place =
    tuple-twins width columns ss p q (inserted_birth width p ss (place - length tuples)) (inserted_birth width q ss (place - length tuples))
    (inserted-twins width p q ss (place - length tuples)) tuples place

birth-twins : (width : ℕ) (table : List Cells) (ss : List Statement) (row : RowName) (p q : Values) → Twins (birth width table ss row p) (birth width table ss row q)
birth-twins width table ss (Start k) p q = twins-self (born_or (slice_get table (k - 1)) ss None)
birth-twins width table ss (Inserted k) p q = inserted-twins width p q ss (k - 1)

-- ---- cells stay as many

length-next : (s : Statement) (point : Values) (m : Moment) → length (next_moment point s m).cells ≡ length m.cells
length-next (Update sets where_) point m = by_test (is_met where_ m.cells point)
  where
    by_test : (b : Bool) → length (if b then with_sets sets m.cells point m.cells else m.cells) ≡ length m.cells
    by_test true = length-with_sets sets m.cells point m.cells
    by_test false = refl
length-next (Delete where_) point m = refl
length-next (Insert columns tuples) point m = refl

length-last : (ss : List Statement) (point : Values) (m : Moment) → length (last_moment point ss m).cells ≡ length m.cells
length-last [] point m = refl
length-last (s ∷ ss) point m = length-last ss point (next_moment point s m) ∙ length-next s point m

as-long : (p q : Values) (a b : Option Birth) → Twins a b → AsLong (last_of_birth a p) (last_of_birth b q)
as-long p q None None twins = tt
as-long p q None (Some b) twins = twins
as-long p q (Some a) None twins = twins
as-long p q (Some a) (Some b) twins = length-last a.rest p a.first ∙ twins ∙ sym (length-last b.rest q b.first)

-- ---- what is known of a row's last moments

abbrev pub IsNumbered : RowName → Type 0
IsNumbered (Start k) = 1 ≤ k
IsNumbered (Inserted k) = 1 ≤ k

module _ (width : ℕ) (table : List Cells) (ss : List Statement) (row : RowName) where
  abbrev pub last_at : Values → Option Moment
  last_at point = last_of_birth (birth width table ss row point) point

  pub outcome-last : (point : Values) → IsNumbered row → outcome_of width table ss row point ≡ outcome_of_last (last_at point)
  outcome-last point numbered = by-row row numbered ∙ ending-last (birth width table ss row point) point
    where
      by-row : (r : RowName) → IsNumbered r → outcome_of width table ss r point ≡ ending_of (birth width table ss r point) point
      by-row (Start k) low = outcome-start width table ss k point low
      by-row (Inserted k) low = outcome-inserted width table ss k point low

  pub long-last : (p q : Values) → AsLong (last_at p) (last_at q)
  long-last p q = as-long p q (birth width table ss row p) (birth width table ss row q) (birth-twins width table ss row p q)

  pub alike-at : (x : Place) (p q : Values) → ((k : ℕ) → Reaches k ss x → param_at p k ≡ param_at q k) → AlikeAt x (last_at p) (last_at q)
  alike-at x p q agree = alike-last x p q (birth width table ss row p) (birth width table ss row q) (lives_alike width table ss row x p q agree)
