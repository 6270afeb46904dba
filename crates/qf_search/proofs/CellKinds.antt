-- At every point the last cells of a row are of their columns' kinds, and so are the cells that its goal states.
use Rattle.std.proofs.Common.{◌≡◌, ap, sym, subst, refl, ℕ, zero, suc, ◌+◌, ◌-◌, ◌==◌, ℤ, pos, Bool, true, false, List, [], ◌∷◌, length, map, slice_get, slice_index_or, slice_set, if◌then◌else◌, unwrap_or, eqb-true, arith}
use Rattle.std.specs.declared.option.Option.{Option}
use Rattle.std.specs.declared.option.Option.TheVariants.{Some, None}
use Rattle.std.specs.List.{AllByRecursion}
use Rattle.std.specs.Ordering.{int_eq}
use Rattle.std.proofs.lemmas.Bool.{false≢true}
use Rattle.qf_base.specs.declared.names.RowName.{RowName}
use Rattle.qf_base.specs.declared.names.RowName.TheVariants.{Start, Inserted}
use Rattle.qf_ir.specs.declared.ast.Atom.{Atom}
use Rattle.qf_ir.specs.declared.ast.Atom.TheVariants.{Column, Param}
use Rattle.qf_ir.specs.declared.ast.Expr.{Expr}
use Rattle.qf_ir.specs.declared.ast.Expr.TheVariants.{Sum, Word}
use Rattle.qf_ir.specs.declared.ast.Statement.{Statement}
use Rattle.qf_ir.specs.declared.ast.Statement.TheVariants.{Update, Delete, Insert}
use Rattle.qf_ir.specs.declared.cell.Ask.{Ask}
use Rattle.qf_ir.specs.declared.cell.Ask.TheVariants.{Absent, Present}
use Rattle.qf_ir.specs.declared.cell.Cell.{Cell}
use Rattle.qf_ir.specs.declared.cell.Cell.TheVariants as cell
use Rattle.qf_ir.specs.declared.cell.Goal.{Goal}
use Rattle.qf_ir.specs.declared.cell.Goal.TheVariants as goal
use Rattle.qf_ir.specs.declared.cell.Outcome.{Outcome}
use Rattle.qf_ir.specs.declared.cell.Outcome.TheVariants as outcome
use Rattle.qf_ir.specs.declared.table.Column as table_column
use Rattle.qf_ir.specs.declared.table.ColumnKind.{ColumnKind}
use Rattle.qf_ir.specs.declared.table.ColumnKind.TheVariants as kind
use Rattle.qf_ir.specs.declared.table.Table.{Table}
use Rattle.qf_ir.specs.Plan.{Plan, IsSound, Belongs, RowExists, scope_of, final_outcome}
use Rattle.qf_ir.specs.Goals.{old_cell, listed_or, asked_cells, goal_of, ask_for}
use Rattle.qf_ir.specs.Life.{Moment, Birth, next_moment, last_moment, first_moment, ending_of, born_or, inserted_birth, birth}
use Rattle.qf_ir.specs.Replay.{with_sets, place_of, inserted_cell, cells_from, inserted_cells, inserted_table, same_row}
use Rattle.qf_ir.specs.Tables.{CellIs, CellsAre, IsSoundTable}
use Rattle.qf_ir.specs.Typed.{Scope, HasKind, IsNumber, IsTextColumn, IsItem, SetsTyped, ColumnsFilled, TuplesTyped, StatementTyped, StatementsTyped}
use Rattle.qf_ir.specs.Typed as typed
use Rattle.qf_ir.specs.Value.{Cells, Values, cell_at, is_met, term_value, column_cell, cell_value}
use Rattle.std.specs.Prelude.{◌+ℤ◌}
use Rattle.qf_goal.specs.Case.{Case, goal_at}
use Rattle.qf_goal.specs.SoundCase.{IsListed, IsAskOf, IsSoundCase}
use Rattle.qf_encode.specs.Encoding.{SameKind, SameKinds, GoalFits}
use Rattle.qf_instance.proofs.Encoded.{outcome_is}

-- ---- cells of kinds

abbrev OfKind : ColumnKind → Cell → Type 0
OfKind kind.Int (cell.Int z) = Unit {0}
OfKind kind.Int (cell.Text code) = ⊥
OfKind kind.Text (cell.Int z) = ⊥
OfKind kind.Text (cell.Text code) = Unit {0}

abbrev OfKinds : List ColumnKind → Cells → Type 0
OfKinds [] [] = Unit {0}
OfKinds [] (c ∷ cells) = ⊥
OfKinds (k ∷ kinds) [] = ⊥
OfKinds (k ∷ kinds) (c ∷ cells) = OfKind k c × OfKinds kinds cells

kind_at : (kinds : List ColumnKind) (cells : Cells) (column : ℕ) (k : ColumnKind) → OfKinds kinds cells → slice_get kinds column ≡ Some k → OfKind k (cell_at cells column)
kind_at [] cells column k h e = absurd (cc)
kind_at (j ∷ kinds) [] column k h e = absurd h
kind_at (j ∷ kinds) (c ∷ cells) zero k h e = let same : j ≡ k = cc in subst (λ i. OfKind i c) same h.0
kind_at (j ∷ kinds) (c ∷ cells) (suc column) k h e = kind_at kinds cells column k h.1 e

put_kind : (kinds : List ColumnKind) (cells : Cells) (column : ℕ) (k : ColumnKind) (c : Cell) → slice_get kinds column ≡ Some k → OfKind k c → OfKinds kinds cells → OfKinds kinds (slice_set cells column c)
put_kind [] cells column k c e new h = absurd (cc)
put_kind (j ∷ kinds) [] column k c e new h = absurd h
put_kind (j ∷ kinds) (d ∷ cells) zero k c e new h = let same : k ≡ j = cc in (subst (λ i. OfKind i c) same new, h.1)
put_kind (j ∷ kinds) (d ∷ cells) (suc column) k c e new h = (h.0, put_kind kinds cells column k c e new h.1)

-- ---- what a column becomes

number_cell : (scope : Scope) (a : Atom) (cells : Cells) (b : Bool) (z : ℤ) → IsNumber scope a → OfKinds scope.kinds cells → OfKind kind.Int (unwrap_or (if b then column_cell a cells else None) (cell.Int z))
number_cell scope a cells false z h are = tt
number_cell scope (Column c) cells true z h are = kind_at scope.kinds cells c kind.Int are h
number_cell scope (Param k) cells true z h are = tt

text_cell : (scope : Scope) (a : Atom) (cells : Cells) (b : Bool) (z : ℤ) → b ≡ true → IsTextColumn scope a → OfKinds scope.kinds cells → OfKind kind.Text (unwrap_or (if b then column_cell a cells else None) (cell.Int z))
text_cell scope a cells false z one h are = absurd (false≢true one)
text_cell scope (Column c) cells true z one h are = kind_at scope.kinds cells c kind.Text are h
text_cell scope (Param k) cells true z one h are = absurd h

value_kind : (scope : Scope) (k : ColumnKind) (e : Expr) (cells : Cells) (point : Values) → HasKind scope k e → OfKinds scope.kinds cells → OfKind k (cell_value e cells point)
value_kind scope kind.Int (Word code) cells point h are = absurd h
value_kind scope kind.Int (Sum []) cells point h are = absurd h
value_kind scope kind.Int (Sum (t ∷ [])) cells point h are = number_cell scope t.atom cells (int_eq t.factor (pos 1)) (term_value t cells point +ℤ pos 0) h.0 are
value_kind scope kind.Int (Sum (t ∷ u ∷ ts)) cells point h are = tt
value_kind scope kind.Text (Word code) cells point h are = tt
value_kind scope kind.Text (Sum []) cells point h are = absurd h
value_kind scope kind.Text (Sum (t ∷ [])) cells point h are = text_cell scope t.atom cells (int_eq t.factor (pos 1)) (term_value t cells point +ℤ pos 0) (ap (λ (z : ℤ). int_eq z (pos 1)) h.0) h.1 are
value_kind scope kind.Text (Sum (t ∷ u ∷ ts)) cells point h are = absurd h

-- ---- UPDATE

sets_kinds : (scope : Scope) (sets : List (ℕ × Expr)) (before : Cells) (point : Values) (cells : Cells) → SetsTyped scope sets → OfKinds scope.kinds before → OfKinds scope.kinds cells → OfKinds scope.kinds (with_sets sets before point cells)
sets_kinds scope [] before point cells h was now = now
sets_kinds scope (s ∷ sets) before point cells h was now =
    sets_kinds scope sets before point (slice_set cells s.0 (cell_value s.1 before point)) h.2 was (by (slice_get scope.kinds s.0) refl h.0)
  where
    by : (o : Option ColumnKind) → slice_get scope.kinds s.0 ≡ o → typed.Fits scope o s.1 → OfKinds scope.kinds (slice_set cells s.0 (cell_value s.1 before point))
    by None e fits = absurd fits
    by (Some k) e fits = put_kind scope.kinds cells s.0 k (cell_value s.1 before point) e (value_kind scope k s.1 before point fits was) now

either_kinds : (kinds : List ColumnKind) (b : Bool) (a c : Cells) → OfKinds kinds a → OfKinds kinds c → OfKinds kinds (if b then a else c)
either_kinds kinds true a c h k = h
either_kinds kinds false a c h k = k

-- ---- INSERT

param_cell : (a : Atom) (k : ℕ) (b : Bool) (z : ℤ) → a ≡ Param k → OfKind kind.Int (unwrap_or (if b then column_cell a [] else None) (cell.Int z))
param_cell (Column c) k b z e = absurd (cc)
param_cell (Param j) k true z e = tt
param_cell (Param j) k false z e = tt

no_text : (scope : Scope) (a : Atom) (k : ℕ) → a ≡ Param k → IsTextColumn scope a → ⊥
no_text scope (Column c) k e h = cc
no_text scope (Param j) k e h = h

item_kind : (scope : Scope) (k : ColumnKind) (e : Expr) (point : Values) → IsItem e → HasKind scope k e → OfKind k (cell_value e [] point)
item_kind scope kind.Int (Word code) point item h = absurd h
item_kind scope kind.Text (Word code) point item h = tt
item_kind scope k (Sum []) point item h = absurd item
item_kind scope kind.Int (Sum (t ∷ [])) point item h = param_cell t.atom item.1.0 (int_eq t.factor (pos 1)) (term_value t [] point +ℤ pos 0) item.1.1
item_kind scope kind.Text (Sum (t ∷ [])) point item h = absurd (no_text scope t.atom item.1.0 item.1.1 h.1)
item_kind scope k (Sum (t ∷ u ∷ ts)) point item h = absurd item

got_item : (items : List Expr) (p : ℕ) (item : Expr) → slice_get items p ≡ Some item → item ≡ slice_index_or items p (Word 0)
got_item [] p item got = absurd (cc)
got_item (x ∷ items) zero item got = cc
got_item (x ∷ items) (suc p) item got = got_item items p item got

filled_kinds : (scope : Scope) (columns : List ℕ) (tuple : List Expr) (point : Values) (first : ℕ) (kinds : List ColumnKind) → ColumnsFilled scope columns tuple first kinds → OfKinds kinds (cells_from first (length kinds) (inserted_cell columns tuple point))
filled_kinds scope columns tuple point first [] h = tt
filled_kinds scope columns tuple point first (k ∷ kinds) h =
    let item = h.0 in
    let is = got_item tuple (place_of columns first) item.0 item.1 in
    (subst (λ (e : Expr). OfKind k (cell_value e [] point)) is (item_kind scope k item.0 point item.2 item.3), filled_kinds scope columns tuple point (first + 1) kinds h.1)

tuples_kinds : (scope : Scope) (columns : List ℕ) (tuples : List (List Expr)) (point : Values) (place : ℕ) (cells : Cells) → TuplesTyped scope columns tuples → slice_get (inserted_table (length scope.kinds) columns tuples point) place ≡ Some cells → OfKinds scope.kinds cells
tuples_kinds scope columns [] point place cells h got = absurd (cc)
tuples_kinds scope columns (tuple ∷ tuples) point zero cells h got =
    let same : inserted_cells (length scope.kinds) columns tuple point ≡ cells = cc in
    subst (OfKinds scope.kinds) same (filled_kinds scope columns tuple point 0 scope.kinds h.0)
tuples_kinds scope columns (tuple ∷ tuples) point (suc place) cells h got = tuples_kinds scope columns tuples point place cells h.1 got

-- ---- a life

next_kinds : (scope : Scope) (s : Statement) (point : Values) (m : Moment) → StatementTyped scope s → OfKinds scope.kinds m.cells → OfKinds scope.kinds (next_moment point s m).cells
next_kinds scope (Update sets where_) point m h are = either_kinds scope.kinds (is_met where_ m.cells point) (with_sets sets m.cells point m.cells) m.cells (sets_kinds scope sets m.cells point m.cells h.0 are are) are
next_kinds scope (Delete where_) point m h are = are
next_kinds scope (Insert columns tuples) point m h are = are

last_kinds : (scope : Scope) (statements : List Statement) (point : Values) (m : Moment) → StatementsTyped scope statements → OfKinds scope.kinds m.cells → OfKinds scope.kinds (last_moment point statements m).cells
last_kinds scope [] point m h are = are
last_kinds scope (s ∷ statements) point m h are = last_kinds scope statements point (next_moment point s m) h.1 (next_kinds scope s point m h.0 are)

abbrev EndsOfKinds : List ColumnKind → Values → Option Birth → Type 0
EndsOfKinds kinds point None = Unit {0}
EndsOfKinds kinds point (Some b) = OfKinds kinds (last_moment point b.rest b.first).cells

born_kinds : (scope : Scope) (statements : List Statement) (point : Values) (got : Option Cells) (other : Option Birth) → StatementsTyped scope statements → ((cells : Cells) → got ≡ Some cells → OfKinds scope.kinds cells) → EndsOfKinds scope.kinds point other → EndsOfKinds scope.kinds point (born_or got statements other)
born_kinds scope statements point None other h here rest = rest
born_kinds scope statements point (Some cells) other h here rest = last_kinds scope statements point (first_moment cells) h (here cells refl)

inserted_kinds : (scope : Scope) (statements : List Statement) (point : Values) (place : ℕ) → StatementsTyped scope statements → EndsOfKinds scope.kinds point (inserted_birth (length scope.kinds) point statements place)
inserted_kinds scope [] point place h = tt
inserted_kinds scope (Update sets where_ ∷ statements) point place h = inserted_kinds scope statements point place h.1
inserted_kinds scope (Delete where_ ∷ statements) point place h = inserted_kinds scope statements point place h.1
inserted_kinds scope (Insert columns tuples ∷ statements) point place h =
    born_kinds scope statements point (slice_get (inserted_table (length scope.kinds) columns tuples point) place) (inserted_birth (length scope.kinds) point statements (place - length tuples)) h.1
    (λ cells got. tuples_kinds scope columns tuples point place cells h.0 got)
    (inserted_kinds scope statements point (place - length tuples) h.1)

cell_kind : (k : ColumnKind) (texts : ℕ) (c : Cell) → CellIs k texts c → OfKind k c
cell_kind kind.Int texts (cell.Int z) h = tt
cell_kind kind.Int texts (cell.Text code) h = absurd h
cell_kind kind.Text texts (cell.Int z) h = absurd h
cell_kind kind.Text texts (cell.Text code) h = tt

abbrev kinds_in : List table_column.Column → List ColumnKind
kinds_in columns = map (λ (c : table_column.Column). c.kind) columns

cells_kinds : (columns : List table_column.Column) (texts : ℕ) (cells : Cells) → CellsAre columns texts cells → OfKinds (kinds_in columns) cells
cells_kinds [] texts [] h = tt
cells_kinds [] texts (c ∷ cells) h = absurd h
cells_kinds (column ∷ columns) texts [] h = absurd h
cells_kinds (column ∷ columns) texts (c ∷ cells) h = (cell_kind column.kind texts c h.0, cells_kinds columns texts cells h.1)

kinds_many : (columns : List table_column.Column) → length (kinds_in columns) ≡ length columns
kinds_many [] = refl
kinds_many (c ∷ columns) = ap suc (kinds_many columns)

birth_kinds : (plan : Plan) (table : Table) (row : RowName) (point : Values) → IsSound plan → IsSoundTable table → Belongs plan table → EndsOfKinds (kinds_in plan.columns) point (birth (length plan.columns) table.rows plan.statements row point)
birth_kinds plan table (Start k) point sound is belongs =
    born_kinds (scope_of plan) plan.statements point (slice_get table.rows (k - 1)) None sound.typed
    (λ cells got. subst (λ (columns : List table_column.Column). OfKinds (kinds_in columns) cells) belongs.columns (cells_kinds table.columns (length table.texts) cells (is.rows (k - 1) cells got)))
    tt
birth_kinds plan table (Inserted k) point sound is belongs =
    subst (λ (width : ℕ). EndsOfKinds (kinds_in plan.columns) point (inserted_birth width point plan.statements (k - 1))) (kinds_many plan.columns) (inserted_kinds (scope_of plan) plan.statements point (k - 1) sound.typed)

-- ---- goals

abbrev WantOfKind : ColumnKind → Option Cell → Type 0
WantOfKind k None = Unit {0}
WantOfKind k (Some c) = OfKind k c

abbrev WantedOfKinds : List ColumnKind → List (Option Cell) → Type 0
WantedOfKinds [] [] = Unit {0}
WantedOfKinds [] (w ∷ wanted) = ⊥
WantedOfKinds (k ∷ kinds) [] = ⊥
WantedOfKinds (k ∷ kinds) (w ∷ wanted) = WantOfKind k w × WantedOfKinds kinds wanted

abbrev OutcomeOfKinds : List ColumnKind → Outcome → Type 0
OutcomeOfKinds kinds outcome.Gone = Unit {0}
OutcomeOfKinds kinds (outcome.There cells) = OfKinds kinds cells

abbrev GoalOfKinds : List ColumnKind → Goal → Type 0
GoalOfKinds kinds goal.Gone = Unit {0}
GoalOfKinds kinds (goal.There wanted) = WantedOfKinds kinds wanted

ending_kinds : (kinds : List ColumnKind) (live : Bool) (cells : Cells) → OfKinds kinds cells → OutcomeOfKinds kinds (if live then outcome.There cells else outcome.Gone)
ending_kinds kinds true cells h = h
ending_kinds kinds false cells h = tt

outcome_kinds : (kinds : List ColumnKind) (point : Values) (b : Option Birth) → EndsOfKinds kinds point b → OutcomeOfKinds kinds (ending_of b point)
outcome_kinds kinds point None h = tt
outcome_kinds kinds point (Some b) h = let m = last_moment point b.rest b.first in ending_kinds kinds m.live m.cells h

kept_kinds : (kinds : List ColumnKind) (cells : Cells) → OfKinds kinds cells → WantedOfKinds kinds (map (λ c. Some c) cells)
kept_kinds [] [] h = tt
kept_kinds [] (c ∷ cells) h = absurd h
kept_kinds (k ∷ kinds) [] h = absurd h
kept_kinds (k ∷ kinds) (c ∷ cells) h = (h.0, kept_kinds kinds cells h.1)

got_kind : (columns : List table_column.Column) (i : ℕ) (column : table_column.Column) → slice_get columns i ≡ Some column → slice_get (kinds_in columns) i ≡ Some column.kind
got_kind [] i column e = absurd (cc)
got_kind (c ∷ columns) zero column e = cc
got_kind (c ∷ columns) (suc i) column e = got_kind columns i column e

module _ (plan : Plan) where
  listed_kind : (listed : List (ℕ × Cell)) (column : ℕ) (k : ColumnKind) (other : Option Cell) → slice_get (kinds_in plan.columns) column ≡ Some k → AllByRecursion (IsListed plan) listed → WantOfKind k other → WantOfKind k (listed_or listed column other)
  listed_kind [] column k other e h was = was
  listed_kind (l ∷ listed) column k other e h was = by (l.0 == column) refl (listed_kind listed column k other e h.1 was)
    where
      by : (b : Bool) → (l.0 == column) ≡ b → WantOfKind k (listed_or listed column other) → WantOfKind k (if b then Some l.1 else listed_or listed column other)
      by true same later =
          let there = got_kind plan.columns l.0 h.0.column h.0.there in
          let here = subst (λ (i : ℕ). slice_get (kinds_in plan.columns) i ≡ Some h.0.column.kind) (eqb-true l.0 column same) there in
          let one : h.0.column.kind ≡ k = cc in
          subst (λ j. OfKind j l.1) one (cell_kind h.0.column.kind (length plan.texts) l.1 h.0.cell)
      by false same later = later

  old_kind : (old : Outcome) (column : ℕ) (k : ColumnKind) → slice_get (kinds_in plan.columns) column ≡ Some k → OutcomeOfKinds (kinds_in plan.columns) old → WantOfKind k (old_cell old column)
  old_kind outcome.Gone column k e h = tt
  old_kind (outcome.There cells) column k e h = kind_at (kinds_in plan.columns) cells column k h e

  asked_kinds : (first : ℕ) (rest : List ColumnKind) (listed : List (ℕ × Cell)) (old : Outcome) → ((i : ℕ) (k : ColumnKind) → slice_get rest i ≡ Some k → slice_get (kinds_in plan.columns) (first + i) ≡ Some k) → AllByRecursion (IsListed plan) listed → OutcomeOfKinds (kinds_in plan.columns) old → WantedOfKinds rest (asked_cells first (length rest) listed old)
  asked_kinds first [] listed old at h was = tt
  asked_kinds first (k ∷ rest) listed old at h was =
      let here : slice_get (kinds_in plan.columns) first ≡ Some k = subst (λ (i : ℕ). slice_get (kinds_in plan.columns) i ≡ Some k) (omega arith) (at 0 k refl) in (
        listed_kind listed first k (old_cell old first) here h (old_kind old first k here was),
        asked_kinds (first + 1) rest listed old (λ i j e. subst (λ (n : ℕ). slice_get (kinds_in plan.columns) n ≡ Some j) (omega arith) (at (suc i) j e)) h was,
      )

  goal_kinds : (ask : Option Ask) (old : Outcome) → OutcomeOfKinds (kinds_in plan.columns) old → ((a : Ask) → ask ≡ Some a → IsAskOf plan a) → GoalOfKinds (kinds_in plan.columns) (goal_of (length plan.columns) ask old)
  goal_kinds None outcome.Gone was asked = tt
  goal_kinds None (outcome.There cells) was asked = kept_kinds (kinds_in plan.columns) cells was
  goal_kinds (Some Absent) old was asked = tt
  goal_kinds (Some (Present listed)) old was asked =
      subst (λ (n : ℕ). WantedOfKinds (kinds_in plan.columns) (asked_cells 0 n listed old)) (kinds_many plan.columns)
      (asked_kinds 0 (kinds_in plan.columns) listed old (λ i k e. subst (λ (n : ℕ). slice_get (kinds_in plan.columns) n ≡ Some k) (omega arith) e) (asked (Present listed) refl) was)

  ask_sound : (asks : List (RowName × Ask)) (row : RowName) (ask : Ask) → AllByRecursion (λ (a : RowName × Ask). IsAskOf plan a.1) asks → ask_for asks row ≡ Some ask → IsAskOf plan ask
  ask_sound [] row ask h e = absurd (cc)
  ask_sound (a ∷ asks) row ask h e = by (same_row a.0 row) e (λ later. ask_sound asks row ask h.1 later)
    where
      by : (b : Bool) → (if b then Some a.1 else ask_for asks row) ≡ Some ask → (ask_for asks row ≡ Some ask → IsAskOf plan ask) → IsAskOf plan ask
      by true same later = let one : a.1 ≡ ask = cc in subst (IsAskOf plan) one h.0
      by false same later = later same

same_kind : (k : ColumnKind) (c : Cell) (w : Option Cell) → OfKind k c → WantOfKind k w → SameKind c w
same_kind k c None h want = tt
same_kind kind.Int (cell.Int a) (Some (cell.Int b)) h want = tt
same_kind kind.Int (cell.Int a) (Some (cell.Text b)) h want = absurd want
same_kind kind.Int (cell.Text a) (Some w) h want = absurd h
same_kind kind.Text (cell.Text a) (Some (cell.Text b)) h want = tt
same_kind kind.Text (cell.Text a) (Some (cell.Int b)) h want = absurd want
same_kind kind.Text (cell.Int a) (Some w) h want = absurd h

same_kinds : (kinds : List ColumnKind) (cells : Cells) (wanted : List (Option Cell)) → OfKinds kinds cells → WantedOfKinds kinds wanted → SameKinds cells wanted
same_kinds [] [] [] h want = tt
same_kinds [] [] (w ∷ wanted) h want = absurd want
same_kinds [] (c ∷ cells) wanted h want = absurd h
same_kinds (k ∷ kinds) [] wanted h want = absurd h
same_kinds (k ∷ kinds) (c ∷ cells) [] h want = absurd want
same_kinds (k ∷ kinds) (c ∷ cells) (w ∷ wanted) h want = (same_kind k c w h.0 want.0, same_kinds kinds cells wanted h.1 want.1)

fits_by : (kinds : List ColumnKind) (cells : Cells) (g : Goal) → OfKinds kinds cells → GoalOfKinds kinds g → GoalFits cells g
fits_by kinds cells goal.Gone h want = tt
fits_by kinds cells (goal.There wanted) h want = same_kinds kinds cells wanted h want

-- at any point, the cells that the goal of a row states are of the kinds of the row's cells
pub goal_fits : (case : Case) (row : RowName) (point : Values) (b : Birth) → IsSoundCase case → RowExists case.plan row → birth (length case.plan.columns) case.table.rows case.plan.statements row point ≡ Some b → GoalFits (last_moment point b.rest b.first).cells (goal_at case row)
goal_fits case row point b sound exists e =
    let plan = case.plan in
    let kinds = kinds_in plan.columns in
    let here = subst (EndsOfKinds kinds point) e (birth_kinds plan case.table row point sound.plan sound.table sound.belongs) in
    let old = subst (OutcomeOfKinds kinds) (sym (outcome_is plan case.table row plan.olds exists)) (outcome_kinds kinds plan.olds (birth (length plan.columns) case.table.rows plan.statements row plan.olds) (birth_kinds plan case.table row plan.olds sound.plan sound.table sound.belongs)) in
    let want = goal_kinds plan (ask_for case.asks row) (final_outcome plan case.table row plan.olds) old (λ a asked. ask_sound plan case.asks row a sound.asks.cells asked) in
    fits_by kinds (last_moment point b.rest b.first).cells (goal_at case row) here want
