-- The cells of each life lie in the widths at each statement, and at the end.
use Rattle.std.specs.Prelude.{◌≡◌, ℕ, suc, ◌+◌, ◌-◌, ◌≤◌, Bool, true, false, List, [], ◌∷◌, length, drop, slice_get, Ok, Err, if◌then◌else◌}
use Rattle.std.specs.declared.option.Option.{Option}
use Rattle.std.specs.declared.option.Option.TheVariants.{Some, None}
use Rattle.std.specs.List.{list_all}
use Rattle.std.proofs.Common.{refl, sym, ◌∙◌, subst, arith}
use Rattle.qf_base.specs.declared.names.RowName.{RowName}
use Rattle.qf_base.specs.declared.names.RowName.TheVariants.{Start, Inserted}
use Rattle.qf_base.specs.Values.{Bounds, In}
use Rattle.qf_ir.specs.declared.cell.Outcome.{Outcome}
use Rattle.qf_ir.specs.declared.cell.Outcome.TheVariants.{Gone, There}
use Rattle.qf_ir.specs.declared.ast.Expr.{Expr}
use Rattle.qf_ir.specs.declared.ast.Statement.{Statement}
use Rattle.qf_ir.specs.declared.ast.Statement.TheVariants.{Update, Delete, Insert}
use Rattle.qf_ir.specs.declared.table.Table.{Table}
use Rattle.qf_ir.specs.Value.{Cells, Values}
use Rattle.qf_ir.specs.Replay.{inserted_table}
use Rattle.qf_ir.specs.Life.{Moment, next_moment, last_moment, life, ending, Birth, born_with, born_or, inserted_birth, birth, ending_of}
use Rattle.qf_ir.specs.Width.{is_narrow, steps_of, widths_after, widths_from, widths_of, start_widths}
use Rattle.qf_ir.specs.Plan.{Plan, Belongs, RowsAre}
use Rattle.qf_ir.proofs.History.{outcome-start, outcome-inserted}
use Rattle.qf_ir.proofs.WidthLaws.{Held, PointHeld, point_held, held-after, held-inserted, held-start, length-widths_after, length-start_widths}
use Rattle.qf_width.specs.Lies.{CellsLie, widths_along, MomentsLie, LifeLies, OutcomeLies, EndsLie}

cells_lie : (cells : Cells) (widths : Bounds) → Held cells widths → CellsLie cells widths
cells_lie cells widths held = λ column. ((held.each column).low, (held.each column).high)

life_lies : (point : Values) (domains : Bounds) → PointHeld point domains → (statements : List Statement) (m : Moment) (widths : Bounds) → Held m.cells widths
    → MomentsLie (life point statements m) (widths_along statements domains widths)
life_lies point domains inside [] m widths held = (cells_lie m.cells widths held, tt)
life_lies point domains inside (s ∷ statements) m widths held = (
  cells_lie m.cells widths held,
  life_lies point domains inside statements (next_moment point s m) (widths_after s domains widths) (held-after s m widths point domains held inside),
)

-- a row is born before the end of the log
abbrev IsShort : ℕ → Option Birth → Type 0
IsShort n None = Unit {0}
IsShort n (Some b) = length b.rest ≤ n

longer : (n : ℕ) (b : Option Birth) → IsShort n b → IsShort (suc n) b
longer n None short = tt
longer n (Some b) short = omega arith

one_later : (point : Values) (s : Statement) (statements : List Statement) (widths : Bounds) (along : List Bounds) (b : Option Birth) → IsShort (length statements) b
    → LifeLies point statements along b → LifeLies point (s ∷ statements) (widths ∷ along) b
one_later point s statements widths along None short lies = tt
one_later point s statements widths along (Some b) short lies =
    let P : ℕ → Type 0 = λ n. MomentsLie (life point b.rest b.first) (drop n (widths ∷ along)) in
    let e : suc (length statements - length b.rest) ≡ suc (length statements) - length b.rest = omega arith in
    subst P e lies

-- a row that is born before the rest of the log
born_lies : (point : Values) (statements : List Statement) (along : List Bounds) (cells : Cells) (before : ℕ) (all : List Statement) → length all ≡ before + length statements
    → (behind : List Bounds) → drop before behind ≡ along
    → MomentsLie (life point statements (record { cells = cells; live = true })) along → LifeLies point all behind (Some (born_with cells statements))
born_lies point statements along cells before all many behind is lies =
    let P : List Bounds → Type 0 = λ ws. MomentsLie (life point statements (record { cells = cells; live = true })) ws in
    let Q : ℕ → Type 0 = λ n. P (drop n behind) in
    let e : before ≡ length all - length statements = omega arith in
    subst Q e (subst P (sym is) lies)

-- the rows of an INSERT, or of a later one
insert_lies : (point : Values) (columns : List ℕ) (tuples : List (List Expr)) (statements : List Statement) (widths : Bounds) (along : List Bounds) (got : Option Cells) (other : Option Birth)
    → ((cells : Cells) → got ≡ Some cells → MomentsLie (life point statements (record { cells = cells; live = true })) along)
    → IsShort (length statements) other → LifeLies point statements along other
    → IsShort (suc (length statements)) (born_or got statements other) × LifeLies point (Insert columns tuples ∷ statements) (widths ∷ along) (born_or got statements other)
insert_lies point columns tuples statements widths along None other here short lies =
    (longer (length statements) other short, one_later point (Insert columns tuples) statements widths along other short lies)
insert_lies point columns tuples statements widths along (Some cells) other here short lies =
    (omega arith, born_lies point statements along cells 1 (Insert columns tuples ∷ statements) (omega arith) (widths ∷ along) refl (here cells refl))

inserted_lies : (width : ℕ) (point : Values) (domains : Bounds) → PointHeld point domains → (statements : List Statement) (widths : Bounds) → width ≡ length widths → (place : ℕ)
    → IsShort (length statements) (inserted_birth width point statements place)
    × LifeLies point statements (widths_along statements domains widths) (inserted_birth width point statements place)
inserted_lies width point domains inside [] widths long place = (tt, tt)
inserted_lies width point domains inside (Update sets where_ ∷ statements) widths long place =
    let next = widths_after (Update sets where_) domains widths in
    let later = inserted_lies width point domains inside statements next (long ∙ sym (length-widths_after (Update sets where_) domains widths)) place in (
      longer (length statements) (inserted_birth width point statements place) later.0,
      one_later point (Update sets where_) statements widths (widths_along statements domains next) (inserted_birth width point statements place) later.0 later.1,
    )
inserted_lies width point domains inside (Delete where_ ∷ statements) widths long place =
    let later = inserted_lies width point domains inside statements widths long place in (
      longer (length statements) (inserted_birth width point statements place) later.0,
      one_later point (Delete where_) statements widths (widths_along statements domains widths) (inserted_birth width point statements place) later.0 later.1,
    )
inserted_lies width point domains inside (Insert columns tuples ∷ statements) widths long place =
    let next = widths_after (Insert columns tuples) domains widths in
    let later = inserted_lies width point domains inside statements next (long ∙ sym (length-widths_after (Insert columns tuples) domains widths)) (place - length tuples) in
    insert_lies point columns tuples statements widths (widths_along statements domains next) (slice_get (inserted_table width columns tuples point) place)
    (inserted_birth width point statements (place - length tuples))
    (λ cells is. life_lies point domains inside statements (record { cells = cells; live = true }) next (held-inserted width columns point domains inside tuples widths long place cells is))
    later.0 later.1

pub lives_lie : (width : ℕ) (table : List Cells) (statements : List Statement) (domains : Bounds) (point : Values) (row : RowName) → RowsAre width table → In domains point
    → LifeLies point statements (widths_along statements domains (start_widths 0 width table)) (birth width table statements row point)
lives_lie width table statements domains point (Start k) rows inside = by_row (slice_get table (k - 1)) refl
  where
    by_row : (got : Option Cells) → slice_get table (k - 1) ≡ got
        → LifeLies point statements (widths_along statements domains (start_widths 0 width table)) (born_or got statements None)
    by_row None is = tt
    by_row (Some cells) is =
        born_lies point statements (widths_along statements domains (start_widths 0 width table)) cells 0 statements (omega arith)
        (widths_along statements domains (start_widths 0 width table)) refl
        (life_lies point domains (point_held domains point inside) statements (record { cells = cells; live = true }) (start_widths 0 width table) (held-start width table (k - 1) cells rows is))
lives_lie width table statements domains point (Inserted k) rows inside =
    (inserted_lies width point domains (point_held domains point inside) statements (start_widths 0 width table) (sym (length-start_widths 0 width table)) (k - 1)).1

-- the widths after one statement more
next_widths : (number : ℕ) (s : Statement) (statements : List Statement) (domains widths final : Bounds) → widths_from number (s ∷ statements) domains widths ≡ Ok final
    → widths_from (number + 1) statements domains (widths_after s domains widths) ≡ Ok final
next_widths number s statements domains widths final is = by_test (list_all is_narrow (steps_of s domains widths)) is
  where
    by_test : (b : Bool) → (if b then widths_from (number + 1) statements domains (widths_after s domains widths) else Err number) ≡ Ok final
        → widths_from (number + 1) statements domains (widths_after s domains widths) ≡ Ok final
    by_test true is = is
    by_test false is = absurd (cc)

last_lies : (point : Values) (domains : Bounds) → PointHeld point domains → (final : Bounds) (statements : List Statement) (number : ℕ) (m : Moment) (widths : Bounds)
    → widths_from number statements domains widths ≡ Ok final → Held m.cells widths → CellsLie (last_moment point statements m).cells final
last_lies point domains inside final [] number m widths is held = let same : widths ≡ final = cc in rw (← same) (cells_lie m.cells widths held)
last_lies point domains inside final (s ∷ statements) number m widths is held =
    last_lies point domains inside final statements (number + 1) (next_moment point s m) (widths_after s domains widths) (next_widths number s statements domains widths final is)
    (held-after s m widths point domains held inside)

ending_lies : (m : Moment) (widths : Bounds) → CellsLie m.cells widths → OutcomeLies (ending m) widths
ending_lies m widths lies = by_life m.live
  where
    by_life : (live : Bool) → OutcomeLies (if live then There m.cells else Gone) widths
    by_life true = lies
    by_life false = tt

inserted_ends : (width : ℕ) (point : Values) (domains : Bounds) → PointHeld point domains → (final : Bounds) (statements : List Statement) (number : ℕ) (widths : Bounds)
    → widths_from number statements domains widths ≡ Ok final → width ≡ length widths → (place : ℕ) → OutcomeLies (ending_of (inserted_birth width point statements place) point) final
inserted_ends width point domains inside final [] number widths is long place = tt
inserted_ends width point domains inside final (Update sets where_ ∷ statements) number widths is long place =
    inserted_ends width point domains inside final statements (number + 1) (widths_after (Update sets where_) domains widths)
    (next_widths number (Update sets where_) statements domains widths final is) (long ∙ sym (length-widths_after (Update sets where_) domains widths)) place
inserted_ends width point domains inside final (Delete where_ ∷ statements) number widths is long place =
    inserted_ends width point domains inside final statements (number + 1) widths (next_widths number (Delete where_) statements domains widths final is) long place
inserted_ends width point domains inside final (Insert columns tuples ∷ statements) number widths is long place =
    by_row (slice_get (inserted_table width columns tuples point) place) refl
    (inserted_ends width point domains inside final statements (number + 1) next later (long ∙ sym (length-widths_after (Insert columns tuples) domains widths)) (place - length tuples))
  where
    next : Bounds
    next = widths_after (Insert columns tuples) domains widths

    later : widths_from (number + 1) statements domains (widths_after (Insert columns tuples) domains widths) ≡ Ok final
    later = next_widths number (Insert columns tuples) statements domains widths final is

    by_row : (got : Option Cells) → slice_get (inserted_table width columns tuples point) place ≡ got
        → OutcomeLies (ending_of (inserted_birth width point statements (place - length tuples)) point) final
        → OutcomeLies (ending_of (born_or got statements (inserted_birth width point statements (place - length tuples))) point) final
    by_row None is_got others = others
    by_row (Some cells) is_got others =
        ending_lies (last_moment point statements (record { cells = cells; live = true })) final
        (last_lies point domains inside final statements (number + 1) (record { cells = cells; live = true }) (widths_after (Insert columns tuples) domains widths)
        (next_widths number (Insert columns tuples) statements domains widths final is)
        (held-inserted width columns point domains inside tuples widths long place cells is_got))

-- the final cells of each row lie in the final widths
pub ends_lie : (plan : Plan) (table : Table) (domains final : Bounds) → Belongs plan table
    → widths_of (length plan.columns) table.rows plan.statements domains ≡ Ok final → EndsLie plan table domains final
ends_lie plan table domains final belongs is point (Start k) inside exists =
    let width = length plan.columns in
    let P : Outcome → Type 0 = λ o. OutcomeLies o final in
    subst P (sym (outcome-start width table.rows plan.statements k point exists.0)) (by_row (slice_get table.rows (k - 1)) refl)
  where
    by_row : (got : Option Cells) → slice_get table.rows (k - 1) ≡ got → OutcomeLies (ending_of (born_or got plan.statements None) point) final
    by_row None is_got = tt
    by_row (Some cells) is_got =
        ending_lies (last_moment point plan.statements (record { cells = cells; live = true })) final
        (last_lies point domains (point_held domains point inside) final plan.statements 1 (record { cells = cells; live = true }) (start_widths 0 (length plan.columns) table.rows) is
        (held-start (length plan.columns) table.rows (k - 1) cells belongs.rows is_got))
ends_lie plan table domains final belongs is point (Inserted k) inside exists =
    let width = length plan.columns in
    let P : Outcome → Type 0 = λ o. OutcomeLies o final in
    subst P (sym (outcome-inserted width table.rows plan.statements k point exists.0))
    (inserted_ends width point domains (point_held domains point inside) final plan.statements 1 (start_widths 0 width table.rows) is (sym (length-start_widths 0 width table.rows)) (k - 1))
