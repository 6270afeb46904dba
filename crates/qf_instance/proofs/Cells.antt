-- The last cells of every row are within 2^50 in size, where no statement is too wide for domains that hold the point.
use Rattle.std.proofs.Common.{◌≡◌, ◌∙◌, sym, refl, ℕ, zero, suc, ◌+◌, ◌-◌, ◌≤◌, ◌^◌, Bool, true, false, ℤ, unsigned_abs, List, [], ◌∷◌, ◌++◌, length, slice_get, if◌then◌else◌, arith, Ok, Err}
use Rattle.std.specs.declared.option.Option.{Option}
use Rattle.std.specs.declared.option.Option.TheVariants.{Some, None}
use Rattle.std.specs.List.{list_all, AllByRecursion}
use Rattle.std.proofs.lemmas.Int.{ints, clamps}
use Rattle.std.proofs.lemmas.Bool.{and_parts}
use Rattle.qf_base.specs.declared.names.RowName.{RowName}
use Rattle.qf_base.specs.declared.names.RowName.TheVariants.{Start, Inserted}
use Rattle.qf_base.specs.Values.{Interval, Bounds, interval_at}
use Rattle.qf_ir.specs.declared.ast.Statement.{Statement}
use Rattle.qf_ir.specs.declared.ast.Statement.TheVariants.{Update, Delete, Insert}
use Rattle.qf_ir.specs.Value.{Cells, number_of, cell_at}
use Rattle.qf_ir.specs.Replay.{inserted_table}
use Rattle.qf_ir.specs.Life.{Moment, Birth, next_moment, last_moment, first_moment, born_or, inserted_birth, birth}
use Rattle.qf_ir.specs.Plan.{RowsAre}
use Rattle.qf_ir.specs.Width.{is_narrow, joined, where_steps, sets_steps, tuples_steps, tuples_widths, widths_after, steps_of, widths_from, column_interval, start_widths, widths_of}
use Rattle.qf_ir.proofs.WidthLaws.{Held, PointHeld, held-after, held-inserted, held-start, length-widths_after, length-start_widths}
use Rattle.qf_system.specs.WidthsKept.{HasSmallEnds, IsPlainTable}
use Rattle.qf_system.proofs.SmallSums.{narrow_ends}
use Rattle.qf_system.proofs.SmallCircuits.{split_narrow}

-- each cell is within 2^50 in size
abbrev pub ArePlain : Cells → Type 0
ArePlain cells = (column : ℕ) → unsigned_abs (number_of (cell_at cells column)) ≤ 2 ^ 50

abbrev pub AreNarrow : Bounds → Type 0
AreNarrow widths = (column : ℕ) → HasSmallEnds (interval_at widths column)

narrow_all : (widths : Bounds) → list_all is_narrow widths ≡ true → AreNarrow widths
narrow_all [] h column = (omega (arith, ints), omega (arith, ints))
narrow_all (w ∷ widths) h zero = narrow_ends w (and_parts (is_narrow w) (list_all is_narrow widths) h).0
narrow_all (w ∷ widths) h (suc column) = narrow_all widths (and_parts (is_narrow w) (list_all is_narrow widths) h).1 column

held_plain : (cells : Cells) (widths : Bounds) → Held cells widths → AreNarrow widths → ArePlain cells
held_plain cells widths held narrow = λ column.
    let own = held.each column in
    let ends = narrow column in
    omega (arith, ints, own.low, own.high, ends.0, ends.1)

-- ---- one statement

next_narrow : (s : Statement) (domains widths : Bounds) → AreNarrow widths → list_all is_narrow (steps_of s domains widths) ≡ true → AreNarrow (widths_after s domains widths)
next_narrow (Update sets filter) domains widths narrow h =
    narrow_all (widths_after (Update sets filter) domains widths) (split_narrow (where_steps filter widths domains ++ sets_steps sets widths domains) (widths_after (Update sets filter) domains widths) h).1
next_narrow (Delete filter) domains widths narrow h = narrow
next_narrow (Insert columns tuples) domains widths narrow h =
    narrow_all (tuples_widths columns tuples domains widths) (split_narrow (tuples_steps tuples domains) (tuples_widths columns tuples domains widths) h).1

one_step : (number : ℕ) (s : Statement) (statements : List Statement) (domains widths final : Bounds) → widths_from number (s ∷ statements) domains widths ≡ Ok final
    → (list_all is_narrow (steps_of s domains widths) ≡ true) × (widths_from (number + 1) statements domains (widths_after s domains widths) ≡ Ok final)
one_step number s statements domains widths final is = by (list_all is_narrow (steps_of s domains widths)) refl is
  where
    by : (b : Bool) → list_all is_narrow (steps_of s domains widths) ≡ b
        → (if b then widths_from (number + 1) statements domains (widths_after s domains widths) else Err number) ≡ Ok final
        → (list_all is_narrow (steps_of s domains widths) ≡ true) × (widths_from (number + 1) statements domains (widths_after s domains widths) ≡ Ok final)
    by true narrow is = (narrow, is)
    by false narrow is = absurd (cc)

-- ---- a life

last_plain : (statements : List Statement) (number : ℕ) (domains widths final : Bounds) → widths_from number statements domains widths ≡ Ok final
    → (point : List ℤ) → PointHeld point domains → (m : Moment) → Held m.cells widths → AreNarrow widths → ArePlain (last_moment point statements m).cells
last_plain [] number domains widths final is point inside m held narrow = held_plain m.cells widths held narrow
last_plain (s ∷ statements) number domains widths final is point inside m held narrow =
    let next = one_step number s statements domains widths final is in
    last_plain statements (number + 1) domains (widths_after s domains widths) final next.1 point inside (next_moment point s m) (held-after s m widths point domains held inside) (next_narrow s domains widths narrow next.0)

abbrev pub EndsPlain : List ℤ → Option Birth → Type 0
EndsPlain point None = Unit {0}
EndsPlain point (Some b) = ArePlain (last_moment point b.rest b.first).cells

born_plain : (point : List ℤ) (statements : List Statement) (got : Option Cells) (other : Option Birth) → ((cells : Cells) → got ≡ Some cells → ArePlain (last_moment point statements (first_moment cells)).cells) → EndsPlain point other → EndsPlain point (born_or got statements other)
born_plain point statements None other here rest = rest
born_plain point statements (Some cells) other here rest = here cells refl

inserted_plain : (width : ℕ) (statements : List Statement) (number : ℕ) (domains widths final : Bounds) → widths_from number statements domains widths ≡ Ok final
    → (point : List ℤ) → PointHeld point domains → width ≡ length widths → AreNarrow widths → (place : ℕ) → EndsPlain point (inserted_birth width point statements place)
inserted_plain width [] number domains widths final is point inside long narrow place = tt
inserted_plain width (Update sets filter ∷ statements) number domains widths final is point inside long narrow place =
    let s = Update sets filter in
    let next = one_step number s statements domains widths final is in
    inserted_plain width statements (number + 1) domains (widths_after s domains widths) final next.1 point inside (long ∙ sym (length-widths_after s domains widths)) (next_narrow s domains widths narrow next.0) place
inserted_plain width (Delete filter ∷ statements) number domains widths final is point inside long narrow place =
    let next = one_step number (Delete filter) statements domains widths final is in
    inserted_plain width statements (number + 1) domains widths final next.1 point inside long narrow place
inserted_plain width (Insert columns tuples ∷ statements) number domains widths final is point inside long narrow place =
    let s = Insert columns tuples in
    let after = widths_after s domains widths in
    let next = one_step number s statements domains widths final is in
    let narrow_after = next_narrow s domains widths narrow next.0 in
    let rest = inserted_plain width statements (number + 1) domains after final next.1 point inside (long ∙ sym (length-widths_after s domains widths)) narrow_after (place - length tuples) in
    let here : (cells : Cells) → slice_get (inserted_table width columns tuples point) place ≡ Some cells → ArePlain (last_moment point statements (first_moment cells)).cells =
    λ cells got. last_plain statements (number + 1) domains after final next.1 point inside (first_moment cells) (held-inserted width columns point domains inside tuples widths long place cells got) narrow_after in
    born_plain point statements (slice_get (inserted_table width columns tuples point) place) (inserted_birth width point statements (place - length tuples)) here rest

-- ---- the widths at the start

cell_plain : (cells : Cells) → AllByRecursion (λ cell. unsigned_abs (number_of cell) ≤ 2 ^ 50) cells → ArePlain cells
cell_plain [] h column = omega (arith, ints)
cell_plain (cell ∷ cells) h zero = h.0
cell_plain (cell ∷ cells) h (suc column) = cell_plain cells h.1 column

joined_small : (a b : Interval) → HasSmallEnds a → HasSmallEnds b → HasSmallEnds (joined a b)
joined_small a b h k = (omega (arith, ints, clamps, h.0, k.0), omega (arith, ints, clamps, h.1, k.1))

column_narrow : (column : ℕ) (table : List Cells) → IsPlainTable table → HasSmallEnds (column_interval column table)
column_narrow column [] h = (omega (arith, ints), omega (arith, ints))
column_narrow column (cells ∷ []) h = let own = cell_plain cells h.0 column in (own, own)
column_narrow column (cells ∷ next ∷ rows) h =
    let own = cell_plain cells h.0 column in
    let z = number_of (cell_at cells column) in
    joined_small (z, z) (column_interval column (next ∷ rows)) (own, own) (column_narrow column (next ∷ rows) h.1)

start_narrow : (first n : ℕ) (table : List Cells) → IsPlainTable table → AreNarrow (start_widths first n table)
start_narrow first zero table h column = (omega (arith, ints), omega (arith, ints))
start_narrow first (suc n) table h zero = column_narrow first table h
start_narrow first (suc n) table h (suc column) = start_narrow (first + 1) n table h column

-- ---- every row

pub ends_plain : (width : ℕ) (table : List Cells) (statements : List Statement) (domains final : Bounds) → RowsAre width table → IsPlainTable table → widths_of width table statements domains ≡ Ok final
    → (point : List ℤ) → PointHeld point domains → (row : RowName) → EndsPlain point (birth width table statements row point)
ends_plain width table statements domains final rows plain is point inside (Start k) =
    let start = start_widths 0 width table in
    born_plain point statements (slice_get table (k - 1)) None
    (λ cells got. last_plain statements 1 domains start final is point inside (first_moment cells) (held-start width table (k - 1) cells rows got) (start_narrow 0 width table plain))
    tt
ends_plain width table statements domains final rows plain is point inside (Inserted k) =
    inserted_plain width statements 1 domains (start_widths 0 width table) final is point inside (sym (length-start_widths 0 width table)) (start_narrow 0 width table plain) (k - 1)
