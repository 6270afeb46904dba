-- What a sound program and a sound table are, as the definitions of a row's circuit need it.
use Rattle.std.proofs.Common.{◌≡◌, ℕ, suc, zero, ◌+◌, ◌<◌, ◌≤◌, ◌^◌, List, [], ◌∷◌, ◌++◌, length, map, slice_get, slice_index_or, unsigned_abs, arith, refl, ap, inl, inr}
use Rattle.std.specs.declared.option.Option.{Option}
use Rattle.std.specs.declared.option.Option.TheVariants.{Some, None}
use Rattle.std.specs.List.{AllByRecursion, flat_map}
use Rattle.std.proofs.lemmas.Int.{ints}
use Rattle.std.proofs.lemmas.Bool.{cases_eq}
use Rattle.std.proofs.lemmas.List.{length-map}
use Rattle.std.proofs.lemmas.List.Concat.{flat_map-append}
use Rattle.std.proofs.lemmas.Option.{get_or_from_slice_get}
use Rattle.qf_ir.specs.declared.ast.Atom.{Atom}
use Rattle.qf_ir.specs.declared.ast.Atom.TheVariants.{Column, Param}
use Rattle.qf_ir.specs.declared.ast.Term.{Term}
use Rattle.qf_ir.specs.declared.ast.Expr.{Expr}
use Rattle.qf_ir.specs.declared.ast.Expr.TheVariants.{Sum, Word}
use Rattle.qf_ir.specs.declared.ast.Cond.{Cond, Row_of-Cond, end_of-Cond, more_of-Cond}
use Rattle.qf_ir.specs.declared.ast.Cond.TheVariants.{Compare, Between, Within, All', Any', Not'}
use Rattle.qf_ir.specs.declared.ast.Statement.{Statement}
use Rattle.qf_ir.specs.declared.ast.Statement.TheVariants.{Update, Delete, Insert}
use Rattle.qf_ir.specs.declared.cell.Cell.{Cell}
use Rattle.qf_ir.specs.declared.cell.Cell.TheVariants as cell
use Rattle.qf_ir.specs.declared.table.Column.{Column as TableColumn}
use Rattle.qf_ir.specs.declared.table.ColumnKind.{ColumnKind}
use Rattle.qf_ir.specs.declared.table.ColumnKind.TheVariants as kind
use Rattle.qf_ir.specs.declared.table.Table.{Table}
use Rattle.qf_ir.specs.Made.{FactorFits, IsMade, HasFewTerms}
use Rattle.qf_ir.specs.Parts.{terms_of, tests_of, tests_of_parts, exprs_in, where_of, values_of, statement_tests, items_of, exprs_of, all_exprs}
use Rattle.qf_ir.specs.Plan.{Plan, IsSound, Belongs, scope_of}
use Rattle.qf_ir.specs.Replay.{place_of}
use Rattle.qf_ir.specs.Tables.{CellIs, CellsAre, IsSoundTable}
use Rattle.qf_ir.specs.Typed.{Scope, HasKind, AllOfKind, IsTyped, AreTyped, WhereTyped, Fits, SetsTyped, ColumnsFilled, TuplesTyped, StatementTyped, StatementsTyped}
use Rattle.qf_ir.specs.Value.{Cells, number_of}
use Rattle.qf_encode.specs.Lives.{RowsIn}
use Rattle.qf_system.specs.PlainLogs.{IsPlainLog}
use Rattle.qf_system.specs.WidthsKept.{IsPlainExpr, ArePlain, IsPlainCond, ArePlainConds, IsPlainFilter, ArePlainSets, IsPlainTuple, IsPlainStatement, ArePlainStatements, IsPlainTable}
use Rattle.qf_encode.proofs.Typing.{statements_in}

-- ---- sums

abbrev HasPlainTerms : Expr → Type 0
HasPlainTerms e = HasFewTerms e × AllByRecursion (λ (t : Term). unsigned_abs t.factor ≤ 1000000) (terms_of e)

factor_plain : (t : Term) (atom : Atom) → FactorFits t.factor atom → unsigned_abs t.factor ≤ 1000000
factor_plain t (Column c) h = h
factor_plain t (Param k) (inl e) = rw e (omega (arith, ints))
factor_plain t (Param k) (inr e) = rw e (omega (arith, ints))

factors_plain : (ts : List Term) → AllByRecursion (λ (t : Term). FactorFits t.factor t.atom) ts → AllByRecursion (λ (t : Term). unsigned_abs t.factor ≤ 1000000) ts
factors_plain [] h = tt
factors_plain (t ∷ ts) h = (factor_plain t t.atom h.0, factors_plain ts h.1)

terms_plain : (e : Expr) → HasFewTerms e → IsMade e → HasPlainTerms e
terms_plain (Sum ts) few made = (few, factors_plain ts made.1)
terms_plain (Word code) few made = (few, tt)

all_terms_plain : (es : List Expr) → AllByRecursion HasFewTerms es → AllByRecursion IsMade es → AllByRecursion HasPlainTerms es
all_terms_plain [] few made = tt
all_terms_plain (e ∷ es) few made = (terms_plain e few.0 made.0, all_terms_plain es few.1 made.1)

halves : {X : Type 0} (P : X → Type 0) (xs ys : List X) → AllByRecursion P (xs ++ ys) → AllByRecursion P xs × AllByRecursion P ys
halves P [] ys h = (tt, h)
halves P (x ∷ xs) ys h = let more = halves P xs ys h.1 in ((h.0, more.0), more.1)

-- ---- texts

abbrev HasPlainCode : Expr → Type 0
HasPlainCode (Sum terms) = Unit {0}
HasPlainCode (Word code) = code < 2 ^ 32

plain_from : (e : Expr) → HasPlainTerms e → HasPlainCode e → IsPlainExpr e
plain_from (Sum ts) h k = h
plain_from (Word code) h k = k

all_plain_from : (es : List Expr) → AllByRecursion HasPlainTerms es → AllByRecursion HasPlainCode es → ArePlain es
all_plain_from [] h k = tt
all_plain_from (e ∷ es) h k = (plain_from e h.0 k.0, all_plain_from es h.1 k.1)

module _ (scope : Scope) (few : scope.texts < 2 ^ 32) where
  kind_code : (k : ColumnKind) (e : Expr) → HasKind scope k e → HasPlainCode e
  kind_code kind.Int (Sum ts) h = tt
  kind_code kind.Int (Word code) h = absurd h
  kind_code kind.Text (Sum ts) h = tt
  kind_code kind.Text (Word code) h = omega (arith, h, few)

  kind_codes : (k : ColumnKind) (es : List Expr) → AllOfKind scope k es → AllByRecursion HasPlainCode es
  kind_codes k [] h = tt
  kind_codes k (e ∷ es) h = (kind_code k e h.0, kind_codes k es h.1)

  -- ---- conditions

  mutual
    cond_plain : (c : Cond) → IsTyped scope c → AllByRecursion HasPlainTerms (flat_map exprs_in (tests_of c)) → IsPlainCond c
    cond_plain (Compare op l r) (inl t) h = (plain_from l h.0 (kind_code kind.Int l t.0), plain_from r h.1.0 (kind_code kind.Int r t.1.0))
    cond_plain (Compare op l r) (inr t) h = (plain_from l h.0 (kind_code kind.Text l t.1.0), plain_from r h.1.0 (kind_code kind.Text r t.1.1.0))
    cond_plain (Between x lo hi) t h = (plain_from x h.0 (kind_code kind.Int x t.0), (plain_from lo h.1.0 (kind_code kind.Int lo t.1.0), plain_from hi h.1.1.0 (kind_code kind.Int hi t.1.1.0)))
    cond_plain (Within x items) (inl t) h =
        (plain_from x h.0 (kind_code kind.Int x t.0), all_plain_from items (halves HasPlainTerms items [] h.1).0 (kind_codes kind.Int items t.1))
    cond_plain (Within x items) (inr t) h =
        (plain_from x h.0 (kind_code kind.Text x t.0), all_plain_from items (halves HasPlainTerms items [] h.1).0 (kind_codes kind.Text items t.1))
    cond_plain (All' shape parts) t h = conds_plain parts t h
    cond_plain (Any' shape parts) t h = conds_plain parts t h
    cond_plain (Not' shape part) t h = conds_plain part t h

    conds_plain : {m : _} → (parts : Row_of-Cond m) → AreTyped scope parts → AllByRecursion HasPlainTerms (flat_map exprs_in (tests_of_parts parts)) → ArePlainConds parts
    conds_plain end_of-Cond t h = tt
    conds_plain (more_of-Cond part rest) t h =
        let e = flat_map-append exprs_in (tests_of part) (tests_of_parts rest) in
        let parts = halves HasPlainTerms (flat_map exprs_in (tests_of part)) (flat_map exprs_in (tests_of_parts rest)) (rw e at h) in
        (cond_plain part t.0 parts.0, conds_plain rest t.1 parts.1)

  filter_plain : (where_ : Option Cond) → WhereTyped scope where_ → AllByRecursion HasPlainTerms (flat_map exprs_in (flat_map tests_of (where_of where_))) → IsPlainFilter where_
  filter_plain None t h = tt
  filter_plain (Some c) t h =
      let e = flat_map-append exprs_in (tests_of c) [] in
      cond_plain c t (halves HasPlainTerms (flat_map exprs_in (tests_of c)) [] (rw e at h)).0

  -- ---- statements

  fits_code : (o : Option ColumnKind) (e : Expr) → Fits scope o e → HasPlainCode e
  fits_code None e h = absurd h
  fits_code (Some k) e h = kind_code k e h

  sets_plain : (sets : List (ℕ × Expr)) → SetsTyped scope sets → AllByRecursion HasPlainTerms (map (λ (s : ℕ × Expr). s.1) sets) → ArePlainSets sets
  sets_plain [] t h = tt
  sets_plain (s ∷ sets) t h = (plain_from s.1 h.0 (fits_code (slice_get scope.kinds s.0) s.1 t.0), sets_plain sets t.2 h.1)

  terms_at : (items : List Expr) (i : ℕ) → AllByRecursion HasPlainTerms items → HasPlainTerms (slice_index_or items i (Word 0))
  terms_at [] i h = (omega arith, tt)
  terms_at (item ∷ items) zero h = h.0
  terms_at (item ∷ items) (suc i) h = terms_at items i h.1

  codes_from : (columns : List ℕ) (tuple : List Expr) (column : ℕ) (kinds : List ColumnKind) → ColumnsFilled scope columns tuple column kinds → (c : ℕ) → column ≤ c → c < column + length kinds → HasPlainCode (slice_index_or tuple (place_of columns c) (Word 0))
  codes_from columns tuple column [] h c low high = absurd (omega (arith, low, high))
  codes_from columns tuple column (k ∷ kinds) h c low high =
      elim (cases_eq c column) [
        | inl e ↦
            let item = h.0 in
            let same = get_or_from_slice_get tuple (place_of columns column) item.0 (Word 0) item.1 in
            rw (e, same) (kind_code k item.0 item.3)
        | inr ne ↦ codes_from columns tuple (column + 1) kinds h.1 c (omega (arith, low, above column c low ne)) (omega (arith, high))
      ]
    where
      above : (column c : ℕ) → column ≤ c → (c ≡ column → ⊥) → column + 1 ≤ c
      above zero zero low ne = absurd (ne refl)
      above zero (suc c) low ne = omega arith
      above (suc column) zero low ne = absurd (omega (arith, low))
      above (suc column) (suc c) low ne = omega (arith, above column c (omega (arith, low)) (λ e. ne (ap suc e)))

  tuples_plain : (columns : List ℕ) (tuples : List (List Expr)) → TuplesTyped scope columns tuples → AllByRecursion HasPlainTerms (flat_map (λ tuple. tuple) tuples) → AllByRecursion (IsPlainTuple (length scope.kinds) columns) tuples
  tuples_plain columns [] t h = tt
  tuples_plain columns (tuple ∷ tuples) t h =
      let parts = halves HasPlainTerms tuple (flat_map (λ (items : List Expr). items) tuples) h in (
        λ column inside. plain_from (slice_index_or tuple (place_of columns column) (Word 0)) (terms_at tuple (place_of columns column) parts.0) (codes_from columns tuple 0 scope.kinds t.0 column (omega arith) (omega (arith, inside))),
        tuples_plain columns tuples t.1 parts.1,
      )

  statement_plain : (s : Statement) → StatementTyped scope s → AllByRecursion HasPlainTerms (exprs_of s) → IsPlainStatement (length scope.kinds) s
  statement_plain (Update sets where_) t h =
      let s = Update sets where_ in
      let outer = halves HasPlainTerms (values_of s ++ flat_map exprs_in (statement_tests s)) (items_of s) h in
      let parts = halves HasPlainTerms (values_of s) (flat_map exprs_in (statement_tests s)) outer.0 in
      (sets_plain sets t.0 parts.0, filter_plain where_ t.1 parts.1)
  statement_plain (Delete where_) t h =
      let s = Delete where_ in
      let outer = halves HasPlainTerms (values_of s ++ flat_map exprs_in (statement_tests s)) (items_of s) h in
      filter_plain where_ t outer.0
  statement_plain (Insert columns tuples) t h = tuples_plain columns tuples t h

  statements_plain : (statements : List Statement) → StatementsTyped scope statements → AllByRecursion HasPlainTerms (all_exprs statements) → ArePlainStatements (length scope.kinds) statements
  statements_plain [] t h = tt
  statements_plain (s ∷ statements) t h =
      let parts = halves HasPlainTerms (exprs_of s) (all_exprs statements) h in
      (statement_plain s t.0 parts.0, statements_plain statements t.1 parts.1)

-- ---- tables

cell_plain : (k : ColumnKind) (texts : ℕ) (c : Cell) → texts < 2 ^ 30 → CellIs k texts c → unsigned_abs (number_of c) ≤ 2 ^ 50
cell_plain kind.Int texts (cell.Int z) few h = omega (arith, ints, h.low, h.high)
cell_plain kind.Int texts (cell.Text code) few h = absurd h
cell_plain kind.Text texts (cell.Int z) few h = absurd h
cell_plain kind.Text texts (cell.Text code) few h = omega (arith, ints, h, few)

cells_plain : (columns : List TableColumn) (texts : ℕ) (cells : Cells) → texts < 2 ^ 30 → CellsAre columns texts cells → AllByRecursion (λ c. unsigned_abs (number_of c) ≤ 2 ^ 50) cells
cells_plain [] texts [] few h = tt
cells_plain [] texts (c ∷ cells) few h = absurd h
cells_plain (column ∷ columns) texts [] few h = absurd h
cells_plain (column ∷ columns) texts (c ∷ cells) few h = (cell_plain column.kind texts c few h.0, cells_plain columns texts cells few h.1)

table_plain : (columns : List TableColumn) (texts : ℕ) (rows : List Cells) → texts < 2 ^ 30 → ((place : ℕ) (cells : Cells) → slice_get rows place ≡ Some cells → CellsAre columns texts cells) → IsPlainTable rows
table_plain columns texts [] few h = tt
table_plain columns texts (cells ∷ rows) few h = (cells_plain columns texts cells few (h 0 cells refl), table_plain columns texts rows few (λ place other e. h (suc place) other e))

rows_in : (width : ℕ) (rows : List Cells) → ((place : ℕ) (cells : Cells) → slice_get rows place ≡ Some cells → length cells ≡ width) → RowsIn width rows
rows_in width [] h = tt
rows_in width (cells ∷ rows) h = (h 0 cells refl, rows_in width rows (λ place other e. h (suc place) other e))

pub sound_plain : (plan : Plan) (table : Table) → IsSound plan → IsSoundTable table → Belongs plan table → IsPlainLog plan table
sound_plain plan table sound good belongs =
    let scope = scope_of plan in
    let wide : length scope.kinds ≡ length plan.columns = length-map plan.columns (λ (c : TableColumn). c.kind) in
    let names = statements_in scope plan.statements sound.typed in
    let plain = statements_plain scope sound.few_texts plan.statements sound.typed (all_terms_plain (all_exprs plan.statements) sound.few_terms sound.made.exprs) in
    record {
      rows = rows_in (length plan.columns) table.rows belongs.rows.each;
      cells = table_plain table.columns (length table.texts) table.rows good.few_texts good.rows;
      names = rw wide at names;
      statements = rw wide at plain;
    }
