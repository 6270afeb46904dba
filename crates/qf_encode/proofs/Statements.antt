-- Statement by statement, the definitions of a row follow its life.
use Rattle.std.proofs.Common.{◌≡◌, ℕ, suc, zero, ◌+◌, ◌<◌, Bool, true, false, cond, not, ◌&&◌, List, [], ◌∷◌, ◌++◌, length, map, slice_index_or, slice_set, ℤ, pos, ◌+ℤ◌, arith, refl, sym, ap, ◌∙◌, inl, inr, get_or-set_same, get_or-set_other, length-set, length-append, append_assoc, unwrap_or}
use Rattle.std.specs.declared.option.Option.TheVariants.{Some, None}
use Rattle.std.specs.Ordering.{int_eq}
use Rattle.std.proofs.lemmas.Int.{ints}
use Rattle.std.proofs.lemmas.Bool.{cases_eq}
use Rattle.qf_base.specs.Values.{value_of_var}
use Rattle.qf_base.proofs.Integers.{int_eq_true}
use Rattle.qf_circuit.specs.declared.circuit.Def.{Def}
use Rattle.qf_circuit.specs.declared.circuit.Def.TheVariants as def
use Rattle.qf_circuit.specs.Circuits.{truth, is_set, eval}
use Rattle.qf_ir.specs.declared.cell.Cell.{Cell}
use Rattle.qf_ir.specs.declared.cell.Cell.TheVariants.{Int}
use Rattle.qf_ir.specs.declared.ast.Atom.{Atom}
use Rattle.qf_ir.specs.declared.ast.Atom.TheVariants.{Column, Param}
use Rattle.qf_ir.specs.declared.ast.Term.{Term}
use Rattle.qf_ir.specs.declared.ast.Expr.{Expr}
use Rattle.qf_ir.specs.declared.ast.Expr.TheVariants.{Sum, Word}
use Rattle.qf_ir.specs.declared.ast.Statement.{Statement}
use Rattle.qf_ir.specs.declared.ast.Statement.TheVariants.{Update, Delete, Insert}
use Rattle.qf_ir.specs.Value.{Cells, number_of, cell_at, term_value, value, cell_value, column_cell, holds}
use Rattle.qf_ir.specs.Replay.{with_sets}
use Rattle.qf_ir.specs.Life.{Moment, next_moment, last_moment, first_moment}
use Rattle.qf_encode.specs.declared.coded.Coded.{Coded}
use Rattle.qf_encode.specs.Coding.{Defs, made_value, made_values, made_choices, made_cond, made_not, with_columns, coded_after, coded, numbers_from, start_coding}
use Rattle.qf_encode.specs.Lives.{ExprIn, SetsIn, StatementIn, StatementsIn, CodesMoment}
use Rattle.qf_encode.proofs.Extending.{Later, later_itself, later_made, later_trans, Codes, codes_later, codes_made}
use Rattle.qf_encode.proofs.Following.{ColumnsCode, columns_later, Makes, made_sum_makes, made_cond_makes, made_not_makes, is_set_truth, two_all}

-- ---- a cell counts as its expression's value

one_cell : (flag : Bool) (t : Term) (cells : Cells) (point : List ℤ) → int_eq t.factor (pos 1) ≡ flag → number_of (unwrap_or (cond flag (column_cell t.atom cells) None) (Int (term_value t cells point +ℤ pos 0))) ≡ (term_value t cells point +ℤ pos 0)
one_cell true t cells point e = by t.atom refl
  where
    by : (atom : Atom) → t.atom ≡ atom → number_of (unwrap_or (column_cell atom cells) (Int (term_value t cells point +ℤ pos 0))) ≡ (term_value t cells point +ℤ pos 0)
    by (Column c) a = let f = int_eq_true t.factor (pos 1) e in rw (f, a) (omega (arith, ints))
    by (Param k) a = refl
one_cell false t cells point e = refl

pub cell_number : (e : Expr) (cells : Cells) (point : List ℤ) → number_of (cell_value e cells point) ≡ value e cells point
cell_number (Word code) cells point = refl
cell_number (Sum []) cells point = refl
cell_number (Sum (t ∷ [])) cells point = one_cell (int_eq t.factor (pos 1)) t cells point refl
cell_number (Sum (t ∷ u ∷ ts)) cells point = refl

-- ---- columns that are put

put_columns : (point : List ℤ) (defs : Defs) (cells : Cells) (columns : List ℕ) (k n : ℕ) (cell : Cell) → k < length cells → length columns ≡ length cells → ColumnsCode point cells columns defs → Codes point defs n (number_of cell) → ColumnsCode point (slice_set cells k cell) (slice_set columns k n) defs
put_columns point defs cells columns k n cell inside same h own = λ c within.
    elim (cases_eq c k) [
      | inl e ↦
          let a = get_or-set_same cells k cell (Int (pos 0)) inside in
          let b = get_or-set_same columns k n 0 (omega (arith, inside, same)) in
          rw (e, a, b) own
      | inr ne ↦
          let a = get_or-set_other cells k c cell (Int (pos 0)) ne in
          let b = get_or-set_other columns k c n 0 ne in
          rw (a, b) (h c (omega (arith, within, length-set cells k cell)))
    ]

keep_columns : (point : List ℤ) (defs : Defs) (cells : Cells) (columns : List ℕ) (k n : ℕ) → k < length cells → length columns ≡ length cells → ColumnsCode point cells columns defs → Codes point defs n (number_of (cell_at cells k)) → ColumnsCode point cells (slice_set columns k n) defs
keep_columns point defs cells columns k n inside same h own = λ c within.
    elim (cases_eq c k) [
      | inl e ↦ let b = get_or-set_same columns k n 0 (omega (arith, inside, same)) in rw (e, b) own
      | inr ne ↦ let b = get_or-set_other columns k c n 0 ne in rw b (h c within)
    ]

-- definitions with these numbers
abbrev pub CodeNumbers : List ℤ → Defs → List ℕ → List ℤ → Type 0
CodeNumbers point defs [] [] = Unit {0}
CodeNumbers point defs (n ∷ ns) (z ∷ zs) = Codes point defs n z × CodeNumbers point defs ns zs
CodeNumbers point defs [] (z ∷ zs) = ⊥
CodeNumbers point defs (n ∷ ns) [] = ⊥

pub numbers_later : (point : List ℤ) (a b : Defs) (ns : List ℕ) (zs : List ℤ) → Later a b → CodeNumbers point a ns zs → CodeNumbers point b ns zs
numbers_later point a b [] [] l h = tt
numbers_later point a b [] (z ∷ zs) l h = h
numbers_later point a b (n ∷ ns) [] l h = h
numbers_later point a b (n ∷ ns) (z ∷ zs) l h = (codes_later point a b n z l h.0, numbers_later point a b ns zs l h.1)

-- ---- what columns are set to

module _ (point : List ℤ) (before : Cells) (columns : List ℕ) where
  pub value_makes : (defs : Defs) (e : Expr) → ColumnsCode point before columns defs → ExprIn (length before) e → Makes point before columns defs (made_value columns defs e) (value e before point)
  value_makes defs (Sum ts) h i =
      let m = made_sum_makes point before columns defs ts (pos 0) h i in
      (m.0, (m.1.0, m.1.1, m.1.2 ∙ omega (arith, ints)))
  value_makes defs (Word code) h i = (later_made defs (def.Const (pos code)), codes_made point defs (def.Const (pos code)))

  abbrev pub new_numbers : List (ℕ × Expr) → List ℤ
  new_numbers sets = map (λ s. value s.1 before point) sets

  pub values_make : (defs : Defs) (sets : List (ℕ × Expr)) → ColumnsCode point before columns defs → SetsIn (length before) sets → Later defs (made_values columns defs sets).0 × CodeNumbers point (made_values columns defs sets).0 (made_values columns defs sets).1 (new_numbers sets)
  values_make defs [] h i = (later_itself defs, tt)
  values_make defs (s ∷ sets) h i =
      let m = made_value columns defs s.1 in
      let one = value_makes defs s.1 h i.1.0 in
      let rest = made_values columns m.0 sets in
      let more = values_make m.0 sets (columns_later point before columns defs m.0 one.0 h) i.1.1 in
      (later_trans defs m.0 rest.0 one.0 more.0, (codes_later point m.0 rest.0 m.1 (value s.1 before point) more.0 one.1, more.1))

  abbrev pub chosen_numbers : Bool → List (ℕ × Expr) → List ℤ
  chosen_numbers b sets = map (λ s. cond b (value s.1 before point) (number_of (cell_at before s.0))) sets

  pub choices_make : (b : Bool) (w : ℕ) (defs : Defs) (sets : List (ℕ × Expr)) (news : List ℕ) → ColumnsCode point before columns defs → SetsIn (length before) sets → Codes point defs w (truth b) → CodeNumbers point defs news (new_numbers sets) → Later defs (made_choices columns w defs sets news).0 × CodeNumbers point (made_choices columns w defs sets news).0 (made_choices columns w defs sets news).1 (chosen_numbers b sets)
  choices_make b w defs [] [] h i t n = (later_itself defs, tt)
  choices_make b w defs [] (new ∷ news) h i t n = absurd n
  choices_make b w defs (s ∷ sets) [] h i t n = absurd n
  choices_make b w defs (s ∷ sets) (new ∷ news) h i t n =
      let d : Def = def.Choose w new (slice_index_or columns s.0 0) in
      let after = defs ++ d ∷ [] in
      let l = later_made defs d in
      let own = codes_made point defs d in
      let e1 = t.2 in
      let e2 = n.0.2 in
      let e3 = (h s.0 i.0).2 in
      let said : cond (is_set (value_of_var (eval point defs) w)) (value_of_var (eval point defs) new) (value_of_var (eval point defs) (slice_index_or columns s.0 0)) ≡ cond b (value s.1 before point) (number_of (cell_at before s.0)) =
      rw (e1, e2, e3, is_set_truth b) refl in
      let one : Codes point after (length defs + 1) (cond b (value s.1 before point) (number_of (cell_at before s.0))) = (own.0, own.1, own.2 ∙ said) in
      let rest = made_choices columns w after sets news in
      let more = choices_make b w after sets news (columns_later point before columns defs after l h) i.1.1 (codes_later point defs after w (truth b) l t) (numbers_later point defs after news (new_numbers sets) l n.1) in
      (later_trans defs after rest.0 l more.0, (codes_later point after rest.0 (length defs + 1) (cond b (value s.1 before point) (number_of (cell_at before s.0))) more.0 one, more.1))

-- the columns after the assignments, where the definitions have the new values
sets_done : (point : List ℤ) (before : Cells) (defs : Defs) (sets : List (ℕ × Expr)) (news : List ℕ) (cells : Cells) (columns : List ℕ) → SetsIn (length cells) sets → length columns ≡ length cells → ColumnsCode point cells columns defs → CodeNumbers point defs news (map (λ s. value s.1 before point) sets) → (length (with_columns columns sets news) ≡ length (with_sets sets before point cells)) × ColumnsCode point (with_sets sets before point cells) (with_columns columns sets news) defs
sets_done point before defs [] [] cells columns i same h n = (same, h)
sets_done point before defs [] (new ∷ news) cells columns i same h n = absurd n
sets_done point before defs (s ∷ sets) [] cells columns i same h n = absurd n
sets_done point before defs (s ∷ sets) (new ∷ news) cells columns i same h n =
    let cell = cell_value s.1 before point in
    let own : Codes point defs new (number_of cell) = (n.0.0, n.0.1, n.0.2 ∙ sym (cell_number s.1 before point)) in
    let width = length-set cells s.0 cell in
    sets_done point before defs sets news (slice_set cells s.0 cell) (slice_set columns s.0 new) (rw width i.1.1) (omega (arith, same, width, length-set columns s.0 new)) (put_columns point defs cells columns s.0 new cell i.0 same h own) n.1

-- .. and where they have the old ones
sets_kept : (point : List ℤ) (defs : Defs) (sets : List (ℕ × Expr)) (news : List ℕ) (cells : Cells) (columns : List ℕ) → SetsIn (length cells) sets → length columns ≡ length cells → ColumnsCode point cells columns defs → CodeNumbers point defs news (map (λ s. number_of (cell_at cells s.0)) sets) → (length (with_columns columns sets news) ≡ length cells) × ColumnsCode point cells (with_columns columns sets news) defs
sets_kept point defs [] [] cells columns i same h n = (same, h)
sets_kept point defs [] (new ∷ news) cells columns i same h n = absurd n
sets_kept point defs (s ∷ sets) [] cells columns i same h n = absurd n
sets_kept point defs (s ∷ sets) (new ∷ news) cells columns i same h n =
    sets_kept point defs sets news cells (slice_set columns s.0 new) i.1.1 (omega (arith, same, length-set columns s.0 new)) (keep_columns point defs cells columns s.0 new i.0 same h n.0) n.1

-- ---- statements

pub record Follows (point : List ℤ) (c : Coded) (m : Moment) : Type 0 where
  pub same_length : length c.columns ≡ length m.cells
  pub cells : ColumnsCode point m.cells c.columns c.circuit
  pub live : Codes point c.circuit c.live (truth m.live)

update_by : (point : List ℤ) (b live : Bool) (cells : Cells) (defs : Defs) (columns : List ℕ) (number : ℕ) (sets : List (ℕ × Expr)) (chosen : List ℕ) → SetsIn (length cells) sets → length columns ≡ length cells → ColumnsCode point cells columns defs → Codes point defs number (truth live) → CodeNumbers point defs chosen (chosen_numbers point cells columns b sets) → Follows point (record { circuit = defs; columns = with_columns columns sets chosen; live = number }) (record { cells = cond b (with_sets sets cells point cells) cells; live = live })
update_by point true live cells defs columns number sets chosen i same h l n =
    let done = sets_done point cells defs sets chosen cells columns i same h n in
    record { same_length = done.0; cells = done.1; live = l }
update_by point false live cells defs columns number sets chosen i same h l n =
    let kept = sets_kept point defs sets chosen cells columns i same h n in
    record { same_length = kept.0; cells = kept.1; live = l }

pub step_follows : (point : List ℤ) (s : Statement) (c : Coded) (m : Moment) → StatementIn (length m.cells) s → Follows point c m → Follows point (coded_after s c) (next_moment point s m)
step_follows point (Update sets None) c m i f =
    let news = values_make point m.cells c.columns c.circuit sets f.cells i.0 in
    let made = made_values c.columns c.circuit sets in
    update_by point true m.live m.cells made.0 c.columns c.live sets made.1 i.0 f.same_length (columns_later point m.cells c.columns c.circuit made.0 news.0 f.cells) (codes_later point c.circuit made.0 c.live (truth m.live) news.0 f.live) news.1
step_follows point (Update sets (Some filter)) c m i f =
    let test = made_cond c.columns c.circuit filter in
    let b = holds filter m.cells point in
    let one = made_cond_makes point m.cells c.columns c.circuit filter f.cells i.1 in
    let cells1 = columns_later point m.cells c.columns c.circuit test.0 one.0 f.cells in
    let made = made_values c.columns test.0 sets in
    let news = values_make point m.cells c.columns test.0 sets cells1 i.0 in
    let cells2 = columns_later point m.cells c.columns test.0 made.0 news.0 cells1 in
    let chosen = made_choices c.columns test.1 made.0 sets made.1 in
    let choices = choices_make point m.cells c.columns b test.1 made.0 sets made.1 cells2 i.0 (codes_later point test.0 made.0 test.1 (truth b) news.0 one.1) news.1 in
    let cells3 = columns_later point m.cells c.columns made.0 chosen.0 choices.0 cells2 in
    let later = later_trans c.circuit made.0 chosen.0 (later_trans c.circuit test.0 made.0 one.0 news.0) choices.0 in
    update_by point b m.live m.cells chosen.0 c.columns c.live sets chosen.1 i.0 f.same_length cells3 (codes_later point c.circuit chosen.0 c.live (truth m.live) later f.live) choices.1
step_follows point (Delete None) c m i f =
    let d : Def = def.Const (pos 0) in
    let none : (m.live && false) ≡ false = and_false m.live in
    record { same_length = f.same_length; cells = columns_later point m.cells c.columns c.circuit (c.circuit ++ d ∷ []) (later_made c.circuit d) f.cells; live = rw none (codes_made point c.circuit d) }
  where
    and_false : (b : Bool) → (b && false) ≡ false
    and_false true = refl
    and_false false = refl
step_follows point (Delete (Some filter)) c m i f =
    let b = holds filter m.cells point in
    let kept = made_not (made_cond c.columns c.circuit filter) in
    let one = made_not_makes point m.cells c.columns c.circuit (made_cond c.columns c.circuit filter) b (made_cond_makes point m.cells c.columns c.circuit filter f.cells i) in
    let d : Def = def.All (c.live ∷ kept.1 ∷ []) in
    let own = codes_made point kept.0 d in
    let first = (codes_later point c.circuit kept.0 c.live (truth m.live) one.0 f.live).2 in
    let second = one.1.2 in
    let said : truth (is_set (value_of_var (eval point kept.0) c.live) && (is_set (value_of_var (eval point kept.0) kept.1) && true)) ≡ truth (m.live && not b) =
    rw (first, second, is_set_truth m.live, is_set_truth (not b), two_all m.live (not b)) refl in
    record {
      same_length = f.same_length;
      cells = columns_later point m.cells c.columns c.circuit (kept.0 ++ d ∷ []) (later_trans c.circuit kept.0 (kept.0 ++ d ∷ []) one.0 (later_made kept.0 d)) f.cells;
      live = (own.0, own.1, own.2 ∙ said);
    }
step_follows point (Insert columns tuples) c m i f = f

columns_width : (sets : List (ℕ × Expr)) (columns news : List ℕ) → length (with_columns columns sets news) ≡ length columns
columns_width [] columns news = refl
columns_width (s ∷ sets) columns [] = refl
columns_width (s ∷ sets) columns (new ∷ news) = columns_width sets (slice_set columns s.0 new) news ∙ length-set columns s.0 new

pub coding_width : (s : Statement) (c : Coded) → length (coded_after s c).columns ≡ length c.columns
coding_width (Update sets None) c = columns_width sets c.columns (made_values c.columns c.circuit sets).1
coding_width (Update sets (Some filter)) c =
    let test = made_cond c.columns c.circuit filter in
    let news = made_values c.columns test.0 sets in
    columns_width sets c.columns (made_choices c.columns test.1 news.0 sets news.1).1
coding_width (Delete None) c = refl
coding_width (Delete (Some filter)) c = refl
coding_width (Insert columns tuples) c = refl

pub coded_follows : (point : List ℤ) (statements : List Statement) (c : Coded) (m : Moment) → StatementsIn (length m.cells) statements → Follows point c m → Follows point (coded statements c) (last_moment point statements m)
coded_follows point [] c m i f = f
coded_follows point (s ∷ statements) c m i f =
    let next = step_follows point s c m i.0 f in
    let width : length (next_moment point s m).cells ≡ length m.cells = sym next.same_length ∙ coding_width s c ∙ f.same_length in
    coded_follows point statements (coded_after s c) (next_moment point s m) (rw width i.1) next

-- ---- the start

abbrev pub consts : Cells → Defs
consts cells = map (λ cell. def.Const (number_of cell)) cells

numbers_length : (first : ℕ) (cells : Cells) → length (numbers_from first cells) ≡ length cells
numbers_length first [] = refl
numbers_length first (cell ∷ cells) = ap suc (numbers_length (first + 1) cells)

numbers_code : (point : List ℤ) (done : Defs) (cells : Cells) (c : ℕ) → c < length cells → Codes point (done ++ consts cells) (slice_index_or (numbers_from (length done + 1) cells) c 0) (number_of (cell_at cells c))
numbers_code point done [] c inside = absurd (omega (arith, inside))
numbers_code point done (cell ∷ cells) zero inside =
    let d : Def = def.Const (number_of cell) in
    let assoc : (done ++ d ∷ []) ++ consts cells ≡ done ++ d ∷ consts cells = append_assoc done (d ∷ []) (consts cells) in
    codes_later point (done ++ d ∷ []) (done ++ d ∷ consts cells) (length done + 1) (number_of cell) (consts cells, sym assoc) (codes_made point done d)
numbers_code point done (cell ∷ cells) (suc k) inside =
    let d : Def = def.Const (number_of cell) in
    let assoc : (done ++ d ∷ []) ++ consts cells ≡ done ++ d ∷ consts cells = append_assoc done (d ∷ []) (consts cells) in
    let next : length (done ++ d ∷ []) ≡ length done + 1 = length-append done (d ∷ []) in
    rw (next, assoc) at (numbers_code point (done ++ d ∷ []) cells k (omega (arith, inside)))

pub start_follows : (point : List ℤ) (cells : Cells) → Follows point (start_coding cells) (first_moment cells)
start_follows point cells = record {
  same_length = numbers_length 1 cells;
  cells = λ c inside. codes_later point (consts cells) (consts cells ++ def.Const (pos 1) ∷ []) (slice_index_or (numbers_from 1 cells) c 0) (number_of (cell_at cells c)) (later_made (consts cells) (def.Const (pos 1))) (numbers_code point [] cells c inside);
  live = codes_made point (consts cells) (def.Const (pos 1));
}

pub circuit_follows : (point : List ℤ) (cells : Cells) (statements : List Statement) → StatementsIn (length cells) statements → CodesMoment point (coded statements (start_coding cells)) (last_moment point statements (first_moment cells))
circuit_follows point cells statements i =
    let f = coded_follows point statements (start_coding cells) (first_moment cells) i (start_follows point cells) in
    record { same_length = f.same_length; cells = λ c inside. (f.cells c inside).2; live = f.live.2 }
