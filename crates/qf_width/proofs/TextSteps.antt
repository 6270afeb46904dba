-- The intervals of texts have codes for ends, over each statement.
use Rattle.std.specs.Prelude.{◌≡◌, ℕ, zero, suc, ◌+◌, ◌≤◌, ◌^◌, ℤ, pos, negsuc, ◌*ℤ◌, ◌≤ℤ◌, ◌&&◌, Bool, true, List, [], ◌∷◌, slice_get, slice_index_or, slice_set}
use Rattle.std.specs.declared.option.Option.{Option}
use Rattle.std.specs.declared.option.Option.TheVariants.{Some, None}
use Rattle.std.specs.List.{list_all}
use Rattle.std.proofs.Common.{refl, ap, sym, ◌∙◌, subst, arith}
use Rattle.std.proofs.lemmas.Int.{ints, clamps}
use Rattle.std.proofs.lemmas.Bool.Decides.{nat_tests}
use Rattle.std.proofs.lemmas.List.Folds.{list_all-append}
use Rattle.std.proofs.lemmas.Option.{get_or_from_slice_get}
use Rattle.std.proofs.Math.IntN.{*ℤ_comm, *ℤ-one}
use Rattle.qf_base.specs.Values.{Interval, Bounds, interval_at, IsIn}
use Rattle.qf_ir.specs.declared.ast.Atom.{Atom}
use Rattle.qf_ir.specs.declared.ast.Atom.TheVariants.{Column, Param}
use Rattle.qf_ir.specs.declared.ast.Term.{Term}
use Rattle.qf_ir.specs.declared.ast.Cond.{Cond}
use Rattle.qf_ir.specs.declared.ast.Expr.{Expr}
use Rattle.qf_ir.specs.declared.ast.Expr.TheVariants.{Sum, Word}
use Rattle.qf_ir.specs.declared.ast.Statement.{Statement}
use Rattle.qf_ir.specs.declared.ast.Statement.TheVariants.{Update, Delete, Insert}
use Rattle.qf_ir.specs.declared.table.ColumnKind.{ColumnKind}
use Rattle.qf_ir.specs.declared.table.ColumnKind.TheVariants as kind
use Rattle.qf_ir.specs.Value.{Cells, number_of, cell_at}
use Rattle.qf_ir.specs.Replay.{place_of}
use Rattle.qf_ir.specs.Typed.{Scope, IsTextColumn, IsText, ItemFits, SetsTyped, ColumnsFilled, TuplesTyped, StatementTyped}
use Rattle.qf_ir.specs.Typed as kinds
use Rattle.qf_ir.specs.Width.{nothing_yet, plus, minus, scaled, joined, is_small, is_narrow, atom_interval, term_interval, expr_interval, expr_steps, difference_steps, stored, sets_widths, tuple_widths, tuples_widths, widths_after, column_interval, start_widths}
use Rattle.qf_width.specs.TextWidths.{HasCodes, TextsHaveCodes, CellsAreCodes, TextsAreNarrow}

small : (z : ℤ) → pos 0 ≤ℤ z → z ≤ℤ pos (2 ^ 50) → is_small z ≡ true
small (pos n) low high = let le : n ≤ 2 ^ 50 = omega (arith, ints) in grind (arith, nat_tests)
small (negsuc n) low high = absurd (omega (arith, ints))

small_below : (z : ℤ) → negsuc (2 ^ 49) ≤ℤ z → z ≤ℤ pos (2 ^ 50) → is_small z ≡ true
small_below (pos n) low high = let le : n ≤ 2 ^ 50 = omega (arith, ints) in grind (arith, nat_tests)
small_below (negsuc n) low high = let le : suc n ≤ 2 ^ 50 = omega (arith, ints) in grind (arith, nat_tests)

and-true : (a b : Bool) → a ≡ true → b ≡ true → (a && b) ≡ true
and-true a b h k = ap (λ x. x && b) h ∙ k

codes-narrow : (texts : ℕ) (i : Interval) → texts ≤ 2 ^ 49 → HasCodes texts i → is_narrow i ≡ true
codes-narrow texts i few codes =
    and-true (is_small i.0) (is_small i.1)
    (small i.0 codes.0.0 (omega (arith, ints, codes.0.1))) (small i.1 codes.1.0 (omega (arith, ints, codes.1.1)))

differ-narrow : (texts : ℕ) (i j : Interval) → texts ≤ 2 ^ 49 → HasCodes texts i → HasCodes texts j → is_narrow (minus i j) ≡ true
differ-narrow texts i j few left right =
    and-true (is_small (minus i j).0) (is_small (minus i j).1)
    (small_below (minus i j).0 (omega (arith, ints, left.0.0, right.1.1)) (omega (arith, ints, left.0.1, right.1.0)))
    (small_below (minus i j).1 (omega (arith, ints, left.1.0, right.0.1)) (omega (arith, ints, left.1.1, right.0.0)))

codes-joined : (texts : ℕ) (i j : Interval) → HasCodes texts i → HasCodes texts j → HasCodes texts (joined i j)
codes-joined texts i j left right = (
  (omega (arith, ints, clamps, left.0.0, right.0.0), omega (arith, ints, clamps, left.0.1, right.0.1)),
  (omega (arith, ints, clamps, left.1.0, right.1.0), omega (arith, ints, clamps, left.1.1, right.1.1)),
)

-- one text column alone
one : (f z : ℤ) → f ≡ pos 1 → f *ℤ z ≡ z
unfolding lib.IntN.one
one f z is = ap (λ g. g *ℤ z) is ∙ *ℤ_comm (pos 1) z ∙ *ℤ-one z

pair_is : (a b c d : ℤ) → a ≡ c → b ≡ d → ◌≡◌ {A = ℤ × ℤ} (a, b) (c, d)
pair_is a b c d e f = ap (λ x. (x, b)) e ∙ ap (λ y. (c, y)) f

scaled-one : (f : ℤ) (i : Interval) → f ≡ pos 1 → scaled f i ≡ i
scaled-one f i is = ap (λ g. scaled g i) is ∙ pair_is (pos 1 *ℤ i.0) (pos 1 *ℤ i.1) i.0 i.1 (one (pos 1) i.0 refl) (one (pos 1) i.1 refl)

zero-plus : (i : Interval) → plus nothing_yet i ≡ i
zero-plus i = pair_is _ _ _ _ (omega (arith, ints)) (omega (arith, ints))

plus-zero : (i : Interval) → plus i nothing_yet ≡ i
plus-zero i = pair_is _ _ _ _ (omega (arith, ints)) (omega (arith, ints))

zero-codes : (texts : ℕ) → HasCodes texts (pos 0, pos 0)
zero-codes texts = ((omega (arith, ints), omega (arith, ints)), (omega (arith, ints), omega (arith, ints)))

module _ (scope : Scope) (widths domains : Bounds) (codes : TextsHaveCodes scope widths) where
  atom-codes : (a : Atom) → IsTextColumn scope a → HasCodes scope.texts (atom_interval a widths domains)
  atom-codes (Column c) is = codes c is
  atom-codes (Param k) is = absurd is

  term-codes : (t : Term) → t.factor ≡ pos 1 → IsTextColumn scope t.atom → HasCodes scope.texts (term_interval t widths domains)
  term-codes t is_one is =
      let P : Interval → Type 0 = λ i. HasCodes scope.texts i in
      subst P (sym (scaled-one t.factor (atom_interval t.atom widths domains) is_one)) (atom-codes t.atom is)

  pub text-codes : (e : Expr) → IsText scope e → HasCodes scope.texts (expr_interval e widths domains)
  text-codes (Word code) text = ((omega (arith, ints), omega (arith, ints, text)), (omega (arith, ints), omega (arith, ints, text)))
  text-codes (Sum []) text = absurd text
  text-codes (Sum (t ∷ [])) text =
      let P : Interval → Type 0 = λ i. HasCodes scope.texts i in
      subst P (sym (plus-zero (term_interval t widths domains))) (term-codes t text.0 text.1)
  text-codes (Sum (t ∷ u ∷ ts)) text = absurd text

  pub text-narrow : (e : Expr) → scope.texts ≤ 2 ^ 49 → IsText scope e → list_all is_narrow (expr_steps e widths domains) ≡ true
  text-narrow (Word code) few text = refl
  text-narrow (Sum []) few text = absurd text
  text-narrow (Sum (t ∷ [])) few text =
      let product = term_interval t widths domains in
      let narrow = codes-narrow scope.texts product few (term-codes t text.0 text.1) in
      and-true (is_narrow product) (is_narrow (plus nothing_yet product) && true) narrow
      (and-true (is_narrow (plus nothing_yet product)) true (ap is_narrow (zero-plus product) ∙ narrow) refl)
  text-narrow (Sum (t ∷ u ∷ ts)) few text = absurd text

  pub compared-narrow : (l r : Expr) → scope.texts ≤ 2 ^ 49 → IsText scope l → IsText scope r → list_all is_narrow (difference_steps l r widths domains) ≡ true
  compared-narrow l r few left right =
      let between = minus (expr_interval l widths domains) (expr_interval r widths domains) in
      list_all-append is_narrow (expr_steps r widths domains) (between ∷ [])
      ∙ and-true (list_all is_narrow (expr_steps r widths domains)) (is_narrow between && true) (text-narrow r few right)
      (and-true (is_narrow between) true (differ-narrow scope.texts (expr_interval l widths domains) (expr_interval r widths domains) few (text-codes l left) (text-codes r right)) refl)

-- at the start
column-codes : (texts column : ℕ) (table : List Cells)
    → ((place : ℕ) (cells : Cells) → slice_get table place ≡ Some cells → IsIn (number_of (cell_at cells column)) (pos 0, pos texts)) → HasCodes texts (column_interval column table)
column-codes texts column [] each = zero-codes texts
column-codes texts column (cells ∷ []) each = (each 0 cells refl, each 0 cells refl)
column-codes texts column (cells ∷ next ∷ rows) each =
    codes-joined texts (number_of (cell_at cells column), number_of (cell_at cells column)) (column_interval column (next ∷ rows)) (each 0 cells refl, each 0 cells refl)
    (column-codes texts column (next ∷ rows) (λ place. each (suc place)))

start-at : (texts : ℕ) (table : List Cells) (first n c : ℕ) → ((d : ℕ) → d ≡ first + c → HasCodes texts (column_interval d table)) → HasCodes texts (interval_at (start_widths first n table) c)
start-at texts table first zero c each = zero-codes texts
start-at texts table first (suc n) zero each = each first (omega arith)
start-at texts table first (suc n) (suc c) each = start-at texts table (first + 1) n c (λ d is. each d (omega arith))

pub start-codes : (scope : Scope) (width : ℕ) (table : List Cells) → CellsAreCodes scope table → TextsHaveCodes scope (start_widths 0 width table)
start-codes scope width table cells column is =
    start-at scope.texts table 0 width column
    (λ d same. column-codes scope.texts d table (λ place row got. cells place d row got (ap (slice_get scope.kinds) (let e : d ≡ column = omega arith in e) ∙ is)))

-- over an UPDATE
codes-put : (texts : ℕ) (widths : Bounds) (i c : ℕ) (v : Interval) → (i ≡ c → HasCodes texts v) → HasCodes texts (interval_at widths c) → HasCodes texts (interval_at (slice_set widths i v) c)
codes-put texts [] i c v new old = old
codes-put texts (w ∷ widths) zero zero v new old = new refl
codes-put texts (w ∷ widths) zero (suc c) v new old = old
codes-put texts (w ∷ widths) (suc i) zero v new old = old
codes-put texts (w ∷ widths) (suc i) (suc c) v new old = codes-put texts widths i c v (λ e. new (ap suc e)) old

codes-stored : (texts : ℕ) (where_ : Option Cond) (old new : Interval) → HasCodes texts old → HasCodes texts new → HasCodes texts (stored where_ old new)
codes-stored texts None old new was is = is
codes-stored texts (Some w) old new was is = codes-joined texts old new was is

sets-codes : (scope : Scope) (sets : List (ℕ × Expr)) (where_ : Option Cond) (before domains now : Bounds) → SetsTyped scope sets → TextsHaveCodes scope before → TextsHaveCodes scope now
    → TextsHaveCodes scope (sets_widths sets where_ before domains now)
sets-codes scope [] where_ before domains now typed codes kept = kept
sets-codes scope (s ∷ sets) where_ before domains now typed codes kept =
    let new = stored where_ (interval_at before s.0) (expr_interval s.1 before domains) in
    sets-codes scope sets where_ before domains (slice_set now s.0 new) typed.2 codes
    (λ column is. codes-put scope.texts now s.0 column new
    (λ same.
    let K : Option ColumnKind → Type 0 = λ k. kinds.Fits scope k s.1 in
    let here : slice_get scope.kinds s.0 ≡ Some kind.Text = ap (slice_get scope.kinds) same ∙ is in
    codes-stored scope.texts where_ (interval_at before s.0) (expr_interval s.1 before domains) (codes s.0 here) (text-codes scope before domains codes s.1 (subst K here typed.0)))
    (kept column is))

-- over an INSERT
filled-at : (scope : Scope) (columns : List ℕ) (tuple : List Expr) (first c d : ℕ) (kinds : List ColumnKind) (k : ColumnKind) → ColumnsFilled scope columns tuple first kinds
    → slice_get kinds c ≡ Some k → d ≡ first + c → ItemFits scope tuple (place_of columns d) k
filled-at scope columns tuple first c d [] k filled is same = absurd (cc)
filled-at scope columns tuple first zero d (other ∷ kinds) k filled is same =
    let kinds_same : other ≡ k = cc in
    let e : first ≡ d = omega arith in
    let P : ColumnKind → Type 0 = λ x. ItemFits scope tuple (place_of columns d) x in
    let Q : ℕ → Type 0 = λ n. ItemFits scope tuple (place_of columns n) other in
    subst P kinds_same (subst Q e filled.0)
filled-at scope columns tuple first (suc c) d (other ∷ kinds) k filled is same =
    filled-at scope columns tuple (first + 1) c d kinds k filled.1 is (omega arith)

item-codes : (scope : Scope) (tuple : List Expr) (place : ℕ) (domains : Bounds) → ItemFits scope tuple place kind.Text
    → HasCodes scope.texts (expr_interval (slice_index_or tuple place (Word 0)) [] domains)
item-codes scope tuple place domains fits =
    let P : Expr → Type 0 = λ e. HasCodes scope.texts (expr_interval e [] domains) in
    subst P (sym (get_or_from_slice_get tuple place fits.0 (Word 0) fits.1)) (text-codes scope [] domains (λ column is. zero-codes scope.texts) fits.0 fits.3)

tuple-codes : (texts first : ℕ) (columns : List ℕ) (tuple : List Expr) (domains widths : Bounds) (c : ℕ)
    → ((d : ℕ) → d ≡ first + c → HasCodes texts (expr_interval (slice_index_or tuple (place_of columns d) (Word 0)) [] domains))
    → HasCodes texts (interval_at widths c) → HasCodes texts (interval_at (tuple_widths first columns tuple domains widths) c)
tuple-codes texts first columns tuple domains [] c item old = old
tuple-codes texts first columns tuple domains (w ∷ widths) zero item old =
    codes-joined texts w (expr_interval (slice_index_or tuple (place_of columns first) (Word 0)) [] domains) old (item first (omega arith))
tuple-codes texts first columns tuple domains (w ∷ widths) (suc c) item old =
    tuple-codes texts (first + 1) columns tuple domains widths c (λ d is. item d (omega arith)) old

tuples-codes : (scope : Scope) (columns : List ℕ) (tuples : List (List Expr)) (domains widths : Bounds) → TuplesTyped scope columns tuples → TextsHaveCodes scope widths
    → TextsHaveCodes scope (tuples_widths columns tuples domains widths)
tuples-codes scope columns [] domains widths typed codes = codes
tuples-codes scope columns (tuple ∷ tuples) domains widths typed codes =
    tuples-codes scope columns tuples domains (tuple_widths 0 columns tuple domains widths) typed.1
    (λ column is. tuple-codes scope.texts 0 columns tuple domains widths column
    (λ d same. item-codes scope tuple (place_of columns d) domains (filled-at scope columns tuple 0 column d scope.kinds kind.Text typed.0 is same))
    (codes column is))

pub kept-codes : (scope : Scope) (s : Statement) (widths domains : Bounds) → StatementTyped scope s → TextsHaveCodes scope widths → TextsHaveCodes scope (widths_after s domains widths)
kept-codes scope (Update sets where_) widths domains typed codes = sets-codes scope sets where_ widths domains widths typed.0 codes codes
kept-codes scope (Delete where_) widths domains typed codes = codes
kept-codes scope (Insert columns tuples) widths domains typed codes = tuples-codes scope columns tuples domains widths typed codes

pub texts_are_narrow : TextsAreNarrow
texts_are_narrow = record {
  text = λ scope e widths domains few text codes. text-narrow scope widths domains codes e few text;
  compared = λ scope l r widths domains few left right codes. compared-narrow scope widths domains codes l r few left right;
  stored = λ scope column widths few is codes. codes-narrow scope.texts (interval_at widths column) few (codes column is);
  start = start-codes;
  kept = kept-codes;
}
