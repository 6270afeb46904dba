-- The items of a tuple, and the cells that they make.
use Rattle.std.specs.Prelude.{◌≡◌, ℕ, zero, suc, ◌+◌, ◌<◌, ◌≤◌, List, [], ◌∷◌, ◌++◌, length, slice_get, slice_set}
use Rattle.std.specs.declared.option.Option.TheVariants.{Some}
use Rattle.std.proofs.Common.{ap, sym, ◌∙◌, arith, take, get_or, add-one}
use Rattle.std.proofs.lemmas.List.{take_more_set, take_all}
use Rattle.qf_ir.specs.declared.cell.Cell.{Cell}
use Rattle.qf_ir.specs.declared.ast.Expr.{Expr}
use Rattle.qf_ir.specs.declared.ast.Statement.{Statement}
use Rattle.qf_ir.specs.declared.ast.Statement.TheVariants.{Update, Delete, Insert}
use Rattle.qf_ir.specs.Value.{Cells, Values}
use Rattle.qf_ir.specs.Replay.{cells_from}
use Rattle.qf_ir.specs.Fits.{ExprFits, TupleFits, TuplesFit, InsertsFit}

pub item_fits : (tuple : List Expr) (place : ℕ) (point : Values) (d : Expr) → TupleFits tuple point → place < length tuple → ExprFits (get_or tuple place d) [] point
item_fits [] place point d fits within = absurd (omega arith)
item_fits (item ∷ items) zero point d fits within = fits.0
item_fits (item ∷ items) (suc place) point d fits within = item_fits items place point d fits.1 (omega arith)

pub tuple_fits : (tuples : List (List Expr)) (place : ℕ) (tuple : List Expr) (point : Values) → slice_get tuples place ≡ Some tuple → TuplesFit tuples point → TupleFits tuple point
tuple_fits [] place tuple point is fits = absurd (cc)
tuple_fits (first ∷ tuples) zero tuple point is fits = let same : first ≡ tuple = cc in rw (← same) fits.0
tuple_fits (first ∷ tuples) (suc place) tuple point is fits = tuple_fits tuples place tuple point is fits.1

cells_from-suc : (first n : ℕ) (cell : ℕ → Cell) → cells_from first (suc n) cell ≡ cells_from first n cell ++ cell (first + n) ∷ []
cells_from-suc first zero cell = let e : first ≡ first + 0 = omega arith in ap (λ c. cell c ∷ []) e
cells_from-suc first (suc n) cell =
    let e : first + 1 + n ≡ first + suc n = omega arith in
    ap (λ rest. cell first ∷ rest) (cells_from-suc (first + 1) n cell ∙ ap (λ c. cells_from (first + 1) n cell ++ cell c ∷ []) e)

-- one more column
pub cells-step : (cell : ℕ → Cell) (cells next : Cells) (n : ℕ) (new : Cell) → n < length cells → take n cells ≡ cells_from 0 n cell → new ≡ cell n
    → next ≡ slice_set cells n new → take (n + 1) next ≡ cells_from 0 (n + 1) cell
cells-step cell cells next n new within so_far is_new is =
    let e : n ≡ 0 + n = omega arith in
    ap (take (n + 1)) is ∙ (take_more_set cells n new within
    ∙ (ap (λ xs. xs ++ new ∷ []) so_far ∙ (ap (λ x. cells_from 0 n cell ++ x ∷ []) (is_new ∙ ap cell e)
    ∙ (sym (cells_from-suc 0 n cell) ∙ ap (λ m. cells_from 0 m cell) (sym (add-one n))))))

pub cells-all : (cell : ℕ → Cell) (cells : Cells) (n m : ℕ) → length cells ≡ m → m ≤ n → n ≤ m → take n cells ≡ cells_from 0 n cell → cells ≡ cells_from 0 m cell
cells-all cell cells n m len low high so_far =
    let same : n ≡ m = omega arith in
    sym (take_all n cells (omega arith)) ∙ (so_far ∙ ap (λ k. cells_from 0 k cell) same)

-- the tuples of an INSERT in the log
pub inserts-at : (statements : List Statement) (i : ℕ) (d : Statement) (columns : List ℕ) (tuples : List (List Expr)) (point : Values) → i < length statements
    → get_or statements i d ≡ Insert columns tuples → InsertsFit statements point → TuplesFit tuples point
inserts-at [] i d columns tuples point within is fits = absurd (omega arith)
inserts-at (Update sets where_ ∷ statements) zero d columns tuples point within is fits = absurd (cc)
inserts-at (Delete where_ ∷ statements) zero d columns tuples point within is fits = absurd (cc)
inserts-at (Insert columns' tuples' ∷ statements) zero d columns tuples point within is fits = let same : tuples' ≡ tuples = cc in rw (← same) fits.0
inserts-at (Update sets where_ ∷ statements) (suc i) d columns tuples point within is fits = inserts-at statements i d columns tuples point (omega arith) is fits
inserts-at (Delete where_ ∷ statements) (suc i) d columns tuples point within is fits = inserts-at statements i d columns tuples point (omega arith) is fits
inserts-at (Insert columns' tuples' ∷ statements) (suc i) d columns tuples point within is fits = inserts-at statements i d columns tuples point (omega arith) is fits.1
