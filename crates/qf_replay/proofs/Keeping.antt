-- What is kept of inserted rows, step by step.
use Rattle.std.proofs.Common.{◌≡◌, ◌∙◌, ap, sym, subst, ℕ, ◌+◌, ◌<◌, List, ◌∷◌, ◌++◌, length, get_or, drop, append_assoc, arith}
use Rattle.std.specs.declared.option.Option.{Option}
use Rattle.std.proofs.lemmas.List.{drop_more}
use Rattle.qf_base.specs.declared.names.RowName.TheVariants.{Inserted}
use Rattle.qf_ir.specs.declared.ast.Cond.{Cond}
use Rattle.qf_ir.specs.declared.ast.Expr.{Expr}
use Rattle.qf_ir.specs.declared.ast.Statement.{Statement}
use Rattle.qf_ir.specs.declared.ast.Statement.TheVariants.{Update, Delete, Insert}
use Rattle.qf_ir.specs.Value.{Cells, Values}
use Rattle.qf_ir.specs.Replay.{Row, named_rows, inserted_cells, inserted_table, inserted_count}
use Rattle.qf_ir.specs.Life.{first_moment, last_moment, kept_row, survivors, inserted_survivors}
use Rattle.qf_ir.specs.Fits.{LivesFit, InsertedFit}

-- ---- the tuples of one INSERT

module _ (width : ℕ) (columns : List ℕ) (tuples : List (List Expr)) (rest : List Statement) (point : Values) where
  -- the rows of the tuples from this place on, behind so many
  abbrev left : ℕ → ℕ → List Row
  left i number = survivors point rest (named_rows (λ k. Inserted k) number (inserted_table width columns (drop i tuples) point))

  pub tuple_fits : (i : ℕ) (tuple : List Expr) (cells : Cells) → i < length tuples → tuple ≡ get_or tuples i tuple → cells ≡ inserted_cells width columns tuple point
      → LivesFit rest (inserted_table width columns (drop i tuples) point) point → LivesFit rest (cells ∷ inserted_table width columns (drop (i + 1) tuples) point) point
  tuple_fits i tuple cells lt is made fits =
      let opened : drop i tuples ≡ tuple ∷ drop (i + 1) tuples = drop_more tuples i tuple lt ∙ ap (λ (t : List Expr). t ∷ drop (i + 1) tuples) (sym is) in
      subst (λ (c : Cells). LivesFit rest (c ∷ inserted_table width columns (drop (i + 1) tuples) point) point) (sym made)
      (subst (λ (ts : List (List Expr)). LivesFit rest (inserted_table width columns ts point) point) opened fits)

  pub tuple_kept : (i number : ℕ) (tuple : List Expr) (cells : Cells) (rows next whole : List Row) → i < length tuples → tuple ≡ get_or tuples i tuple
      → cells ≡ inserted_cells width columns tuple point → next ≡ rows ++ kept_row (Inserted (number + 1)) (last_moment point rest (first_moment cells))
      → rows ++ left i number ≡ whole → next ++ left (i + 1) (number + 1) ≡ whole
  tuple_kept i number tuple cells rows next whole lt is made grown so_far =
      let opened : drop i tuples ≡ tuple ∷ drop (i + 1) tuples = drop_more tuples i tuple lt ∙ ap (λ (t : List Expr). t ∷ drop (i + 1) tuples) (sym is) in
      let this : Cells → List Row = λ c. kept_row (Inserted (number + 1)) (last_moment point rest (first_moment c)) in
      ap (λ (r : List Row). r ++ left (i + 1) (number + 1)) (grown ∙ ap (λ (c : Cells). rows ++ this c) made)
      ∙ append_assoc rows (this (inserted_cells width columns tuple point)) (left (i + 1) (number + 1))
      ∙ sym (ap (λ (ts : List (List Expr)). rows ++ survivors point rest (named_rows (λ k. Inserted k) number (inserted_table width columns ts point))) opened)
      ∙ so_far

-- ---- the INSERTs of a log

module _ (width : ℕ) (statements : List Statement) (point : Values) (whole : List Row) where
  -- before the statement at this place, with so many rows inserted
  pub record Kept (i : ℕ) (rows : List Row) (inserted : ℕ) : Type 0 where
    pub count : inserted + inserted_count (drop i statements) ≡ inserted_count statements
    pub fits : InsertedFit width (drop i statements) point
    pub rows_are : rows ++ inserted_survivors width point (drop i statements) inserted ≡ whole

  -- .. where that statement is known
  pub record KeptAt (s : Statement) (i : ℕ) (rows : List Row) (inserted : ℕ) : Type 0 where
    pub count : inserted + inserted_count (s ∷ drop (i + 1) statements) ≡ inserted_count statements
    pub fits : InsertedFit width (s ∷ drop (i + 1) statements) point
    pub rows_are : rows ++ inserted_survivors width point (s ∷ drop (i + 1) statements) inserted ≡ whole

  pub kept_at : (i : ℕ) (held s : Statement) (rows : List Row) (inserted : ℕ) → i < length statements → held ≡ get_or statements i held → held ≡ s → Kept i rows inserted → KeptAt s i rows inserted
  kept_at i held s rows inserted lt is e k =
      let opened : drop i statements ≡ s ∷ drop (i + 1) statements = drop_more statements i held lt ∙ ap (λ (t : Statement). t ∷ drop (i + 1) statements) (sym is ∙ e) in
      record {
        count = subst (λ (ss : List Statement). inserted + inserted_count ss ≡ inserted_count statements) opened k.count;
        fits = subst (λ (ss : List Statement). InsertedFit width ss point) opened k.fits;
        rows_are = subst (λ (ss : List Statement). rows ++ inserted_survivors width point ss inserted ≡ whole) opened k.rows_are;
      }

  kept_same : (i : ℕ) (rows next : List Row) (inserted after : ℕ) → next ≡ rows → after ≡ inserted → Kept (i + 1) rows inserted → Kept (i + 1) next after
  kept_same i rows next inserted after r n k = subst (λ (m : ℕ). Kept (i + 1) next m) (sym n) (subst (λ (rs : List Row). Kept (i + 1) rs inserted) (sym r) k)

  pub kept_update : (i : ℕ) (held : Statement) (sets : List (ℕ × Expr)) (filter : Option Cond) (rows next : List Row) (inserted after : ℕ) → i < length statements → held ≡ get_or statements i held
      → held ≡ Update sets filter → next ≡ rows → after ≡ inserted → Kept i rows inserted → Kept (i + 1) next after
  kept_update i held sets filter rows next inserted after lt is e r n k =
      let at = kept_at i held (Update sets filter) rows inserted lt is e k in
      kept_same i rows next inserted after r n (record { count = at.count; fits = at.fits; rows_are = at.rows_are })

  pub kept_delete : (i : ℕ) (held : Statement) (filter : Option Cond) (rows next : List Row) (inserted after : ℕ) → i < length statements → held ≡ get_or statements i held
      → held ≡ Delete filter → next ≡ rows → after ≡ inserted → Kept i rows inserted → Kept (i + 1) next after
  kept_delete i held filter rows next inserted after lt is e r n k =
      let at = kept_at i held (Delete filter) rows inserted lt is e k in
      kept_same i rows next inserted after r n (record { count = at.count; fits = at.fits; rows_are = at.rows_are })

  pub kept_insert : (i : ℕ) (held : Statement) (columns : List ℕ) (tuples : List (List Expr)) (rows next : List Row) (inserted after : ℕ) → i < length statements → held ≡ get_or statements i held
      → held ≡ Insert columns tuples
      → next ≡ rows ++ survivors point (drop (i + 1) statements) (named_rows (λ k. Inserted k) inserted (inserted_table width columns tuples point))
      → after ≡ inserted + length tuples → Kept i rows inserted → Kept (i + 1) next after
  kept_insert i held columns tuples rows next inserted after lt is e r n k =
      let at = kept_at i held (Insert columns tuples) rows inserted lt is e k in
      let these = survivors point (drop (i + 1) statements) (named_rows (λ k. Inserted k) inserted (inserted_table width columns tuples point)) in
      subst (λ (m : ℕ). Kept (i + 1) next m) (sym n) (record {
        count = omega (arith, at.count);
        fits = at.fits.2;
        rows_are =
            ap (λ (rs : List Row). rs ++ inserted_survivors width point (drop (i + 1) statements) (inserted + length tuples)) r
            ∙ append_assoc rows these (inserted_survivors width point (drop (i + 1) statements) (inserted + length tuples))
            ∙ at.rows_are;
      })
