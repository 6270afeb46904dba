-- Statements without a fault make a sound program.
use Rattle.std.proofs.Common.{◌≡◌, ◌∙◌, ap, sym, subst, refl, ℕ, zero, suc, ◌+◌, ◌<◌, ◌≤◌, ◌^◌, ℤ, false, nat_lt, List, [], ◌∷◌, ◌++◌, length, map, Ok, Err, length-append, arith}
use Rattle.std.specs.declared.option.Option.{Option}
use Rattle.std.specs.declared.option.Option.TheVariants.{Some, None}
use Rattle.std.specs.List.{flat_map, list_any, AllByRecursion, range_with_len}
use Rattle.std.proofs.lemmas.Bool.Decides.{nat_tests}
use Rattle.std.proofs.lemmas.Option.{none-some}
use Rattle.std.proofs.lemmas.List.{append-nil, length-map}
use Rattle.std.proofs.lemmas.List.FromFn.{length-range_with_len}
use Rattle.std.proofs.lemmas.Grind.{flat_map-append}
use Rattle.qf_ir.specs.declared.ast.Expr.{Expr}
use Rattle.qf_ir.specs.declared.ast.Cond.{Cond}
use Rattle.qf_ir.specs.declared.ast.Statement.{Statement}
use Rattle.qf_ir.specs.declared.ast.Statement.TheVariants.{Update, Delete, Insert}
use Rattle.qf_ir.specs.declared.table.ColumnKind.{ColumnKind}
use Rattle.qf_ir.specs.declared.table.Column.{Column}
use Rattle.qf_ir.specs.declared.table.Table.{Table}
use Rattle.qf_ir.specs.declared.fault.IrFault.{IrFault}
use Rattle.qf_ir.specs.declared.fault.IrFault.TheVariants as fault
use Rattle.qf_ir.specs.Value.{Cells}
use Rattle.qf_ir.specs.Fits.{Small}
use Rattle.qf_ir.specs.Replay.{inserted_count}
use Rattle.qf_ir.specs.Typed.{IsItem, StatementsTyped, ListsAll}
use Rattle.qf_ir.specs.Tables.{IsSoundTable, CellsAre, kinds_of, names_of}
use Rattle.qf_ir.specs.Texts.{code_in}
use Rattle.qf_ir.specs.Parts.{terms_of, params_in, tests_of, comparisons_of, conds_of, where_of, items_of, exprs_of, statement_params, params_of, all_exprs}
use Rattle.qf_ir.specs.Made.{IsMade, IsCoded, HasFewTerms, HasFewComparisons, AreMade, AreCoded, AreInOrder}
use Rattle.qf_ir.specs.Numbered.{numbered_statement, numbering_of, joint_texts}
use Rattle.qf_ir.specs.Checked.{is_long, fault_of, fault_from, first_of, rows_of, plan_of, unless, program_of, Gives}
use Rattle.qf_ir.specs.Steps.{Passes}
use Rattle.qf_ir.specs.Plan.{Plan, IsSound, Belongs}
use Rattle.qf_ir.proofs.Numbering.{each-append, each-join, made-same, coded-same, in-order-same}
use Rattle.qf_ir.proofs.Accepted.{Accepted, accepted, none-or}
use Rattle.qf_ir.proofs.Typing.{InRange, Good, statement-typed, lists-all}
use Rattle.qf_ir.proofs.Joining.{codes-within, length-with-all, distinct-with-all, prefix-with-all}

-- ---- each statement is accepted, and the counts stay within the limits

first-none : (a b : Option IrFault) → first_of a b ≡ None → (a ≡ None) × (b ≡ None)
first-none None b e = (refl, e)
first-none (Some f) b e = absurd (none-some f (sym e))

record Passed (kinds : List ColumnKind) (n p r : ℕ) (ss : List Statement) : Type 0 where
  pub each : AllByRecursion (Accepted kinds) ss
  pub statements : n + length ss ≤ 1000
  pub params : p + length (params_of ss) ≤ 4096
  pub rows : r + inserted_count ss ≤ 200000

inserted-next : (s : Statement) (rest : List Statement) → inserted_count (s ∷ rest) ≡ rows_of s + inserted_count rest
inserted-next (Update sets where_) rest = omega arith
inserted-next (Delete where_) rest = omega arith
inserted-next (Insert columns tuples) rest = refl

passed : (kinds : List ColumnKind) (ss : List Statement) (n p r : ℕ) → fault_from kinds (n + 1) p r ss ≡ None → n ≤ 1000 → p ≤ 4096 → r ≤ 200000 → Passed kinds n p r ss
passed kinds [] n p r none few_n few_p few_r = record { each = tt; statements = omega (arith, few_n); params = omega (arith, few_p); rows = omega (arith, few_r) }
passed kinds (s ∷ ss) n p r none few_n few_p few_r =
    let both = first-none (fault_of kinds (n + 1) (p + length (statement_params s)) (r + rows_of s) s) _ none in
    let one = accepted kinds (n + 1) (p + length (statement_params s)) (r + rows_of s) s both.0 in
    let rest = passed kinds ss (n + 1) (p + length (statement_params s)) (r + rows_of s) both.1 one.1.number one.1.params one.1.rows in
    let next = inserted-next s ss in
    let joined = length-append (statement_params s) (params_of ss) in
    record {
      each = (one.0, rest.each);
      statements = let h = rest.statements in omega (arith, h);
      params = let h = rest.params in omega (arith, h, joined);
      rows = let h = rest.rows in omega (arith, h, next);
    }

-- ---- parts of many statements

each-flat : {X A : Type 0} (P : A → Type 0) (f : X → List A) (xs : List X) → AllByRecursion P (flat_map f xs) → AllByRecursion (λ x. AllByRecursion P (f x)) xs
each-flat P f [] each = tt
each-flat P f (x ∷ xs) each = let both = each-append P (f x) (flat_map f xs) each in (both.0, each-flat P f xs both.1)

flat-each : {X A : Type 0} (P : A → Type 0) (f : X → List A) (xs : List X) → AllByRecursion (λ x. AllByRecursion P (f x)) xs → AllByRecursion P (flat_map f xs)
flat-each P f [] each = tt
flat-each P f (x ∷ xs) each = each-join P (f x) (flat_map f xs) each.0 (flat-each P f xs each.1)

each-imply : {X : Type 0} (P Q : X → Type 0) → ((x : X) → P x → Q x) → (xs : List X) → AllByRecursion P xs → AllByRecursion Q xs
each-imply P Q step [] each = tt
each-imply P Q step (x ∷ xs) each = (step x each.0, each-imply P Q step xs each.1)

flat-flat : {X A B : Type 0} (f : X → List A) (g : A → List B) (xs : List X) → flat_map (λ x. flat_map g (f x)) xs ≡ flat_map g (flat_map f xs)
flat-flat f g [] = refl
flat-flat f g (x ∷ xs) = ap (λ ys. flat_map g (f x) ++ ys) (flat-flat f g xs) ∙ sym (flat_map-append g (f x) (flat_map f xs))

short-exprs : (es : List Expr) → list_any is_long es ≡ false → AllByRecursion HasFewTerms es
short-exprs [] none = tt
short-exprs (e ∷ es) none =
    let both = none-or (is_long e) (list_any is_long es) none in
    let low : nat_lt 64 (length (terms_of e)) ≡ false = both.0 in
    (grind (arith, nat_tests), short-exprs es both.1)

few-conds : (conds : List Cond) → length conds ≤ 1 → comparisons_of (flat_map tests_of conds) ≤ 64 → AllByRecursion HasFewComparisons conds
few-conds [] one few = tt
few-conds (c ∷ []) one few = (subst (λ (ts : List Cond). comparisons_of ts ≤ 64) (append-nil (tests_of c)) few, tt)
few-conds (c ∷ d ∷ cs) one few = absurd (omega (arith, one))

one-where : (where_ : Option Cond) → length (where_of where_) ≤ 1
one-where None = omega arith
one-where (Some c) = omega arith

one-cond : (s : Statement) → length (conds_of s) ≤ 1
one-cond (Update sets where_) = one-where where_
one-cond (Delete where_) = one-where where_
one-cond (Insert columns tuples) = omega arith

-- ---- parameters

range-within : (a n : ℕ) (most : ℕ) → 1 ≤ a → a + n ≤ most + 1 → AllByRecursion (λ k. (1 ≤ k) × (k ≤ most)) (range_with_len a n)
range-within a zero most low high = tt
range-within a (suc n) most low high = ((low, omega (arith, high)), range-within (a + 1) n most (omega arith) (omega (arith, high)))

module _ (kinds : List ColumnKind) (params texts : ℕ) where
  good : (es : List Expr) → AllByRecursion IsMade es → AllByRecursion (IsCoded texts) es → AllByRecursion (InRange kinds params texts) (flat_map params_in es)
      → AllByRecursion (Good kinds params texts) es
  good [] made coded inside = tt
  good (e ∷ es) made coded inside =
      let both = each-append (InRange kinds params texts) (params_in e) (flat_map params_in es) inside in
      (record { made = made.0; coded = coded.0; in_range = both.0 }, good es made.1 coded.1 both.1)

  typed : (ss : List Statement) → AllByRecursion (Accepted kinds) ss → AllByRecursion (λ s. AllByRecursion (Good kinds params texts) (exprs_of s)) ss
      → AllByRecursion (λ s. AllByRecursion IsItem (items_of s)) ss → StatementsTyped (record { kinds = kinds; params = params; texts = texts }) ss
  typed [] ok good items = tt
  typed (s ∷ ss) ok good items = (statement-typed kinds params texts s ok.0 good.0 items.0, typed ss ok.1 good.1 items.1)

-- ---- the program

module _ (table : Table) (names texts : List (List ℕ)) (statements : List Statement) (olds : List ℤ) where
  abbrev plan : Plan
  plan = plan_of table names texts statements olds

  -- the parts that the code makes are the plan's
  pub plan-is : (columns : List Column) (made : List Statement) (joint : List (List ℕ)) (starts inserted : ℕ) → columns ≡ table.columns → made ≡ plan.statements
      → joint ≡ joint_texts table texts → starts ≡ length table.rows → inserted ≡ inserted_count made
      → ◌≡◌ {A = Plan} (record { columns = columns; statements = made; olds = olds; texts = joint; starts = starts; inserted = inserted }) plan
  plan-is columns made joint starts inserted is_columns is_made is_joint is_starts is_inserted =
      let with_parts : List Column → List Statement → List (List ℕ) → ℕ → ℕ → Plan =
      λ cs ss ts n k. record { columns = cs; statements = ss; olds = olds; texts = ts; starts = n; inserted = k } in
      ap (λ cs. with_parts cs made joint starts inserted) is_columns
      ∙ ap (λ ts. with_parts table.columns made ts starts inserted) is_joint
      ∙ ap (λ n. with_parts table.columns made (joint_texts table texts) n inserted) is_starts
      ∙ ap (with_parts table.columns made (joint_texts table texts) (length table.rows)) is_inserted
      ∙ ap (λ ss. with_parts table.columns ss (joint_texts table texts) (length table.rows) (inserted_count ss)) is_made

  pub few-joint : IsSoundTable table → length texts < 2 ^ 30 → length plan.texts < 2 ^ 31
  few-joint sound few = let h = length-with-all table.texts texts in let k = sound.few_texts in omega (arith, h, k, few)

  pub sound-plan : IsSoundTable table → length texts < 2 ^ 30 → AreCoded statements (length texts) → AreInOrder statements (length olds)
      → AreMade statements → AllByRecursion Small olds → fault_from (kinds_of table.columns) 1 0 (length table.rows) plan.statements ≡ None → IsSound plan
  sound-plan sound few coded order made small none =
      let n = numbering_of table names texts in
      let kinds = kinds_of table.columns in
      let ss = plan.statements in
      let params = length olds in
      let joint = length (joint_texts table texts) in
      let all = passed kinds ss 0 0 (length table.rows) none (omega arith) (omega arith) sound.few_rows in
      let is_made = made-same n statements made in
      let is_coded = coded-same n (length texts) joint (codes-within table.texts texts) statements coded in
      let in_order = in-order-same n statements params order in
      let count : length (params_of ss) ≡ params = ap length in_order ∙ length-range_with_len 1 params in
      let inside : AllByRecursion (InRange kinds params joint) (params_of ss) =
      subst (λ (ks : List ℕ). AllByRecursion (InRange kinds params joint) ks) (sym in_order) (range-within 1 params params (omega arith) (omega arith)) in
      let inside_exprs = subst (λ (ks : List ℕ). AllByRecursion (InRange kinds params joint) ks) (flat-flat exprs_of params_in ss) inside in
      let parts = good kinds params joint (all_exprs ss) is_made.exprs is_coded inside_exprs in
      record {
        typed = typed kinds params joint ss all.each (each-flat (Good kinds params joint) exprs_of ss parts) (each-flat IsItem items_of ss is_made.items);
        lists = subst (λ (w : ℕ). AllByRecursion (ListsAll w) ss) (length-map table.columns (λ (c : Column). c.kind)) (each-imply (Accepted kinds) (ListsAll (length kinds)) (lists-all kinds) ss all.each);
        inserted = refl;
        few_columns = sound.few_columns;
        few_rows = all.rows;
        few_statements = let h = all.statements in omega (arith, h);
        few_params = let h = all.params in omega (arith, h, count);
        names = sound.names;
        texts = distinct-with-all table.texts texts sound.texts;
        few_texts = let h = few-joint sound few in omega (arith, h);
        small_olds = small;
        in_order = in_order;
        made = is_made;
        few_terms = flat-each HasFewTerms exprs_of ss (each-imply (Accepted kinds) (λ s. AllByRecursion HasFewTerms (exprs_of s)) (λ s ok. short-exprs (exprs_of s) ok.short) ss all.each);
        few_comparisons = flat-each HasFewComparisons conds_of ss
            (each-imply (Accepted kinds) (λ s. AllByRecursion HasFewComparisons (conds_of s)) (λ s ok. few-conds (conds_of s) (one-cond s) ok.few) ss all.each);
      }

  cells-length : (columns : List Column) (count : ℕ) (cells : Cells) → CellsAre columns count cells → length cells ≡ length columns
  cells-length [] count [] are = refl
  cells-length [] count (c ∷ cells) are = absurd are
  cells-length (column ∷ columns) count [] are = absurd are
  cells-length (column ∷ columns) count (c ∷ cells) are = let h = cells-length columns count cells are.1 in omega (arith, h)

  pub belongs-plan : IsSoundTable table → Belongs plan table
  belongs-plan sound = record {
    columns = refl;
    texts = prefix-with-all table.texts texts;
    starts = refl;
    rows = record { each = λ place cells got. cells-length table.columns (length table.texts) cells (sound.rows place cells got) };
  }

  pub gives-plan : fault_from (kinds_of table.columns) 1 0 (length table.rows) plan.statements ≡ None → program_of table names texts statements olds ≡ Ok plan
  gives-plan none = ap (λ o. unless o plan) none
