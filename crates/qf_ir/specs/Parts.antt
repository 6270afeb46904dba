-- What stands in a statement, in text order: its expressions, its tests, its parameters.
use Rattle.std.specs.Prelude.{ℕ, ◌+◌, max, List, [], ◌∷◌, ◌++◌, length, map}
use Rattle.std.specs.declared.option.Option.{Option}
use Rattle.std.specs.declared.option.Option.TheVariants.{Some, None}
use Rattle.std.specs.List.{flat_map}
use Rattle.qf_ir.specs.declared.ast.Atom.{Atom}
use Rattle.qf_ir.specs.declared.ast.Atom.TheVariants.{Column, Param}
use Rattle.qf_ir.specs.declared.ast.Term.{Term}
use Rattle.qf_ir.specs.declared.ast.Expr.{Expr}
use Rattle.qf_ir.specs.declared.ast.Expr.TheVariants.{Sum, Word}
use Rattle.qf_ir.specs.declared.ast.Cond.{Cond, Row_of-Cond, end_of-Cond, more_of-Cond}
use Rattle.qf_ir.specs.declared.ast.Cond.TheVariants.{Compare, Between, Within, All', Any', Not'}
use Rattle.qf_ir.specs.declared.ast.Statement.{Statement}
use Rattle.qf_ir.specs.declared.ast.Statement.TheVariants.{Update, Delete, Insert}

abbrev pub terms_of : Expr → List Term
terms_of (Sum terms) = terms
terms_of (Word code) = []

-- the number of the parameter, where it is one
abbrev pub param_of : Atom → List ℕ
param_of (Column c) = []
param_of (Param k) = k ∷ []

-- the parameters of an expression
abbrev pub params_in : Expr → List ℕ
params_in e = flat_map (λ (t : Term). param_of t.atom) (terms_of e)

-- the comparisons, BETWEENs and INs of a condition
abbrev mutual
  pub tests_of : Cond → List Cond
  tests_of (Compare op l r) = Compare op l r ∷ []
  tests_of (Between x lo hi) = Between x lo hi ∷ []
  tests_of (Within x items) = Within x items ∷ []
  tests_of (All' shape parts) = tests_of_parts parts
  tests_of (Any' shape parts) = tests_of_parts parts
  tests_of (Not' shape part) = tests_of_parts part

  pub tests_of_parts : {m : _} → Row_of-Cond m → List Cond
  tests_of_parts end_of-Cond = []
  tests_of_parts (more_of-Cond part rest) = tests_of part ++ tests_of_parts rest

-- the expressions of a test
abbrev pub exprs_in : Cond → List Expr
exprs_in (Compare op l r) = l ∷ r ∷ []
exprs_in (Between x lo hi) = x ∷ lo ∷ hi ∷ []
exprs_in (Within x items) = x ∷ items
exprs_in (All' shape parts) = []
exprs_in (Any' shape parts) = []
exprs_in (Not' shape part) = []

-- how many comparisons a test counts for: BETWEEN is two, IN one for each item
abbrev pub comparisons_in : Cond → ℕ
comparisons_in (Compare op l r) = 1
comparisons_in (Between x lo hi) = 2
comparisons_in (Within x items) = length items
comparisons_in (All' shape parts) = 0
comparisons_in (Any' shape parts) = 0
comparisons_in (Not' shape part) = 0

abbrev pub comparisons_of : List Cond → ℕ
comparisons_of [] = 0
comparisons_of (test ∷ tests) = comparisons_in test + comparisons_of tests

-- how deep a condition's tree is
abbrev mutual
  pub depth_of : Cond → ℕ
  depth_of (Compare op l r) = 1
  depth_of (Between x lo hi) = 1
  depth_of (Within x items) = 1
  depth_of (All' shape parts) = 1 + depth_of_parts parts
  depth_of (Any' shape parts) = 1 + depth_of_parts parts
  depth_of (Not' shape part) = 1 + depth_of_parts part

  pub depth_of_parts : {m : _} → Row_of-Cond m → ℕ
  depth_of_parts end_of-Cond = 0
  depth_of_parts (more_of-Cond part rest) = max (depth_of part) (depth_of_parts rest)

-- the condition of a statement, where it has one
abbrev pub where_of : Option Cond → List Cond
where_of None = []
where_of (Some cond) = cond ∷ []

abbrev pub conds_of : Statement → List Cond
conds_of (Update sets where_) = where_of where_
conds_of (Delete where_) = where_of where_
conds_of (Insert columns tuples) = []

abbrev pub statement_tests : Statement → List Cond
statement_tests s = flat_map tests_of (conds_of s)

-- the tuples of INSERT as one list of items
abbrev pub items_of : Statement → List Expr
items_of (Update sets where_) = []
items_of (Delete where_) = []
items_of (Insert columns tuples) = flat_map (λ tuple. tuple) tuples

-- the new values of UPDATE
abbrev pub values_of : Statement → List Expr
values_of (Update sets where_) = map (λ (s : ℕ × Expr). s.1) sets
values_of (Delete where_) = []
values_of (Insert columns tuples) = []

-- the columns that a statement sets or lists
abbrev pub targets_of : Statement → List ℕ
targets_of (Update sets where_) = map (λ (s : ℕ × Expr). s.0) sets
targets_of (Delete where_) = []
targets_of (Insert columns tuples) = columns

-- the expressions of a statement: of UPDATE the new values and then those of WHERE
abbrev pub exprs_of : Statement → List Expr
exprs_of s = values_of s ++ flat_map exprs_in (statement_tests s) ++ items_of s

abbrev pub statement_params : Statement → List ℕ
statement_params s = flat_map params_in (exprs_of s)

abbrev pub params_of : List Statement → List ℕ
params_of statements = flat_map statement_params statements

abbrev pub all_exprs : List Statement → List Expr
all_exprs statements = flat_map exprs_of statements

abbrev pub all_conds : List Statement → List Cond
all_conds statements = flat_map conds_of statements

abbrev pub all_items : List Statement → List Expr
all_items statements = flat_map items_of statements
