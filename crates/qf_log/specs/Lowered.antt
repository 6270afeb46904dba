-- The statements of a log as the program has them: columns and codes are places in the log's own lists.
use Rattle.std.specs.Prelude.{ℕ, ◌≤◌, ◌^◌, ℤ, pos, neg_ℤ, unsigned_abs, Bool, true, false, List, [], ◌∷◌, map, slice_index_or, Option, Some, None, option_map}
use Rattle.qf_ir.specs.declared.ast.Atom.TheVariants.{Column, Param}
use Rattle.qf_ir.specs.declared.ast.Term as ir
use Rattle.qf_ir.specs.declared.ast.Expr.{Expr}
use Rattle.qf_ir.specs.declared.ast.Expr.TheVariants as expr
use Rattle.qf_ir.specs.declared.ast.Op.{Op}
use Rattle.qf_ir.specs.declared.ast.Op.TheVariants as op
use Rattle.qf_ir.specs.declared.ast.Cond.{Cond}
use Rattle.qf_ir.specs.declared.ast.Cond.TheVariants as cond
use Rattle.qf_ir.specs.declared.ast.Statement.{Statement}
use Rattle.qf_ir.specs.declared.ast.Statement.TheVariants as statement
use Rattle.qf_grammar.specs.declared.tree.Several.{Several}
use Rattle.qf_grammar.specs.declared.tree.Factor.{Factor}
use Rattle.qf_grammar.specs.declared.tree.Factor.TheVariants as factor
use Rattle.qf_grammar.specs.declared.tree.Term.{Term}
use Rattle.qf_grammar.specs.declared.tree.Side.{Side}
use Rattle.qf_grammar.specs.declared.tree.Side.TheVariants as side
use Rattle.qf_grammar.specs.declared.tree.Item.{Item}
use Rattle.qf_grammar.specs.declared.tree.Item.TheVariants as item
use Rattle.qf_grammar.specs.declared.tree.Relation.{Relation}
use Rattle.qf_grammar.specs.declared.tree.Relation.TheVariants as relation
use Rattle.qf_grammar.specs.declared.tree.Compare.{Compare}
use Rattle.qf_grammar.specs.declared.tree.Compare.TheVariants as compare
use Rattle.qf_grammar.specs.declared.tree.Condition.{Condition, Row_of-Condition, end_of-Condition, more_of-Condition}
use Rattle.qf_grammar.specs.declared.tree.Condition.TheVariants.{Test, All', Any', Not'}
use Rattle.qf_grammar.specs.declared.tree.Assign.{Assign}
use Rattle.qf_grammar.specs.declared.tree.Form.{Form}
use Rattle.qf_grammar.specs.declared.tree.Form.TheVariants as form
use Rattle.qf_log.specs.Parameters.{number_at}

-- numbers within 2^50
abbrev pub AreSmall : List ℤ → Type 0
AreSmall numbers = (n : ℕ) → unsigned_abs (number_at numbers n) ≤ 2 ^ 50

abbrev pub id_at : List ℕ → ℕ → ℕ
id_at ids n = slice_index_or ids n 0

-- with the sign before it
abbrev pub signed : Bool → ℤ → ℤ
signed true z = neg_ℤ z
signed false z = z

abbrev pub parameter_term : List ℕ → ℤ → ℕ → ir.Term
parameter_term ids f n = record { factor = f; atom = Param (id_at ids n) }

abbrev pub column_term : ℤ → ℕ → ir.Term
column_term f c = record { factor = f; atom = Column c }

-- A number alone is a parameter, a name alone a column; a number with a name is the column's factor. (No statement that is
-- read multiplies two names or two numbers.)
abbrev pub lowered_product : List ℤ → List ℕ → Bool → Factor → Option Factor → ir.Term
lowered_product numbers ids minus (factor.Number n) None = parameter_term ids (signed minus (pos 1)) n
lowered_product numbers ids minus (factor.Name c) None = column_term (signed minus (pos 1)) c
lowered_product numbers ids minus (factor.Number n) (Some (factor.Name c)) = column_term (signed minus (number_at numbers n)) c
lowered_product numbers ids minus (factor.Name c) (Some (factor.Number n)) = column_term (signed minus (number_at numbers n)) c
lowered_product numbers ids minus (factor.Number m) (Some (factor.Number n)) = column_term (signed minus (pos 1)) m
lowered_product numbers ids minus (factor.Name c) (Some (factor.Name d)) = column_term (signed minus (pos 1)) c

abbrev pub lowered_term : List ℤ → List ℕ → Term → ir.Term
lowered_term numbers ids t = lowered_product numbers ids t.minus t.left t.right

-- the parts as one list
abbrev pub lowered_several : {A B : Type 0} → (A → B) → Several A → List B
lowered_several f s = f s.first ∷ map f s.others

abbrev pub lowered_sum : List ℤ → List ℕ → Several Term → Expr
lowered_sum numbers ids s = expr.Sum (lowered_several (lowered_term numbers ids) s)

abbrev pub lowered_side : List ℤ → List ℕ → Side → Expr
lowered_side numbers ids (side.Sum s) = lowered_sum numbers ids s
lowered_side numbers ids (side.Text t) = expr.Word t

abbrev pub lowered_item : List ℕ → Item → Expr
lowered_item ids (item.Number n) = expr.Sum (parameter_term ids (pos 1) n ∷ [])
lowered_item ids (item.Text t) = expr.Word t

abbrev pub op_of : Relation → Op
op_of relation.Equal = op.Eq
op_of relation.Unequal = op.Ne
op_of relation.Less = op.Lt
op_of relation.LessEqual = op.Le
op_of relation.Greater = op.Gt
op_of relation.GreaterEqual = op.Ge

-- NOT BETWEEN and NOT IN are NOT of the form without it
abbrev pub not_if : Bool → Cond → Cond
not_if true c = cond.Not c
not_if false c = c

abbrev pub lowered_compare : List ℤ → List ℕ → Compare → Cond
lowered_compare numbers ids (compare.Relate l r m) = cond.Compare (op_of r) (lowered_side numbers ids l) (lowered_side numbers ids m)
lowered_compare numbers ids (compare.Between x negated low high) = not_if negated (cond.Between (lowered_sum numbers ids x) (lowered_sum numbers ids low) (lowered_sum numbers ids high))
lowered_compare numbers ids (compare.Within x negated items) = not_if negated (cond.Within (lowered_side numbers ids x) (lowered_several (lowered_item ids) items))

abbrev mutual
  pub lowered_condition : List ℤ → List ℕ → Condition → Cond
  lowered_condition numbers ids (Test c) = lowered_compare numbers ids c
  lowered_condition numbers ids (All' shape parts) = cond.All (lowered_parts numbers ids parts)
  lowered_condition numbers ids (Any' shape parts) = cond.Any (lowered_parts numbers ids parts)
  lowered_condition numbers ids (Not' shape part) = cond.Not (lowered_part numbers ids part)

  pub lowered_parts : List ℤ → List ℕ → {m : _} → Row_of-Condition m → List Cond
  lowered_parts numbers ids end_of-Condition = []
  lowered_parts numbers ids (more_of-Condition part rest) = lowered_condition numbers ids part ∷ lowered_parts numbers ids rest

  -- the one condition under NOT
  pub lowered_part : List ℤ → List ℕ → {m : _} → Row_of-Condition m → Cond
  lowered_part numbers ids end_of-Condition = cond.All []
  lowered_part numbers ids (more_of-Condition part rest) = lowered_condition numbers ids part

abbrev pub lowered_assign : List ℤ → List ℕ → Assign → ℕ × Expr
lowered_assign numbers ids a = (a.column, lowered_side numbers ids a.value)

-- no list of columns is an empty one
abbrev pub lowered_columns : Option (Several ℕ) → List ℕ
lowered_columns None = []
lowered_columns (Some names) = names.first ∷ names.others

abbrev pub lowered_form : List ℤ → List ℕ → Form → Statement
lowered_form numbers ids (form.Update table sets filter) =
    statement.Update (lowered_several (lowered_assign numbers ids) sets) (option_map (lowered_condition numbers ids) filter)
lowered_form numbers ids (form.Delete table filter) = statement.Delete (option_map (lowered_condition numbers ids) filter)
lowered_form numbers ids (form.Insert table columns tuples) = statement.Insert (lowered_columns columns) (lowered_several (lowered_several (lowered_item ids)) tuples)
