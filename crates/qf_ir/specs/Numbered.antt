-- Statements whose columns and texts are renumbered: from places in a log's own lists to those of its program.
use Rattle.std.specs.Prelude.{ℕ, ◌-◌, ◌^◌, List, [], ◌∷◌, map, slice_index_or}
use Rattle.std.specs.declared.option.Option.{Option}
use Rattle.std.specs.declared.option.Option.TheVariants.{Some, None}
use Rattle.qf_ir.specs.declared.ast.Atom.{Atom}
use Rattle.qf_ir.specs.declared.ast.Atom.TheVariants.{Column, Param}
use Rattle.qf_ir.specs.declared.ast.Term.{Term}
use Rattle.qf_ir.specs.declared.ast.Expr.{Expr}
use Rattle.qf_ir.specs.declared.ast.Expr.TheVariants.{Sum, Word}
use Rattle.qf_ir.specs.declared.ast.Cond.{Cond, Row_of-Cond, end_of-Cond, more_of-Cond}
use Rattle.qf_ir.specs.declared.ast.Cond.TheVariants.{Compare, Between, Within, All, Any, Not, All', Any', Not'}
use Rattle.qf_ir.specs.declared.ast.Statement.{Statement}
use Rattle.qf_ir.specs.declared.ast.Statement.TheVariants.{Update, Delete, Insert}
use Rattle.qf_ir.specs.declared.table.Table.{Table}
use Rattle.qf_ir.specs.Texts.{code_in, with_texts}
use Rattle.qf_ir.specs.Tables.{names_of}

-- for each of a log's names its column, for each of its texts its code
pub record Numbering : Type 0 where
  pub columns : List ℕ
  pub codes : List ℕ

-- a place outside the list leads nowhere
abbrev pub nowhere : ℕ
nowhere = 2 ^ 32 - 1

abbrev pub found_at : List ℕ → ℕ → ℕ
found_at places place = slice_index_or places place nowhere

abbrev pub numbered_atom : Numbering → Atom → Atom
numbered_atom n (Column c) = Column (found_at n.columns c)
numbered_atom n (Param k) = Param k

abbrev pub numbered_term : Numbering → Term → Term
numbered_term n t = record { factor = t.factor; atom = numbered_atom n t.atom }

abbrev pub numbered_expr : Numbering → Expr → Expr
numbered_expr n (Sum terms) = Sum (map (numbered_term n) terms)
numbered_expr n (Word code) = Word (found_at n.codes code)

abbrev pub numbered_exprs : Numbering → List Expr → List Expr
numbered_exprs n exprs = map (numbered_expr n) exprs

-- the one condition under NOT
abbrev pub negated : List Cond → Cond
negated [] = All []
negated (part ∷ parts) = Not part

abbrev mutual
  pub numbered_cond : Numbering → Cond → Cond
  numbered_cond n (Compare op l r) = Compare op (numbered_expr n l) (numbered_expr n r)
  numbered_cond n (Between x lo hi) = Between (numbered_expr n x) (numbered_expr n lo) (numbered_expr n hi)
  numbered_cond n (Within x items) = Within (numbered_expr n x) (numbered_exprs n items)
  numbered_cond n (All' shape parts) = All (numbered_parts n parts)
  numbered_cond n (Any' shape parts) = Any (numbered_parts n parts)
  numbered_cond n (Not' shape part) = negated (numbered_parts n part)

  pub numbered_parts : Numbering → {m : _} → Row_of-Cond m → List Cond
  numbered_parts n end_of-Cond = []
  numbered_parts n (more_of-Cond part rest) = numbered_cond n part ∷ numbered_parts n rest

abbrev pub numbered_where : Numbering → Option Cond → Option Cond
numbered_where n None = None
numbered_where n (Some cond) = Some (numbered_cond n cond)

abbrev pub numbered_set : Numbering → ℕ × Expr → ℕ × Expr
numbered_set n s = (found_at n.columns s.0, numbered_expr n s.1)

abbrev pub numbered_statement : Numbering → Statement → Statement
numbered_statement n (Update sets where_) = Update (map (numbered_set n) sets) (numbered_where n where_)
numbered_statement n (Delete where_) = Delete (numbered_where n where_)
numbered_statement n (Insert columns tuples) = Insert (map (found_at n.columns) columns) (map (numbered_exprs n) tuples)

-- the table's texts and then the log's, each once
abbrev pub joint_texts : Table → List (List ℕ) → List (List ℕ)
joint_texts table texts = with_texts table.texts texts

-- names by the table's columns, where an unknown one gets the number of columns; texts by the joint list
abbrev pub numbering_of : Table → List (List ℕ) → List (List ℕ) → Numbering
numbering_of table names texts =
    record {
      columns = map (code_in (names_of table.columns)) names;
      codes = map (code_in (joint_texts table texts)) texts;
    }
