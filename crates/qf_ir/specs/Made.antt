-- What the statements of a log are like before their columns and texts are looked up, and what they stay like.
use Rattle.std.specs.Prelude.{◌≡◌, ℕ, ◌<◌, ◌≤◌, ℤ, pos, negsuc, unsigned_abs, ◌⊎◌, List, length}
use Rattle.std.specs.List.{AllByRecursion, range_with_len}
use Rattle.qf_ir.specs.declared.ast.Atom.{Atom}
use Rattle.qf_ir.specs.declared.ast.Atom.TheVariants.{Column, Param}
use Rattle.qf_ir.specs.declared.ast.Term.{Term}
use Rattle.qf_ir.specs.declared.ast.Expr.{Expr}
use Rattle.qf_ir.specs.declared.ast.Expr.TheVariants.{Sum, Word}
use Rattle.qf_ir.specs.declared.ast.Cond.{Cond, Row_of-Cond, end_of-Cond, more_of-Cond}
use Rattle.qf_ir.specs.declared.ast.Cond.TheVariants.{Compare, Between, Within, All', Any', Not'}
use Rattle.qf_ir.specs.declared.ast.Statement.{Statement}
use Rattle.qf_ir.specs.Typed.{IsItem}
use Rattle.qf_ir.specs.Parts.{terms_of, params_of, all_exprs, all_conds, all_items, depth_of, tests_of, comparisons_of}

-- a column's factor is within a million, a parameter's is 1 or -1
abbrev pub FactorFits : ℤ → Atom → Type 0
FactorFits factor (Column c) = unsigned_abs factor ≤ 1000000
FactorFits factor (Param k) = (factor ≡ pos 1) ⊎ (factor ≡ negsuc 0)

-- a sum has terms, with such factors
abbrev pub IsMade : Expr → Type 0
IsMade (Sum terms) = (1 ≤ length terms) × AllByRecursion (λ (t : Term). FactorFits t.factor t.atom) terms
IsMade (Word code) = Unit {0}

-- a string is one of so many
abbrev pub IsCoded : ℕ → Expr → Type 0
IsCoded texts (Sum terms) = Unit {0}
IsCoded texts (Word code) = code < texts

abbrev pub HasParts : {m : _} → Row_of-Cond m → Type 0
HasParts end_of-Cond = ⊥
HasParts (more_of-Cond part rest) = Unit {0}

-- no AND, OR or IN is empty
abbrev mutual
  pub IsWhole : Cond → Type 0
  IsWhole (Compare op l r) = Unit {0}
  IsWhole (Between x lo hi) = Unit {0}
  IsWhole (Within x items) = 1 ≤ length items
  IsWhole (All' shape parts) = HasParts parts × AreWhole parts
  IsWhole (Any' shape parts) = HasParts parts × AreWhole parts
  IsWhole (Not' shape part) = AreWhole part

  pub AreWhole : {m : _} → Row_of-Cond m → Type 0
  AreWhole end_of-Cond = Unit {0}
  AreWhole (more_of-Cond part rest) = IsWhole part × AreWhole rest

abbrev pub IsShallow : Cond → Type 0
IsShallow cond = depth_of cond ≤ 128

abbrev pub HasFewTerms : Expr → Type 0
HasFewTerms e = length (terms_of e) ≤ 64

abbrev pub HasFewComparisons : Cond → Type 0
HasFewComparisons cond = comparisons_of (tests_of cond) ≤ 64

-- the parameters are read as 1, 2, .. up to so many
abbrev pub AreInOrder : List Statement → ℕ → Type 0
AreInOrder statements params = params_of statements ≡ range_with_len 1 params

-- sums have terms with small factors, the items of INSERT are parameters or strings, conditions are whole and shallow
pub record AreMade (statements : List Statement) : Type 0 where
  pub exprs : AllByRecursion IsMade (all_exprs statements)
  pub items : AllByRecursion IsItem (all_items statements)
  pub whole : AllByRecursion IsWhole (all_conds statements)
  pub shallow : AllByRecursion IsShallow (all_conds statements)

abbrev pub AreCoded : List Statement → ℕ → Type 0
AreCoded statements texts = AllByRecursion (IsCoded texts) (all_exprs statements)
