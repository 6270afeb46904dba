-- What the code that makes a row's definitions is seen as.
use Rattle.std.specs.Prelude.{◌≡◌, ℕ, ◌^◌, ◌<◌, ◌≤◌, cond, unsigned_abs, List, [], ◌∷◌, length, slice_index_or}
use Rattle.std.specs.declared.option.Option.{Option}
use Rattle.std.specs.declared.option.Option.TheVariants.{Some, None}
use Rattle.std.specs.List.{list_any}
use Rattle.qf_circuit.specs.declared.circuit.Def.{Def}
use Rattle.qf_circuit.specs.Circuits.{IsCircuit}
use Rattle.qf_encode.specs.declared.coded.Coded.{Coded}
use Rattle.qf_circuit.specs.declared.circuit.Def.TheVariants as def
use Rattle.qf_ir.specs.declared.ast.Term.{Term}
use Rattle.qf_ir.specs.declared.ast.Expr.{Expr}
use Rattle.qf_ir.specs.declared.ast.Expr.TheVariants.{Sum, Word}
use Rattle.qf_ir.specs.declared.ast.Cond.{Cond, Row_of-Cond, end_of-Cond, more_of-Cond}
use Rattle.qf_ir.specs.declared.ast.Cond.TheVariants.{Compare, Between, Within, All', Any', Not'}
use Rattle.qf_ir.specs.declared.ast.Statement.{Statement}
use Rattle.qf_ir.specs.declared.ast.Statement.TheVariants.{Update, Delete, Insert}
use Rattle.qf_encode.specs.Coding.{Defs, MadeAll, is_param, param_number, made_cond}

-- ---- numbers of parameters

-- the number of a parameter's definition, and 0 where it has none
abbrev pub known_number : Defs → ℕ → ℕ
known_number defs k = cond (list_any (is_param k) defs) (param_number defs k) 0

-- the list has each parameter's number at the parameter's place, and the definitions can be numbered
pub record Knows (numbers : List ℕ) (defs : Defs) : Type 0 where
  pub each : (k : ℕ) → slice_index_or numbers k 0 ≡ known_number defs k
  pub few : length defs < 2 ^ 32

abbrev pub IsNoParam : Def → Type 0
IsNoParam (def.Param k) = ⊥
IsNoParam d = Unit {0}

-- ---- the parts of a condition, as a list

abbrev pub made_parts : List ℕ → Defs → List Cond → MadeAll
made_parts columns defs [] = (defs, [])
made_parts columns defs (part ∷ parts) =
    let first = made_cond columns defs part in
    let others = made_parts columns first.0 parts in
    (others.0, first.1 ∷ others.1)

-- ---- factors that have an opposite

-- within 1,000,000 in size
abbrev pub HasOpposite : Term → Type 0
HasOpposite t = unsigned_abs t.factor ≤ 1000000

abbrev pub TermsTurn : List Term → Type 0
TermsTurn [] = Unit {0}
TermsTurn (t ∷ ts) = HasOpposite t × TermsTurn ts

abbrev pub ExprTurns : Expr → Type 0
ExprTurns (Sum terms) = TermsTurn terms
ExprTurns (Word code) = Unit {0}

-- the expressions of a condition are of this kind
abbrev pub ExprsWith : (Expr → Type 0) → List Expr → Type 0
ExprsWith P [] = Unit {0}
ExprsWith P (e ∷ es) = P e × ExprsWith P es

abbrev mutual
  pub CondWith : (Expr → Type 0) → Cond → Type 0
  CondWith P (Compare op left right) = P left × P right
  CondWith P (Between x low high) = P x × (P low × P high)
  CondWith P (Within x items) = P x × ExprsWith P items
  CondWith P (All' shape parts) = CondsWith P parts
  CondWith P (Any' shape parts) = CondsWith P parts
  CondWith P (Not' shape part) = CondsWith P part

  pub CondsWith : (Expr → Type 0) → {m : _} → Row_of-Cond m → Type 0
  CondsWith P end_of-Cond = Unit {0}
  CondsWith P (more_of-Cond part rest) = CondWith P part × CondsWith P rest

abbrev pub ExprsTurn : List Expr → Type 0
ExprsTurn es = ExprsWith ExprTurns es

abbrev pub CondTurns : Cond → Type 0
CondTurns c = CondWith ExprTurns c

abbrev pub PartsTurn : List Cond → Type 0
PartsTurn [] = Unit {0}
PartsTurn (part ∷ parts) = CondTurns part × PartsTurn parts

abbrev pub FilterTurns : Option Cond → Type 0
FilterTurns None = Unit {0}
FilterTurns (Some filter) = CondTurns filter

abbrev pub StatementTurns : Statement → Type 0
StatementTurns (Update sets filter) = FilterTurns filter
StatementTurns (Delete filter) = FilterTurns filter
StatementTurns (Insert columns tuples) = Unit {0}

abbrev pub StatementsTurn : List Statement → Type 0
StatementsTurn [] = Unit {0}
StatementsTurn (s ∷ statements) = StatementTurns s × StatementsTurn statements

-- ---- a circuit that is there

abbrev pub HasCircuit : Option Coded → Type 0
HasCircuit None = ⊥
HasCircuit (Some c) = IsCircuit c.circuit
