-- The circuit of a row: definitions in the order in which the row's life needs them.
-- A text counts by its place in the list of texts, as in the life of a row.
use Rattle.std.specs.Prelude.{ℕ, zero, suc, ◌+◌, ◌-◌, ◌==◌, ℤ, pos, negsuc, ◌+ℤ◌, ◌-ℤ◌, neg_ℤ, Bool, false, cond, List, [], ◌∷◌, ◌++◌, length, map, slice_index_or, slice_get, slice_set}
use Rattle.std.specs.declared.option.Option.{Option}
use Rattle.std.specs.declared.option.Option.TheVariants.{Some, None}
use Rattle.std.specs.List.{list_any, position_or_len}
use Rattle.qf_base.specs.declared.names.RowName.{RowName}
use Rattle.qf_base.specs.declared.names.RowName.TheVariants.{Start, Inserted}
use Rattle.qf_base.specs.Values.{Term as Addend}
use Rattle.qf_encode.specs.declared.coded.Coded.{Coded}
use Rattle.qf_circuit.specs.declared.circuit.Def.{Def}
use Rattle.qf_circuit.specs.declared.circuit.Def.TheVariants as def
use Rattle.qf_ir.specs.declared.ast.Atom.{Atom}
use Rattle.qf_ir.specs.declared.ast.Atom.TheVariants.{Column, Param}
use Rattle.qf_ir.specs.declared.ast.Term.{Term}
use Rattle.qf_ir.specs.declared.ast.Expr.{Expr}
use Rattle.qf_ir.specs.declared.ast.Expr.TheVariants.{Sum, Word}
use Rattle.qf_ir.specs.declared.ast.Op.{Op}
use Rattle.qf_ir.specs.declared.ast.Op.TheVariants.{Eq, Ne, Lt, Le, Gt, Ge}
use Rattle.qf_ir.specs.declared.ast.Cond.{Cond, Row_of-Cond, end_of-Cond, more_of-Cond}
use Rattle.qf_ir.specs.declared.ast.Cond.TheVariants.{Compare, Between, Within, All', Any', Not'}
use Rattle.qf_ir.specs.declared.ast.Statement.{Statement}
use Rattle.qf_ir.specs.declared.ast.Statement.TheVariants.{Update, Delete, Insert}
use Rattle.qf_ir.specs.Value.{Cells, number_of}
use Rattle.qf_ir.specs.Replay.{place_of}

abbrev pub Defs : Type 0
Defs = List Def

-- the definitions so far, and the number of the one that is meant
abbrev pub Made : Type 0
Made = Defs × ℕ

abbrev pub made : Defs → Def → Made
made defs d = (defs ++ d ∷ [], length defs + 1)

-- ---- parameters: made at the first mention, and used again later

abbrev pub is_param : ℕ → Def → Bool
is_param k (def.Param j) = j == k
is_param k d = false

abbrev pub with_param : Defs → ℕ → Defs
with_param defs k = cond (list_any (is_param k) defs) defs (defs ++ def.Param k ∷ [])

abbrev pub param_number : Defs → ℕ → ℕ
param_number defs k = position_or_len (is_param k) defs + 1

abbrev pub with_atom : Defs → Atom → Defs
with_atom defs (Column c) = defs
with_atom defs (Param k) = with_param defs k

abbrev pub with_terms : Defs → List Term → Defs
with_terms defs [] = defs
with_terms defs (t ∷ ts) = with_terms (with_atom defs t.atom) ts

-- the definition of what a term names, where the columns have these definitions
abbrev pub atom_number : Defs → List ℕ → Atom → ℕ
atom_number defs columns (Column c) = slice_index_or columns c 0
atom_number defs columns (Param k) = param_number defs k

abbrev pub addend : Defs → List ℕ → Term → Addend
addend defs columns t = (t.factor, atom_number defs columns t.atom)

-- ---- sums and differences: one `Linear`, after the parameters that it is the first to name

abbrev pub made_sum : List ℕ → Defs → List Term → ℤ → Made
made_sum columns defs terms n =
    made (with_terms defs terms) (def.Linear (map (addend (with_terms defs terms) columns) terms) n)

-- what a column is set to
abbrev pub made_value : List ℕ → Defs → Expr → Made
made_value columns defs (Sum terms) = made_sum columns defs terms (pos 0)
made_value columns defs (Word code) = made defs (def.Const (pos code))

abbrev pub opposite : Term → Term
opposite t = record { factor = neg_ℤ t.factor; atom = t.atom }

abbrev pub terms_in : Expr → List Term
terms_in (Sum terms) = terms
terms_in (Word code) = []

abbrev pub constant_in : Expr → ℤ
constant_in (Sum terms) = pos 0
constant_in (Word code) = pos code

-- left - right + n
abbrev pub made_difference : List ℕ → Defs → Expr → Expr → ℤ → Made
made_difference columns defs left right n =
    made_sum columns defs (terms_in left ++ map opposite (terms_in right)) ((constant_in left -ℤ constant_in right) +ℤ n)

-- ---- conditions

-- left - right + n >= 0
abbrev pub made_sign : List ℕ → Defs → Expr → Expr → ℤ → Made
made_sign columns defs left right n =
    let d = made_difference columns defs left right n in
    made d.0 (def.AtLeastZero d.1)

-- left >= right and right >= upper
abbrev pub made_order : List ℕ → Defs → Expr → Expr → Expr → Expr → Made
made_order columns defs a b c d =
    let first = made_sign columns defs a b (pos 0) in
    let second = made_sign columns first.0 c d (pos 0) in
    made second.0 (def.All (first.1 ∷ second.1 ∷ []))

abbrev pub made_equal : List ℕ → Defs → Expr → Expr → Made
made_equal columns defs left right = made_order columns defs left right right left

abbrev pub made_not : Made → Made
made_not m = made m.0 (def.Not m.1)

abbrev pub made_compare : List ℕ → Defs → Op → Expr → Expr → Made
made_compare columns defs Eq left right = made_equal columns defs left right
made_compare columns defs Ne left right = made_not (made_equal columns defs left right)
made_compare columns defs Lt left right = made_sign columns defs right left (negsuc 0)
made_compare columns defs Le left right = made_sign columns defs right left (pos 0)
made_compare columns defs Gt left right = made_sign columns defs left right (negsuc 0)
made_compare columns defs Ge left right = made_sign columns defs left right (pos 0)

-- the definitions so far, and the numbers of those that are meant
abbrev pub MadeAll : Type 0
MadeAll = Defs × List ℕ

abbrev pub made_equals : List ℕ → Defs → Expr → List Expr → MadeAll
made_equals columns defs x [] = (defs, [])
made_equals columns defs x (item ∷ items) =
    let first = made_equal columns defs x item in
    let rest = made_equals columns first.0 x items in
    (rest.0, first.1 ∷ rest.1)

abbrev pub made_all : MadeAll → Made
made_all m = made m.0 (def.All m.1)

abbrev pub made_any : MadeAll → Made
made_any m = made m.0 (def.Any m.1)

abbrev mutual
  pub made_cond : List ℕ → Defs → Cond → Made
  made_cond columns defs (Compare op left right) = made_compare columns defs op left right
  made_cond columns defs (Between x low high) = made_order columns defs x low high x
  made_cond columns defs (Within x items) = made_any (made_equals columns defs x items)
  made_cond columns defs (All' shape parts) = made_all (made_conds columns defs parts)
  made_cond columns defs (Any' shape parts) = made_any (made_conds columns defs parts)
  made_cond columns defs (Not' shape part) = made_not (made_one columns defs part)

  pub made_conds : List ℕ → Defs → {m : _} → Row_of-Cond m → MadeAll
  made_conds columns defs end_of-Cond = (defs, [])
  made_conds columns defs (more_of-Cond part rest) =
      let first = made_cond columns defs part in
      let others = made_conds columns first.0 rest in
      (others.0, first.1 ∷ others.1)

  -- the one condition under NOT
  pub made_one : List ℕ → Defs → {m : _} → Row_of-Cond m → Made
  made_one columns defs end_of-Cond = made defs (def.Const (pos 0))
  made_one columns defs (more_of-Cond part rest) = made_cond columns defs part

-- ---- statements

-- `Coded` has the definitions of a row so far, and the numbers of those of its columns and of whether it lives

-- the new values in order, all of them from the columns before
abbrev pub made_values : List ℕ → Defs → List (ℕ × Expr) → MadeAll
made_values columns defs [] = (defs, [])
made_values columns defs (s ∷ sets) =
    let first = made_value columns defs s.1 in
    let rest = made_values columns first.0 sets in
    (rest.0, first.1 ∷ rest.1)

-- .. each of them taken where the condition holds
abbrev pub made_choices : List ℕ → ℕ → Defs → List (ℕ × Expr) → List ℕ → MadeAll
made_choices columns w defs [] news = (defs, [])
made_choices columns w defs (s ∷ sets) [] = (defs, [])
made_choices columns w defs (s ∷ sets) (new ∷ news) =
    let first = made defs (def.Choose w new (slice_index_or columns s.0 0)) in
    let rest = made_choices columns w first.0 sets news in
    (rest.0, first.1 ∷ rest.1)

abbrev pub with_columns : List ℕ → List (ℕ × Expr) → List ℕ → List ℕ
with_columns columns [] news = columns
with_columns columns (s ∷ sets) [] = columns
with_columns columns (s ∷ sets) (new ∷ news) = with_columns (slice_set columns s.0 new) sets news

abbrev pub coded_after : Statement → Coded → Coded
coded_after (Update sets None) c =
    let news = made_values c.columns c.circuit sets in
    record { circuit = news.0; columns = with_columns c.columns sets news.1; live = c.live }
coded_after (Update sets (Some filter)) c =
    let test = made_cond c.columns c.circuit filter in
    let news = made_values c.columns test.0 sets in
    let chosen = made_choices c.columns test.1 news.0 sets news.1 in
    record { circuit = chosen.0; columns = with_columns c.columns sets chosen.1; live = c.live }
coded_after (Delete None) c =
    let gone = made c.circuit (def.Const (pos 0)) in
    record { circuit = gone.0; columns = c.columns; live = gone.1 }
coded_after (Delete (Some filter)) c =
    let kept = made_not (made_cond c.columns c.circuit filter) in
    let live = made kept.0 (def.All (c.live ∷ kept.1 ∷ [])) in
    record { circuit = live.0; columns = c.columns; live = live.1 }
coded_after (Insert columns tuples) c = c

abbrev pub coded : List Statement → Coded → Coded
coded [] c = c
coded (s ∷ statements) c = coded statements (coded_after s c)

-- ---- how a row starts

abbrev pub numbers_from : {X : Type 0} → ℕ → List X → List ℕ
numbers_from first [] = []
numbers_from first (x ∷ xs) = first ∷ numbers_from (first + 1) xs

-- it lives
abbrev pub begun : MadeAll → Coded
begun m = let live = made m.0 (def.Const (pos 1)) in record { circuit = live.0; columns = m.1; live = live.1 }

-- a row of the table
abbrev pub start_coding : Cells → Coded
start_coding cells = begun (map (λ cell. def.Const (number_of cell)) cells, numbers_from 1 cells)

-- an item of an inserted row: a parameter, or a text
abbrev pub made_item : Defs → Expr → Made
made_item defs (Sum []) = made defs (def.Const (pos 0))
made_item defs (Sum (t ∷ ts)) = (with_atom defs t.atom, atom_number (with_atom defs t.atom) [] t.atom)
made_item defs (Word code) = made defs (def.Const (pos code))

-- so many columns from this one on, each with its item of the tuple
abbrev pub made_items : List ℕ → List Expr → Defs → ℕ → ℕ → MadeAll
made_items columns tuple defs first zero = (defs, [])
made_items columns tuple defs first (suc n) =
    let item = made_item defs (slice_index_or tuple (place_of columns first) (Word 0)) in
    let rest = made_items columns tuple item.0 (first + 1) n in
    (rest.0, item.1 ∷ rest.1)

abbrev pub insert_coding : ℕ → List ℕ → List Expr → Coded
insert_coding width columns tuple = begun (made_items columns tuple [] 0 width)

abbrev pub coded_or : Option Coded → List Statement → Option Coded → Option Coded
coded_or None statements other = other
coded_or (Some c) statements other = Some (coded statements c)

abbrev pub insert_coding_or : ℕ → List ℕ → Option (List Expr) → Option Coded
insert_coding_or width columns None = None
insert_coding_or width columns (Some tuple) = Some (insert_coding width columns tuple)

-- the row that the log inserts after so many others
abbrev pub inserted_coding : ℕ → List Statement → ℕ → Option Coded
inserted_coding width [] place = None
inserted_coding width (Update sets filter ∷ statements) place = inserted_coding width statements place
inserted_coding width (Delete filter ∷ statements) place = inserted_coding width statements place
inserted_coding width (Insert columns tuples ∷ statements) place =
    coded_or (insert_coding_or width columns (slice_get tuples place)) statements
    (inserted_coding width statements (place - length tuples))

abbrev pub start_coding_or : Option Cells → Option Coded
start_coding_or None = None
start_coding_or (Some cells) = Some (start_coding cells)

-- the circuit of a row, where it exists
abbrev pub circuit_of : ℕ → List Cells → List Statement → RowName → Option Coded
circuit_of width table statements (Start k) = coded_or (start_coding_or (slice_get table (k - 1))) statements None
circuit_of width table statements (Inserted k) = inserted_coding width statements (k - 1)
