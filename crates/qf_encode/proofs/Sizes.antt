-- How large the circuit of a row can be.
use Rattle.std.proofs.Common.{◌≡◌, ℕ, zero, suc, ◌+◌, ◌*◌, ◌-◌, ◌≤◌, Bool, true, false, cond, List, [], ◌∷◌, ◌++◌, length, map, slice_index_or, slice_get, ℤ, pos, negsuc, ◌+ℤ◌, ◌-ℤ◌, arith, refl, ap, length-append}
use mathlib.Core.Former.{Count, one_more}
use Rattle.std.specs.List.{list_any}
use Rattle.std.specs.declared.option.Option.{Option}
use Rattle.std.specs.declared.option.Option.TheVariants.{Some, None}
use Rattle.std.proofs.lemmas.List.{length-map}
use Rattle.qf_circuit.specs.declared.circuit.Def.{Def}
use Rattle.qf_circuit.specs.declared.circuit.Def.TheVariants as def
use Rattle.qf_circuit.specs.Circuits.{def_size, circuit_size}
use Rattle.qf_ir.specs.declared.ast.Atom.{Atom}
use Rattle.qf_ir.specs.declared.ast.Atom.TheVariants.{Column, Param}
use Rattle.qf_ir.specs.declared.ast.Term.{Term}
use Rattle.qf_ir.specs.declared.ast.Expr.{Expr}
use Rattle.qf_ir.specs.declared.ast.Expr.TheVariants.{Sum, Word}
use Rattle.qf_ir.specs.declared.ast.Op.{Op}
use Rattle.qf_ir.specs.declared.ast.Op.TheVariants.{Eq, Ne, Lt, Le, Gt, Ge}
use Rattle.qf_ir.specs.declared.ast.Cond.{Cond, Row_of-Cond, end_of-Cond, more_of-Cond}
use Rattle.qf_ir.specs.declared.ast.Cond.TheVariants.{Compare, Between, Within, All', Any', Not'}
use Rattle.qf_ir.specs.declared.ast.Statement.{Statement}
use Rattle.qf_ir.specs.declared.ast.Statement.TheVariants.{Update, Delete, Insert}
use Rattle.qf_ir.specs.Replay.{place_of}
use Rattle.qf_ir.specs.Value.{Cells, number_of}
use Rattle.qf_ir.specs.Parts.{tests_of, tests_of_parts, comparisons_of, depth_of, depth_of_parts}
use Rattle.qf_ir.specs.Made.{HasFewTerms, HasParts, IsWhole, AreWhole}
use Rattle.qf_encode.specs.declared.coded.Coded.{Coded}
use Rattle.qf_encode.specs.Coding.{Defs, is_param, with_terms, with_atom, addend, made_sum, made_value, opposite, terms_in, constant_in, made_difference, made_sign, made_order, made_equal, made_not, made_compare, made_equals, made_cond, made_conds, made_one, made_values, made_choices, made_item, made_items, coded_after, coded, start_coding, insert_coding, start_coding_or, insert_coding_or, coded_or, inserted_coding, circuit_of}
use Rattle.qf_encode.specs.Lives.{RowsIn}
use Rattle.qf_base.specs.declared.names.RowName.{RowName}
use Rattle.qf_base.specs.declared.names.RowName.TheVariants.{Start, Inserted}
use Rattle.qf_encode.specs.Making.{ExprsWith, CondWith, CondsWith}

-- ---- lists of definitions

pub size_append : (a b : Defs) → circuit_size (a ++ b) ≡ circuit_size a + circuit_size b
size_append [] b = omega arith
size_append (d ∷ ds) b = omega (arith, size_append ds b)

def_counts : (d : Def) → 1 ≤ def_size d
def_counts (def.Param k) = omega arith
def_counts (def.Const n) = omega arith
def_counts (def.Linear ts n) = omega arith
def_counts (def.AtLeastZero v) = omega arith
def_counts (def.All xs) = omega arith
def_counts (def.Any xs) = omega arith
def_counts (def.Not x) = omega arith
def_counts (def.Choose x a b) = omega arith

pub length_size : (defs : Defs) → length defs ≤ circuit_size defs
length_size [] = omega arith
length_size (d ∷ ds) = omega (arith, def_counts d, length_size ds)

-- at most so much larger
Grows : Defs → Defs → ℕ → Type 0
Grows a b n = circuit_size b ≤ circuit_size a + n

made_size : (defs : Defs) (d : Def) → circuit_size (defs ++ d ∷ []) ≡ circuit_size defs + def_size d
made_size defs d = omega (arith, size_append defs (d ∷ []))

-- ---- sums

param_size : (flag : Bool) (defs : Defs) (k : ℕ) → circuit_size (cond flag defs (defs ++ def.Param k ∷ [])) ≤ circuit_size defs + 1
param_size true defs k = omega arith
param_size false defs k = omega (arith, made_size defs (def.Param k))

atom_size : (defs : Defs) (atom : Atom) → circuit_size (with_atom defs atom) ≤ circuit_size defs + 1
atom_size defs (Column c) = omega arith
atom_size defs (Param k) = param_size (list_any (is_param k) defs) defs k

terms_size : (defs : Defs) (ts : List Term) → circuit_size (with_terms defs ts) ≤ circuit_size defs + length ts
terms_size defs [] = omega arith
terms_size defs (t ∷ ts) = omega (arith, atom_size defs t.atom, terms_size (with_atom defs t.atom) ts)

sum_size : (columns : List ℕ) (defs : Defs) (ts : List Term) (n : ℤ) → circuit_size (made_sum columns defs ts n).0 ≤ circuit_size defs + (length ts + 1)
sum_size columns defs ts n =
    let after = with_terms defs ts in
    omega (arith, terms_size defs ts, made_size after (def.Linear (map (addend after columns) ts) n))

few_terms_in : (e : Expr) → HasFewTerms e → length (terms_in e) ≤ 64
few_terms_in (Sum ts) h = h
few_terms_in (Word code) h = omega arith

pub value_size : (columns : List ℕ) (defs : Defs) (e : Expr) → HasFewTerms e → circuit_size (made_value columns defs e).0 ≤ circuit_size defs + 65
value_size columns defs (Sum ts) h = omega (arith, sum_size columns defs ts (pos 0), h)
value_size columns defs (Word code) h = omega (arith, made_size defs (def.Const (pos code)))

sign_size : (columns : List ℕ) (defs : Defs) (left right : Expr) (n : ℤ) → HasFewTerms left → HasFewTerms right → circuit_size (made_sign columns defs left right n).0 ≤ circuit_size defs + 130
sign_size columns defs left right n a b =
    let terms = terms_in left ++ map opposite (terms_in right) in
    let d = made_difference columns defs left right n in
    omega (arith, sum_size columns defs terms ((constant_in left -ℤ constant_in right) +ℤ n), made_size d.0 (def.AtLeastZero d.1), length-append (terms_in left) (map opposite (terms_in right)), length-map (terms_in right) opposite, few_terms_in left a, few_terms_in right b)

order_size : (columns : List ℕ) (defs : Defs) (a b c d : Expr) → HasFewTerms a → HasFewTerms b → HasFewTerms c → HasFewTerms d → circuit_size (made_order columns defs a b c d).0 ≤ circuit_size defs + 263
order_size columns defs a b c d ha hb hc hd =
    let one = made_sign columns defs a b (pos 0) in
    let two = made_sign columns one.0 c d (pos 0) in
    omega (arith, sign_size columns defs a b (pos 0) ha hb, sign_size columns one.0 c d (pos 0) hc hd, made_size two.0 (def.All (one.1 ∷ two.1 ∷ [])))

equal_size : (columns : List ℕ) (defs : Defs) (left right : Expr) → HasFewTerms left → HasFewTerms right → circuit_size (made_equal columns defs left right).0 ≤ circuit_size defs + 263
equal_size columns defs left right a b = order_size columns defs left right right left a b b a

compare_size : (columns : List ℕ) (defs : Defs) (op : Op) (left right : Expr) → HasFewTerms left → HasFewTerms right → circuit_size (made_compare columns defs op left right).0 ≤ circuit_size defs + 264
compare_size columns defs Eq left right a b = omega (arith, equal_size columns defs left right a b)
compare_size columns defs Ne left right a b =
    let m = made_equal columns defs left right in
    omega (arith, equal_size columns defs left right a b, made_size m.0 (def.Not m.1))
compare_size columns defs Lt left right a b = omega (arith, sign_size columns defs right left (negsuc 0) b a)
compare_size columns defs Le left right a b = omega (arith, sign_size columns defs right left (pos 0) b a)
compare_size columns defs Gt left right a b = omega (arith, sign_size columns defs left right (negsuc 0) a b)
compare_size columns defs Ge left right a b = omega (arith, sign_size columns defs left right (pos 0) a b)

equals_size : (columns : List ℕ) (defs : Defs) (x : Expr) (items : List Expr) → HasFewTerms x → ExprsWith HasFewTerms items → (circuit_size (made_equals columns defs x items).0 ≤ circuit_size defs + 263 * length items) × (length (made_equals columns defs x items).1 ≡ length items)
equals_size columns defs x [] h k = (omega arith, refl)
equals_size columns defs x (item ∷ items) h k =
    let first = made_equal columns defs x item in
    let more = equals_size columns first.0 x items h k.1 in
    (omega (arith, equal_size columns defs x item h k.0, more.0), ap suc more.1)

-- ---- conditions: of so many comparisons, at most so deep

comparisons_append : (xs ys : List Cond) → comparisons_of (xs ++ ys) ≡ comparisons_of xs + comparisons_of ys
comparisons_append [] ys = omega arith
comparisons_append (x ∷ xs) ys = omega (arith, comparisons_append xs ys)

-- NOT has its one part
one_part : {m : Count} → (part : Row_of-Cond (one_more m)) → HasParts part
one_part (more_of-Cond part rest) = tt

mutual
  whole_counts : (c : Cond) → IsWhole c → 1 ≤ comparisons_of (tests_of c)
  whole_counts (Compare op l r) h = omega arith
  whole_counts (Between x lo hi) h = omega arith
  whole_counts (Within x items) h = omega (arith, h)
  whole_counts (All' shape parts) h = parts_count parts h.0 h.1
  whole_counts (Any' shape parts) h = parts_count parts h.0 h.1
  whole_counts (Not' shape part) h = parts_count part (one_part part) h

  parts_count : {m : _} → (parts : Row_of-Cond m) → HasParts parts → AreWhole parts → 1 ≤ comparisons_of (tests_of_parts parts)
  parts_count end_of-Cond h k = absurd h
  parts_count (more_of-Cond part rest) h k = omega (arith, whole_counts part k.0, comparisons_append (tests_of part) (tests_of_parts rest))

mutual
  pub cond_size : (columns : List ℕ) (d : ℕ) (defs : Defs) (c : Cond) → CondWith HasFewTerms c → IsWhole c → depth_of c ≤ d → circuit_size (made_cond columns defs c).0 ≤ circuit_size defs + comparisons_of (tests_of c) * (265 + 2 * d)
  cond_size columns d defs (Compare op l r) h w e = omega (arith, compare_size columns defs op l r h.0 h.1)
  cond_size columns d defs (Between x lo hi) h w e = omega (arith, order_size columns defs x lo hi x h.0 h.1.0 h.1.1 h.0)
  cond_size columns d defs (Within x items) h w e =
      let m = made_equals columns defs x items in
      let all = equals_size columns defs x items h.0 h.1 in
      omega (arith, all.0, all.1, made_size m.0 (def.Any m.1), w)
  cond_size columns zero defs (All' shape parts) h w e = absurd (omega (arith, e))
  cond_size columns (suc d) defs (All' shape parts) h w e =
      let m = made_conds columns defs parts in
      let all = conds_size columns d defs parts h w.1 (omega (arith, e)) in
      omega (arith, all.0, all.1, made_size m.0 (def.All m.1), parts_count parts w.0 w.1)
  cond_size columns zero defs (Any' shape parts) h w e = absurd (omega (arith, e))
  cond_size columns (suc d) defs (Any' shape parts) h w e =
      let m = made_conds columns defs parts in
      let all = conds_size columns d defs parts h w.1 (omega (arith, e)) in
      omega (arith, all.0, all.1, made_size m.0 (def.Any m.1), parts_count parts w.0 w.1)
  cond_size columns zero defs (Not' shape part) h w e = absurd (omega (arith, e))
  cond_size columns (suc d) defs (Not' shape part) h w e =
      let m = made_one columns defs part in
      omega (arith, one_size columns d defs part (one_part part) h w (omega (arith, e)), made_size m.0 (def.Not m.1), parts_count part (one_part part) w)

  conds_size : (columns : List ℕ) (d : ℕ) (defs : Defs) → {m : _} → (parts : Row_of-Cond m) → CondsWith HasFewTerms parts → AreWhole parts → depth_of_parts parts ≤ d → (circuit_size (made_conds columns defs parts).0 ≤ circuit_size defs + comparisons_of (tests_of_parts parts) * (265 + 2 * d)) × (length (made_conds columns defs parts).1 ≤ comparisons_of (tests_of_parts parts))
  conds_size columns d defs end_of-Cond h w e = (omega arith, omega arith)
  conds_size columns d defs (more_of-Cond part rest) h w e =
      let first = made_cond columns defs part in
      let one = cond_size columns d defs part h.0 w.0 (omega (arith, e)) in
      let more = conds_size columns d first.0 rest h.1 w.1 (omega (arith, e)) in
      let split = comparisons_append (tests_of part) (tests_of_parts rest) in
      (rw split (omega (arith, one, more.0)), omega (arith, split, more.1, whole_counts part w.0))

  one_size : (columns : List ℕ) (d : ℕ) (defs : Defs) → {m : _} → (part : Row_of-Cond m) → HasParts part → CondsWith HasFewTerms part → AreWhole part → depth_of_parts part ≤ d → circuit_size (made_one columns defs part).0 ≤ circuit_size defs + comparisons_of (tests_of_parts part) * (265 + 2 * d)
  one_size columns d defs end_of-Cond p h w e = absurd p
  one_size columns d defs (more_of-Cond part rest) p h w e =
      let one = cond_size columns d defs part h.0 w.0 (omega (arith, e)) in
      let split = comparisons_append (tests_of part) (tests_of_parts rest) in
      rw split (omega (arith, one))

-- ---- statements

abbrev pub FilterSmall : Option Cond → Type 0
FilterSmall None = Unit {0}
FilterSmall (Some c) = CondWith HasFewTerms c × (IsWhole c × ((depth_of c ≤ 128) × (comparisons_of (tests_of c) ≤ 64)))

abbrev pub SetsSmall : List (ℕ × Expr) → Type 0
SetsSmall [] = Unit {0}
SetsSmall (s ∷ sets) = HasFewTerms s.1 × SetsSmall sets

abbrev pub StatementSmall : Statement → Type 0
StatementSmall (Update sets filter) = (length sets ≤ 32) × (SetsSmall sets × FilterSmall filter)
StatementSmall (Delete filter) = FilterSmall filter
StatementSmall (Insert columns tuples) = Unit {0}

abbrev pub StatementsSmall : List Statement → Type 0
StatementsSmall [] = Unit {0}
StatementsSmall (s ∷ statements) = StatementSmall s × StatementsSmall statements

filter_size : (columns : List ℕ) (defs : Defs) (c : Cond) → FilterSmall (Some c) → circuit_size (made_cond columns defs c).0 ≤ circuit_size defs + 33344
filter_size columns defs c h = omega (arith, cond_size columns 128 defs c h.0 h.1.0 h.1.1.0, h.1.1.1)

values_size : (columns : List ℕ) (defs : Defs) (sets : List (ℕ × Expr)) → SetsSmall sets → circuit_size (made_values columns defs sets).0 ≤ circuit_size defs + 65 * length sets
values_size columns defs [] h = omega arith
values_size columns defs (s ∷ sets) h =
    let first = made_value columns defs s.1 in
    omega (arith, value_size columns defs s.1 h.0, values_size columns first.0 sets h.1)

choices_size : (columns : List ℕ) (w : ℕ) (defs : Defs) (sets : List (ℕ × Expr)) (news : List ℕ) → circuit_size (made_choices columns w defs sets news).0 ≤ circuit_size defs + length sets
choices_size columns w defs [] news = omega arith
choices_size columns w defs (s ∷ sets) [] = omega arith
choices_size columns w defs (s ∷ sets) (new ∷ news) =
    let d : Def = def.Choose w new (slice_index_or columns s.0 0) in
    omega (arith, made_size defs d, choices_size columns w (defs ++ d ∷ []) sets news)

step_size : (s : Statement) (c : Coded) → StatementSmall s → circuit_size (coded_after s c).circuit ≤ circuit_size c.circuit + 35456
step_size (Update sets None) c h = omega (arith, values_size c.columns c.circuit sets h.1.0, h.0)
step_size (Update sets (Some filter)) c h =
    let test = made_cond c.columns c.circuit filter in
    let news = made_values c.columns test.0 sets in
    omega (arith, filter_size c.columns c.circuit filter h.1.1, values_size c.columns test.0 sets h.1.0, choices_size c.columns test.1 news.0 sets news.1, h.0)
step_size (Delete None) c h = omega (arith, made_size c.circuit (def.Const (pos 0)))
step_size (Delete (Some filter)) c h =
    let test = made_cond c.columns c.circuit filter in
    let kept = made_not test in
    omega (arith, filter_size c.columns c.circuit filter h, made_size test.0 (def.Not test.1), made_size kept.0 (def.All (c.live ∷ kept.1 ∷ [])))
step_size (Insert columns tuples) c h = omega arith

coded_size : (statements : List Statement) (c : Coded) → StatementsSmall statements → circuit_size (coded statements c).circuit ≤ circuit_size c.circuit + 35456 * length statements
coded_size [] c h = omega arith
coded_size (s ∷ statements) c h = omega (arith, step_size s c h.0, coded_size statements (coded_after s c) h.1)

-- ---- rows

consts_size : (cells : Cells) → circuit_size (map (λ cell. def.Const (number_of cell)) cells) ≡ length cells
consts_size [] = refl
consts_size (cell ∷ cells) = omega (arith, consts_size cells)

start_size : (cells : Cells) → circuit_size (start_coding cells).circuit ≡ length cells + 1
start_size cells = omega (arith, consts_size cells, made_size (map (λ cell. def.Const (number_of cell)) cells) (def.Const (pos 1)))

item_size : (defs : Defs) (e : Expr) → circuit_size (made_item defs e).0 ≤ circuit_size defs + 1
item_size defs (Sum []) = omega (arith, made_size defs (def.Const (pos 0)))
item_size defs (Sum (t ∷ ts)) = atom_size defs t.atom
item_size defs (Word code) = omega (arith, made_size defs (def.Const (pos code)))

items_size : (columns : List ℕ) (tuple : List Expr) (n first : ℕ) (defs : Defs) → circuit_size (made_items columns tuple defs first n).0 ≤ circuit_size defs + n
items_size columns tuple zero first defs = omega arith
items_size columns tuple (suc n) first defs =
    let e = slice_index_or tuple (place_of columns first) (Word 0) in
    omega (arith, item_size defs e, items_size columns tuple n (first + 1) (made_item defs e).0)

insert_size : (width : ℕ) (columns : List ℕ) (tuple : List Expr) → circuit_size (insert_coding width columns tuple).circuit ≤ width + 1
insert_size width columns tuple =
    omega (arith, items_size columns tuple width 0 [], made_size (made_items columns tuple [] 0 width).0 (def.Const (pos 1)))

abbrev pub SmallCoded : ℕ → Option Coded → Type 0
SmallCoded n None = Unit {0}
SmallCoded n (Some c) = circuit_size c.circuit ≤ n

inserted_size : (width n : ℕ) (statements : List Statement) (place : ℕ) → StatementsSmall statements → (width + 1) + 35456 * length statements ≤ n → SmallCoded n (inserted_coding width statements place)
inserted_size width n [] place h e = tt
inserted_size width n (Update sets filter ∷ statements) place h e = inserted_size width n statements place h.1 (omega (arith, e))
inserted_size width n (Delete filter ∷ statements) place h e = inserted_size width n statements place h.1 (omega (arith, e))
inserted_size width n (Insert columns tuples ∷ statements) place h e =
    by_tuple (slice_get tuples place) (inserted_size width n statements (place - length tuples) h.1 (omega (arith, e)))
  where
    by_tuple : (got : Option (List Expr)) → SmallCoded n (inserted_coding width statements (place - length tuples)) → SmallCoded n (coded_or (insert_coding_or width columns got) statements (inserted_coding width statements (place - length tuples)))
    by_tuple None more = more
    by_tuple (Some tuple) more = omega (arith, coded_size statements (insert_coding width columns tuple) h.1, insert_size width columns tuple, e)

started_size : (width n : ℕ) (statements : List Statement) (table : List Cells) (place : ℕ) → RowsIn width table → StatementsSmall statements → (width + 1) + 35456 * length statements ≤ n → SmallCoded n (coded_or (start_coding_or (slice_get table place)) statements None)
started_size width n statements [] place r h e = tt
started_size width n statements (cells ∷ table) zero r h e =
    omega (arith, coded_size statements (start_coding cells) h, start_size cells, r.0, e)
started_size width n statements (cells ∷ table) (suc place) r h e = started_size width n statements table place r.1 h e

pub circuit_small : (width : ℕ) (table : List Cells) (statements : List Statement) (name : RowName) → RowsIn width table → StatementsSmall statements → width ≤ 32 → length statements ≤ 1000 → SmallCoded 35456033 (circuit_of width table statements name)
circuit_small width table statements (Start k) r h w l = started_size width 35456033 statements table (k - 1) r h (omega (arith, w, l))
circuit_small width table statements (Inserted k) r h w l = inserted_size width 35456033 statements (k - 1) h (omega (arith, w, l))
