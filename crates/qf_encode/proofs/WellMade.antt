-- The definitions of a row name only earlier ones, and take only truths for truths.
use Rattle.std.proofs.Common.{suc, zero, slice_get, sym, append_assoc, append-nil, ◌+ℤ◌, ◌-ℤ◌, ◌≡◌, ℕ, ◌+◌, ◌-◌, ◌<◌, ◌≤◌, Bool, true, false, cond, List, [], ◌∷◌, ◌++◌, length, map, slice_index_or, ℤ, pos, negsuc, arith, refl, IsTrue, length-append, ◌∙◌}
use Rattle.std.specs.declared.option.Option.{Option}
use Rattle.std.specs.declared.option.Option.TheVariants.{Some, None}
use Rattle.std.specs.List.{AllByRecursion, list_any}
use Rattle.std.proofs.lemmas.List.{get_or_append_left, get_or-append-add}
use Rattle.qf_circuit.specs.declared.circuit.Def.{Def}
use Rattle.qf_circuit.specs.declared.circuit.Def.TheVariants as def
use Rattle.qf_circuit.specs.Circuits.{truth, named, truth_parts, makes_truth, def_of, NamesEarlier, TruthsMatch}
use Rattle.qf_circuit.proofs.Steps.{names_pushed, truths_pushed}
use Rattle.qf_ir.specs.declared.ast.Atom.{Atom}
use Rattle.qf_ir.specs.declared.ast.Atom.TheVariants.{Column, Param}
use Rattle.qf_ir.specs.declared.ast.Term.{Term}
use Rattle.qf_ir.specs.declared.ast.Expr.{Expr}
use Rattle.qf_ir.specs.declared.ast.Expr.TheVariants.{Sum, Word}
use Rattle.qf_ir.specs.declared.ast.Op.{Op}
use Rattle.qf_ir.specs.declared.ast.Op.TheVariants.{Eq, Ne, Lt, Le, Gt, Ge}
use Rattle.qf_ir.specs.declared.ast.Cond.{Cond, Row_of-Cond, end_of-Cond, more_of-Cond}
use Rattle.qf_ir.specs.declared.ast.Cond.TheVariants.{Compare, Between, Within, All', Any', Not'}
use Rattle.qf_ir.specs.declared.ast.Statement.{Statement}
use Rattle.qf_ir.specs.declared.ast.Statement.TheVariants.{Update, Delete, Insert}
use Rattle.qf_ir.specs.Value.{Cells, number_of, holds}
use Rattle.qf_ir.specs.Life.{Moment, next_moment, first_moment}
use Rattle.qf_encode.specs.declared.coded.Coded.{Coded}
use Rattle.qf_encode.specs.Coding.{Defs, Made, MadeAll, made, is_param, with_atom, with_terms, addend, made_sum, made_value, opposite, terms_in, constant_in, made_difference, made_sign, made_order, made_equal, made_not, made_compare, made_equals, made_all, made_any, made_cond, made_conds, made_one, made_values, made_choices, coded_after, coded, start_coding, start_coding_or, made_item, made_items, insert_coding, insert_coding_or, coded_or, inserted_coding, circuit_of}
use Rattle.qf_encode.specs.Lives.{TermsIn, ExprIn, ExprsIn, CondIn, CondsIn, OneIn, SetsIn, TuplesIn, StatementIn, StatementsIn, RowsIn}
use Rattle.qf_encode.specs.Encoding.{MakesCircuit}
use Rattle.qf_ir.specs.Replay.{place_of, inserted_cell, inserted_cells}
use Rattle.qf_base.specs.declared.names.RowName.{RowName}
use Rattle.qf_base.specs.declared.names.RowName.TheVariants.{Start, Inserted}
use Rattle.qf_encode.proofs.Extending.{Later, later_made, later_trans, codes_later}
use Rattle.qf_encode.proofs.Following.{HasAtoms, ColumnsCode, columns_later, atom_codes, with_terms_later, with_terms_has, difference_in, made_sum_makes, made_sign_makes, made_equal_makes, made_equals_makes, made_cond_makes, made_conds_make, made_not_makes}
use Rattle.qf_encode.proofs.Inserted.{insert_follows, cells_width}
use Rattle.qf_encode.proofs.Statements.{CodeNumbers, numbers_later, value_makes, values_make, choices_make, new_numbers, Follows, step_follows, start_follows, coding_width, consts}

pub record Good (defs : Defs) : Type 0 where
  pub names : NamesEarlier defs
  pub truths : TruthsMatch defs

abbrev InRange : Defs → ℕ → Type 0
InRange defs n = (0 < n) × (n ≤ length defs)

-- definition n is a truth
abbrev pub TestAt : Defs → ℕ → Type 0
TestAt defs n = InRange defs n × IsTrue (makes_truth (def_of defs n))

test_later : (a b : Defs) (n : ℕ) → Later a b → TestAt a n → TestAt b n
test_later a b n l t =
    let same = get_or_append_left a l.0 (def.Const (pos 0)) (n - 1) (omega (arith, t.0.0, t.0.1)) in
    rw l.1 ((t.0.0, omega (arith, t.0.1, length-append a l.0)), rw same t.1)

range_later : (a b : Defs) (n : ℕ) → Later a b → InRange a n → InRange b n
range_later a b n l t = rw l.1 (t.0, omega (arith, t.1, length-append a l.0))

good_made : (defs : Defs) (d : Def) → Good defs → AllByRecursion (InRange defs) (named d) → AllByRecursion (λ x. IsTrue (makes_truth (def_of defs x))) (truth_parts d) → Good (defs ++ d ∷ [])
good_made defs d g names parts = record {
  names = names_pushed defs d g.names names;
  truths = truths_pushed defs d g.names g.truths names parts;
}

test_made : (defs : Defs) (d : Def) → makes_truth d ≡ true → TestAt (defs ++ d ∷ []) (length defs + 1)
test_made defs d e =
    let last = get_or-append-add defs (d ∷ []) 0 (def.Const (pos 0)) in
    let place : (length defs + 1) - 1 ≡ length defs + 0 = omega arith in
    ((omega arith, omega (arith, length-append defs (d ∷ []))), rw (place, last) e)

abbrev GoodTest : Made → Type 0
GoodTest m = Good m.0 × TestAt m.0 m.1

abbrev Tests : Defs → List ℕ → Type 0
Tests defs ns = AllByRecursion (TestAt defs) ns

tests_later : (a b : Defs) (ns : List ℕ) → Later a b → Tests a ns → Tests b ns
tests_later a b [] l t = tt
tests_later a b (n ∷ ns) l t = (test_later a b n l t.0, tests_later a b ns l t.1)

tests_range : (defs : Defs) (ns : List ℕ) → Tests defs ns → AllByRecursion (InRange defs) ns
tests_range defs [] t = tt
tests_range defs (n ∷ ns) t = (t.0.0, tests_range defs ns t.1)

tests_truth : (defs : Defs) (ns : List ℕ) → Tests defs ns → AllByRecursion (λ x. IsTrue (makes_truth (def_of defs x))) ns
tests_truth defs [] t = tt
tests_truth defs (n ∷ ns) t = (t.0.1, tests_truth defs ns t.1)

good_all : (m : MadeAll) → Good m.0 → Tests m.0 m.1 → GoodTest (made_all m)
good_all m g t = (good_made m.0 (def.All m.1) g (tests_range m.0 m.1 t) (tests_truth m.0 m.1 t), test_made m.0 (def.All m.1) refl)

good_any : (m : MadeAll) → Good m.0 → Tests m.0 m.1 → GoodTest (made_any m)
good_any m g t = (good_made m.0 (def.Any m.1) g (tests_range m.0 m.1 t) (tests_truth m.0 m.1 t), test_made m.0 (def.Any m.1) refl)

good_not : (m : Made) → GoodTest m → GoodTest (made_not m)
good_not m h = (good_made m.0 (def.Not m.1) h.0 (h.1.0, tt) (h.1.1, tt), test_made m.0 (def.Not m.1) refl)

-- ---- parameters

param_by : (flag : Bool) (defs : Defs) (k : ℕ) → Good defs → Good (cond flag defs (defs ++ def.Param k ∷ []))
param_by true defs k g = g
param_by false defs k g = good_made defs (def.Param k) g tt tt

good_atom : (defs : Defs) (atom : Atom) → Good defs → Good (with_atom defs atom)
good_atom defs (Column c) g = g
good_atom defs (Param k) g = param_by (list_any (is_param k) defs) defs k g

good_terms : (defs : Defs) (ts : List Term) → Good defs → Good (with_terms defs ts)
good_terms defs [] g = g
good_terms defs (t ∷ ts) g = good_terms (with_atom defs t.atom) ts (good_atom defs t.atom g)

module _ (point : List ℤ) (cells : Cells) (columns : List ℕ) where
  addends_named : (defs : Defs) (ts : List Term) → ColumnsCode point cells columns defs → TermsIn (length cells) ts → HasAtoms defs ts → AllByRecursion (InRange defs) (map (λ t. t.1) (map (addend defs columns) ts))
  addends_named defs [] h i p = tt
  addends_named defs (t ∷ ts) h i p =
      let own = atom_codes point cells columns defs t.atom h i.0 p.0 in
      ((own.0, own.1), addends_named defs ts h i.1 p.1)

  pub good_sum : (defs : Defs) (ts : List Term) (n : ℤ) → Good defs → ColumnsCode point cells columns defs → TermsIn (length cells) ts → Good (made_sum columns defs ts n).0
  good_sum defs ts n g h i =
      let after = with_terms defs ts in
      let l = with_terms_later defs ts in
      good_made after (def.Linear (map (addend after columns) ts) n) (good_terms defs ts g) (addends_named after ts (columns_later point cells columns defs after l h) i (with_terms_has defs ts)) tt

  pub good_value : (defs : Defs) (e : Expr) → Good defs → ColumnsCode point cells columns defs → ExprIn (length cells) e → Good (made_value columns defs e).0
  good_value defs (Sum ts) g h i = good_sum defs ts (pos 0) g h i
  good_value defs (Word code) g h i = good_made defs (def.Const (pos code)) g tt tt

  pub good_sign : (defs : Defs) (left right : Expr) (n : ℤ) → Good defs → ColumnsCode point cells columns defs → ExprIn (length cells) left → ExprIn (length cells) right → GoodTest (made_sign columns defs left right n)
  good_sign defs left right n g h a b =
      let m = made_difference columns defs left right n in
      let i = difference_in point cells columns left right a b in
      let k = (constant_in left -ℤ constant_in right) +ℤ n in
      let own = made_sum_makes point cells columns defs (terms_in left ++ map opposite (terms_in right)) k h i in
      let good = good_sum defs (terms_in left ++ map opposite (terms_in right)) k g h i in
      (good_made m.0 (def.AtLeastZero m.1) good ((own.1.0, own.1.1), tt) tt, test_made m.0 (def.AtLeastZero m.1) refl)

  pub good_order : (defs : Defs) (a b c d : Expr) → Good defs → ColumnsCode point cells columns defs → ExprIn (length cells) a → ExprIn (length cells) b → ExprIn (length cells) c → ExprIn (length cells) d → GoodTest (made_order columns defs a b c d)
  good_order defs a b c d g h ia ib ic id =
      let m = made_sign columns defs a b (pos 0) in
      let one = good_sign defs a b (pos 0) g h ia ib in
      let l1 = (made_sign_makes point cells columns defs a b (pos 0) h ia ib).0 in
      let h1 = columns_later point cells columns defs m.0 l1 h in
      let n = made_sign columns m.0 c d (pos 0) in
      let two = good_sign m.0 c d (pos 0) one.0 h1 ic id in
      let l2 = (made_sign_makes point cells columns m.0 c d (pos 0) h1 ic id).0 in
      good_all (n.0, m.1 ∷ n.1 ∷ []) two.0 (test_later m.0 n.0 m.1 l2 one.1, (two.1, tt))

  pub good_equal : (defs : Defs) (left right : Expr) → Good defs → ColumnsCode point cells columns defs → ExprIn (length cells) left → ExprIn (length cells) right → GoodTest (made_equal columns defs left right)
  good_equal defs left right g h a b = good_order defs left right right left g h a b b a

  pub good_compare : (defs : Defs) (op : Op) (left right : Expr) → Good defs → ColumnsCode point cells columns defs → ExprIn (length cells) left → ExprIn (length cells) right → GoodTest (made_compare columns defs op left right)
  good_compare defs Eq left right g h a b = good_equal defs left right g h a b
  good_compare defs Ne left right g h a b = good_not (made_equal columns defs left right) (good_equal defs left right g h a b)
  good_compare defs Lt left right g h a b = good_sign defs right left (negsuc 0) g h b a
  good_compare defs Le left right g h a b = good_sign defs right left (pos 0) g h b a
  good_compare defs Gt left right g h a b = good_sign defs left right (negsuc 0) g h a b
  good_compare defs Ge left right g h a b = good_sign defs left right (pos 0) g h a b

  abbrev GoodTests : MadeAll → Type 0
  GoodTests m = Good m.0 × Tests m.0 m.1

  good_equals : (defs : Defs) (x : Expr) (items : List Expr) → Good defs → ColumnsCode point cells columns defs → ExprIn (length cells) x → ExprsIn (length cells) items → GoodTests (made_equals columns defs x items)
  good_equals defs x [] g h a b = (g, tt)
  good_equals defs x (item ∷ items) g h a b =
      let m = made_equal columns defs x item in
      let one = good_equal defs x item g h a b.0 in
      let l1 = (made_equal_makes point cells columns defs x item h a b.0).0 in
      let h1 = columns_later point cells columns defs m.0 l1 h in
      let rest = made_equals columns m.0 x items in
      let more = good_equals m.0 x items one.0 h1 a b.1 in
      let l2 = (made_equals_makes point cells columns m.0 x items h1 a b.1).0 in
      (more.0, (test_later m.0 rest.0 m.1 l2 one.1, more.1))

  mutual
    pub good_cond : (defs : Defs) (c : Cond) → Good defs → ColumnsCode point cells columns defs → CondIn (length cells) c → GoodTest (made_cond columns defs c)
    good_cond defs (Compare op left right) g h i = good_compare defs op left right g h i.0 i.1
    good_cond defs (Between x low high) g h i = good_order defs x low high x g h i.0 i.1.0 i.1.1 i.0
    good_cond defs (Within x items) g h i =
        let e = good_equals defs x items g h i.0 i.1 in good_any (made_equals columns defs x items) e.0 e.1
    good_cond defs (All' shape parts) g h i =
        let e = good_conds defs parts g h i in good_all (made_conds columns defs parts) e.0 e.1
    good_cond defs (Any' shape parts) g h i =
        let e = good_conds defs parts g h i in good_any (made_conds columns defs parts) e.0 e.1
    good_cond defs (Not' shape part) g h i = good_one defs part g h i

    good_conds : (defs : Defs) → {m : _} → (parts : Row_of-Cond m) → Good defs → ColumnsCode point cells columns defs → CondsIn (length cells) parts → GoodTests (made_conds columns defs parts)
    good_conds defs end_of-Cond g h i = (g, tt)
    good_conds defs (more_of-Cond part rest) g h i =
        let m = made_cond columns defs part in
        let one = good_cond defs part g h i.0 in
        let l1 = (made_cond_makes point cells columns defs part h i.0).0 in
        let h1 = columns_later point cells columns defs m.0 l1 h in
        let others = made_conds columns m.0 rest in
        let more = good_conds m.0 rest one.0 h1 i.1 in
        let l2 = (made_conds_make point cells columns m.0 rest h1 i.1).0 in
        (more.0, (test_later m.0 others.0 m.1 l2 one.1, more.1))

    good_one : (defs : Defs) → {m : _} → (part : Row_of-Cond m) → Good defs → ColumnsCode point cells columns defs → OneIn (length cells) part → GoodTest (made_not (made_one columns defs part))
    good_one defs end_of-Cond g h i =
        good_not (made defs (def.Const (pos 0))) (good_made defs (def.Const (pos 0)) g tt tt, test_made defs (def.Const (pos 0)) refl)
    good_one defs (more_of-Cond part rest) g h i = good_not (made_cond columns defs part) (good_cond defs part g h i)

  good_values : (defs : Defs) (sets : List (ℕ × Expr)) → Good defs → ColumnsCode point cells columns defs → SetsIn (length cells) sets → Good (made_values columns defs sets).0
  good_values defs [] g h i = g
  good_values defs (s ∷ sets) g h i =
      let m = made_value columns defs s.1 in
      let l1 = (value_makes point cells columns defs s.1 h i.1.0).0 in
      good_values m.0 sets (good_value defs s.1 g h i.1.0) (columns_later point cells columns defs m.0 l1 h) i.1.1

  good_choices : (w : ℕ) (defs : Defs) (sets : List (ℕ × Expr)) (news : List ℕ) (zs : List ℤ) → Good defs → ColumnsCode point cells columns defs → SetsIn (length cells) sets → TestAt defs w → CodeNumbers point defs news zs → Good (made_choices columns w defs sets news).0
  good_choices w defs [] news zs g h i t n = g
  good_choices w defs (s ∷ sets) [] zs g h i t n = g
  good_choices w defs (s ∷ sets) (new ∷ news) [] g h i t n = absurd n
  good_choices w defs (s ∷ sets) (new ∷ news) (z ∷ zs) g h i t n =
      let d : Def = def.Choose w new (slice_index_or columns s.0 0) in
      let old = h s.0 i.0 in
      let l = later_made defs d in
      let good = good_made defs d g (t.0, ((n.0.0, n.0.1), ((old.0, old.1), tt))) (t.1, tt) in
      good_choices w (defs ++ d ∷ []) sets news zs good (columns_later point cells columns defs (defs ++ d ∷ []) l h) i.1.1 (test_later defs (defs ++ d ∷ []) w l t) (numbers_later point defs (defs ++ d ∷ []) news zs l n.1)

-- ---- statements

abbrev pub GoodCoding : Coded → Type 0
GoodCoding c = Good c.circuit × TestAt c.circuit c.live

good_step : (point : List ℤ) (s : Statement) (c : Coded) (m : Moment) → StatementIn (length m.cells) s → Follows point c m → GoodCoding c → GoodCoding (coded_after s c)
good_step point (Update sets None) c m i f g =
    let news = values_make point m.cells c.columns c.circuit sets f.cells i.0 in
    (good_values point m.cells c.columns c.circuit sets g.0 f.cells i.0, test_later c.circuit (made_values c.columns c.circuit sets).0 c.live news.0 g.1)
good_step point (Update sets (Some filter)) c m i f g =
    let test = made_cond c.columns c.circuit filter in
    let one = made_cond_makes point m.cells c.columns c.circuit filter f.cells i.1 in
    let good1 = good_cond point m.cells c.columns c.circuit filter g.0 f.cells i.1 in
    let cells1 = columns_later point m.cells c.columns c.circuit test.0 one.0 f.cells in
    let made = made_values c.columns test.0 sets in
    let news = values_make point m.cells c.columns test.0 sets cells1 i.0 in
    let good2 = good_values point m.cells c.columns test.0 sets good1.0 cells1 i.0 in
    let cells2 = columns_later point m.cells c.columns test.0 made.0 news.0 cells1 in
    let chosen = made_choices c.columns test.1 made.0 sets made.1 in
    let b = holds filter m.cells point in
    let choices = choices_make point m.cells c.columns b test.1 made.0 sets made.1 cells2 i.0 (codes_later point test.0 made.0 test.1 (truth b) news.0 one.1) news.1 in
    let good3 = good_choices point m.cells c.columns test.1 made.0 sets made.1 (new_numbers point m.cells c.columns sets) good2 cells2 i.0 (test_later test.0 made.0 test.1 news.0 good1.1) news.1 in
    let later = later_trans c.circuit made.0 chosen.0 (later_trans c.circuit test.0 made.0 one.0 news.0) choices.0 in
    (good3, test_later c.circuit chosen.0 c.live later g.1)
good_step point (Delete None) c m i f g =
    (good_made c.circuit (def.Const (pos 0)) g.0 tt tt, test_made c.circuit (def.Const (pos 0)) refl)
good_step point (Delete (Some filter)) c m i f g =
    let test = made_cond c.columns c.circuit filter in
    let kept = made_not test in
    let b = holds filter m.cells point in
    let one = made_not_makes point m.cells c.columns c.circuit test b (made_cond_makes point m.cells c.columns c.circuit filter f.cells i) in
    let good = good_not test (good_cond point m.cells c.columns c.circuit filter g.0 f.cells i) in
    good_all (kept.0, c.live ∷ kept.1 ∷ []) good.0 (test_later c.circuit kept.0 c.live one.0 g.1, (good.1, tt))
good_step point (Insert columns tuples) c m i f g = g

pub coded_good : (point : List ℤ) (statements : List Statement) (c : Coded) (m : Moment) → StatementsIn (length m.cells) statements → Follows point c m → GoodCoding c → GoodCoding (coded statements c)
coded_good point [] c m i f g = g
coded_good point (s ∷ statements) c m i f g =
    let next = step_follows point s c m i.0 f in
    let width : length (next_moment point s m).cells ≡ length m.cells = sym next.same_length ∙ coding_width s c ∙ f.same_length in
    coded_good point statements (coded_after s c) (next_moment point s m) (rw width i.1) next (good_step point s c m i.0 f g)

consts_good : (done : Defs) (cells : Cells) → Good done → Good (done ++ consts cells)
consts_good done [] g = rw (append-nil done) g
consts_good done (cell ∷ cells) g =
    let d : Def = def.Const (number_of cell) in
    rw (append_assoc done (d ∷ []) (consts cells)) at (consts_good (done ++ d ∷ []) cells (good_made done d g tt tt))

none_good : Good []
none_good = record { names = λ place h. absurd (omega (arith, h)); truths = λ place h. absurd (omega (arith, h)) }

start_good : (cells : Cells) → GoodCoding (start_coding cells)
start_good cells = (good_made (consts cells) (def.Const (pos 1)) (consts_good [] cells none_good) tt tt, test_made (consts cells) (def.Const (pos 1)) refl)

-- ---- inserted rows

good_item : (defs : Defs) (e : Expr) → Good defs → Good (made_item defs e).0
good_item defs (Word code) g = good_made defs (def.Const (pos code)) g tt tt
good_item defs (Sum []) g = good_made defs (def.Const (pos 0)) g tt tt
good_item defs (Sum (t ∷ ts)) g = good_atom defs t.atom g

good_items : (columns : List ℕ) (tuple : List Expr) (n first : ℕ) (defs : Defs) → Good defs → Good (made_items columns tuple defs first n).0
good_items columns tuple zero first defs g = g
good_items columns tuple (suc n) first defs g =
    let item = made_item defs (slice_index_or tuple (place_of columns first) (Word 0)) in
    good_items columns tuple n (first + 1) item.0 (good_item defs (slice_index_or tuple (place_of columns first) (Word 0)) g)

insert_good : (width : ℕ) (columns : List ℕ) (tuple : List Expr) → GoodCoding (insert_coding width columns tuple)
insert_good width columns tuple =
    let m = made_items columns tuple [] 0 width in
    (good_made m.0 (def.Const (pos 1)) (good_items columns tuple width 0 [] none_good) tt tt, test_made m.0 (def.Const (pos 1)) refl)

abbrev pub AreGood : Option Coded → Type 0
AreGood None = Unit {0}
AreGood (Some c) = GoodCoding c

tuple_good : (width : ℕ) (columns : List ℕ) (statements : List Statement) (tuples : List (List Expr)) (place : ℕ) (other : Option Coded) → TuplesIn width columns tuples → StatementsIn width statements → AreGood other → AreGood (coded_or (insert_coding_or width columns (slice_get tuples place)) statements other)
tuple_good width columns statements [] place other h i k = k
tuple_good width columns statements (tuple ∷ tuples) zero other h i k =
    let cells = inserted_cells width columns tuple [] in
    let wide : length cells ≡ width = cells_width 0 width (inserted_cell columns tuple []) in
    coded_good [] statements (insert_coding width columns tuple) (first_moment cells) (rw wide i) (insert_follows [] width columns tuple h.0) (insert_good width columns tuple)
tuple_good width columns statements (tuple ∷ tuples) (suc place) other h i k = tuple_good width columns statements tuples place other h.1 i k

inserted_good : (width : ℕ) (statements : List Statement) (place : ℕ) → StatementsIn width statements → AreGood (inserted_coding width statements place)
inserted_good width [] place i = tt
inserted_good width (Update sets filter ∷ statements) place i = inserted_good width statements place i.1
inserted_good width (Delete filter ∷ statements) place i = inserted_good width statements place i.1
inserted_good width (Insert columns tuples ∷ statements) place i =
    tuple_good width columns statements tuples place (inserted_coding width statements (place - length tuples)) i.0 i.1 (inserted_good width statements (place - length tuples) i.1)

started_good : (width : ℕ) (statements : List Statement) (table : List Cells) (place : ℕ) → RowsIn width table → StatementsIn width statements → AreGood (coded_or (start_coding_or (slice_get table place)) statements None)
started_good width statements [] place h i = tt
started_good width statements (cells ∷ table) zero h i =
    let wide : length cells ≡ width = h.0 in
    coded_good [] statements (start_coding cells) (first_moment cells) (rw wide i) (start_follows [] cells) (start_good cells)
started_good width statements (cells ∷ table) (suc place) h i = started_good width statements table place h.1 i

circuit_by : (o : Option Coded) → AreGood o → MakesCircuit o
circuit_by None h = tt
circuit_by (Some c) h = λ few. record { names = h.0.names; truths = h.0.truths; few = few }

pub rows_circuits : (width : ℕ) (table : List Cells) (statements : List Statement) (name : RowName) → RowsIn width table → StatementsIn width statements → MakesCircuit (circuit_of width table statements name)
rows_circuits width table statements (Start k) h i =
    circuit_by (circuit_of width table statements (Start k)) (started_good width statements table (k - 1) h i)
rows_circuits width table statements (Inserted k) h i =
    circuit_by (inserted_coding width statements (k - 1)) (inserted_good width statements (k - 1) i)
