-- The definitions that are made come after those that are there.
use Rattle.std.proofs.Common.{◌≡◌, ℕ, zero, suc, ◌+◌, ◌<◌, List, [], ◌∷◌, ◌++◌, length, map, slice_index_or, ℤ, pos, negsuc, ◌+ℤ◌, ◌-ℤ◌, arith, length-append}
use Rattle.std.specs.declared.option.Option.TheVariants.{Some, None}
use Rattle.qf_circuit.specs.declared.circuit.Def.{Def}
use Rattle.qf_circuit.specs.declared.circuit.Def.TheVariants as def
use Rattle.qf_ir.specs.declared.ast.Term.{Term}
use Rattle.qf_ir.specs.declared.ast.Expr.{Expr}
use Rattle.qf_ir.specs.declared.ast.Expr.TheVariants.{Sum, Word}
use Rattle.qf_ir.specs.declared.ast.Op.{Op}
use Rattle.qf_ir.specs.declared.ast.Op.TheVariants.{Eq, Ne, Lt, Le, Gt, Ge}
use Rattle.qf_ir.specs.declared.ast.Cond.{Cond, Row_of-Cond, end_of-Cond, more_of-Cond}
use Rattle.qf_ir.specs.declared.ast.Cond.TheVariants.{Compare, Between, Within, All', Any', Not'}
use Rattle.qf_ir.specs.declared.ast.Statement.{Statement}
use Rattle.qf_ir.specs.declared.ast.Statement.TheVariants.{Update, Delete, Insert}
use Rattle.qf_ir.specs.Replay.{place_of}
use Rattle.qf_encode.specs.declared.coded.Coded.{Coded}
use Rattle.qf_encode.specs.Coding.{Defs, with_terms, addend, made_sum, made_value, opposite, terms_in, constant_in, made_difference, made_sign, made_order, made_equal, made_not, made_compare, made_equals, made_cond, made_conds, made_one, made_values, made_choices, made_item, made_items, coded_after, coded}
use Rattle.qf_encode.specs.Making.{made_parts}
use Rattle.qf_encode.proofs.Extending.{Later, later_itself, later_made, later_trans}
use Rattle.qf_encode.proofs.Following.{with_terms_later, with_atom_later}

-- a circuit that goes on is longer
pub fewer : (a b : Defs) (n : ℕ) → Later a b → length b < n → length a < n
fewer a b n l h = let e : b ≡ a ++ l.0 = l.1 in omega (arith, rw e at h, length-append a l.0)

pub sum_grows : (columns : List ℕ) (defs : Defs) (terms : List Term) (n : ℤ) → Later defs (made_sum columns defs terms n).0
sum_grows columns defs terms n =
    let m = made_sum columns defs terms n in
    later_trans defs (with_terms defs terms) m.0 (with_terms_later defs terms) (later_made (with_terms defs terms) (def.Linear (map (addend (with_terms defs terms) columns) terms) n))

pub value_grows : (columns : List ℕ) (defs : Defs) (e : Expr) → Later defs (made_value columns defs e).0
value_grows columns defs (Sum terms) = sum_grows columns defs terms (pos 0)
value_grows columns defs (Word code) = later_made defs (def.Const (pos code))

pub sign_grows : (columns : List ℕ) (defs : Defs) (left right : Expr) (n : ℤ) → Later defs (made_sign columns defs left right n).0
sign_grows columns defs left right n =
    let d = made_difference columns defs left right n in
    later_trans defs d.0 (d.0 ++ def.AtLeastZero d.1 ∷ []) (sum_grows columns defs (terms_in left ++ map opposite (terms_in right)) ((constant_in left -ℤ constant_in right) +ℤ n)) (later_made d.0 (def.AtLeastZero d.1))

pub order_grows : (columns : List ℕ) (defs : Defs) (a b c d : Expr) → Later defs (made_order columns defs a b c d).0
order_grows columns defs a b c d =
    let one = made_sign columns defs a b (pos 0) in
    let two = made_sign columns one.0 c d (pos 0) in
    let last : Def = def.All (one.1 ∷ two.1 ∷ []) in
    later_trans defs two.0 (two.0 ++ last ∷ []) (later_trans defs one.0 two.0 (sign_grows columns defs a b (pos 0)) (sign_grows columns one.0 c d (pos 0))) (later_made two.0 last)

pub equal_grows : (columns : List ℕ) (defs : Defs) (left right : Expr) → Later defs (made_equal columns defs left right).0
equal_grows columns defs left right = order_grows columns defs left right right left

pub compare_grows : (columns : List ℕ) (defs : Defs) (op : Op) (left right : Expr) → Later defs (made_compare columns defs op left right).0
compare_grows columns defs Eq left right = equal_grows columns defs left right
compare_grows columns defs Ne left right =
    let m = made_equal columns defs left right in
    later_trans defs m.0 (m.0 ++ def.Not m.1 ∷ []) (equal_grows columns defs left right) (later_made m.0 (def.Not m.1))
compare_grows columns defs Lt left right = sign_grows columns defs right left (negsuc 0)
compare_grows columns defs Le left right = sign_grows columns defs right left (pos 0)
compare_grows columns defs Gt left right = sign_grows columns defs left right (negsuc 0)
compare_grows columns defs Ge left right = sign_grows columns defs left right (pos 0)

pub equals_grow : (columns : List ℕ) (defs : Defs) (x : Expr) (items : List Expr) → Later defs (made_equals columns defs x items).0
equals_grow columns defs x [] = later_itself defs
equals_grow columns defs x (item ∷ items) =
    let first = made_equal columns defs x item in
    later_trans defs first.0 (made_equals columns first.0 x items).0 (equal_grows columns defs x item) (equals_grow columns first.0 x items)

mutual
  pub cond_grows : (columns : List ℕ) (defs : Defs) (c : Cond) → Later defs (made_cond columns defs c).0
  cond_grows columns defs (Compare op left right) = compare_grows columns defs op left right
  cond_grows columns defs (Between x low high) = order_grows columns defs x low high x
  cond_grows columns defs (Within x items) =
      let m = made_equals columns defs x items in
      later_trans defs m.0 (m.0 ++ def.Any m.1 ∷ []) (equals_grow columns defs x items) (later_made m.0 (def.Any m.1))
  cond_grows columns defs (All' shape parts) =
      let m = made_conds columns defs parts in
      later_trans defs m.0 (m.0 ++ def.All m.1 ∷ []) (conds_grow columns defs parts) (later_made m.0 (def.All m.1))
  cond_grows columns defs (Any' shape parts) =
      let m = made_conds columns defs parts in
      later_trans defs m.0 (m.0 ++ def.Any m.1 ∷ []) (conds_grow columns defs parts) (later_made m.0 (def.Any m.1))
  cond_grows columns defs (Not' shape part) =
      let m = made_one columns defs part in
      later_trans defs m.0 (m.0 ++ def.Not m.1 ∷ []) (one_grows columns defs part) (later_made m.0 (def.Not m.1))

  conds_grow : (columns : List ℕ) (defs : Defs) → {m : _} → (parts : Row_of-Cond m) → Later defs (made_conds columns defs parts).0
  conds_grow columns defs end_of-Cond = later_itself defs
  conds_grow columns defs (more_of-Cond part rest) =
      let first = made_cond columns defs part in
      later_trans defs first.0 (made_conds columns first.0 rest).0 (cond_grows columns defs part) (conds_grow columns first.0 rest)

  one_grows : (columns : List ℕ) (defs : Defs) → {m : _} → (part : Row_of-Cond m) → Later defs (made_one columns defs part).0
  one_grows columns defs end_of-Cond = later_made defs (def.Const (pos 0))
  one_grows columns defs (more_of-Cond part rest) = cond_grows columns defs part

pub parts_grow : (columns : List ℕ) (defs : Defs) (parts : List Cond) → Later defs (made_parts columns defs parts).0
parts_grow columns defs [] = later_itself defs
parts_grow columns defs (part ∷ parts) =
    let first = made_cond columns defs part in
    later_trans defs first.0 (made_parts columns first.0 parts).0 (cond_grows columns defs part) (parts_grow columns first.0 parts)

pub values_grow : (columns : List ℕ) (defs : Defs) (sets : List (ℕ × Expr)) → Later defs (made_values columns defs sets).0
values_grow columns defs [] = later_itself defs
values_grow columns defs (s ∷ sets) =
    let first = made_value columns defs s.1 in
    later_trans defs first.0 (made_values columns first.0 sets).0 (value_grows columns defs s.1) (values_grow columns first.0 sets)

pub choices_grow : (columns : List ℕ) (w : ℕ) (defs : Defs) (sets : List (ℕ × Expr)) (news : List ℕ) → Later defs (made_choices columns w defs sets news).0
choices_grow columns w defs [] news = later_itself defs
choices_grow columns w defs (s ∷ sets) [] = later_itself defs
choices_grow columns w defs (s ∷ sets) (new ∷ news) =
    let d : Def = def.Choose w new (slice_index_or columns s.0 0) in
    later_trans defs (defs ++ d ∷ []) (made_choices columns w (defs ++ d ∷ []) sets news).0 (later_made defs d) (choices_grow columns w (defs ++ d ∷ []) sets news)

pub step_grows : (s : Statement) (c : Coded) → Later c.circuit (coded_after s c).circuit
step_grows (Update sets None) c = values_grow c.columns c.circuit sets
step_grows (Update sets (Some filter)) c =
    let test = made_cond c.columns c.circuit filter in
    let news = made_values c.columns test.0 sets in
    let chosen = made_choices c.columns test.1 news.0 sets news.1 in
    later_trans c.circuit news.0 chosen.0 (later_trans c.circuit test.0 news.0 (cond_grows c.columns c.circuit filter) (values_grow c.columns test.0 sets)) (choices_grow c.columns test.1 news.0 sets news.1)
step_grows (Delete None) c = later_made c.circuit (def.Const (pos 0))
step_grows (Delete (Some filter)) c =
    let test = made_cond c.columns c.circuit filter in
    let kept = made_not test in
    let last : Def = def.All (c.live ∷ kept.1 ∷ []) in
    later_trans c.circuit kept.0 (kept.0 ++ last ∷ []) (later_trans c.circuit test.0 kept.0 (cond_grows c.columns c.circuit filter) (later_made test.0 (def.Not test.1))) (later_made kept.0 last)
step_grows (Insert columns tuples) c = later_itself c.circuit

pub coded_grows : (statements : List Statement) (c : Coded) → Later c.circuit (coded statements c).circuit
coded_grows [] c = later_itself c.circuit
coded_grows (s ∷ statements) c =
    let next = coded_after s c in
    later_trans c.circuit next.circuit (coded statements next).circuit (step_grows s c) (coded_grows statements next)

pub item_grows : (defs : Defs) (e : Expr) → Later defs (made_item defs e).0
item_grows defs (Sum []) = later_made defs (def.Const (pos 0))
item_grows defs (Sum (t ∷ ts)) = with_atom_later defs t.atom
item_grows defs (Word code) = later_made defs (def.Const (pos code))

pub items_grow : (columns : List ℕ) (tuple : List Expr) (n first : ℕ) (defs : Defs) → Later defs (made_items columns tuple defs first n).0
items_grow columns tuple zero first defs = later_itself defs
items_grow columns tuple (suc n) first defs =
    let item = made_item defs (slice_index_or tuple (place_of columns first) (Word 0)) in
    later_trans defs item.0 (made_items columns tuple item.0 (first + 1) n).0 (item_grows defs (slice_index_or tuple (place_of columns first) (Word 0))) (items_grow columns tuple n (first + 1) item.0)
