-- The definitions that are made for sums and conditions have the values of these in the row.
use Rattle.std.proofs.Common.{◌≡◌, ℕ, ◌<◌, Bool, true, false, not, ◌&&◌, List, [], ◌∷◌, ◌++◌, length, map, slice_index_or, ℤ, pos, negsuc, ◌+ℤ◌, ◌-ℤ◌, neg_ℤ, int_lt, int_le, arith, refl, ap, ◌∙◌}
use Rattle.std.specs.List.{list_any, list_all}
use Rattle.std.specs.Ordering.{int_eq}
use Rattle.std.proofs.lemmas.Int.{ints}
use Rattle.qf_base.specs.Values.{value_of_var, total}
use Rattle.qf_base.proofs.Integers.{product_neg_left}
use Rattle.qf_circuit.specs.declared.circuit.Def.{Def}
use Rattle.qf_circuit.specs.declared.circuit.Def.TheVariants as def
use Rattle.qf_circuit.specs.Circuits.{truth, is_set, eval}
use Rattle.qf_ir.specs.declared.ast.Atom.{Atom}
use Rattle.qf_ir.specs.declared.ast.Atom.TheVariants.{Column, Param}
use Rattle.qf_ir.specs.declared.ast.Term.{Term}
use Rattle.qf_ir.specs.declared.ast.Expr.{Expr}
use Rattle.qf_ir.specs.declared.ast.Expr.TheVariants.{Sum, Word}
use Rattle.qf_ir.specs.declared.ast.Op.{Op}
use Rattle.qf_ir.specs.declared.ast.Op.TheVariants.{Eq, Ne, Lt, Le, Gt, Ge}
use Rattle.qf_ir.specs.declared.ast.Cond.{Cond, Row_of-Cond, end_of-Cond, more_of-Cond}
use Rattle.qf_ir.specs.declared.ast.Cond.TheVariants.{Compare, Between, Within, All', Any', Not'}
use Rattle.qf_ir.specs.Value.{Cells, number_of, cell_at, atom_value, sum_value, value, compares, holds, all_hold, any_holds, one_holds}
use Rattle.qf_encode.specs.Coding.{made, Defs, Made, MadeAll, is_param, with_atom, with_terms, atom_number, addend, made_sum, opposite, terms_in, constant_in, made_difference, made_sign, made_order, made_equal, made_not, made_compare, made_equals, made_all, made_any, made_cond, made_conds, made_one}
use Rattle.qf_encode.specs.Lives.{AtomIn, TermsIn, ExprIn, ExprsIn, CondIn, CondsIn, OneIn}
use Rattle.qf_encode.proofs.Extending.{Later, later_itself, later_made, later_trans, Codes, codes_later, codes_made, param_codes, with_param_has, with_param_later, has_later}

-- ---- parameters of terms

abbrev pub HasAtom : Defs → Atom → Type 0
HasAtom defs (Column c) = Unit {0}
HasAtom defs (Param k) = list_any (is_param k) defs ≡ true

abbrev pub HasAtoms : Defs → List Term → Type 0
HasAtoms defs [] = Unit {0}
HasAtoms defs (t ∷ ts) = HasAtom defs t.atom × HasAtoms defs ts

pub with_atom_has : (defs : Defs) (atom : Atom) → HasAtom (with_atom defs atom) atom
with_atom_has defs (Column c) = tt
with_atom_has defs (Param k) = with_param_has defs k

pub with_atom_later : (defs : Defs) (atom : Atom) → Later defs (with_atom defs atom)
with_atom_later defs (Column c) = later_itself defs
with_atom_later defs (Param k) = with_param_later defs k

atom_later : (a b : Defs) (atom : Atom) → Later a b → HasAtom a atom → HasAtom b atom
atom_later a b (Column c) l h = tt
atom_later a b (Param k) l h = has_later k a b l h

pub with_terms_later : (defs : Defs) (ts : List Term) → Later defs (with_terms defs ts)
with_terms_later defs [] = later_itself defs
with_terms_later defs (t ∷ ts) =
    later_trans defs (with_atom defs t.atom) (with_terms (with_atom defs t.atom) ts) (with_atom_later defs t.atom) (with_terms_later (with_atom defs t.atom) ts)

pub with_terms_has : (defs : Defs) (ts : List Term) → HasAtoms (with_terms defs ts) ts
with_terms_has defs [] = tt
with_terms_has defs (t ∷ ts) = (
  atom_later (with_atom defs t.atom) (with_terms (with_atom defs t.atom) ts) t.atom (with_terms_later (with_atom defs t.atom) ts) (with_atom_has defs t.atom),
  with_terms_has (with_atom defs t.atom) ts,
)

-- ---- numbers

sign_of_difference : (a b : ℤ) → int_le (pos 0) ((a -ℤ b) +ℤ pos 0) ≡ int_le b a
sign_of_difference a b = grind (arith, ints)

sign_of_difference_less : (a b : ℤ) → int_le (pos 0) ((a -ℤ b) +ℤ negsuc 0) ≡ int_lt b a
sign_of_difference_less a b = grind (arith, ints)

equal_by_order : (a b : ℤ) → (int_le b a && int_le a b) ≡ int_eq a b
equal_by_order a b = grind (arith, ints)

pub is_set_truth : (b : Bool) → is_set (truth b) ≡ b
is_set_truth true = refl
is_set_truth false = refl

pub two_all : (a b : Bool) → (a && (b && true)) ≡ (a && b)
two_all true true = refl
two_all true false = refl
two_all false b = refl

sum_append : (xs ys : List Term) (cells : Cells) (point : List ℤ) → sum_value (xs ++ ys) cells point ≡ sum_value xs cells point +ℤ sum_value ys cells point
sum_append [] ys cells point = omega (arith, ints)
sum_append (x ∷ xs) ys cells point = omega (arith, ints, sum_append xs ys cells point)

sum_opposite : (xs : List Term) (cells : Cells) (point : List ℤ) → sum_value (map opposite xs) cells point ≡ neg_ℤ (sum_value xs cells point)
sum_opposite [] cells point = refl
sum_opposite (x ∷ xs) cells point = omega (arith, ints, sum_opposite xs cells point, product_neg_left x.factor (atom_value x.atom cells point))

value_parts : (e : Expr) (cells : Cells) (point : List ℤ) → value e cells point ≡ sum_value (terms_in e) cells point +ℤ constant_in e
value_parts (Sum ts) cells point = omega (arith, ints)
value_parts (Word code) cells point = omega (arith, ints)

-- ---- a row's columns, where the definitions of the columns are known

module _ (point : List ℤ) (cells : Cells) (columns : List ℕ) where
  -- each column's definition has the number of its cell
  abbrev pub ColumnsCode : Defs → Type 0
  ColumnsCode defs = (c : ℕ) → c < length cells → Codes point defs (slice_index_or columns c 0) (number_of (cell_at cells c))

  pub columns_later : (a b : Defs) → Later a b → ColumnsCode a → ColumnsCode b
  columns_later a b l h = λ c inside. codes_later point a b (slice_index_or columns c 0) (number_of (cell_at cells c)) l (h c inside)

  pub atom_codes : (defs : Defs) (atom : Atom) → ColumnsCode defs → AtomIn (length cells) atom → HasAtom defs atom → Codes point defs (atom_number defs columns atom) (atom_value atom cells point)
  atom_codes defs (Column c) h i p = h c i
  atom_codes defs (Param k) h i p = param_codes point defs k p

  sum_codes : (defs : Defs) (ts : List Term) → ColumnsCode defs → TermsIn (length cells) ts → HasAtoms defs ts → total (map (addend defs columns) ts) (eval point defs) ≡ sum_value ts cells point
  sum_codes defs [] h i p = refl
  sum_codes defs (t ∷ ts) h i p =
      let e = (atom_codes defs t.atom h i.0 p.0).2 in
      let more = sum_codes defs ts h i.1 p.1 in
      rw (e, more) refl

  abbrev pub Makes : Defs → Made → ℤ → Type 0
  Makes defs m z = Later defs m.0 × Codes point m.0 m.1 z

  pub made_sum_makes : (defs : Defs) (ts : List Term) (n : ℤ) → ColumnsCode defs → TermsIn (length cells) ts → Makes defs (made_sum columns defs ts n) (sum_value ts cells point +ℤ n)
  made_sum_makes defs ts n h i =
      let after = with_terms defs ts in
      let l = with_terms_later defs ts in
      let d : Def = def.Linear (map (addend after columns) ts) n in
      let own = codes_made point after d in
      let e = sum_codes after ts (columns_later defs after l h) i (with_terms_has defs ts) in
      (later_trans defs after (after ++ d ∷ []) l (later_made after d), (own.0, own.1, own.2 ∙ ap (λ z. z +ℤ n) e))

  pub difference_in : (left right : Expr) → ExprIn (length cells) left → ExprIn (length cells) right → TermsIn (length cells) (terms_in left ++ map opposite (terms_in right))
  difference_in left right a b = both (terms_in left) (terms_in right) (parts left a) (parts right b)
    where
      parts : (e : Expr) → ExprIn (length cells) e → TermsIn (length cells) (terms_in e)
      parts (Sum ts) h = h
      parts (Word code) h = tt

      opposites : (ts : List Term) → TermsIn (length cells) ts → TermsIn (length cells) (map opposite ts)
      opposites [] h = tt
      opposites (t ∷ ts) h = (h.0, opposites ts h.1)

      both : (xs ys : List Term) → TermsIn (length cells) xs → TermsIn (length cells) ys → TermsIn (length cells) (xs ++ map opposite ys)
      both [] ys h k = opposites ys k
      both (x ∷ xs) ys h k = (h.0, both xs ys h.1 k)

  pub made_sign_makes : (defs : Defs) (left right : Expr) (n : ℤ) → ColumnsCode defs → ExprIn (length cells) left → ExprIn (length cells) right → Makes defs (made_sign columns defs left right n) (truth (int_le (pos 0) ((value left cells point -ℤ value right cells point) +ℤ n)))
  made_sign_makes defs left right n h a b =
      let m = made_difference columns defs left right n in
      let d = made_sum_makes defs (terms_in left ++ map opposite (terms_in right)) ((constant_in left -ℤ constant_in right) +ℤ n) h (difference_in left right a b) in
      let own = codes_made point m.0 (def.AtLeastZero m.1) in
      let z : value_of_var (eval point m.0) m.1 ≡ (value left cells point -ℤ value right cells point) +ℤ n =
      d.1.2 ∙ omega (arith, ints, sum_append (terms_in left) (map opposite (terms_in right)) cells point, sum_opposite (terms_in right) cells point, value_parts left cells point, value_parts right cells point) in
      (later_trans defs m.0 (m.0 ++ def.AtLeastZero m.1 ∷ []) d.0 (later_made m.0 (def.AtLeastZero m.1)), (own.0, own.1, own.2 ∙ ap (λ z. truth (int_le (pos 0) z)) z))

  -- a test as it is meant
  pub made_test : (defs : Defs) (left right : Expr) (n : ℤ) (meant : Bool) → int_le (pos 0) ((value left cells point -ℤ value right cells point) +ℤ n) ≡ meant → ColumnsCode defs → ExprIn (length cells) left → ExprIn (length cells) right → Makes defs (made_sign columns defs left right n) (truth meant)
  made_test defs left right n meant e h a b = rw (← e) (made_sign_makes defs left right n h a b)

  pub made_order_makes : (defs : Defs) (a b c d : Expr) → ColumnsCode defs → ExprIn (length cells) a → ExprIn (length cells) b → ExprIn (length cells) c → ExprIn (length cells) d → Makes defs (made_order columns defs a b c d) (truth (int_le (value b cells point) (value a cells point) && int_le (value d cells point) (value c cells point)))
  made_order_makes defs a b c d h ia ib ic id =
      let va = value a cells point in
      let vb = value b cells point in
      let vc = value c cells point in
      let vd = value d cells point in
      let m = made_sign columns defs a b (pos 0) in
      let one = made_test defs a b (pos 0) (int_le vb va) (sign_of_difference va vb) h ia ib in
      let n = made_sign columns m.0 c d (pos 0) in
      let two = made_test m.0 c d (pos 0) (int_le vd vc) (sign_of_difference vc vd) (columns_later defs m.0 one.0 h) ic id in
      let last : Def = def.All (m.1 ∷ n.1 ∷ []) in
      let own = codes_made point n.0 last in
      let first = (codes_later point m.0 n.0 m.1 (truth (int_le vb va)) two.0 one.1).2 in
      let second = two.1.2 in
      let p = is_set_truth (int_le vb va) in
      let q = is_set_truth (int_le vd vc) in
      let said : truth (is_set (value_of_var (eval point n.0) m.1) && (is_set (value_of_var (eval point n.0) n.1) && true)) ≡ truth (int_le vb va && int_le vd vc) =
      rw (first, second, p, q, two_all (int_le vb va) (int_le vd vc)) refl in
      (later_trans defs n.0 (n.0 ++ last ∷ []) (later_trans defs m.0 n.0 one.0 two.0) (later_made n.0 last), (own.0, own.1, own.2 ∙ said))

  pub made_equal_makes : (defs : Defs) (left right : Expr) → ColumnsCode defs → ExprIn (length cells) left → ExprIn (length cells) right → Makes defs (made_equal columns defs left right) (truth (int_eq (value left cells point) (value right cells point)))
  made_equal_makes defs left right h a b =
      rw (← (equal_by_order (value left cells point) (value right cells point))) (made_order_makes defs left right right left h a b b a)

  pub made_not_makes : (defs : Defs) (m : Made) (b : Bool) → Makes defs m (truth b) → Makes defs (made_not m) (truth (not b))
  made_not_makes defs m b h =
      let own = codes_made point m.0 (def.Not m.1) in
      let e = h.1.2 in
      let said : truth (not (is_set (value_of_var (eval point m.0) m.1))) ≡ truth (not b) = rw (e, is_set_truth b) refl in
      (later_trans defs m.0 (m.0 ++ def.Not m.1 ∷ []) h.0 (later_made m.0 (def.Not m.1)), (own.0, own.1, own.2 ∙ said))

  pub made_compare_makes : (defs : Defs) (op : Op) (left right : Expr) → ColumnsCode defs → ExprIn (length cells) left → ExprIn (length cells) right → Makes defs (made_compare columns defs op left right) (truth (compares op (value left cells point) (value right cells point)))
  made_compare_makes defs Eq left right h a b = made_equal_makes defs left right h a b
  made_compare_makes defs Ne left right h a b =
      made_not_makes defs (made_equal columns defs left right) (int_eq (value left cells point) (value right cells point)) (made_equal_makes defs left right h a b)
  made_compare_makes defs Lt left right h a b =
      made_test defs right left (negsuc 0) (int_lt (value left cells point) (value right cells point)) (sign_of_difference_less (value right cells point) (value left cells point)) h b a
  made_compare_makes defs Le left right h a b =
      made_test defs right left (pos 0) (int_le (value left cells point) (value right cells point)) (sign_of_difference (value right cells point) (value left cells point)) h b a
  made_compare_makes defs Gt left right h a b =
      made_test defs left right (negsuc 0) (int_lt (value right cells point) (value left cells point)) (sign_of_difference_less (value left cells point) (value right cells point)) h a b
  made_compare_makes defs Ge left right h a b =
      made_test defs left right (pos 0) (int_le (value right cells point) (value left cells point)) (sign_of_difference (value left cells point) (value right cells point)) h a b

  -- ---- several truths

  abbrev pub CodeAll : Defs → List ℕ → List Bool → Type 0
  CodeAll defs [] [] = Unit {0}
  CodeAll defs (n ∷ ns) (b ∷ bs) = Codes point defs n (truth b) × CodeAll defs ns bs
  CodeAll defs [] (b ∷ bs) = ⊥
  CodeAll defs (n ∷ ns) [] = ⊥

  all_later : (a b : Defs) (ns : List ℕ) (bs : List Bool) → Later a b → CodeAll a ns bs → CodeAll b ns bs
  all_later a b [] [] l h = tt
  all_later a b [] (x ∷ bs) l h = h
  all_later a b (n ∷ ns) [] l h = h
  all_later a b (n ∷ ns) (x ∷ bs) l h = (codes_later point a b n (truth x) l h.0, all_later a b ns bs l h.1)

  abbrev id_bool : Bool → Bool
  id_bool b = b

  all_said : (defs : Defs) (ns : List ℕ) (bs : List Bool) → CodeAll defs ns bs → list_all (λ n. is_set (value_of_var (eval point defs) n)) ns ≡ list_all id_bool bs
  all_said defs [] [] h = refl
  all_said defs [] (b ∷ bs) h = absurd h
  all_said defs (n ∷ ns) [] h = absurd h
  all_said defs (n ∷ ns) (b ∷ bs) h = let e = h.0.2 in let more = all_said defs ns bs h.1 in rw (e, is_set_truth b, more) refl

  any_said : (defs : Defs) (ns : List ℕ) (bs : List Bool) → CodeAll defs ns bs → list_any (λ n. is_set (value_of_var (eval point defs) n)) ns ≡ list_any id_bool bs
  any_said defs [] [] h = refl
  any_said defs [] (b ∷ bs) h = absurd h
  any_said defs (n ∷ ns) [] h = absurd h
  any_said defs (n ∷ ns) (b ∷ bs) h = let e = h.0.2 in let more = any_said defs ns bs h.1 in rw (e, is_set_truth b, more) refl

  abbrev pub MakesAll : Defs → MadeAll → List Bool → Type 0
  MakesAll defs m bs = Later defs m.0 × CodeAll m.0 m.1 bs

  pub made_all_makes : (defs : Defs) (m : MadeAll) (bs : List Bool) → MakesAll defs m bs → Makes defs (made_all m) (truth (list_all id_bool bs))
  made_all_makes defs m bs h =
      let own = codes_made point m.0 (def.All m.1) in
      (later_trans defs m.0 (m.0 ++ def.All m.1 ∷ []) h.0 (later_made m.0 (def.All m.1)), (own.0, own.1, own.2 ∙ ap truth (all_said m.0 m.1 bs h.1)))

  pub made_any_makes : (defs : Defs) (m : MadeAll) (bs : List Bool) → MakesAll defs m bs → Makes defs (made_any m) (truth (list_any id_bool bs))
  made_any_makes defs m bs h =
      let own = codes_made point m.0 (def.Any m.1) in
      (later_trans defs m.0 (m.0 ++ def.Any m.1 ∷ []) h.0 (later_made m.0 (def.Any m.1)), (own.0, own.1, own.2 ∙ ap truth (any_said m.0 m.1 bs h.1)))

  abbrev pub equals_of : Expr → List Expr → List Bool
  equals_of x items = map (λ item. int_eq (value x cells point) (value item cells point)) items

  pub made_equals_makes : (defs : Defs) (x : Expr) (items : List Expr) → ColumnsCode defs → ExprIn (length cells) x → ExprsIn (length cells) items → MakesAll defs (made_equals columns defs x items) (equals_of x items)
  made_equals_makes defs x [] h a b = (later_itself defs, tt)
  made_equals_makes defs x (item ∷ items) h a b =
      let m = made_equal columns defs x item in
      let one = made_equal_makes defs x item h a b.0 in
      let rest = made_equals columns m.0 x items in
      let more = made_equals_makes m.0 x items (columns_later defs m.0 one.0 h) a b.1 in
      (later_trans defs m.0 rest.0 one.0 more.0, (codes_later point m.0 rest.0 m.1 (truth (int_eq (value x cells point) (value item cells point))) more.0 one.1, more.1))

  any_equals : (x : Expr) (items : List Expr) → list_any id_bool (equals_of x items) ≡ list_any (λ item. int_eq (value x cells point) (value item cells point)) items
  any_equals x [] = refl
  any_equals x (item ∷ items) = let more = any_equals x items in rw more refl

  -- ---- conditions

  abbrev pub parts_of : {m : _} → Row_of-Cond m → List Bool
  parts_of end_of-Cond = []
  parts_of (more_of-Cond part rest) = holds part cells point ∷ parts_of rest

  all_parts : {m : _} → (parts : Row_of-Cond m) → list_all id_bool (parts_of parts) ≡ all_hold parts cells point
  all_parts end_of-Cond = refl
  all_parts (more_of-Cond part rest) = let more = all_parts rest in rw more refl

  any_parts : {m : _} → (parts : Row_of-Cond m) → list_any id_bool (parts_of parts) ≡ any_holds parts cells point
  any_parts end_of-Cond = refl
  any_parts (more_of-Cond part rest) = let more = any_parts rest in rw more refl

  mutual
    pub made_cond_makes : (defs : Defs) (c : Cond) → ColumnsCode defs → CondIn (length cells) c → Makes defs (made_cond columns defs c) (truth (holds c cells point))
    made_cond_makes defs (Compare op left right) h i = made_compare_makes defs op left right h i.0 i.1
    made_cond_makes defs (Between x low high) h i = made_order_makes defs x low high x h i.0 i.1.0 i.1.1 i.0
    made_cond_makes defs (Within x items) h i =
        rw (← (any_equals x items)) (made_any_makes defs (made_equals columns defs x items) (equals_of x items) (made_equals_makes defs x items h i.0 i.1))
    made_cond_makes defs (All' shape parts) h i =
        rw (← (all_parts parts)) (made_all_makes defs (made_conds columns defs parts) (parts_of parts) (made_conds_make defs parts h i))
    made_cond_makes defs (Any' shape parts) h i =
        rw (← (any_parts parts)) (made_any_makes defs (made_conds columns defs parts) (parts_of parts) (made_conds_make defs parts h i))
    made_cond_makes defs (Not' shape part) h i = made_one_makes defs part h i

    pub made_conds_make : (defs : Defs) → {m : _} → (parts : Row_of-Cond m) → ColumnsCode defs → CondsIn (length cells) parts → MakesAll defs (made_conds columns defs parts) (parts_of parts)
    made_conds_make defs end_of-Cond h i = (later_itself defs, tt)
    made_conds_make defs (more_of-Cond part rest) h i =
        let m = made_cond columns defs part in
        let one = made_cond_makes defs part h i.0 in
        let others = made_conds columns m.0 rest in
        let more = made_conds_make m.0 rest (columns_later defs m.0 one.0 h) i.1 in
        (later_trans defs m.0 others.0 one.0 more.0, (codes_later point m.0 others.0 m.1 (truth (holds part cells point)) more.0 one.1, more.1))

    made_one_makes : (defs : Defs) → {m : _} → (part : Row_of-Cond m) → ColumnsCode defs → OneIn (length cells) part → Makes defs (made_not (made_one columns defs part)) (truth (not (one_holds part cells point)))
    made_one_makes defs end_of-Cond h i =
        made_not_makes defs (made defs (def.Const (pos 0))) false (later_made defs (def.Const (pos 0)), codes_made point defs (def.Const (pos 0)))
    made_one_makes defs (more_of-Cond part rest) h i =
        made_not_makes defs (made_cond columns defs part) (holds part cells point) (made_cond_makes defs part h i)
