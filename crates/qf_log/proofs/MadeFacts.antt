-- The lowered statements of a log are made as a program asks for them.
use Rattle.std.proofs.Common.{◌≡◌, ℕ, zero, suc, ◌+◌, ◌*◌, ◌≤◌, Bool, true, false, List, [], ◌∷◌, ◌++◌, map, refl, sym, ap, subst, ◌∙◌, arith, Option, Some, None, inl, inr}
use Rattle.std.specs.Prelude.{ℤ, pos, negsuc, unsigned_abs, ◌⊎◌, max}
use Rattle.std.specs.List.{AllByRecursion, flat_map}
use Rattle.std.proofs.lemmas.List.Concat.{flat_map-append}
use Rattle.std.proofs.lemmas.Bool.Decides.{nat_tests}
use Rattle.std.proofs.lemmas.Int.{ints}
use Rattle.qf_ir.specs.declared.ast.Term as ir
use Rattle.qf_ir.specs.declared.ast.Expr.{Expr}
use Rattle.qf_ir.specs.declared.ast.Cond.{Cond}
use Rattle.qf_ir.specs.declared.ast.Cond.TheVariants as cond
use Rattle.qf_ir.specs.Typed.{IsItem}
use Rattle.qf_ir.specs.Parts.{param_of, params_in, depth_of, conds_of, items_of, exprs_of, statement_params}
use Rattle.qf_ir.specs.Made.{FactorFits, IsMade, IsCoded, IsWhole}
use Rattle.qf_grammar.specs.declared.tree.Several.{Several}
use Rattle.qf_grammar.specs.declared.tree.Factor.{Factor}
use Rattle.qf_grammar.specs.declared.tree.Factor.TheVariants as factor
use Rattle.qf_grammar.specs.declared.tree.Term.{Term}
use Rattle.qf_grammar.specs.declared.tree.Item.{Item}
use Rattle.qf_grammar.specs.declared.tree.Item.TheVariants as item
use Rattle.qf_grammar.specs.declared.tree.Compare.{Compare}
use Rattle.qf_grammar.specs.declared.tree.Compare.TheVariants as compare
use Rattle.qf_grammar.specs.declared.tree.Condition.{Condition}
use Rattle.qf_grammar.specs.declared.tree.Form.{Form}
use Rattle.qf_grammar.specs.declared.tree.Form.TheVariants as form
use Rattle.qf_grammar.specs.Spelling.{Lexemes, Unit', Conj, Chain, negated, group, test, one_unit, unit_and, one_conj, conj_or, all_of, any_of, unit_tree, conj_trees, chain_trees, unit_nests, conj_nests, chain_nests, IsFilter, IsForm}
use Rattle.qf_grammar.specs.Usage.{product_use, term_uses, uses_of, is_big}
use Rattle.qf_log.specs.Parameters.{alone, parameters_in, number_at}
use Rattle.qf_log.specs.Lowered.{id_at, signed, lowered_product, lowered_term, lowered_several, lowered_item, not_if, lowered_compare, lowered_condition, lowered_form}
use Rattle.qf_log.proofs.Conditions.{lowered_all, lowered_any, lowered_not}
use Rattle.qf_log.proofs.CondParts.{all_whole, any_whole, whole_not, all_deep, any_deep, depth_not}
use Rattle.qf_log.proofs.ExprParts.{Part, sum, word, one, part_uses, part_expr, Fine, AllFine, has_parts, all_left, all_right, all_join}

-- ---- factors

abs_signed : (m : Bool) (z : ℤ) → unsigned_abs (signed m z) ≡ unsigned_abs z
abs_signed true z = omega (arith, ints)
abs_signed false z = refl

unit_fits : (m : Bool) (k : ℕ) → (signed m (pos 1) ≡ pos 1) ⊎ (signed m (pos 1) ≡ negsuc 0)
unit_fits true k = inr refl
unit_fits false k = inl refl

module _ (numbers : List ℤ) (ids : List ℕ) (texts : ℕ) where
  term_fits : (m : Bool) (l : Factor) (r : Option Factor) → Fine numbers texts (product_use l r) → FactorFits (lowered_product numbers ids m l r).factor (lowered_product numbers ids m l r).atom
  term_fits m (factor.Number n) None h = unit_fits m n
  term_fits m (factor.Name c) None h = omega (arith, abs_signed m (pos 1))
  term_fits m (factor.Number n) (Some (factor.Name c)) h = omega (arith, abs_signed m (number_at numbers n), h)
  term_fits m (factor.Name c) (Some (factor.Number n)) h = omega (arith, abs_signed m (number_at numbers n), h)
  term_fits m (factor.Number n) (Some (factor.Number k)) h = absurd h
  term_fits m (factor.Name c) (Some (factor.Name d)) h = absurd h

  abbrev Fits : ir.Term → Type 0
  Fits t = FactorFits t.factor t.atom

  terms_fit : (ts : List Term) → AllFine numbers texts (flat_map term_uses ts) → AllByRecursion Fits (map (lowered_term numbers ids) ts)
  terms_fit [] h = tt
  terms_fit (t ∷ ts) h = (term_fits t.minus t.left t.right h.0, terms_fit ts h.1)

  abbrev pub IsGood : Expr → Type 0
  IsGood e = IsMade e × IsCoded texts e

  part_good : (p : Part) → AllFine numbers texts (part_uses p) → IsGood (part_expr numbers ids p)
  part_good (sum s) h = ((omega arith, (term_fits s.first.minus s.first.left s.first.right h.0, terms_fit s.others h.1)), tt)
  part_good (word t) h = (tt, h.0)
  part_good (one (item.Number n)) h = ((omega arith, (inl refl, tt)), tt)
  part_good (one (item.Text t)) h = (tt, h.0)

  parts_good : (ps : List Part) → AllFine numbers texts (flat_map part_uses ps) → AllByRecursion IsGood (map (part_expr numbers ids) ps)
  parts_good [] h = tt
  parts_good (p ∷ ps) h = (part_good p (all_left (Fine numbers texts) (part_uses p) (flat_map part_uses ps) h), parts_good ps (all_right (Fine numbers texts) (part_uses p) (flat_map part_uses ps) h))

  pub form_good : (xs : Lexemes) (f : Form) → IsForm 32 xs f → AllFine numbers texts (uses_of f) → AllByRecursion IsGood (exprs_of (lowered_form numbers ids f))
  form_good xs f h k =
      let p = has_parts numbers ids texts xs f h in
      subst (AllByRecursion IsGood) (sym p.exprs) (parts_good p.parts (p.fine k))

  -- ---- parameters

  term_params : (m : Bool) (l : Factor) (r : Option Factor) → param_of (lowered_product numbers ids m l r).atom ≡ map (id_at ids) (alone (product_use l r))
  term_params m (factor.Number n) None = refl
  term_params m (factor.Name c) None = refl
  term_params m (factor.Number n) (Some (factor.Name c)) = refl
  term_params m (factor.Name c) (Some (factor.Number n)) = refl
  term_params m (factor.Number n) (Some (factor.Number k)) = refl
  term_params m (factor.Name c) (Some (factor.Name d)) = refl

  map_append : {A B : Type 0} (f : A → B) (xs ys : List A) → map f (xs ++ ys) ≡ map f xs ++ map f ys
  map_append f [] ys = refl
  map_append f (x ∷ xs) ys = ap (λ t. f x ∷ t) (map_append f xs ys)

  terms_params : (ts : List Term) → flat_map (λ (t : ir.Term). param_of t.atom) (map (lowered_term numbers ids) ts) ≡ map (id_at ids) (parameters_in (flat_map term_uses ts))
  terms_params [] = refl
  terms_params (t ∷ ts) =
      ap (λ ns. ns ++ flat_map (λ (t : ir.Term). param_of t.atom) (map (lowered_term numbers ids) ts)) (term_params t.minus t.left t.right)
      ∙ ap (λ ns. map (id_at ids) (alone (product_use t.left t.right)) ++ ns) (terms_params ts)
      ∙ sym (map_append (id_at ids) (alone (product_use t.left t.right)) (parameters_in (flat_map term_uses ts)))

  part_params : (p : Part) → params_in (part_expr numbers ids p) ≡ map (id_at ids) (parameters_in (part_uses p))
  part_params (sum s) = terms_params (s.first ∷ s.others)
  part_params (word t) = refl
  part_params (one (item.Number n)) = refl
  part_params (one (item.Text t)) = refl

  parts_params : (ps : List Part) → flat_map params_in (map (part_expr numbers ids) ps) ≡ map (id_at ids) (parameters_in (flat_map part_uses ps))
  parts_params [] = refl
  parts_params (p ∷ ps) =
      ap (λ ns. ns ++ flat_map params_in (map (part_expr numbers ids) ps)) (part_params p)
      ∙ ap (λ ns. map (id_at ids) (parameters_in (part_uses p)) ++ ns) (parts_params ps)
      ∙ sym (map_append (id_at ids) (parameters_in (part_uses p)) (parameters_in (flat_map part_uses ps)))
      ∙ ap (map (id_at ids)) (sym (flat_map-append alone (part_uses p) (flat_map part_uses ps)))

  -- a statement's parameters are the numbers that stand alone in it
  pub form_params : (xs : Lexemes) (f : Form) → IsForm 32 xs f → statement_params (lowered_form numbers ids f) ≡ map (id_at ids) (parameters_in (uses_of f))
  form_params xs f h =
      let p = has_parts numbers ids texts xs f h in
      ap (flat_map params_in) p.exprs ∙ parts_params p.parts ∙ ap (map (id_at ids)) (sym p.params)

-- ---- what is read is fine

pub past_at : (numbers : List ℤ) (n : ℕ) → is_big numbers n ≡ false → unsigned_abs (number_at numbers n) ≤ 1000000
past_at [] n e = omega arith
past_at (z ∷ numbers) zero e = grind (arith, nat_tests)
past_at (z ∷ numbers) (suc n) e = past_at numbers n e

-- ---- items of INSERT

item_is : (ids : List ℕ) (i : Item) → IsItem (lowered_item ids i)
item_is ids (item.Number n) = (refl, (id_at ids n, refl))
item_is ids (item.Text t) = tt

items_are : (ids : List ℕ) (items : List Item) → AllByRecursion IsItem (map (lowered_item ids) items)
items_are ids [] = tt
items_are ids (i ∷ items) = (item_is ids i, items_are ids items)

tuples_are : (ids : List ℕ) (tuples : List (Several Item)) → AllByRecursion IsItem (flat_map (λ (tuple : List Expr). tuple) (map (lowered_several (lowered_item ids)) tuples))
tuples_are ids [] = tt
tuples_are ids (t ∷ tuples) = all_join IsItem (lowered_several (lowered_item ids) t) (flat_map (λ (tuple : List Expr). tuple) (map (lowered_several (lowered_item ids)) tuples)) (item_is ids t.first, items_are ids t.others) (tuples_are ids tuples)

pub form_items : (numbers : List ℤ) (ids : List ℕ) (f : Form) → AllByRecursion IsItem (items_of (lowered_form numbers ids f))
form_items numbers ids (form.Update t s w) = tt
form_items numbers ids (form.Delete t w) = tt
form_items numbers ids (form.Insert t c s) = tuples_are ids (s.first ∷ s.others)

-- ---- conditions

module _ (numbers : List ℤ) (ids : List ℕ) where
  abbrev low : Condition → Cond
  low c = lowered_condition numbers ids c

  -- whole, and at most so deep
  abbrev Sound : ℕ → Cond → Type 0
  Sound n c = IsWhole c × (depth_of c ≤ n)

  abbrev AllSound : ℕ → List Cond → Type 0
  AllSound n cs = AllByRecursion (Sound n) cs

  wholes : (n : ℕ) (cs : List Cond) → AllSound n cs → AllByRecursion IsWhole cs
  wholes n [] h = tt
  wholes n (c ∷ cs) h = (h.0.0, wholes n cs h.1)

  depths : (n : ℕ) (cs : List Cond) → AllSound n cs → AllByRecursion (λ c. depth_of c ≤ n) cs
  depths n [] h = tt
  depths n (c ∷ cs) h = (h.0.1, depths n cs h.1)

  deeper : (m n : ℕ) (cs : List Cond) → m ≤ n → AllSound m cs → AllSound n cs
  deeper m n [] le h = tt
  deeper m n (c ∷ cs) le h = ((h.0.0, omega (arith, h.0.1)), deeper m n cs le h.1)

  not_sound : (b : Bool) (c : Cond) → Sound 1 c → Sound 2 (not_if b c)
  not_sound true c h = (whole_not c h.0, depth_not 1 c h.1)
  not_sound false c h = (h.0, omega (arith, h.1))

  compare_sound : (c : Compare) → Sound 2 (lowered_compare numbers ids c)
  compare_sound (compare.Relate l r m) = (tt, omega arith)
  compare_sound (compare.Between x n lo hi) = not_sound n (cond.Between _ _ _) (tt, omega arith)
  compare_sound (compare.Within x n items) = not_sound n (cond.Within _ _) (omega arith, omega arith)

  all_sound : (n : ℕ) (c : Condition) (cs : List Condition) → AllSound n (map low (c ∷ cs)) → Sound (1 + n) (low (all_of (c ∷ cs)))
  all_sound n c [] h = (h.0.0, omega (arith, h.0.1))
  all_sound n c (d ∷ cs) h =
      subst (Sound (1 + n)) (sym (lowered_all numbers ids (c ∷ d ∷ cs)))
      (all_whole (map low (c ∷ d ∷ cs)) (omega arith) (wholes n (map low (c ∷ d ∷ cs)) h), all_deep n (map low (c ∷ d ∷ cs)) (depths n (map low (c ∷ d ∷ cs)) h))

  any_sound : (n : ℕ) (c : Condition) (cs : List Condition) → AllSound n (map low (c ∷ cs)) → Sound (1 + n) (low (any_of (c ∷ cs)))
  any_sound n c [] h = (h.0.0, omega (arith, h.0.1))
  any_sound n c (d ∷ cs) h =
      subst (Sound (1 + n)) (sym (lowered_any numbers ids (c ∷ d ∷ cs)))
      (any_whole (map low (c ∷ d ∷ cs)) (omega arith) (wholes n (map low (c ∷ d ∷ cs)) h), any_deep n (map low (c ∷ d ∷ cs)) (depths n (map low (c ∷ d ∷ cs)) h))

  conj_sound_of : (n : ℕ) (c : Conj) → AllSound n (map low (conj_trees c)) → Sound (1 + n) (low (all_of (conj_trees c)))
  conj_sound_of n (one_unit u) h = all_sound n (unit_tree u) [] h
  conj_sound_of n (unit_and u c) h = all_sound n (unit_tree u) (conj_trees c) h

  chain_sound_of : (n : ℕ) (c : Chain) → AllSound n (map low (chain_trees c)) → Sound (1 + n) (low (any_of (chain_trees c)))
  chain_sound_of n (one_conj c) h = any_sound n (all_of (conj_trees c)) [] h
  chain_sound_of n (conj_or c d) h = any_sound n (all_of (conj_trees c)) (chain_trees d) h

  -- units that nest n deep are at most this deep
  abbrev room : ℕ → ℕ
  room n = 2 + 2 * n

  mutual
    unit_sound : (u : Unit') → Sound (room (unit_nests u)) (low (unit_tree u))
    unit_sound (negated u) =
        let h = unit_sound u in
        subst (Sound (room (suc (unit_nests u)))) (sym (lowered_not numbers ids (unit_tree u)))
        (whole_not (low (unit_tree u)) h.0, omega (arith, depth_not (room (unit_nests u)) (low (unit_tree u)) h.1))
    unit_sound (group c) = let h = chain_sound_of (1 + room (chain_nests c)) c (chain_sound c) in (h.0, omega (arith, h.1))
    unit_sound (test t) = compare_sound t

    conj_sound : (c : Conj) → AllSound (room (conj_nests c)) (map low (conj_trees c))
    conj_sound (one_unit u) = (unit_sound u, tt)
    conj_sound (unit_and u c) =
        let h = unit_sound u in
        ((h.0, omega (arith, h.1)), deeper (room (conj_nests c)) (room (max (unit_nests u) (conj_nests c))) (map low (conj_trees c)) (omega arith) (conj_sound c))

    pub chain_sound : (c : Chain) → AllSound (1 + room (chain_nests c)) (map low (chain_trees c))
    chain_sound (one_conj c) = (conj_sound_of (room (conj_nests c)) c (conj_sound c), tt)
    chain_sound (conj_or c d) =
        let h = conj_sound_of (room (conj_nests c)) c (conj_sound c) in
        ((h.0, omega (arith, h.1)), deeper (1 + room (chain_nests d)) (1 + room (max (conj_nests c) (chain_nests d))) (map low (chain_trees d)) (omega arith) (chain_sound d))

  filter_sound : (xs : Lexemes) (c : Condition) → IsFilter 32 xs (Some c) → Sound 128 (low c)
  filter_sound xs c h =
      let k = h.2 in
      let s = chain_sound_of (1 + room (chain_nests k.chain)) k.chain (chain_sound k.chain) in
      let t = subst (λ c. Sound (2 + room (chain_nests k.chain)) (low c)) (sym k.tree) (s.0, omega (arith, s.1)) in
      (t.0, omega (arith, t.1, k.nests))

  where_sound : (xs : Lexemes) (w : Option Condition) → IsFilter 32 xs w → AllSound 128 (conds_of (lowered_form numbers ids (form.Delete 0 w)))
  where_sound xs None h = tt
  where_sound xs (Some c) h = (filter_sound xs c h, tt)

  -- the conditions of a statement are whole and shallow
  pub form_conds : (xs : Lexemes) (f : Form) → IsForm 32 xs f → AllByRecursion (λ c. IsWhole c × (depth_of c ≤ 128)) (conds_of (lowered_form numbers ids f))
  form_conds xs (form.Update t s w) h = where_sound h.0 w h.2
  form_conds xs (form.Delete t w) h = where_sound h.0 w h.2
  form_conds xs (form.Insert t c s) h = tt
