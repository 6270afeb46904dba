-- Numbers that agree at the factors of columns give the same statements.
use Rattle.std.proofs.Common.{◌≡◌, ℕ, ◌+◌, Bool, true, false, cond, List, [], ◌∷◌, ◌++◌, map, refl, sym, ap, subst, ◌∙◌, Option, Some, None, Result, Ok, Err}
use Rattle.std.specs.Prelude.{ℤ, pos, ◌||◌, option_map, slice_get, unwrap_or}
use Rattle.std.specs.List.{AllByRecursion, flat_map, list_any}
use Rattle.std.proofs.lemmas.Option.{unwrap_or-slice_get}
use Rattle.qf_ir.specs.declared.ast.Expr.{Expr}
use Rattle.qf_ir.specs.declared.ast.Expr.TheVariants as expr
use Rattle.qf_ir.specs.declared.ast.Cond.{Cond}
use Rattle.qf_ir.specs.declared.ast.Cond.TheVariants as cond
use Rattle.qf_ir.specs.declared.ast.Statement.TheVariants as statement
use Rattle.qf_grammar.specs.declared.tree.Several.{Several}
use Rattle.qf_grammar.specs.declared.tree.Factor.{Factor}
use Rattle.qf_grammar.specs.declared.tree.Factor.TheVariants as factor
use Rattle.qf_grammar.specs.declared.tree.Term.{Term}
use Rattle.qf_grammar.specs.declared.tree.Side.{Side}
use Rattle.qf_grammar.specs.declared.tree.Side.TheVariants as side
use Rattle.qf_grammar.specs.declared.tree.Compare.{Compare}
use Rattle.qf_grammar.specs.declared.tree.Compare.TheVariants as compare
use Rattle.qf_grammar.specs.declared.tree.Condition.{Condition, Row_of-Condition, end_of-Condition, more_of-Condition}
use Rattle.qf_grammar.specs.declared.tree.Condition.TheVariants.{Test, All', Any', Not'}
use Rattle.qf_grammar.specs.declared.tree.Assign.{Assign}
use Rattle.qf_grammar.specs.declared.tree.Form.{Form}
use Rattle.qf_grammar.specs.declared.tree.Form.TheVariants as form
use Rattle.qf_grammar.specs.declared.uses.Use.{Use}
use Rattle.qf_grammar.specs.declared.uses.Use.TheVariants as used
use Rattle.qf_grammar.specs.declared.judging.Stated.{Stated}
use Rattle.qf_grammar.specs.declared.fault.LogFault.{LogFault}
use Rattle.qf_grammar.specs.declared.fault.LogFault.TheVariants as fault
use Rattle.qf_grammar.specs.Spelling.{Lexemes}
use Rattle.qf_grammar.specs.Reading.{form_at}
use Rattle.qf_grammar.specs.Usage.{product_use, term_uses, several_uses, side_uses, item_uses, compare_uses, condition_uses, parts_uses, filter_uses, assign_uses, uses_of, is_alike, is_past, has_big_factor}
use Rattle.qf_grammar.specs.Statements.{pieces_of, table_of, is_table, judged_form, judged, judged_next, with_stated, first_table, statements_from, statements_of}
use Rattle.qf_grammar.specs.Laws.{IsStated}
use Rattle.qf_log.specs.Parameters.{number_at}
use Rattle.qf_log.specs.Lowered.{signed, column_term, lowered_product, lowered_term, lowered_several, lowered_sum, lowered_side, lowered_item, op_of, not_if, lowered_compare, lowered_condition, lowered_parts, lowered_part, lowered_assign, lowered_form}
use Rattle.qf_log.proofs.Lists.{all_uses}
use Rattle.qf_log.proofs.ExprParts.{all_left, all_right}

module _ (ns ms : List ℤ) where
  abbrev pub SameAt : Factor → Type 0
  SameAt (factor.Number n) = slice_get ns n ≡ slice_get ms n
  SameAt (factor.Name c) = Unit {0}

  -- the numbers of a product are the same
  abbrev pub Agree : Use → Type 0
  Agree (used.Product l r) = SameAt l × SameAt r
  Agree (used.Name c) = Unit {0}
  Agree (used.Number n) = Unit {0}
  Agree (used.Text t) = Unit {0}

  abbrev pub AgreeAll : List Use → Type 0
  AgreeAll us = AllByRecursion Agree us

  left : (us vs : List Use) → AgreeAll (us ++ vs) → AgreeAll us
  left us vs h = all_left Agree us vs h

  right : (us vs : List Use) → AgreeAll (us ++ vs) → AgreeAll vs
  right us vs h = all_right Agree us vs h

  -- ---- the same faults

  big_same : (u : Use) → Agree u → has_big_factor ns u ≡ has_big_factor ms u
  big_same (used.Product (factor.Number n) (factor.Name c)) h = ap is_past h.0
  big_same (used.Product (factor.Name c) (factor.Number n)) h = ap is_past h.1
  big_same (used.Product (factor.Number m) (factor.Number n)) h = refl
  big_same (used.Product (factor.Name c) (factor.Name d)) h = refl
  big_same (used.Name c) h = refl
  big_same (used.Number n) h = refl
  big_same (used.Text t) h = refl

  any_same : (us : List Use) → AgreeAll us → list_any (has_big_factor ns) us ≡ list_any (has_big_factor ms) us
  any_same [] h = refl
  any_same (u ∷ us) h = ap (λ b. b || list_any (has_big_factor ns) us) (big_same u h.0) ∙ ap (λ b. has_big_factor ms u || b) (any_same us h.1)

  abbrev Chosen : Bool → Bool → Bool → ℕ → Stated → Result Stated LogFault
  Chosen a b c k s = cond a (Err (fault.NotLinear k)) (cond b (Err (fault.BigCoefficient k)) (cond c (Ok s) (Err (fault.OtherTable k))))

  chosen : (a b c : Bool) (k : ℕ) (s t : Stated) → Chosen a b c k s ≡ Ok t → s ≡ t
  chosen false false true k s t e = cc
  chosen true b c k s t e = absurd cc
  chosen false true c k s t e = absurd cc
  chosen false false false k s t e = absurd cc

  form_again : (first : Option ℕ) (k : ℕ) (o : Option Form) (s : Stated) → judged_form ns first k o ≡ Ok s → AgreeAll s.uses → judged_form ms first k o ≡ Ok s
  form_again first k None s e h = absurd cc
  form_again first k (Some f) s e h =
      let us = uses_of f in
      let this : Stated = record { form = f; uses = us } in
      let same : this ≡ s = chosen (list_any is_alike us) (list_any (has_big_factor ns) us) (is_table first (table_of f)) k this s e in
      let agree : AgreeAll us = subst (λ (t : Stated). AgreeAll t.uses) (sym same) h in
      sym (ap (λ b. Chosen (list_any is_alike us) b (is_table first (table_of f)) k this) (any_same us agree)) ∙ e

  split : (s : Stated) (r : Result (List Stated) LogFault) (all : List Stated) → with_stated s r ≡ Ok all → (rest : List Stated) × (r ≡ Ok rest) × (s ∷ rest ≡ all)
  split s (Ok rest) all e = (rest, refl, cc)
  split s (Err x) all e = absurd cc

  piece_again : (first : Option ℕ) (k : ℕ) (piece : Lexemes) (next again : Stated → Result (List Stated) LogFault) (r : Result Stated LogFault) (all : List Stated) → judged ns first k piece ≡ r → judged_next next r ≡ Ok all → AgreeAll (all_uses all)
      → ((s : Stated) (rest : List Stated) → next s ≡ Ok rest → AgreeAll (all_uses rest) → again s ≡ Ok rest) → judged_next again (judged ms first k piece) ≡ Ok all
  piece_again first k piece next again (Err x) all j e h g = absurd cc
  piece_again first k piece next again (Ok s) all j e h g =
      let p = split s (next s) all e in
      let both : AgreeAll (s.uses ++ all_uses p.0) = subst (λ (a : List Stated). AgreeAll (all_uses a)) (sym p.2) h in
      ap (judged_next again) (form_again first k (form_at piece) s j (left s.uses (all_uses p.0) both))
      ∙ ap (with_stated s) (g s p.0 p.1 (right s.uses (all_uses p.0) both)) ∙ ap (λ (a : List Stated). Ok a) p.2

  from_again : (first : Option ℕ) (k : ℕ) (pieces : List Lexemes) (all : List Stated) → statements_from ns first k pieces ≡ Ok all → AgreeAll (all_uses all) → statements_from ms first k pieces ≡ Ok all
  from_again first k [] all e h = e
  from_again first k ([] ∷ pieces) all e h = from_again first k pieces all e h
  from_again first k ((x ∷ xs) ∷ pieces) all e h =
      piece_again first k (x ∷ xs) (λ s. statements_from ns (first_table first s.form) (k + 1) pieces) (λ s. statements_from ms (first_table first s.form) (k + 1) pieces) (judged ns first k (x ∷ xs)) all refl e h
      (λ s rest f a. from_again (first_table first s.form) (k + 1) pieces rest f a)

  -- the statements are read again, whatever the parameters are
  pub statements_again : (xs : Lexemes) (all : List Stated) → statements_of ns xs ≡ Ok all → AgreeAll (all_uses all) → statements_of ms xs ≡ Ok all
  statements_again xs all e h = from_again None 1 (pieces_of xs) all e h

  -- ---- the same statements of a program

  number_same : (n : ℕ) → slice_get ns n ≡ slice_get ms n → number_at ns n ≡ number_at ms n
  number_same n h = sym (unwrap_or-slice_get ns n (pos 0)) ∙ ap (λ o. unwrap_or o (pos 0)) h ∙ unwrap_or-slice_get ms n (pos 0)

  module _ (ids : List ℕ) where
    product_same : (m : Bool) (l : Factor) (r : Option Factor) → Agree (product_use l r) → lowered_product ns ids m l r ≡ lowered_product ms ids m l r
    product_same m (factor.Number n) None h = refl
    product_same m (factor.Name c) None h = refl
    product_same m (factor.Number n) (Some (factor.Name c)) h = ap (λ z. column_term (signed m z) c) (number_same n h.0)
    product_same m (factor.Name c) (Some (factor.Number n)) h = ap (λ z. column_term (signed m z) c) (number_same n h.1)
    product_same m (factor.Number k) (Some (factor.Number n)) h = refl
    product_same m (factor.Name c) (Some (factor.Name d)) h = refl

    terms_same : (ts : List Term) → AgreeAll (flat_map term_uses ts) → map (lowered_term ns ids) ts ≡ map (lowered_term ms ids) ts
    terms_same [] h = refl
    terms_same (t ∷ ts) h = ap (λ x. x ∷ map (lowered_term ns ids) ts) (product_same t.minus t.left t.right h.0) ∙ ap (λ xs. lowered_term ms ids t ∷ xs) (terms_same ts h.1)

    sum_same : (s : Several Term) → AgreeAll (several_uses term_uses s) → lowered_sum ns ids s ≡ lowered_sum ms ids s
    sum_same s h = ap (λ ts. expr.Sum ts) (terms_same (s.first ∷ s.others) h)

    side_same : (s : Side) → AgreeAll (side_uses s) → lowered_side ns ids s ≡ lowered_side ms ids s
    side_same (side.Sum s) h = sum_same s h
    side_same (side.Text t) h = refl

    compare_same : (c : Compare) → AgreeAll (compare_uses c) → lowered_compare ns ids c ≡ lowered_compare ms ids c
    compare_same (compare.Relate l r m) h =
        ap (λ e. cond.Compare (op_of r) e (lowered_side ns ids m)) (side_same l (left (side_uses l) (side_uses m) h))
        ∙ ap (λ e. cond.Compare (op_of r) (lowered_side ms ids l) e) (side_same m (right (side_uses l) (side_uses m) h))
    compare_same (compare.Between x n low high) h =
        let ends = several_uses term_uses low ++ several_uses term_uses high in
        let both = right (several_uses term_uses x) ends h in
        ap (λ e. not_if n (cond.Between e (lowered_sum ns ids low) (lowered_sum ns ids high))) (sum_same x (left (several_uses term_uses x) ends h))
        ∙ ap (λ e. not_if n (cond.Between (lowered_sum ms ids x) e (lowered_sum ns ids high))) (sum_same low (left (several_uses term_uses low) (several_uses term_uses high) both))
        ∙ ap (λ e. not_if n (cond.Between (lowered_sum ms ids x) (lowered_sum ms ids low) e)) (sum_same high (right (several_uses term_uses low) (several_uses term_uses high) both))
    compare_same (compare.Within x n items) h =
        ap (λ e. not_if n (cond.Within e (lowered_several (lowered_item ids) items))) (side_same x (left (side_uses x) (several_uses item_uses items) h))

    mutual
      condition_same : (c : Condition) → AgreeAll (condition_uses c) → lowered_condition ns ids c ≡ lowered_condition ms ids c
      condition_same (Test c) h = compare_same c h
      condition_same (All' shape parts) h = ap (λ cs. cond.All cs) (parts_same parts h)
      condition_same (Any' shape parts) h = ap (λ cs. cond.Any cs) (parts_same parts h)
      condition_same (Not' shape part) h = ap (λ c. cond.Not c) (part_same part h)

      parts_same : {m : _} (parts : Row_of-Condition m) → AgreeAll (parts_uses parts) → lowered_parts ns ids parts ≡ lowered_parts ms ids parts
      parts_same end_of-Condition h = refl
      parts_same (more_of-Condition part rest) h =
          ap (λ c. c ∷ lowered_parts ns ids rest) (condition_same part (left (condition_uses part) (parts_uses rest) h))
          ∙ ap (λ cs. lowered_condition ms ids part ∷ cs) (parts_same rest (right (condition_uses part) (parts_uses rest) h))

      part_same : {m : _} (part : Row_of-Condition m) → AgreeAll (parts_uses part) → lowered_part ns ids part ≡ lowered_part ms ids part
      part_same end_of-Condition h = refl
      part_same (more_of-Condition part rest) h = condition_same part (left (condition_uses part) (parts_uses rest) h)

    filter_same : (o : Option Condition) → AgreeAll (filter_uses o) → option_map (lowered_condition ns ids) o ≡ option_map (lowered_condition ms ids) o
    filter_same None h = refl
    filter_same (Some c) h = ap (λ (d : Cond). Some d) (condition_same c h)

    abbrev set_to : ℕ → Expr → ℕ × Expr
    set_to c e = (c, e)

    assigns_same : (sets : List Assign) → AgreeAll (flat_map assign_uses sets) → map (lowered_assign ns ids) sets ≡ map (lowered_assign ms ids) sets
    assigns_same [] h = refl
    assigns_same (a ∷ sets) h =
        ap (λ e. set_to a.column e ∷ map (lowered_assign ns ids) sets) (side_same a.value (left (side_uses a.value) (flat_map assign_uses sets) h.1))
        ∙ ap (λ xs. lowered_assign ms ids a ∷ xs) (assigns_same sets (right (side_uses a.value) (flat_map assign_uses sets) h.1))

    form_same : (f : Form) → AgreeAll (uses_of f) → lowered_form ns ids f ≡ lowered_form ms ids f
    form_same (form.Update table sets filter) h =
        let uses = several_uses assign_uses sets in
        ap (λ s. statement.Update s (option_map (lowered_condition ns ids) filter)) (assigns_same (sets.first ∷ sets.others) (left uses (filter_uses filter) h.1))
        ∙ ap (λ o. statement.Update (lowered_several (lowered_assign ms ids) sets) o) (filter_same filter (right uses (filter_uses filter) h.1))
    form_same (form.Delete table filter) h = ap (λ o. statement.Delete o) (filter_same filter h.1)
    form_same (form.Insert table columns tuples) h = refl

    pub lowered_same : (numbers : List ℤ) (all : List Stated) → AllByRecursion (IsStated numbers) all → AgreeAll (all_uses all) → map (λ (s : Stated). lowered_form ns ids s.form) all ≡ map (λ (s : Stated). lowered_form ms ids s.form) all
    lowered_same numbers [] i h = refl
    lowered_same numbers (s ∷ all) i h =
        ap (λ x. x ∷ map (λ (s : Stated). lowered_form ns ids s.form) all) (form_same s.form (subst AgreeAll i.0.uses (left s.uses (all_uses all) h)))
        ∙ ap (λ xs. lowered_form ms ids s.form ∷ xs) (lowered_same numbers all i.1 (right s.uses (all_uses all) h))
