-- Every problem has a root box: which parameters are needed can be computed from the statements, whatever they are.
use Rattle.std.proofs.Common.{◌≡◌, ◌⊎◌, ℕ, zero, suc, ◌+◌, ◌-◌, ◌<◌, ◌≤◌, max, pos, Bool, true, false, not, ◌&&◌, ◌||◌, ◌==◌, nat_le, nat_lt, cond, List, [], ◌∷◌, ◌++◌, length, slice_index_or, inl, inr, refl, sym, ◌∙◌, ap, subst, arith}
use Rattle.std.specs.declared.option.Option.{Option}
use Rattle.std.specs.declared.option.Option.TheVariants.{Some, None}
use Rattle.std.specs.List.{list_any, Contains}
use Rattle.std.proofs.lemmas.Bool.{false≢true}
use Rattle.std.proofs.lemmas.Bool.Decides.{nat_tests}
use Rattle.std.proofs.lemmas.List.{get_or_past}
use Rattle.qf_base.specs.Values.{Interval, Bounds, interval_of_var}
use Rattle.qf_goal.specs.Case.{Case}
use Rattle.qf_goal.specs.SeedPlaces.{case_seeds}
use Rattle.qf_impact.proofs.Flows.{flows-in, flows-out}
use Rattle.qf_impact.proofs.Tests.{or-either, or-left, or-right, and-both, and-join, and-nothing}
use Rattle.qf_impact.specs.Atoms.{expr_atoms, where_atoms}
use Rattle.qf_impact.specs.Steps.{is_param, is_reached, touches, sets_place, carries, is_cleared, has_item, flows}
use Rattle.qf_ir.specs.Flow.{Place, Live, At, Chain, Reaches, Meet, Linked, last_of, Needed}
use Rattle.qf_ir.specs.Replay.{place_from, place_of}
use Rattle.qf_ir.specs.declared.ast.Atom.{Atom}
use Rattle.qf_ir.specs.declared.ast.Atom.TheVariants.{Column, Param}
use Rattle.qf_ir.specs.declared.ast.Cond.{Cond}
use Rattle.qf_ir.specs.declared.ast.Expr.{Expr}
use Rattle.qf_ir.specs.declared.ast.Expr.TheVariants.{Word}
use Rattle.qf_ir.specs.declared.ast.Statement.{Statement}
use Rattle.qf_ir.specs.declared.ast.Statement.TheVariants.{Update, Delete, Insert}
use Rattle.qf_slice.specs.RootBox.{IsRootBox, old_alone}

or_false : (a b : Bool) → a ≡ false → b ≡ false → (a || b) ≡ false
or_false true b h k = h
or_false false b h k = k

-- ---- the places that a parameter reaches

abbrev grown : ℕ → List Statement → (Place → Bool) → Place → Bool
grown k [] reach = reach
grown k (s ∷ ss) reach = grown k ss (flows k s reach)

abbrev Coming : ℕ → List Statement → (Place → Bool) → Place → Type 0
Coming k ss reach to = Reaches k ss to ⊎ ((from : Place) × (reach from ≡ true) × Chain from ss to)

grown_in : (k : ℕ) (ss : List Statement) (reach : Place → Bool) (to : Place) → grown k ss reach to ≡ true → Coming k ss reach to
grown_in k [] reach to e = inr (to, e, refl)
grown_in k (s ∷ ss) reach to e =
    elim (grown_in k ss (flows k s reach) to e) [
      | inl r ↦ inl (inr r)
      | inr h ↦ elim (flows-in k reach s h.0 h.1) [
        | inl enters ↦ inl (inl (h.0, enters, h.2))
        | inr arrow ↦ inr (arrow.0, arrow.1, (h.0, arrow.2, h.2))
      ]
    ]

grown_out : (k : ℕ) (ss : List Statement) (reach : Place → Bool) (to : Place) → Coming k ss reach to → grown k ss reach to ≡ true
grown_out k [] reach to (inl r) = absurd r
grown_out k [] reach to (inr h) = subst (λ p. reach p ≡ true) h.2 h.1
grown_out k (s ∷ ss) reach to (inl (inl h)) = grown_out k ss (flows k s reach) to (inr (h.0, flows-out k reach s h.0 (inl h.1), h.2))
grown_out k (s ∷ ss) reach to (inl (inr r)) = grown_out k ss (flows k s reach) to (inl r)
grown_out k (s ∷ ss) reach to (inr h) =
    let step = h.2 in
    grown_out k ss (flows k s reach) to (inr (step.0, flows-out k reach s step.0 (inr (h.0, h.1, step.1)), step.2))

nowhere : Place → Bool
nowhere p = false

nowhere_is : (p : Place) → nowhere p ≡ false
unfolding nowhere
nowhere_is p = refl

abbrev reached : List Statement → ℕ → Place → Bool
reached ss k = grown k ss nowhere

reached_in : (ss : List Statement) (k : ℕ) (p : Place) → reached ss k p ≡ true → Reaches k ss p
reached_in ss k p e = elim (grown_in k ss nowhere p e) [ inl r ↦ r | inr h ↦ absurd (false≢true (sym (nowhere_is h.0) ∙ h.1)) ]

reached_out : (ss : List Statement) (k : ℕ) (p : Place) → Reaches k ss p → reached ss k p ≡ true
reached_out ss k p r = grown_out k ss nowhere p (inl r)

-- ---- columns beyond all that a statement names are alike

abbrev sets_end : List (ℕ × Expr) → ℕ
sets_end [] = 0
sets_end (s ∷ sets) = max (s.0 + 1) (sets_end sets)

abbrev list_end : List ℕ → ℕ
list_end [] = 0
list_end (c ∷ cs) = max (c + 1) (list_end cs)

abbrev tuples_end : List (List Expr) → ℕ
tuples_end [] = 0
tuples_end (t ∷ ts) = max (length t) (tuples_end ts)

abbrev columns_of : Statement → ℕ
columns_of (Update sets where_) = sets_end sets
columns_of (Delete where_) = 0
columns_of (Insert columns tuples) = max (list_end columns) (tuples_end tuples)

abbrev columns_end : List Statement → ℕ
columns_end [] = 0
columns_end (s ∷ ss) = max (columns_of s) (columns_end ss)

not_there : (c d : ℕ) → d + 1 ≤ c → (c == d) ≡ false
not_there c d h = grind (arith, nat_tests, h)

not_set : (sets : List (ℕ × Expr)) (c : ℕ) → sets_end sets ≤ c → list_any (sets_place (At c)) sets ≡ false
not_set [] c h = refl
not_set (s ∷ sets) c h = or_false (c == s.0) (list_any (sets_place (At c)) sets) (not_there c s.0 (omega (arith, h))) (not_set sets c (omega (arith, h)))

and_false : (a b : Bool) → a ≡ false → (a && b) ≡ false
and_false true b h = absurd (false≢true (sym h))
and_false false b h = refl

not_carried : (k : ℕ) (reach : Place → Bool) (atoms : List Atom) (sets : List (ℕ × Expr)) (c : ℕ) → sets_end sets ≤ c → list_any (carries k reach atoms (At c)) sets ≡ false
not_carried k reach atoms [] c h = refl
not_carried k reach atoms (s ∷ sets) c h =
    or_false (carries k reach atoms (At c) s) (list_any (carries k reach atoms (At c)) sets)
    (and_false (c == s.0) (touches k reach (expr_atoms s.1 ++ atoms)) (not_there c s.0 (omega (arith, h))))
    (not_carried k reach atoms sets c (omega (arith, h)))

not_cleared : (sets : List (ℕ × Expr)) (where_ : Option Cond) (c : ℕ) → sets_end sets ≤ c → is_cleared sets where_ (At c) ≡ false
not_cleared sets None c h = not_set sets c h
not_cleared sets (Some w) c h = refl

stays : (r cleared carried : Bool) → cleared ≡ false → carried ≡ false → ((r && not cleared) || carried) ≡ r
stays r true carried h k = absurd (false≢true (sym h))
stays r false true h k = absurd (false≢true (sym k))
stays true false false h k = refl
stays false false false h k = refl

update_past : (k : ℕ) (sets : List (ℕ × Expr)) (where_ : Option Cond) (reach : Place → Bool) (c : ℕ) → sets_end sets ≤ c → flows k (Update sets where_) reach (At c) ≡ reach (At c)
update_past k sets where_ reach c h =
    stays (reach (At c)) (is_cleared sets where_ (At c)) (list_any (carries k reach (where_atoms where_) (At c)) sets)
    (not_cleared sets where_ c h) (not_carried k reach (where_atoms where_) sets c h)

item_past : (k place : ℕ) (tuples : List (List Expr)) → tuples_end tuples ≤ place → has_item k place tuples ≡ false
item_past k place [] h = refl
item_past k place (tuple ∷ tuples) h =
    let none : slice_index_or tuple place (Word 0) ≡ Word 0 = get_or_past tuple place (Word 0) (omega (arith, h)) in
    ap (λ e. list_any (is_param k) (expr_atoms e) || has_item k place tuples) none ∙ item_past k place tuples (omega (arith, h))

unlisted : (c : ℕ) (columns : List ℕ) → list_end columns ≤ c → place_from columns c ≡ length columns
unlisted c [] h = refl
unlisted c (d ∷ columns) h =
    let apart : (d == c) ≡ false = grind (arith, nat_tests, h) in
    let rest = unlisted c columns (omega (arith, h)) in
    ap (λ b. cond b 0 (place_from columns c + 1)) apart ∙ omega (arith, rest)

items_alike : (k : ℕ) (columns : List ℕ) (tuples : List (List Expr)) (c d : ℕ) → max (list_end columns) (tuples_end tuples) ≤ c → max (list_end columns) (tuples_end tuples) ≤ d
    → has_item k (place_of columns c) tuples ≡ has_item k (place_of columns d) tuples
items_alike k [] tuples c d h i = item_past k c tuples (omega (arith, h)) ∙ sym (item_past k d tuples (omega (arith, i)))
items_alike k (e ∷ columns) tuples c d h i =
    ap (λ n. has_item k n tuples) (unlisted c (e ∷ columns) (omega (arith, h)) ∙ sym (unlisted d (e ∷ columns) (omega (arith, i))))

flows_alike : (k : ℕ) (s : Statement) (reach : Place → Bool) (c d : ℕ) → columns_of s ≤ c → columns_of s ≤ d → reach (At c) ≡ reach (At d) → flows k s reach (At c) ≡ flows k s reach (At d)
flows_alike k (Update sets where_) reach c d h i same = update_past k sets where_ reach c h ∙ (same ∙ sym (update_past k sets where_ reach d i))
flows_alike k (Delete where_) reach c d h i same = ap (λ b. b || false) same
flows_alike k (Insert columns tuples) reach c d h i same =
    ap (λ b. b || has_item k (place_of columns c) tuples) same ∙ ap (λ b. reach (At d) || b) (items_alike k columns tuples c d h i)

grown_alike : (k : ℕ) (ss : List Statement) (reach : Place → Bool) (c d : ℕ) → columns_end ss ≤ c → columns_end ss ≤ d → reach (At c) ≡ reach (At d) → grown k ss reach (At c) ≡ grown k ss reach (At d)
grown_alike k [] reach c d h i same = same
grown_alike k (s ∷ ss) reach c d h i same =
    grown_alike k ss (flows k s reach) c d (omega (arith, h)) (omega (arith, i)) (flows_alike k s reach c d (omega (arith, h)) (omega (arith, i)) same)

reached_alike : (ss : List Statement) (k c d : ℕ) → columns_end ss ≤ c → columns_end ss ≤ d → reached ss k (At c) ≡ reached ss k (At d)
reached_alike ss k c d h i = grown_alike k ss nowhere c d h i (nowhere_is (At c) ∙ sym (nowhere_is (At d)))

-- ---- a place that passes a test

abbrev some_place : ℕ → (Place → Bool) → Bool
some_place zero f = f Live || f (At 0)
some_place (suc n) f = some_place n f || f (At (suc n))

some_in : (n : ℕ) (f : Place → Bool) → some_place n f ≡ true → (p : Place) × (f p ≡ true)
some_in zero f e = elim (or-either (f Live) (f (At 0)) e) [ inl h ↦ (Live, h) | inr h ↦ (At 0, h) ]
some_in (suc n) f e = elim (or-either (some_place n f) (f (At (suc n))) e) [ inl h ↦ some_in n f h | inr h ↦ (At (suc n), h) ]

some_live : (n : ℕ) (f : Place → Bool) → f Live ≡ true → some_place n f ≡ true
some_live zero f e = or-left (f Live) (f (At 0)) e
some_live (suc n) f e = or-left (some_place n f) (f (At (suc n))) (some_live n f e)

some_at : (n : ℕ) (f : Place → Bool) (c : ℕ) → c ≤ n → f (At c) ≡ true → some_place n f ≡ true
some_at zero f c h e = let z : c ≡ 0 = omega (arith, h) in or-right (f Live) (f (At 0)) (subst (λ m. f (At m) ≡ true) z e)
some_at (suc n) f c h e =
    elim (nat_le c n) as (λ b. nat_le c n ≡ b → some_place (suc n) f ≡ true) [
      | true ↦ λ le. or-left (some_place n f) (f (At (suc n))) (some_at n f c (grind (arith, nat_tests)) e)
      | false ↦ λ not_so.
          let z : c ≡ suc n = grind (arith, nat_tests, h) in
          or-right (some_place n f) (f (At (suc n))) (subst (λ m. f (At m) ≡ true) z e)
    ] refl

some_out : (n : ℕ) (f : Place → Bool) → ((c : ℕ) → n ≤ c → f (At c) ≡ f (At n)) → (p : Place) → f p ≡ true → some_place n f ≡ true
some_out n f alike Live e = some_live n f e
some_out n f alike (At c) e =
    elim (nat_le c n) as (λ b. nat_le c n ≡ b → some_place n f ≡ true) [
      | true ↦ λ le. some_at n f c (grind (arith, nat_tests)) e
      | false ↦ λ not_so.
          let past : n ≤ c = grind (arith, nat_tests) in
          some_at n f n (omega arith) (sym (alike c past) ∙ e)
    ] refl

abbrev both : List Statement → ℕ → ℕ → Place → Bool
both ss j k p = reached ss j p && reached ss k p

abbrev meets : List Statement → ℕ → ℕ → Bool
meets ss j k = some_place (columns_end ss) (both ss j k)

meets_in : (ss : List Statement) (j k : ℕ) → meets ss j k ≡ true → Meet ss j k
meets_in ss j k e =
    let p = some_in (columns_end ss) (both ss j k) e in
    let h = and-both (reached ss j p.0) (reached ss k p.0) p.1 in
    (p.0, reached_in ss j p.0 h.0, reached_in ss k p.0 h.1)

meets_out : (ss : List Statement) (j k : ℕ) → Meet ss j k → meets ss j k ≡ true
meets_out ss j k meet =
    some_out (columns_end ss) (both ss j k)
    (λ c past. ap (λ b. b && reached ss k (At c)) (reached_alike ss j c (columns_end ss) past (omega arith)) ∙ ap (λ b. reached ss j (At (columns_end ss)) && b) (reached_alike ss k c (columns_end ss) past (omega arith)))
    meet.0 (and-join (reached ss j meet.0) (reached ss k meet.0) (reached_out ss j meet.0 meet.1) (reached_out ss k meet.0 meet.2))

-- ---- parameters beyond all that the statements name reach nothing

abbrev atoms_end : List Atom → ℕ
atoms_end [] = 0
atoms_end (Column d ∷ atoms) = atoms_end atoms
atoms_end (Param j ∷ atoms) = max (j + 1) (atoms_end atoms)

abbrev values_end : List (ℕ × Expr) → ℕ
values_end [] = 0
values_end (s ∷ sets) = max (atoms_end (expr_atoms s.1)) (values_end sets)

abbrev items_end : List Expr → ℕ
items_end [] = 0
items_end (e ∷ es) = max (atoms_end (expr_atoms e)) (items_end es)

abbrev rows_end : List (List Expr) → ℕ
rows_end [] = 0
rows_end (t ∷ ts) = max (items_end t) (rows_end ts)

abbrev params_of : Statement → ℕ
params_of (Update sets where_) = max (values_end sets) (atoms_end (where_atoms where_))
params_of (Delete where_) = atoms_end (where_atoms where_)
params_of (Insert columns tuples) = rows_end tuples

abbrev params_end : List Statement → ℕ
params_end [] = 0
params_end (s ∷ ss) = max (params_of s) (params_end ss)

end_of_two : (xs ys : List Atom) → atoms_end (xs ++ ys) ≡ max (atoms_end xs) (atoms_end ys)
end_of_two [] ys = omega arith
end_of_two (Column d ∷ xs) ys = end_of_two xs ys
end_of_two (Param j ∷ xs) ys = let e = end_of_two xs ys in omega (arith, e)

not_param : (k : ℕ) (atoms : List Atom) → atoms_end atoms ≤ k → list_any (is_param k) atoms ≡ false
not_param k [] h = refl
not_param k (Column d ∷ atoms) h = not_param k atoms h
not_param k (Param j ∷ atoms) h = or_false (k == j) (list_any (is_param k) atoms) (not_there k j (omega (arith, h))) (not_param k atoms (omega (arith, h)))

module _ (k : ℕ) (reach : Place → Bool) (none : (p : Place) → reach p ≡ false) where
  not_reached : (atoms : List Atom) → list_any (is_reached reach) atoms ≡ false
  not_reached [] = refl
  not_reached (Column d ∷ atoms) = or_false (reach (At d)) (list_any (is_reached reach) atoms) (none (At d)) (not_reached atoms)
  not_reached (Param j ∷ atoms) = not_reached atoms

  untouched : (atoms : List Atom) → atoms_end atoms ≤ k → touches k reach atoms ≡ false
  untouched atoms h = or_false (list_any (is_reached reach) atoms) (list_any (is_param k) atoms) (not_reached atoms) (not_param k atoms h)

  and_untouched : (b : Bool) (atoms : List Atom) → atoms_end atoms ≤ k → (b && touches k reach atoms) ≡ false
  and_untouched b atoms h = ap (λ t. b && t) (untouched atoms h) ∙ and-nothing b

  uncarried : (filter : List Atom) (sets : List (ℕ × Expr)) (p : Place) → atoms_end filter ≤ k → values_end sets ≤ k → list_any (carries k reach filter p) sets ≡ false
  uncarried filter [] p h i = refl
  uncarried filter (s ∷ sets) p h i =
      let e = end_of_two (expr_atoms s.1) filter in
      or_false (carries k reach filter p s) (list_any (carries k reach filter p) sets)
      (and_untouched (sets_place p s) (expr_atoms s.1 ++ filter) (omega (arith, e, h, i))) (uncarried filter sets p h (omega (arith, i)))

  item_end : (tuple : List Expr) (place : ℕ) → atoms_end (expr_atoms (slice_index_or tuple place (Word 0))) ≤ items_end tuple
  item_end [] place = omega arith
  item_end (e ∷ es) zero = omega arith
  item_end (e ∷ es) (suc place) = let h = item_end es place in omega (arith, h)

  no_item : (place : ℕ) (tuples : List (List Expr)) → rows_end tuples ≤ k → has_item k place tuples ≡ false
  no_item place [] h = refl
  no_item place (t ∷ ts) h =
      let item = slice_index_or t place (Word 0) in
      let e = item_end t place in
      or_false (list_any (is_param k) (expr_atoms item)) (has_item k place ts) (not_param k (expr_atoms item) (omega (arith, e, h))) (no_item place ts (omega (arith, h)))

  unflowed : (s : Statement) → params_of s ≤ k → (p : Place) → flows k s reach p ≡ false
  unflowed (Update sets where_) h p =
      or_false (reach p && not (is_cleared sets where_ p)) (list_any (carries k reach (where_atoms where_) p) sets)
      (and_false (reach p) (not (is_cleared sets where_ p)) (none p)) (uncarried (where_atoms where_) sets p (omega (arith, h)) (omega (arith, h)))
  unflowed (Delete where_) h Live = or_false (reach Live) (touches k reach (where_atoms where_)) (none Live) (untouched (where_atoms where_) h)
  unflowed (Delete where_) h (At c) = or_false (reach (At c)) false (none (At c)) refl
  unflowed (Insert columns tuples) h Live = or_false (reach Live) false (none Live) refl
  unflowed (Insert columns tuples) h (At c) = or_false (reach (At c)) (has_item k (place_of columns c) tuples) (none (At c)) (no_item (place_of columns c) tuples h)

ungrown : (k : ℕ) (ss : List Statement) (reach : Place → Bool) → ((p : Place) → reach p ≡ false) → params_end ss ≤ k → (p : Place) → grown k ss reach p ≡ false
ungrown k [] reach none h p = none p
ungrown k (s ∷ ss) reach none h p = ungrown k ss (flows k s reach) (unflowed k reach none s (omega (arith, h))) (omega (arith, h)) p

own : (ss : List Statement) (k : ℕ) (p : Place) → Reaches k ss p → k < params_end ss
own ss k p r =
    elim (nat_lt k (params_end ss)) as (λ b. nat_lt k (params_end ss) ≡ b → k < params_end ss) [
      | true ↦ λ lt. grind (arith, nat_tests)
      | false ↦ λ not_so.
          let past : params_end ss ≤ k = grind (arith, nat_tests) in
          absurd (false≢true (sym (ungrown k ss nowhere nowhere_is past p) ∙ reached_out ss k p r))
    ] refl

-- ---- chains of parameters in which neighbours meet, over those below a number

abbrev path : List Statement → ℕ → ℕ → ℕ → Bool
path ss zero i j = meets ss i j
path ss (suc m) i j = path ss m i j || (path ss m i m && path ss m m j)

linked_two : (ss : List Statement) (i : ℕ) (front back : List ℕ) → Linked ss i front → Linked ss (last_of i front) back → Linked ss i (front ++ back)
linked_two ss i [] back h k = k
linked_two ss i (j ∷ front) back h k = (h.0, linked_two ss j front back h.1 k)

last_of_two : (i : ℕ) (front back : List ℕ) → last_of i (front ++ back) ≡ last_of (last_of i front) back
last_of_two i [] back = refl
last_of_two i (j ∷ front) back = last_of_two j front back

path_in : (ss : List Statement) (m i j : ℕ) → path ss m i j ≡ true → (others : List ℕ) × Linked ss i others × (last_of i others ≡ j)
path_in ss zero i j e = (j ∷ [], (meets_in ss i j e, tt), refl)
path_in ss (suc m) i j e =
    elim (or-either (path ss m i j) (path ss m i m && path ss m m j) e) [
      | inl h ↦ path_in ss m i j h
      | inr h ↦
          let two = and-both (path ss m i m) (path ss m m j) h in
          let a = path_in ss m i m two.0 in
          let b = path_in ss m m j two.1 in (
            a.0 ++ b.0,
            linked_two ss i a.0 b.0 a.1 (subst (λ x. Linked ss x b.0) (sym a.2) b.1),
            last_of_two i a.0 b.0 ∙ (ap (λ x. last_of x b.0) a.2 ∙ b.2),
          )
    ]

path_of_two : (ss : List Statement) (m i j : ℕ) → meets ss i j ≡ true → path ss m i j ≡ true
path_of_two ss zero i j e = e
path_of_two ss (suc m) i j e = or-left (path ss m i j) (path ss m i m && path ss m m j) (path_of_two ss m i j e)

-- a path to the greatest that is allowed, or from it, needs it not between
to_last : (ss : List Statement) (m i : ℕ) → path ss (suc m) i m ≡ true → path ss m i m ≡ true
to_last ss m i e = elim (or-either (path ss m i m) (path ss m i m && path ss m m m) e) [ inl h ↦ h | inr h ↦ (and-both (path ss m i m) (path ss m m m) h).0 ]

from_last : (ss : List Statement) (m j : ℕ) → path ss (suc m) m j ≡ true → path ss m m j ≡ true
from_last ss m j e = elim (or-either (path ss m m j) (path ss m m m && path ss m m j) e) [ inl h ↦ h | inr h ↦ (and-both (path ss m m m) (path ss m m j) h).1 ]

joined : (ss : List Statement) (m i x j : ℕ) → x < m → path ss m i x ≡ true → path ss m x j ≡ true → path ss m i j ≡ true
joined ss zero i x j lt h k = absurd (omega (arith, lt))
joined ss (suc m) i x j lt h k =
    elim (nat_lt x m) as (λ b. nat_lt x m ≡ b → path ss (suc m) i j ≡ true) [
      | true ↦ λ less.
          let below : x < m = grind (arith, nat_tests) in
          elim (or-either (path ss m i x) (path ss m i m && path ss m m x) h) [
            | inl a ↦ elim (or-either (path ss m x j) (path ss m x m && path ss m m j) k) [
              | inl b ↦ or-left (path ss m i j) (path ss m i m && path ss m m j) (joined ss m i x j below a b)
              | inr b ↦
                  let two = and-both (path ss m x m) (path ss m m j) b in
                  or-right (path ss m i j) (path ss m i m && path ss m m j) (and-join (path ss m i m) (path ss m m j) (joined ss m i x m below a two.0) two.1)
            ]
            | inr a ↦
                let front = and-both (path ss m i m) (path ss m m x) a in
                elim (or-either (path ss m x j) (path ss m x m && path ss m m j) k) [
                  | inl b ↦ or-right (path ss m i j) (path ss m i m && path ss m m j) (and-join (path ss m i m) (path ss m m j) front.0 (joined ss m m x j below front.1 b))
                  | inr b ↦
                      let back = and-both (path ss m x m) (path ss m m j) b in
                      or-right (path ss m i j) (path ss m i m && path ss m m j) (and-join (path ss m i m) (path ss m m j) front.0 back.1)
                ]
          ]
      | false ↦ λ not_so.
          let is : x ≡ m = grind (arith, nat_tests, lt) in
          let to : path ss m i m ≡ true = to_last ss m i (subst (λ y. path ss (suc m) i y ≡ true) is h) in
          let from : path ss m m j ≡ true = from_last ss m j (subst (λ y. path ss (suc m) y j ≡ true) is k) in
          or-right (path ss m i j) (path ss m i m && path ss m m j) (and-join (path ss m i m) (path ss m m j) to from)
    ] refl

path_out : (ss : List Statement) (i j : ℕ) (others : List ℕ) → Meet ss i j → Linked ss j others → path ss (params_end ss) i (last_of j others) ≡ true
path_out ss i j [] meet linked = path_of_two ss (params_end ss) i j (meets_out ss i j meet)
path_out ss i j (x ∷ others) meet linked =
    joined ss (params_end ss) i j (last_of x others) (own ss j meet.0 meet.2)
    (path_of_two ss (params_end ss) i j (meets_out ss i j meet)) (path_out ss j x others linked.0 linked.1)

-- ---- from a seed

seed_in : (f : Place → Bool) (seeds : List Place) → list_any f seeds ≡ true → (p : Place) × Contains seeds p × (f p ≡ true)
seed_in f [] e = absurd (false≢true e)
seed_in f (p ∷ seeds) e =
    elim (or-either (f p) (list_any f seeds) e) [
      | inl h ↦ (p, (0, omega arith, refl), h)
      | inr h ↦
          let rest = seed_in f seeds h in
          let there = rest.1 in
          let within = there.1 in
          (rest.0, (suc there.0, omega (arith, within), there.2), rest.2)
    ]

seed_at : (f : Place → Bool) (seeds : List Place) (p : Place) (n : ℕ) → n < length seeds → slice_index_or seeds n p ≡ p → f p ≡ true → list_any f seeds ≡ true
seed_at f [] p n within is e = absurd (omega (arith, within))
seed_at f (s ∷ seeds) p zero within is e = or-left (f s) (list_any f seeds) (subst (λ q. f q ≡ true) (sym is) e)
seed_at f (s ∷ seeds) p (suc n) within is e = or-right (f s) (list_any f seeds) (seed_at f seeds p n (omega (arith, within)) is e)

-- the parameter reaches a seed
abbrev seeded : List Statement → List Place → ℕ → Bool
seeded ss seeds first = list_any (reached ss first) seeds

abbrev follows : List Statement → List Place → ℕ → ℕ → Bool
follows ss seeds k first = seeded ss seeds first && ((first == k) || path ss (params_end ss) first k)

abbrev some_below : ℕ → (ℕ → Bool) → Bool
some_below zero f = false
some_below (suc n) f = some_below n f || f n

below_in : (n : ℕ) (f : ℕ → Bool) → some_below n f ≡ true → (i : ℕ) × (f i ≡ true)
below_in zero f e = absurd (false≢true e)
below_in (suc n) f e = elim (or-either (some_below n f) (f n) e) [ inl h ↦ below_in n f h | inr h ↦ (n, h) ]

below_out : (n : ℕ) (f : ℕ → Bool) (i : ℕ) → i < n → f i ≡ true → some_below n f ≡ true
below_out zero f i lt e = absurd (omega (arith, lt))
below_out (suc n) f i lt e =
    elim (nat_lt i n) as (λ b. nat_lt i n ≡ b → some_below (suc n) f ≡ true) [
      | true ↦ λ less. or-left (some_below n f) (f n) (below_out n f i (grind (arith, nat_tests)) e)
      | false ↦ λ not_so. let is : i ≡ n = grind (arith, nat_tests, lt) in or-right (some_below n f) (f n) (subst (λ m. f m ≡ true) is e)
    ] refl

abbrev needs : List Statement → List Place → ℕ → Bool
needs ss seeds k = some_below (params_end ss) (follows ss seeds k)

same_number : (a b : ℕ) → (a == b) ≡ true → a ≡ b
same_number a b e = grind (arith, nat_tests)

number_same : (a : ℕ) → (a == a) ≡ true
number_same a = grind (arith, nat_tests)

needs_in : (ss : List Statement) (seeds : List Place) (k : ℕ) → needs ss seeds k ≡ true → Needed ss seeds k
needs_in ss seeds k e =
    let found = below_in (params_end ss) (follows ss seeds k) e in
    let first = found.0 in
    let parts = and-both (seeded ss seeds first) ((first == k) || path ss (params_end ss) first k) found.1 in
    let seed = seed_in (reached ss first) seeds parts.0 in
    elim (or-either (first == k) (path ss (params_end ss) first k) parts.1) [
      | inl same ↦ record { first = first; seed = seed.0; is_seed = seed.1; reaches = reached_in ss first seed.0 seed.2; others = []; linked = tt; ends = same_number first k same }
      | inr way ↦
          let chain = path_in ss (params_end ss) first k way in
          record { first = first; seed = seed.0; is_seed = seed.1; reaches = reached_in ss first seed.0 seed.2; others = chain.0; linked = chain.1; ends = chain.2 }
    ]

way_out : (ss : List Statement) (first k : ℕ) (others : List ℕ) → Linked ss first others → last_of first others ≡ k → ((first == k) || path ss (params_end ss) first k) ≡ true
way_out ss first k [] linked ends = or-left (first == k) (path ss (params_end ss) first k) (subst (λ n. (first == n) ≡ true) ends (number_same first))
way_out ss first k (j ∷ others) linked ends =
    or-right (first == k) (path ss (params_end ss) first k) (subst (λ n. path ss (params_end ss) first n ≡ true) ends (path_out ss first j others linked.0 linked.1))

needs_out : (ss : List Statement) (seeds : List Place) (k : ℕ) → Needed ss seeds k → needs ss seeds k ≡ true
needs_out ss seeds k n =
    let seed = n.is_seed in
    below_out (params_end ss) (follows ss seeds k) n.first (own ss n.first n.seed n.reaches)
    (and-join (seeded ss seeds n.first) ((n.first == k) || path ss (params_end ss) n.first k)
    (seed_at (reached ss n.first) seeds n.seed seed.0 seed.1 seed.2 (reached_out ss n.first n.seed n.reaches)) (way_out ss n.first k n.others n.linked n.ends))

-- ---- the box

abbrev boxed : (ℕ → Interval → Interval) → ℕ → Bounds → Bounds
boxed f k [] = []
boxed f k (r ∷ region) = f k r ∷ boxed f (k + 1) region

boxed_length : (f : ℕ → Interval → Interval) (k : ℕ) (region : Bounds) → length (boxed f k region) ≡ length region
boxed_length f k [] = refl
boxed_length f k (r ∷ region) = ap suc (boxed_length f (k + 1) region)

boxed_at : (f : ℕ → Interval → Interval) (k : ℕ) (region : Bounds) (i : ℕ) → i < length region → slice_index_or (boxed f k region) i (pos 0, pos 0) ≡ f (k + i) (slice_index_or region i (pos 0, pos 0))
boxed_at f k [] i within = absurd (omega (arith, within))
boxed_at f k (r ∷ region) zero within = let e : k ≡ k + 0 = omega arith in ap (λ n. f n r) e
boxed_at f k (r ∷ region) (suc i) within =
    let e : k + 1 + i ≡ k + suc i = omega arith in
    boxed_at f (k + 1) region i (omega (arith, within)) ∙ ap (λ n. f n (slice_index_or region i (pos 0, pos 0))) e

module _ (case : Case) where
  abbrev is_needed : ℕ → Bool
  is_needed k = needs case.plan.statements (case_seeds case) k

  abbrev root_interval : ℕ → Interval → Interval
  root_interval k r = cond (is_needed k) r (old_alone case k)

  abbrev root_of : Bounds
  root_of = boxed root_interval 1 case.domains.region

  root_at : (k : ℕ) → 1 ≤ k → k ≤ length root_of → interval_of_var root_of k ≡ root_interval k (interval_of_var case.domains.region k)
  root_at k low high =
      let len = boxed_length root_interval 1 case.domains.region in
      let same : 1 + (k - 1) ≡ k = omega (arith, low) in
      boxed_at root_interval 1 case.domains.region (k - 1) (omega (arith, low, high, len)) ∙ ap (λ n. root_interval n (interval_of_var case.domains.region k)) same

  needed_interval : (b : Bool) (r s : Interval) → b ≡ true → cond b r s ≡ r
  needed_interval true r s e = refl
  needed_interval false r s e = absurd (false≢true e)

  other_interval : (b : Bool) (r s : Interval) → (b ≡ true → ⊥) → cond b r s ≡ s
  other_interval true r s never = absurd (never refl)
  other_interval false r s never = refl

  is_root : IsRootBox case root_of
  is_root = record {
    len = boxed_length root_interval 1 case.domains.region;
    needed = λ k low high needed.
        root_at k low high
        ∙ needed_interval (is_needed k) (interval_of_var case.domains.region k) (old_alone case k) (needs_out case.plan.statements (case_seeds case) k needed);
    others = λ k low high none.
        root_at k low high
        ∙ other_interval (is_needed k) (interval_of_var case.domains.region k) (old_alone case k) (λ e. none (needs_in case.plan.statements (case_seeds case) k e));
  }

pub each_has_a_root_box : (case : Case) → (root : Bounds) × IsRootBox case root
each_has_a_root_box case = (root_of case, is_root case)
