-- A repair lies in a leaf that is not refuted.
use Rattle.std.proofs.Common.{◌≡◌, ℕ, ◌-◌, ◌<◌, Bool, true, false, List, [], ◌∷◌, ◌++◌, length, slice_set, ℤ, pos, ◌+ℤ◌, int_lt, arith, refl, inl, inr, ◌⊎◌, IsTrue, get_or-set_same, get_or-set_other, length-set}
use Rattle.std.specs.List.{AllByRecursion}
use Rattle.std.proofs.lemmas.Int.{ints}
use Rattle.std.proofs.lemmas.Bool.{cases_Bool, cases_eq, and_parts}
use Rattle.qf_base.specs.Values.{Interval, Bounds, IsIn, IsWithin, value_of_var, interval_of_var}
use Rattle.qf_base.proofs.Integers.{int_lt_true, int_lt_false}
use Rattle.qf_tree.specs.Lines.{are_refutations, are_trees}
use Rattle.qf_lin.proofs.Tightening.{IsWithin-var}
use Rattle.qf_tree.proofs.Soundness.{refutes_sound}
use Rattle.qf_tree.specs.declared.tree.Node.{Node}
use Rattle.qf_tree.specs.declared.tree.Node.TheVariants.{Split, Refuted, Dear, Open}
use Rattle.qf_tree.specs.declared.cert.Answer.{Answer}
use Rattle.qf_point.specs.Points.{lower_half, upper_half}
use Rattle.qf_tree.specs.Certificates.{Instance, halves, Placed, placed, NodeIsRight, IsFaithful}

-- ---- some member of a list

abbrev pub AnyOf : {X : Type 0} → (X → Type 0) → List X → Type 0
AnyOf P [] = ⊥
AnyOf P (x ∷ xs) = P x ⊎ AnyOf P xs

pub any_left : {X : Type 0} (P : X → Type 0) (xs ys : List X) → AnyOf P xs → AnyOf P (xs ++ ys)
any_left P [] ys h = absurd h
any_left P (x ∷ xs) ys (inl h) = inl h
any_left P (x ∷ xs) ys (inr h) = inr (any_left P xs ys h)

pub any_right : {X : Type 0} (P : X → Type 0) (xs ys : List X) → AnyOf P ys → AnyOf P (xs ++ ys)
any_right P [] ys h = h
any_right P (x ∷ xs) ys h = inr (any_right P xs ys h)

pub any_take : {X : Type 0} (P : X → Type 0) (C : Type 0) (xs : List X) → ((x : X) → P x → C) → AnyOf P xs → C
any_take P C [] f h = absurd h
any_take P C (x ∷ xs) f (inl h) = f x h
any_take P C (x ∷ xs) f (inr h) = any_take P C xs f h

-- ---- the halves of a box

IsWithin-set : (values : List ℤ) (bounds : Bounds) (var : ℕ) (i : Interval) → IsIn (value_of_var values var) i → IsWithin values bounds → IsWithin values (slice_set bounds (var - 1) i)
IsWithin-set values bounds var i k w = record {
  same_length = omega (arith, w.same_length, length-set bounds (var - 1) i);
  each = λ place h.
      let inside : place < length bounds = omega (arith, h, length-set bounds (var - 1) i) in
      elim (cases_eq place (var - 1)) [
        | inl e ↦
            let inside2 : var - 1 < length bounds = omega arith in
            rw (e, get_or-set_same bounds (var - 1) i (pos 0, pos 0) inside2) k
        | inr e ↦ rw (get_or-set_other bounds (var - 1) place i (pos 0, pos 0) e) (w.each place inside)
      ];
}

in_a_half : (q : List ℤ) (region : Bounds) (param : ℕ) (cut : ℤ) → IsWithin q region → IsWithin q (lower_half region (param - 1) cut) ⊎ IsWithin q (upper_half region (param - 1) cut)
in_a_half q region param cut w =
    let here = IsWithin-var q region param w in
    elim (cases_Bool (int_lt cut (value_of_var q param))) [
      | inl h ↦ inr (IsWithin-set q region param (cut +ℤ pos 1, (interval_of_var region param).1) (omega (arith, ints, here.0, here.1, int_lt_true cut (value_of_var q param) h)) w)
      | inr h ↦ inl (IsWithin-set q region param ((interval_of_var region param).0, cut) (omega (arith, ints, here.0, here.1, int_lt_false cut (value_of_var q param) h)) w)
    ]

-- ---- one tree for each box

-- the nodes are one tree for each box, and no more
abbrev pub is_whole : List Bounds → List Node → Bool
is_whole [] [] = true
is_whole (region ∷ regions) [] = false
is_whole [] (node ∷ nodes) = false
is_whole (region ∷ regions) (node ∷ nodes) = is_whole (halves region node ++ regions) nodes

pub whole_trees : (regions : List Bounds) (nodes : List Node) → are_trees (length regions) nodes ≡ true → is_whole regions nodes ≡ true
whole_trees [] [] e = refl
whole_trees (region ∷ regions) [] e = cc
whole_trees [] (node ∷ nodes) e = cc
whole_trees (region ∷ regions) (Split param cut row ∷ nodes) e =
    whole_trees (lower_half region (param - 1) cut ∷ upper_half region (param - 1) cut ∷ regions) nodes e
whole_trees (region ∷ regions) (Refuted row steps ∷ nodes) e =
    let parts = and_parts (are_refutations 1 steps) (are_trees (length regions) nodes) e in whole_trees regions nodes parts.1
whole_trees (region ∷ regions) (Dear ∷ nodes) e = whole_trees regions nodes e
whole_trees (region ∷ regions) (Open ∷ nodes) e = whole_trees regions nodes e

-- ---- a repair's leaf

abbrev pub IsLeft : Node → Type 0
IsLeft node = (node ≡ Dear) ⊎ (node ≡ Open)

abbrev pub AllRight : Instance → Answer → List Placed → Type 0
AllRight inst answer leaves = AllByRecursion (λ leaf. NodeIsRight inst answer leaf) leaves

abbrev pub LeafOf : Instance → Answer → List ℤ → Placed → Type 0
LeafOf inst answer q leaf = IsWithin q leaf.0 × IsLeft leaf.1 × NodeIsRight inst answer leaf

module _ (inst : Instance) (faithful : IsFaithful inst) (answer : Answer) (q : List ℤ) (in_root : IsWithin q inst.root) (repairs : IsTrue (inst.repairs q)) where
  at_node : (region : Bounds) (node : Node) → NodeIsRight inst answer (region, node) → IsWithin q region → AnyOf (λ r. IsWithin q r) (halves region node) ⊎ IsLeft node
  at_node region (Split param cut row) e w =
      elim (in_a_half q region param cut w) [ inl h ↦ inl (inl h) | inr h ↦ inl (inr (inl h)) ]
  at_node region (Refuted row steps) e w =
      let found = faithful.encoded row region q e.0 in_root w repairs in
      absurd (refutes_sound e.1 found.0 found.1 found.2)
  at_node region Dear e w = inr (inl refl)
  at_node region Open e w = inr (inr refl)

  pub leaf_found : (regions : List Bounds) (nodes : List Node) → AllRight inst answer (placed regions nodes) → is_whole regions nodes ≡ true → AnyOf (λ r. IsWithin q r) regions → AnyOf (LeafOf inst answer q) (placed regions nodes)
  leaf_found [] [] f e h = absurd h
  leaf_found (region ∷ regions) [] f e h = cc
  leaf_found [] (node ∷ nodes) f e h = absurd h
  leaf_found (region ∷ regions) (node ∷ nodes) f e (inl w) =
      elim (at_node region node f.0 w) [
        | inl h ↦ inr (leaf_found (halves region node ++ regions) nodes f.1 e (any_left (λ r. IsWithin q r) (halves region node) regions h))
        | inr h ↦ inl (w, h, f.0)
      ]
  leaf_found (region ∷ regions) (node ∷ nodes) f e (inr h) =
      inr (leaf_found (halves region node ++ regions) nodes f.1 e (any_right (λ r. IsWithin q r) (halves region node) regions h))
