-- A valid certificate's answer is right.
use Rattle.std.proofs.Common.{◌≡◌, ℕ, ◌≤◌, min, true, false, List, [], ◌∷◌, ◌++◌, length, fold, ℤ, arith, ◌∙◌, inl, inr, ◌⊎◌, IsTrue, IsFalse}
use Rattle.std.proofs.lemmas.Bool.{and_parts, cases_Bool, not-true}
use Rattle.std.proofs.lemmas.List.Elements.{recursion_from_All}
use Rattle.qf_base.specs.Values.{Bounds, IsWithin}
use Rattle.qf_tree.specs.declared.tree.Node.{Node}
use Rattle.qf_tree.specs.declared.tree.Node.TheVariants.{Split, Refuted, Dear, Open}
use Rattle.qf_tree.specs.declared.cert.Answer.{Answer}
use Rattle.qf_tree.specs.declared.cert.Answer.TheVariants.{Repair, Nothing, Budget, Best}
use Rattle.qf_point.specs.Points.{cost, better, cheapest, is_in}
use Rattle.qf_tree.specs.Certificates.{Instance, Placed, placed, NodeIsRight, answer_is_right, least_of, open_costs, stated_costs, at_least, RegionClaim, ClaimHolds, LiesInRoot, IsFaithful, CertificatesAreSound, RegionsAreSound}
use Rattle.qf_tree.proofs.Orders.{none_better, cheapest_least, cost_from_order, cost_from_no_better}
use Rattle.qf_point.proofs.PointLaws.{better_trans}
use Rattle.qf_base.proofs.BoxLaws.{In-is_in}
use Rattle.qf_tree.proofs.Trees.{AnyOf, any_take, is_whole, whole_trees, AllRight, LeafOf, leaf_found}

-- ---- the least of some numbers

fold_min_start : (a : ℕ) (xs : List ℕ) → fold min a xs ≤ a
fold_min_start a [] = omega arith
fold_min_start a (x ∷ xs) = omega (arith, fold_min_start (min a x) xs)

fold_min_any : (a n : ℕ) (xs : List ℕ) → AnyOf (λ x. x ≤ n) xs → fold min a xs ≤ n
fold_min_any a n [] h = absurd h
fold_min_any a n (x ∷ xs) (inl h) = omega (arith, fold_min_start (min a x) xs)
fold_min_any a n (x ∷ xs) (inr h) = fold_min_any (min a x) n xs h

least_of_any : (n : ℕ) (xs : List ℕ) → AnyOf (λ x. x ≤ n) xs → least_of xs ≤ n
least_of_any n [] h = absurd h
least_of_any n (x ∷ xs) (inl h) = omega (arith, fold_min_start x xs)
least_of_any n (x ∷ xs) (inr h) = fold_min_any x n xs h

-- ---- order

order_kept : (olds p q r : List ℤ) → (r ≡ q) ⊎ (better olds r q ≡ true) → better olds r p ≡ false → better olds q p ≡ false
order_kept olds p q r (inl e) h = rw (← e) h
order_kept olds p q r (inr k) h =
    elim (cases_Bool (better olds q p)) [ inl t ↦ let t2 = better_trans olds r q p k t in cc | inr f ↦ f ]

-- ---- what each kind of leaf says of a point in its box

module _ (inst : Instance) (r : List ℤ) (lengths : length inst.olds ≡ length r) where
  leaf_repair : (p : List ℤ) (leaf : Placed) → LeafOf inst (Repair p) r leaf → IsFalse (better inst.olds r p)
  leaf_repair p (region, Split param cut row) h = elim h.1 [ inl e ↦ cc | inr e ↦ cc ]
  leaf_repair p (region, Refuted row steps) h = elim h.1 [ inl e ↦ cc | inr e ↦ cc ]
  leaf_repair p (region, Dear) h =
      none_better inst.olds p r region (lengths ∙ h.0.same_length) h.0 (not-true (better inst.olds (cheapest inst.olds region) p) h.2)
  leaf_repair p (region, Open) h = let e = h.2 in cc

  leaf_nothing : (leaf : Placed) → LeafOf inst Nothing r leaf → ⊥
  leaf_nothing (region, Split param cut row) h = elim h.1 [ inl e ↦ cc | inr e ↦ cc ]
  leaf_nothing (region, Refuted row steps) h = elim h.1 [ inl e ↦ cc | inr e ↦ cc ]
  leaf_nothing (region, Dear) h = let e = h.2 in cc
  leaf_nothing (region, Open) h = let e = h.2 in cc

  open_cost : (region : Bounds) → IsWithin r region → cost inst.olds (cheapest inst.olds region) ≤ cost inst.olds r
  open_cost region w = cheapest_least inst.olds r region (lengths ∙ w.same_length) w

  leaves_budget : (leaves : List Placed) → AnyOf (LeafOf inst Budget r) leaves → AnyOf (λ x. x ≤ cost inst.olds r) (open_costs inst leaves)
  leaves_budget [] h = absurd h
  leaves_budget ((region, Split param cut row) ∷ leaves) (inl h) = elim h.1 [ inl e ↦ cc | inr e ↦ cc ]
  leaves_budget ((region, Split param cut row) ∷ leaves) (inr h) = leaves_budget leaves h
  leaves_budget ((region, Refuted row steps) ∷ leaves) (inl h) = elim h.1 [ inl e ↦ cc | inr e ↦ cc ]
  leaves_budget ((region, Refuted row steps) ∷ leaves) (inr h) = leaves_budget leaves h
  leaves_budget ((region, Dear) ∷ leaves) (inl h) = let e = h.2 in cc
  leaves_budget ((region, Dear) ∷ leaves) (inr h) = leaves_budget leaves h
  leaves_budget ((region, Open) ∷ leaves) (inl h) = inl (open_cost region h.0)
  leaves_budget ((region, Open) ∷ leaves) (inr h) = inr (leaves_budget leaves h)

  leaves_best : (p : List ℤ) (leaves : List Placed) → AnyOf (LeafOf inst (Best p) r) leaves → AnyOf (λ x. x ≤ cost inst.olds r) (cost inst.olds p ∷ open_costs inst leaves)
  leaves_best p [] h = absurd h
  leaves_best p ((region, Split param cut row) ∷ leaves) (inl h) = elim h.1 [ inl e ↦ cc | inr e ↦ cc ]
  leaves_best p ((region, Split param cut row) ∷ leaves) (inr h) = leaves_best p leaves h
  leaves_best p ((region, Refuted row steps) ∷ leaves) (inl h) = elim h.1 [ inl e ↦ cc | inr e ↦ cc ]
  leaves_best p ((region, Refuted row steps) ∷ leaves) (inr h) = leaves_best p leaves h
  leaves_best p ((region, Dear) ∷ leaves) (inl h) =
      inl (cost_from_no_better inst.olds r p (none_better inst.olds p r region (lengths ∙ h.0.same_length) h.0 (not-true (better inst.olds (cheapest inst.olds region) p) h.2)))
  leaves_best p ((region, Dear) ∷ leaves) (inr h) = leaves_best p leaves h
  leaves_best p ((region, Open) ∷ leaves) (inl h) = inr (inl (open_cost region h.0))
  leaves_best p ((region, Open) ∷ leaves) (inr h) =
      elim (leaves_best p leaves h) [ inl a ↦ inl a | inr b ↦ inr (inr b) ]

-- ---- the claim over a region

module _ (inst : Instance) (faithful : IsFaithful inst) (region : Bounds) (lies : LiesInRoot inst region) (nodes : List Node) (whole : is_whole (region ∷ []) nodes ≡ true) where
  leaf_of : (answer : Answer) (r : List ℤ) → AllRight inst answer (placed (region ∷ []) nodes) → IsWithin r region → IsTrue (inst.repairs r) → AnyOf (LeafOf inst answer r) (placed (region ∷ []) nodes)
  leaf_of answer r f w rep = leaf_found inst faithful answer r (lies r w) rep (region ∷ []) nodes f whole (inl w)

  lengths_of : (r : List ℤ) → IsWithin r region → length inst.olds ≡ length r
  lengths_of r w =
      let inside = lies r w in omega (arith, faithful.same_length, faithful.root_length, inside.same_length)

  region_claim : (answer : Answer) → answer_is_right inst answer ≡ true → AllRight inst answer (placed (region ∷ []) nodes) → RegionClaim inst region answer (least_of (stated_costs inst answer ++ open_costs inst (placed (region ∷ []) nodes)))
  region_claim (Repair p) a f =
      let parts = and_parts (is_in inst.domains p) (inst.repairs p) a in
      (In-is_in inst.domains p parts.0, parts.1, λ q w h. any_take (LeafOf inst (Repair p) q) (IsFalse (better inst.olds q p)) (placed (region ∷ []) nodes) (leaf_repair inst q (lengths_of q w) p) (leaf_of (Repair p) q f w h))
  region_claim Nothing a f = λ q w h.
      any_take (LeafOf inst Nothing q) ⊥ (placed (region ∷ []) nodes) (leaf_nothing inst q (lengths_of q w)) (leaf_of Nothing q f w h)
  region_claim Budget a f = λ q w h.
      least_of_any (cost inst.olds q) (open_costs inst (placed (region ∷ []) nodes)) (leaves_budget inst q (lengths_of q w) (placed (region ∷ []) nodes) (leaf_of Budget q f w h))
  region_claim (Best p) a f =
      let parts = and_parts (is_in inst.domains p) (inst.repairs p) a in
      (In-is_in inst.domains p parts.0, parts.1, λ q w h. least_of_any (cost inst.olds q) (cost inst.olds p ∷ open_costs inst (placed (region ∷ []) nodes)) (leaves_best inst q (lengths_of q w) p (placed (region ∷ []) nodes) (leaf_of (Best p) q f w h)))

pub regions_sound : RegionsAreSound
regions_sound inst region cert faithful lies valid =
    region_claim inst faithful region lies cert.tree.nodes (whole_trees (region ∷ []) cert.tree.nodes valid.spelled.tree) cert.answer valid.answer (recursion_from_All (λ leaf. NodeIsRight inst cert.answer leaf) (placed (region ∷ []) cert.tree.nodes) valid.nodes)

-- ---- the claim of the root box holds in all domains

whole_claim : (inst : Instance) → IsFaithful inst → (answer : Answer) (least : ℕ) → RegionClaim inst inst.root answer least → ClaimHolds inst answer least
whole_claim inst faithful (Repair p) least claim = record {
  inside = claim.0;
  repairs = claim.1;
  best = λ q i h.
      let s = faithful.sliced q i h in order_kept inst.olds p q s.0 s.3 (claim.2 s.0 s.1 s.2);
}
whole_claim inst faithful Nothing least claim = λ q i h.
    let s = faithful.sliced q i h in claim s.0 s.1 s.2
whole_claim inst faithful Budget least claim = λ q i h.
    let s = faithful.sliced q i h in omega (arith, claim s.0 s.1 s.2, cost_from_order inst.olds s.0 q s.3)
whole_claim inst faithful (Best p) least claim = (
  claim.0,
  claim.1,
  λ q i h.
      let s = faithful.sliced q i h in
      omega (arith, claim.2 s.0 s.1 s.2, cost_from_order inst.olds s.0 q s.3),
)

pub certificates_sound : CertificatesAreSound
certificates_sound inst cert faithful valid =
    whole_claim inst faithful cert.answer (at_least inst inst.root cert) (regions_sound inst inst.root cert faithful (λ q w. w) valid)
