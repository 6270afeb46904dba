-- Marks are set until nothing more has something in common with what is joined.
use Rattle.std.proofs.Common.{◌≡◌, ◌≢◌, ◌∙◌, ap, sym, subst, refl, inl, inr, ◌⊎◌, ℕ, ◌+◌, ◌-◌, ◌<◌, ◌≤◌, Bool, true, false, not, ◌||◌, ◌==◌, List, [], ◌∷◌, length, slice_set, get_or-set_other, cond, arith}
use Rattle.std.specs.List.{count_by, sum_by}
use Rattle.std.proofs.lemmas.Bool.{false≢true}
use Rattle.std.proofs.lemmas.Bool.Decides.{nat_tests}
use Rattle.std.proofs.lemmas.List.{length-set, get_or-replicate, length-replicate}
use Rattle.std.proofs.lemmas.List.Sums.{sum_by-set}
use Rattle.std.specs.Prelude.{replicate}
use Rattle.qf_ir.specs.declared.ast.Statement.{Statement}
use Rattle.qf_ir.specs.declared.column_set.ColumnSet.{ColumnSet}
use Rattle.qf_ir.specs.ColumnSets.{has}
use Rattle.qf_ir.specs.Flow.{Place, Reaches, Linked, last_of}
use Rattle.qf_impact.specs.Sets.{set_at}
use Rattle.qf_impact.specs.Reaches.{AreReaches}
use Rattle.qf_impact.proofs.Tests.{or-either, or-left, or-right}
use Rattle.qf_slice.specs.Marks.{AreSeeds, mark_at, AreNeeded, IsNext, AreSettled}
use Rattle.qf_slice.proofs.Seeds.{NeededBy, by-set, by-list, needed-by-more}

-- each mark is a needed parameter's, and what is joined are the seeds and the reaches of the marked
pub record Marked (ss : List Statement) (seeds : ColumnSet) (reaches : List ColumnSet) (marks : List Bool) (joined : ColumnSet) : Type 0 where
  pub len : length marks ≡ length reaches
  pub sound : (i : ℕ) → i < length marks → mark_at marks i ≡ true → NeededBy ss seeds (i + 1)
  pub from : (place : Place) → has joined place ≡ true → (has seeds place ≡ true) ⊎ ((k : ℕ) × NeededBy ss seeds k × Reaches k ss place)
  pub kept : (place : Place) → has seeds place ≡ true → has joined place ≡ true
  pub taken : (i : ℕ) → i < length marks → mark_at marks i ≡ true → (place : Place) → has (set_at reaches i) place ≡ true → has joined place ≡ true

pub unmarked : (ss : List Statement) (seeds : ColumnSet) (reaches : List ColumnSet) (marks : List Bool) → marks ≡ replicate (length reaches) false → Marked ss seeds reaches marks seeds
unmarked ss seeds reaches marks is = record {
  len = ap length is ∙ length-replicate (length reaches) false;
  sound = λ i within marked. absurd (false≢true (sym (none i within) ∙ marked));
  from = λ place h. inl h;
  kept = λ place h. h;
  taken = λ i within marked place h. absurd (false≢true (sym (none i within) ∙ marked));
}
  where
    none : (i : ℕ) → i < length marks → mark_at marks i ≡ false
    none i within =
        let len = ap length is ∙ length-replicate (length reaches) false in
        ap (λ (ms : List Bool). mark_at ms i) is ∙ get_or-replicate (length reaches) i false false (omega (arith, len))

module _ (ss : List Statement) (seeds : ColumnSet) (reaches : List ColumnSet) (are : AreReaches ss reaches) where
  -- the reach at a place is that of the next number
  reach-in : (i : ℕ) → i < length reaches → (place : Place) → has (set_at reaches i) place ≡ true → Reaches (i + 1) ss place
  reach-in i within place h =
      let same : (i + 1) - 1 ≡ i = omega arith in
      (are (i + 1) (omega arith) (omega arith) place).0 (ap (λ n. has (set_at reaches n) place) same ∙ h)

  reach-out : (i : ℕ) → i < length reaches → (place : Place) → Reaches (i + 1) ss place → has (set_at reaches i) place ≡ true
  reach-out i within place r =
      let same : (i + 1) - 1 ≡ i = omega arith in
      ap (λ n. has (set_at reaches n) place) (sym same) ∙ (are (i + 1) (omega arith) (omega arith) place).1 r

  next-needed : (marks : List Bool) (joined : ColumnSet) → Marked ss seeds reaches marks joined → (i : ℕ) → IsNext reaches marks joined i → NeededBy ss seeds (i + 1)
  next-needed marks joined so_far i next =
      let r = reach-in i next.within next.place next.reached in
      elim (so_far.from next.place next.there) [
        | inl seed ↦ record { first = i + 1; seed = next.place; is_seed = seed; reaches = r; others = []; linked = tt; ends = refl }
        | inr other ↦ needed-by-more ss seeds other.0 (i + 1) other.1 (next.place, other.2, r)
      ]

  pub marked-more : (marks : List Bool) (joined joined' : ColumnSet) (i : ℕ) → Marked ss seeds reaches marks joined → IsNext reaches marks joined i
      → ((place : Place) → has joined' place ≡ (has joined place || has (set_at reaches i) place)) → Marked ss seeds reaches (slice_set marks i true) joined'
  marked-more marks joined joined' i so_far next is = record {
    len = length-set marks i true ∙ so_far.len;
    sound = λ k within marked. by-mark k (k == i) refl (omega (arith, longer, within)) marked;
    from = λ place h. elim (or-either (has joined place) (has (set_at reaches i) place) (sym (is place) ∙ h)) [
      | inl old ↦ so_far.from place old
      | inr new ↦ inr (i + 1, next-needed marks joined so_far i next, reach-in i next.within place new)
    ];
    kept = λ place h. is place ∙ or-left (has joined place) (has (set_at reaches i) place) (so_far.kept place h);
    taken = λ k within marked place h. by-taken k (k == i) refl (omega (arith, longer, within)) marked place h;
  }
    where
      longer : length (slice_set marks i true) ≡ length marks
      longer = length-set marks i true

      by-mark : (k : ℕ) (b : Bool) → (k == i) ≡ b → k < length marks → mark_at (slice_set marks i true) k ≡ true → NeededBy ss seeds (k + 1)
      by-mark k true e within marked = let same : i ≡ k = grind (arith, nat_tests) in subst (λ n. NeededBy ss seeds (n + 1)) same (next-needed marks joined so_far i next)
      by-mark k false e within marked = let apart : k ≢ i = grind (arith, nat_tests) in so_far.sound k within (sym (get_or-set_other marks i k true false apart) ∙ marked)

      by-taken : (k : ℕ) (b : Bool) → (k == i) ≡ b → k < length marks → mark_at (slice_set marks i true) k ≡ true → (place : Place)
          → has (set_at reaches k) place ≡ true → has joined' place ≡ true
      by-taken k true e within marked place h =
          let same : k ≡ i = grind (arith, nat_tests) in
          is place ∙ or-right (has joined place) (has (set_at reaches i) place) (ap (λ n. has (set_at reaches n) place) (sym same) ∙ h)
      by-taken k false e within marked place h =
          let apart : k ≢ i = grind (arith, nat_tests) in
          is place ∙ or-left (has joined place) (has (set_at reaches i) place) (so_far.taken k within (sym (get_or-set_other marks i k true false apart) ∙ marked) place h)

  -- once nothing is left, every needed parameter is marked
  module _ (marks : List Bool) (joined : ColumnSet) (so_far : Marked ss seeds reaches marks joined) (settled : AreSettled reaches marks joined 0 (length reaches))
      (own : (k : ℕ) (place : Place) → Reaches k ss place → (1 ≤ k) × (k ≤ length reaches)) where
    is-marked : (k : ℕ) (place : Place) → Reaches k ss place → has joined place ≡ true → mark_at marks (k - 1) ≡ true
    is-marked k place r there = by-mark (mark_at marks (k - 1)) refl
      where
        by-mark : (b : Bool) → mark_at marks (k - 1) ≡ b → b ≡ true
        by-mark true e = refl
        by-mark false e =
            let range = own k place r in
            let low = range.0 in
            let high = range.1 in
            let same : (k - 1) + 1 ≡ k = omega (arith, low) in
            absurd (settled (k - 1) (omega arith) (omega (arith, low, high)) e place
            (reach-out (k - 1) (omega (arith, low, high)) place (subst (λ n. Reaches n ss place) (sym same) r)) there)

    reach-joined : (k : ℕ) (place : Place) → Reaches k ss place → mark_at marks (k - 1) ≡ true → (at : Place) → Reaches k ss at → has joined at ≡ true
    reach-joined k place r marked at there =
        let range = own k place r in
        let low = range.0 in
        let high = range.1 in
        let len = so_far.len in
        let same : (k - 1) + 1 ≡ k = omega (arith, low) in
        so_far.taken (k - 1) (omega (arith, low, high, len)) marked at (reach-out (k - 1) (omega (arith, low, high)) at (subst (λ n. Reaches n ss at) (sym same) there))

    chain-marked : (k : ℕ) (others : List ℕ) → mark_at marks (k - 1) ≡ true → Linked ss k others → mark_at marks (last_of k others - 1) ≡ true
    chain-marked k [] marked linked = marked
    chain-marked k (j ∷ others) marked linked =
        let meet = linked.0 in
        chain-marked j others (is-marked j meet.0 meet.2 (reach-joined k meet.0 meet.1 marked meet.0 meet.1)) linked.1

    pub all-marked : (k : ℕ) → NeededBy ss seeds k → mark_at marks (k - 1) ≡ true
    all-marked k n =
        subst (λ m. mark_at marks (m - 1) ≡ true) n.ends
        (chain-marked n.first n.others (is-marked n.first n.seed n.reaches (so_far.kept n.seed n.is_seed)) n.linked)

    pub marks-are : (places : List Place) → AreSeeds seeds places → AreNeeded ss places marks
    marks-are places seeds_are k low high =
        let same : (k - 1) + 1 ≡ k = omega (arith, low) in (
          λ marked. by-list ss seeds places seeds_are k (subst (λ n. NeededBy ss seeds n) same (so_far.sound (k - 1) (omega (arith, low, high)) marked)),
          λ needed. all-marked k (by-set ss seeds places seeds_are k needed),
        )

-- ---- fewer are left unmarked

pub fewer-unmarked : (marks : List Bool) (i : ℕ) → i < length marks → mark_at marks i ≡ false → count_by not (slice_set marks i true) < count_by not marks
fewer-unmarked marks i within none =
    let f : Bool → ℕ = λ b. cond (not b) 1 0 in
    let e : sum_by f (slice_set marks i true) + f (mark_at marks i) ≡ sum_by f marks + 0 = sum_by-set f marks i true false within in
    let one : f (mark_at marks i) ≡ 1 = ap f none in
    omega (arith, e, one)
