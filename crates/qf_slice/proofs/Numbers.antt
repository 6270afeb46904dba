-- The numbers of marked places.
use Rattle.std.proofs.Common.{◌≡◌, ◌∙◌, ap, sym, subst, refl, inl, inr, ℕ, suc, ◌+◌, ◌-◌, ◌<◌, ◌≤◌, Bool, true, false, nat_eq, List, [], ◌∷◌, length, arith}
use Rattle.std.specs.Prelude.{Result, Ok, Err, IfOk}
use Rattle.std.specs.List.{list_any}
use Rattle.std.specs.FinSet as set
use Rattle.std.specs.Ordering.{nat_cmp}
use Rattle.std.proofs.lemmas.Bool.{false≢true}
use Rattle.std.proofs.lemmas.Bool.Decides.{nat_tests}
use Rattle.qf_ir.specs.declared.ast.Statement.{Statement}
use Rattle.qf_ir.specs.Flow.{Place, Reaches, Linked, last_of, Needed}
use Rattle.qf_impact.proofs.Tests.{or-either, or-left, or-right}
use Rattle.qf_slice.specs.Marks.{mark_at, AreNeeded, IsNeededSet, marked_from}

abbrev is_among : ℕ → List ℕ → Bool
is_among k params = list_any (λ y. nat_eq y k) params

later : (n k : ℕ) (b : Bool) (marks : List Bool) → n + 1 ≤ k → mark_at (b ∷ marks) (k - n) ≡ mark_at marks (k - (n + 1))
later n k b marks low = let e : k - n ≡ suc (k - (n + 1)) = omega arith in ap (mark_at (b ∷ marks)) e

record Is (n k : ℕ) (marks : List Bool) : Type 0 where
  pub low : n ≤ k
  pub high : k < n + length marks
  pub marked : mark_at marks (k - n) ≡ true

past : (n k : ℕ) (b : Bool) (marks : List Bool) → Is (n + 1) k marks → Is n k (b ∷ marks)
past n k b marks is = let l = is.low in let h = is.high in record { low = omega (arith, l); high = omega (arith, h); marked = later n k b marks l ∙ is.marked }

among-in : (n k : ℕ) (marks : List Bool) → is_among k (marked_from n marks) ≡ true → Is n k marks
among-in n k [] e = absurd (false≢true e)
among-in n k (true ∷ marks) e =
    elim (or-either (nat_eq n k) (is_among k (marked_from (n + 1) marks)) e) [
      | inl h ↦
          let same : n ≡ k = grind (arith, nat_tests) in
          let here : k - n ≡ 0 = omega arith in
          record { low = omega arith; high = omega arith; marked = ap (mark_at (true ∷ marks)) here }
      | inr h ↦ past n k true marks (among-in (n + 1) k marks h)
    ]
among-in n k (false ∷ marks) e = past n k false marks (among-in (n + 1) k marks e)

among-out : (n k : ℕ) (marks : List Bool) → Is n k marks → is_among k (marked_from n marks) ≡ true
among-out n k [] is = let l = is.low in let h = is.high in absurd (omega (arith, l, h))
among-out n k (b ∷ marks) is = by-here (nat_eq n k) refl (λ next. among-out (n + 1) k marks next) b is
  where
    by-here : (t : Bool) → nat_eq n k ≡ t → (Is (n + 1) k marks → is_among k (marked_from (n + 1) marks) ≡ true) → (b : Bool) → Is n k (b ∷ marks)
        → is_among k (marked_from n (b ∷ marks)) ≡ true
    by-here true e rest true is = or-left (nat_eq n k) (is_among k (marked_from (n + 1) marks)) e
    by-here true e rest false is =
        let same : n ≡ k = grind (arith, nat_tests) in
        let here : k - n ≡ 0 = omega arith in
        absurd (false≢true (sym (ap (mark_at (false ∷ marks)) here) ∙ is.marked))
    by-here false e rest true is =
        let apart : (n ≡ k → ⊥) = grind (arith, nat_tests) in
        let l = is.low in let h = is.high in
        let low : n + 1 ≤ k = omega (arith, l, apart) in
        or-right (nat_eq n k) (is_among k (marked_from (n + 1) marks)) (rest (record { low = low; high = omega (arith, h); marked = sym (later n k true marks low) ∙ is.marked }))
    by-here false e rest false is =
        let apart : (n ≡ k → ⊥) = grind (arith, nat_tests) in
        let l = is.low in let h = is.high in
        let low : n + 1 ≤ k = omega (arith, l, apart) in
        rest (record { low = low; high = omega (arith, h); marked = sym (later n k false marks low) ∙ is.marked })

-- a needed parameter reaches something
reaches-something : (ss : List Statement) (k : ℕ) (others : List ℕ) (place : Place) → Reaches k ss place → Linked ss k others → (at : Place) × Reaches (last_of k others) ss at
reaches-something ss k [] place r linked = (place, r)
reaches-something ss k (j ∷ others) place r linked = reaches-something ss j others linked.0.0 linked.0.2 linked.1

pub needed-reaches : (ss : List Statement) (seeds : List Place) (k : ℕ) → Needed ss seeds k → (at : Place) × Reaches k ss at
needed-reaches ss seeds k n =
    let h = reaches-something ss n.first n.others n.seed n.reaches n.linked in (h.0, subst (λ m. Reaches m ss h.0) n.ends h.1)

pub set-is : (ss : List Statement) (seeds : List Place) (marks : List Bool) (params : List ℕ)
    → ((k : ℕ) (place : Place) → Reaches k ss place → (1 ≤ k) × (k ≤ length marks))
    → params ≡ marked_from 1 marks → AreNeeded ss seeds marks → IsNeededSet ss seeds (set.from_list {R = nat_cmp} params)
set-is ss seeds marks params own is are k =
    let tests : set.contains (set.from_list {R = nat_cmp} params) k ≡ is_among k (marked_from 1 marks) = set.contains-from_list_nat params k ∙ ap (is_among k) is in (
      λ there.
          let h = among-in 1 k marks (sym tests ∙ there) in
          let low = h.low in let high = h.high in
          (are k low (omega (arith, high))).0 h.marked,
      λ needed.
          let r = needed-reaches ss seeds k needed in
          let range = own k r.0 r.1 in
          let low = range.0 in let high = range.1 in
          tests ∙ among-out 1 k marks (record { low = low; high = omega (arith, high); marked = (are k low high).1 needed }),
    )

pub if_ok : {X E : Type 0} {P Q : X → Type 0} (r : Result X E) → ((x : X) → P x → Q x) → IfOk r P → IfOk r Q
if_ok (Ok x) f p = f x p
if_ok (Err e) f p = tt
