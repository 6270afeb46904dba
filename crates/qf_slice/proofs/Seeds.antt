-- What is needed from the seeds of a set, which does not turn on how they are listed.
use Rattle.std.proofs.Common.{◌≡◌, ◌∙◌, ap, sym, subst, refl, inl, inr, ℕ, zero, suc, ◌<◌, true, List, [], ◌∷◌, ◌++◌, length, slice_index_or, arith}
use Rattle.std.specs.List.{list_any, Contains}
use Rattle.std.proofs.lemmas.Bool.{false≢true}
use Rattle.std.proofs.lemmas.Bool.Decides.{nat_tests}
use Rattle.qf_ir.specs.declared.ast.Statement.{Statement}
use Rattle.qf_ir.specs.declared.column_set.ColumnSet.{ColumnSet}
use Rattle.qf_ir.specs.ColumnSets.{has}
use Rattle.qf_ir.specs.Flow.{Place, Live, At, same_place, Reaches, Meet, Linked, last_of, Needed}
use Rattle.qf_slice.specs.Marks.{AreSeeds}
use Rattle.qf_impact.proofs.Tests.{or-either, or-left, or-right}

pub same-is : (a b : Place) → same_place a b ≡ true → a ≡ b
same-is Live Live e = refl
same-is Live (At d) e = absurd (false≢true e)
same-is (At c) Live e = absurd (false≢true e)
same-is (At c) (At d) e = let is : c ≡ d = grind (arith, nat_tests) in ap (λ n. At n) is

pub same-self : (a : Place) → same_place a a ≡ true
same-self Live = refl
same-self (At c) = grind (arith, nat_tests)

pub found-there : (a : Place) (places : List Place) → list_any (same_place a) places ≡ true → Contains places a
found-there a [] e = absurd (false≢true e)
found-there a (p ∷ places) e =
    elim (or-either (same_place a p) (list_any (same_place a) places) e) [
      | inl h ↦ (0, omega arith, sym (same-is a p h))
      | inr h ↦ let rest = found-there a places h in let within = rest.1 in (suc rest.0, omega (arith, within), rest.2)
    ]

there-at : (a : Place) (places : List Place) (k : ℕ) → k < length places → slice_index_or places k a ≡ a → list_any (same_place a) places ≡ true
there-at a [] k within is = absurd (omega arith)
there-at a (p ∷ places) zero within is = or-left (same_place a p) (list_any (same_place a) places) (subst (λ q. same_place a q ≡ true) (sym is) (same-self a))
there-at a (p ∷ places) (suc k) within is = or-right (same_place a p) (list_any (same_place a) places) (there-at a places k (omega arith) is)

pub there-found : (a : Place) (places : List Place) → Contains places a → list_any (same_place a) places ≡ true
there-found a places h = there-at a places h.0 h.1 h.2

-- needed from what a set has
pub record NeededBy (ss : List Statement) (seeds : ColumnSet) (k : ℕ) : Type 0 where
  pub first : ℕ
  pub seed : Place
  pub is_seed : has seeds seed ≡ true
  pub reaches : Reaches first ss seed
  pub others : List ℕ
  pub linked : Linked ss first others
  pub ends : last_of first others ≡ k

pub by-set : (ss : List Statement) (seeds : ColumnSet) (places : List Place) → AreSeeds seeds places → (k : ℕ) → Needed ss places k → NeededBy ss seeds k
by-set ss seeds places are k n = record {
  first = n.first;
  seed = n.seed;
  is_seed = are n.seed ∙ there-found n.seed places n.is_seed;
  reaches = n.reaches;
  others = n.others;
  linked = n.linked;
  ends = n.ends;
}

pub by-list : (ss : List Statement) (seeds : ColumnSet) (places : List Place) → AreSeeds seeds places → (k : ℕ) → NeededBy ss seeds k → Needed ss places k
by-list ss seeds places are k n = record {
  first = n.first;
  seed = n.seed;
  is_seed = found-there n.seed places (sym (are n.seed) ∙ n.is_seed);
  reaches = n.reaches;
  others = n.others;
  linked = n.linked;
  ends = n.ends;
}

-- one parameter more at the end of a list of neighbours
linked-more : (ss : List Statement) (first : ℕ) (others : List ℕ) (j : ℕ) → Linked ss first others → Meet ss (last_of first others) j → Linked ss first (others ++ j ∷ [])
linked-more ss first [] j linked meet = (meet, tt)
linked-more ss first (k ∷ others) j linked meet = (linked.0, linked-more ss k others j linked.1 meet)

last-more : (first : ℕ) (others : List ℕ) (j : ℕ) → last_of first (others ++ j ∷ []) ≡ j
last-more first [] j = refl
last-more first (k ∷ others) j = last-more k others j

pub needed-by-more : (ss : List Statement) (seeds : ColumnSet) (k j : ℕ) → NeededBy ss seeds k → Meet ss k j → NeededBy ss seeds j
needed-by-more ss seeds k j n meet = record {
  first = n.first;
  seed = n.seed;
  is_seed = n.is_seed;
  reaches = n.reaches;
  others = n.others ++ j ∷ [];
  linked = linked-more ss n.first n.others j n.linked (subst (λ m. Meet ss m j) (sym n.ends) meet);
  ends = last-more n.first n.others j;
}

pub needed-more : (ss : List Statement) (places : List Place) (k j : ℕ) → Needed ss places k → Meet ss k j → Needed ss places j
needed-more ss places k j n meet = record {
  first = n.first;
  seed = n.seed;
  is_seed = n.is_seed;
  reaches = n.reaches;
  others = n.others ++ j ∷ [];
  linked = linked-more ss n.first n.others j n.linked (subst (λ m. Meet ss m j) (sym n.ends) meet);
  ends = last-more n.first n.others j;
}
