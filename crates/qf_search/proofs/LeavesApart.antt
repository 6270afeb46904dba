-- The boxes behind a leaf have no point in common with it.
use Rattle.std.specs.Prelude.{◌≡◌, ℕ, suc, zero, ◌-◌, ℤ, true, List, [], ◌∷◌, drop}
use Rattle.std.specs.List.{AllByRecursion}
use Rattle.std.proofs.Common.{get_or}
use Rattle.std.proofs.lemmas.Bool.{false≢true}
use Rattle.qf_point.specs.Points.{In, lower_half, upper_half}
use Rattle.qf_point.proofs.PointLaws.{lower_within, upper_within, halves_apart}
use Rattle.qf_board.specs.Boards.{Place, Split, Refuted, Open, Held, Box, boxed, is_leaf}
use Rattle.qf_board.specs.Sound.{Stands}
use Rattle.qf_board.proofs.BoardLaws.{box_here}

-- no point lies in both
abbrev pub Apart : Box → Box → Type 0
Apart b c = (q : List ℤ) → In b q → In c q → ⊥

abbrev AllApart : List Box → Type 0
AllApart [] = Unit {0}
AllApart (b ∷ pending) = AllByRecursion (Apart b) pending × AllApart pending

apart_from : (b : Box) (places : List Place) (pending : List Box) → Stands places pending → AllByRecursion (Apart b) pending → AllByRecursion (λ (x : Box × Place). Apart b x.0) (boxed places pending)
apart_from b [] pending h all = tt
apart_from b (n ∷ places) [] h all = absurd h
apart_from b (Split p c r ∷ places) (a ∷ pending) h all =
    let low = λ (q : List ℤ) (i : In b q) (j : In (lower_half a (p - 1) c) q). all.0 q i (lower_within a (p - 1) c q h.0.within h.0.high j) in
    let high = λ (q : List ℤ) (i : In b q) (j : In (upper_half a (p - 1) c) q). all.0 q i (upper_within a (p - 1) c q h.0.within h.0.low j) in
    (all.0, apart_from b places (lower_half a (p - 1) c ∷ upper_half a (p - 1) c ∷ pending) h.1 (low, (high, all.1)))
apart_from b (Refuted r steps ∷ places) (a ∷ pending) h all = (all.0, apart_from b places pending h all.1)
apart_from b (Open ∷ places) (a ∷ pending) h all = (all.0, apart_from b places pending h all.1)
apart_from b (Held who ∷ places) (a ∷ pending) h all = (all.0, apart_from b places pending h all.1)

all_within : (a half : Box) (pending : List Box) → ((q : List ℤ) → In half q → In a q) → AllByRecursion (Apart a) pending → AllByRecursion (Apart half) pending
all_within a half [] into all = tt
all_within a half (c ∷ pending) into all = (λ q i j. all.0 q (into q i) j, all_within a half pending into all.1)

behind_leaf : (places : List Place) (pending : List Box) (k : ℕ) → Stands places pending → AllApart pending → is_leaf (get_or places k Open) ≡ true → AllByRecursion (λ (x : Box × Place). Apart (box_here (boxed places pending) k) x.0) (drop (suc k) (boxed places pending))
behind_leaf [] pending k h all leaf = tt
behind_leaf (n ∷ places) [] k h all leaf = absurd h
behind_leaf (Split p c r ∷ places) (a ∷ pending) zero h all leaf = absurd (false≢true leaf)
behind_leaf (Refuted r steps ∷ places) (a ∷ pending) zero h all leaf = apart_from a places pending h all.0
behind_leaf (Open ∷ places) (a ∷ pending) zero h all leaf = apart_from a places pending h all.0
behind_leaf (Held who ∷ places) (a ∷ pending) zero h all leaf = apart_from a places pending h all.0
behind_leaf (Split p c r ∷ places) (a ∷ pending) (suc k) h all leaf =
    let low = lower_half a (p - 1) c in
    let high = upper_half a (p - 1) c in
    let lows = all_within a low pending (λ q i. lower_within a (p - 1) c q h.0.within h.0.high i) all.0 in
    let highs = all_within a high pending (λ q i. upper_within a (p - 1) c q h.0.within h.0.low i) all.0 in
    let two : Apart low high = λ q i j. halves_apart a (p - 1) c q h.0.within i j in
    behind_leaf places (low ∷ high ∷ pending) k h.1 ((two, lows), (highs, all.1)) leaf
behind_leaf (Refuted r steps ∷ places) (a ∷ pending) (suc k) h all leaf = behind_leaf places pending k h all.1 leaf
behind_leaf (Open ∷ places) (a ∷ pending) (suc k) h all leaf = behind_leaf places pending k h all.1 leaf
behind_leaf (Held who ∷ places) (a ∷ pending) (suc k) h all leaf = behind_leaf places pending k h all.1 leaf

-- of the tree over one box
pub apart_behind : (places : List Place) (root : Box) (k : ℕ) → Stands places (root ∷ []) → is_leaf (get_or places k Open) ≡ true → AllByRecursion (λ (x : Box × Place). Apart (box_here (boxed places (root ∷ [])) k) x.0) (drop (suc k) (boxed places (root ∷ [])))
apart_behind places root k h leaf = behind_leaf places (root ∷ []) k h (tt, tt) leaf
