-- What the events of a board keep.
use Rattle.std.specs.Prelude.{◌≡◌, ◌≢◌, ℕ, suc, zero, ◌+◌, ◌-◌, ◌<◌, ◌≤◌, ℤ, Bool, true, false, cond, ◌&&◌, not, List, [], ◌∷◌, ◌++◌, length, take, drop, slice_index_or, nat_eq, nat_lt}
use Rattle.std.specs.declared.option.Option.{Option}
use Rattle.std.specs.declared.option.Option.TheVariants.{Some, None}
use Rattle.std.proofs.Common.{arith, refl, sym, ap, ◌∙◌, subst, ⊎_elim, get_or}
use Rattle.std.specs.List.{count_by, position, position_or_len}
use Rattle.std.proofs.lemmas.Bool.Decides.{nat_tests, eqb_tells}
use Rattle.std.specs.Option.{option_map}
use Rattle.std.proofs.lemmas.List.{length-set}
use Rattle.std.proofs.lemmas.List.Sums.{sum_by-append, sum_by-cons}
use Rattle.std.proofs.lemmas.List.Quantifiers.{position-Some}
use Rattle.std.proofs.lemmas.Bool.{false≢true}
use Rattle.qf_base.specs.declared.names.RowName.{RowName}
use Rattle.qf_point.specs.Points.{Price, cheapest, lower_half, upper_half, CanCut, is_in, HasNoEmpty, In}
use Rattle.qf_point.proofs.PointLaws.{halves_once, lower_spans, upper_spans, lower_within, upper_within}
use Rattle.qf_board.specs.Sound.{Stands, IsSound}
use Rattle.qf_board.specs.Boards.{BoardState, Place, Split, Refuted, Open, Held, Box, boxed, boxes, is_leaf, is_open, held_box, better_of, is_held_by, holders, IsPartition, HoldsOne, put_at, put_if, best_place, box_at, held_place, Event, Take, Refute, Cut, Found, GiveBack, after, after_all, CanHappen, CanAllHappen, HoldsNone, start, is_best_wanted}

pub count_by-cons : {X : Type 0} (p : X → Bool) (x : X) (xs : List X) → count_by p (x ∷ xs) ≡ cond (p x) 1 0 + count_by p xs
count_by-cons p x xs = sum_by-cons (λ y. cond (p y) 1 0) x xs

-- ---- where nothing passes

none_here : (here : Bool) (k n : ℕ) → suc n ≤ cond (not here) (1 + k) 0 → (here ≡ false) × (n ≤ k)
none_here true k n h = absurd (omega arith)
none_here false k n h = (refl, omega arith)

count_by_none : {X : Type 0} (p : X → Bool) (xs : List X) → length xs ≤ position_or_len p xs → count_by p xs ≡ 0
count_by_none p [] h = refl
count_by_none p (x ∷ xs) h =
    let here = none_here (p x) (position_or_len p xs) (length xs) h in
    let rest = count_by_none p xs here.1 in
    let no : cond {A = ℕ} (p x) 1 0 ≡ 0 = ap (λ (b : Bool). cond {A = ℕ} b 1 0) here.0 in
    let more = count_by-cons p x xs in
    omega arith

none_from : {A : Type 0} (i n : ℕ) (a : A) → cond (nat_lt i n) (Some a) None ≡ None → n ≤ i
none_from i n a e = grind (arith, nat_tests)

pub position-None : {X : Type 0} (p : X → Bool) (xs : List X) → position p xs ≡ None → count_by p xs ≡ 0
position-None p xs e = count_by_none p xs (none_from (position_or_len p xs) (length xs) (position_or_len p xs) e)

-- ---- the leaves' boxes part the pending boxes

abbrev pub hits : List Box → List ℤ → ℕ
hits pending q = count_by (λ b. is_in b q) pending

leaf_once : (q : List ℤ) (places : List Place) (b : Box) (n : Place) (pending : List Box) → is_leaf n ≡ true → holders (boxed places pending) q ≡ hits pending q → holders ((b, n) ∷ boxed places pending) q ≡ hits (b ∷ pending) q
leaf_once q places b n pending leaf rest =
    count_by-cons (λ (x : Box × Place). is_leaf x.1 && is_in x.0 q) (b, n) (boxed places pending)
    ∙ (ap (λ t. cond (t && is_in b q) 1 0 + holders (boxed places pending) q) leaf
    ∙ (ap (λ m. cond (is_in b q) 1 0 + m) rest ∙ sym (count_by-cons (λ b. is_in b q) b pending)))

pub holders-boxed : (places : List Place) (pending : List Box) (q : List ℤ) → Stands places pending → holders (boxed places pending) q ≡ hits pending q
holders-boxed [] [] q h = refl
holders-boxed [] (b ∷ pending) q h = absurd h
holders-boxed (n ∷ places) [] q h = absurd h
holders-boxed (Split param cut row ∷ places) (b ∷ pending) q h =
    let low = lower_half b (param - 1) cut in
    let high = upper_half b (param - 1) cut in
    let inside = λ (a : Box). is_in a q in
    let rest = holders-boxed places (low ∷ high ∷ pending) q h.1 in
    let once = halves_once b (param - 1) cut h.0 q in
    let this = count_by-cons (λ (x : Box × Place). is_leaf x.1 && is_in x.0 q) (b, Split param cut row) (boxed places (low ∷ high ∷ pending)) in
    let first = count_by-cons inside low (high ∷ pending) in
    let second = count_by-cons inside high pending in
    let whole = count_by-cons inside b pending in
    omega arith
holders-boxed (Refuted row steps ∷ places) (b ∷ pending) q h = leaf_once q places b (Refuted row steps) pending refl (holders-boxed places pending q h)
holders-boxed (Open ∷ places) (b ∷ pending) q h = leaf_once q places b Open pending refl (holders-boxed places pending q h)
holders-boxed (Held who ∷ places) (b ∷ pending) q h = leaf_once q places b (Held who) pending refl (holders-boxed places pending q h)

only_one : (n : ℕ) → n + 0 ≡ n
only_one n = omega arith

pub partition : (s : BoardState) → Stands s.places (s.root ∷ []) → IsPartition s
partition s h q = holders-boxed s.places (s.root ∷ []) q h ∙ (count_by-cons (λ b. is_in b q) s.root [] ∙ only_one (cond (is_in s.root q) 1 0))

-- ---- a leaf is replaced

stands_tail : (x : Place) (places : List Place) (b : Box) (pending : List Box) → is_leaf x ≡ true → Stands (x ∷ places) (b ∷ pending) → Stands places pending
stands_tail (Split param cut row) places b pending leaf h = absurd (false≢true leaf)
stands_tail (Refuted row steps) places b pending leaf h = h
stands_tail Open places b pending leaf h = h
stands_tail (Held who) places b pending leaf h = h

stands_on : (x : Place) (places : List Place) (b : Box) (pending : List Box) → is_leaf x ≡ true → Stands places pending → Stands (x ∷ places) (b ∷ pending)
stands_on (Split param cut row) places b pending leaf h = absurd (false≢true leaf)
stands_on (Refuted row steps) places b pending leaf h = h
stands_on Open places b pending leaf h = h
stands_on (Held who) places b pending leaf h = h

pub stands_leaf : (places : List Place) (pending : List Box) (k : ℕ) (d n : Place) → is_leaf n ≡ true → k < length places → is_leaf (get_or places k d) ≡ true → Stands places pending → Stands (take k places ++ ((n ∷ []) ++ drop (suc k) places)) pending
stands_leaf [] pending k d n leaf within was h = absurd (omega arith)
stands_leaf (x ∷ places) [] k d n leaf within was h = absurd h
stands_leaf (x ∷ places) (b ∷ pending) zero d n leaf within was h = stands_on n places b pending leaf (stands_tail x places b pending was h)
stands_leaf (Split param cut row ∷ places) (b ∷ pending) (suc k) d n leaf within was h = (h.0, stands_leaf places (lower_half b (param - 1) cut ∷ upper_half b (param - 1) cut ∷ pending) k d n leaf (omega arith) was h.1)
stands_leaf (Refuted row steps ∷ places) (b ∷ pending) (suc k) d n leaf within was h = stands_leaf places pending k d n leaf (omega arith) was h
stands_leaf (Open ∷ places) (b ∷ pending) (suc k) d n leaf within was h = stands_leaf places pending k d n leaf (omega arith) was h
stands_leaf (Held who ∷ places) (b ∷ pending) (suc k) d n leaf within was h = stands_leaf places pending k d n leaf (omega arith) was h

pub stands_split : (places : List Place) (pending : List Box) (k : ℕ) (d : Place) (param : ℕ) (cut : ℤ) (row : RowName) → k < length places → is_leaf (get_or places k d) ≡ true → CanCut (slice_index_or (boxed places pending) k ([], Open)).0 (param - 1) cut → Stands places pending → Stands (take k places ++ ((Split param cut row ∷ Open ∷ Open ∷ []) ++ drop (suc k) places)) pending
stands_split [] pending k d param cut row within was can h = absurd (omega arith)
stands_split (x ∷ places) [] k d param cut row within was can h = absurd h
stands_split (Split p c r ∷ places) (b ∷ pending) zero d param cut row within was can h = absurd (false≢true was)
stands_split (Refuted r steps ∷ places) (b ∷ pending) zero d param cut row within was can h = (can, h)
stands_split (Open ∷ places) (b ∷ pending) zero d param cut row within was can h = (can, h)
stands_split (Held who ∷ places) (b ∷ pending) zero d param cut row within was can h = (can, h)
stands_split (Split p c r ∷ places) (b ∷ pending) (suc k) d param cut row within was can h = (h.0, stands_split places (lower_half b (p - 1) c ∷ upper_half b (p - 1) c ∷ pending) k d param cut row (omega arith) was can h.1)
stands_split (Refuted r steps ∷ places) (b ∷ pending) (suc k) d param cut row within was can h = stands_split places pending k d param cut row (omega arith) was can h
stands_split (Open ∷ places) (b ∷ pending) (suc k) d param cut row within was can h = stands_split places pending k d param cut row (omega arith) was can h
stands_split (Held who ∷ places) (b ∷ pending) (suc k) d param cut row within was can h = stands_split places pending k d param cut row (omega arith) was can h

-- ---- a count after a node is replaced

pub count_by-put : {X : Type 0} (p : X → Bool) (xs new : List X) (k : ℕ) (d : X) → k < length xs → count_by p (take k xs ++ (new ++ drop (suc k) xs)) + cond (p (get_or xs k d)) 1 0 ≡ count_by p xs + count_by p new
count_by-put p [] new k d h = absurd (omega arith)
count_by-put p (x ∷ xs) new zero d h =
    let both = sum_by-append (λ y. cond (p y) 1 0) new xs in
    let one = count_by-cons p x xs in
    omega arith
count_by-put p (x ∷ xs) new (suc k) d h =
    let rest = count_by-put p xs new k d (omega arith) in
    let left = count_by-cons p x (take k xs ++ (new ++ drop (suc k) xs)) in
    let right = count_by-cons p x xs in
    omega arith

-- ---- a board that can be reached

small : 0 < 2
small = omega arith

pub sound_start : (root : Box) (prices : List Price) (explorers : ℕ) → length prices ≡ length root → HasNoEmpty root → IsSound (start root prices explorers)
sound_start root prices explorers same spans = record { stands = tt; holds_one = λ e. small; priced = same; spans = spans }

leaf_held : (e : ℕ) (x : Place) → is_held_by e x ≡ true → is_leaf x ≡ true
leaf_held e (Split param cut row) h = absurd (false≢true h)
leaf_held e (Refuted row steps) h = refl
leaf_held e Open h = refl
leaf_held e (Held who) h = refl

leaf_open : (x : Place) → is_open x ≡ true → is_leaf x ≡ true
leaf_open (Split param cut row) h = absurd (false≢true h)
leaf_open (Refuted row steps) h = absurd (false≢true h)
leaf_open Open h = refl
leaf_open (Held who) h = absurd (false≢true h)

open_unheld : (e : ℕ) (x : Place) → is_open x ≡ true → is_held_by e x ≡ false
open_unheld e (Split param cut row) h = refl
open_unheld e (Refuted row steps) h = refl
open_unheld e Open h = refl
open_unheld e (Held who) h = absurd (false≢true h)

-- the nodes with their boxes are the nodes
pub boxed_place : (places : List Place) (pending : List Box) (k : ℕ) (b : Box) (d : Place) → k < length (boxed places pending) → (k < length places) × ((get_or (boxed places pending) k (b, d)).1 ≡ get_or places k d)
boxed_place [] pending k b d h = absurd (omega arith)
boxed_place (x ∷ places) [] k b d h = absurd (omega arith)
boxed_place (Split p c r ∷ places) (a ∷ pending) zero b d h = (omega arith, refl)
boxed_place (Refuted r steps ∷ places) (a ∷ pending) zero b d h = (omega arith, refl)
boxed_place (Open ∷ places) (a ∷ pending) zero b d h = (omega arith, refl)
boxed_place (Held who ∷ places) (a ∷ pending) zero b d h = (omega arith, refl)
boxed_place (Split p c r ∷ places) (a ∷ pending) (suc k) b d h =
    let rest = boxed_place places (lower_half a (p - 1) c ∷ upper_half a (p - 1) c ∷ pending) k b d (omega arith) in (omega (arith, rest.0), rest.1)
boxed_place (Refuted r steps ∷ places) (a ∷ pending) (suc k) b d h = let rest = boxed_place places pending k b d (omega arith) in (omega (arith, rest.0), rest.1)
boxed_place (Open ∷ places) (a ∷ pending) (suc k) b d h = let rest = boxed_place places pending k b d (omega arith) in (omega (arith, rest.0), rest.1)
boxed_place (Held who ∷ places) (a ∷ pending) (suc k) b d h = let rest = boxed_place places pending k b d (omega arith) in (omega (arith, rest.0), rest.1)

and_first : (a b : Bool) → (a && b) ≡ true → a ≡ true
and_first true b h = refl
and_first false b h = absurd (false≢true h)

-- the best wanted leaf is an open one
pub best_place_open : (s : BoardState) (k : ℕ) → best_place s ≡ Some k → (k < length s.places) × (is_open (get_or s.places k Open) ≡ true)
best_place_open s k e =
    let at = position-Some (is_best_wanted s.prices s.best (boxes s)) (boxes s) k ([], Open) e in
    let same = boxed_place s.places (s.root ∷ []) k [] Open at.0 in
    let wanted = and_first _ _ at.1 in
    let opened = and_first _ _ wanted in
    (same.0, sym (ap is_open same.1) ∙ opened)

pub held_place_held : (s : BoardState) (e k : ℕ) → held_place s e ≡ Some k → (k < length s.places) × (is_held_by e (get_or s.places k Open) ≡ true)
held_place_held s e k h = let at = position-Some (is_held_by e) s.places k Open h in (at.0, at.1)

one_held : (e who : ℕ) → count_by (is_held_by e) (Held who ∷ []) ≡ cond (nat_eq who e) 1 0
one_held e who = count_by-cons (is_held_by e) (Held who) [] ∙ only_one (cond (nat_eq who e) 1 0)

-- a node that nobody holds then takes the place of a leaf
held_fewer : (s : BoardState) (k e : ℕ) (new : List Place) → HoldsOne s → k < length s.places → count_by (is_held_by e) new ≡ 0 → count_by (is_held_by e) (take k s.places ++ (new ++ drop (suc k) s.places)) < 2
held_fewer s k e new one within none =
    let change = count_by-put (is_held_by e) s.places new k Open within in
    let before = one e in
    omega arith

held_more : (s : BoardState) (k e who : ℕ) → HoldsOne s → k < length s.places → HoldsNone s who → count_by (is_held_by e) (take k s.places ++ ((Held who ∷ []) ++ drop (suc k) s.places)) < 2
held_more s k e who one within none =
    let change = count_by-put (is_held_by e) s.places (Held who ∷ []) k Open within in
    let before = one e in
    let new = one_held e who in
    ⊎_elim
    (λ (same : (nat_eq who e ≡ true) × (who ≡ e)).
    let zero_before : count_by (is_held_by e) s.places ≡ 0 = position-None (is_held_by e) s.places (subst (λ (w : ℕ). HoldsNone s w) same.1 none) in
    let is : cond {A = ℕ} (nat_eq who e) 1 0 ≡ 1 = ap (λ (b : Bool). cond {A = ℕ} b 1 0) same.0 in
    omega arith)
    (λ (other : (nat_eq who e ≡ false) × (who ≢ e)).
    let is : cond {A = ℕ} (nat_eq who e) 1 0 ≡ 0 = ap (λ (b : Bool). cond {A = ℕ} b 1 0) other.0 in
    omega arith)
    (eqb_tells who e)

no_split_held : (e param : ℕ) (cut : ℤ) (row : RowName) → count_by (is_held_by e) (Split param cut row ∷ Open ∷ Open ∷ []) ≡ 0
no_split_held e param cut row = refl

-- a held leaf is replaced by one that nobody holds
pub sound_leaf : (s : BoardState) (k e : ℕ) (n : Place) (found : Option (List ℤ)) → is_leaf n ≡ true → ((w : ℕ) → count_by (is_held_by w) (n ∷ []) ≡ 0) → held_place s e ≡ Some k → IsSound s → IsSound (put_at (record s { best = found }) k (n ∷ []))
sound_leaf s k e n found leaf unheld at sound =
    let here = held_place_held s e k at in
    record {
      stands = stands_leaf s.places (s.root ∷ []) k Open n leaf here.0 (leaf_held e (get_or s.places k Open) here.1) sound.stands;
      holds_one = λ w. held_fewer s k w (n ∷ []) sound.holds_one here.0 (unheld w);
      priced = sound.priced;
      spans = sound.spans;
    }

pub sound_take : (s : BoardState) (e : ℕ) (at : Option ℕ) → best_place s ≡ at → HoldsNone s e → IsSound s → IsSound (put_if s at (Held e ∷ []))
sound_take s e None is none sound = sound
sound_take s e (Some k) is none sound =
    let here = best_place_open s k is in
    record {
      stands = stands_leaf s.places (s.root ∷ []) k Open (Held e) refl here.0 (leaf_open (get_or s.places k Open) here.1) sound.stands;
      holds_one = λ w. held_more s k w e sound.holds_one here.0 none;
      priced = sound.priced;
      spans = sound.spans;
    }

pub sound_cut : (s : BoardState) (k e param : ℕ) (cut : ℤ) (row : RowName) → held_place s e ≡ Some k → CanCut (box_at s k) (param - 1) cut → IsSound s → IsSound (put_at s k (Split param cut row ∷ Open ∷ Open ∷ []))
sound_cut s k e param cut row at can sound =
    let here = held_place_held s e k at in
    record {
      stands = stands_split s.places (s.root ∷ []) k Open param cut row here.0 (leaf_held e (get_or s.places k Open) here.1) can sound.stands;
      holds_one = λ w. held_fewer s k w (Split param cut row ∷ Open ∷ Open ∷ []) sound.holds_one here.0 (no_split_held w param cut row);
      priced = sound.priced;
      spans = sound.spans;
    }

pub sound_after : (s : BoardState) (e : Event) → CanHappen s e → IsSound s → IsSound (after s e)
sound_after s (Take e) can sound = sound_take s e (best_place s) refl can.1 sound
sound_after s (Refute e row steps) can sound =
    rw can.1 (sound_leaf s can.0 e (Refuted row steps) s.best refl (λ w. refl) can.1 sound)
sound_after s (Cut e param cut row) can sound = rw can.1 (sound_cut s can.0 e param cut row can.1 can.3 sound)
sound_after s (Found e) can sound =
    subst (λ (at : Option ℕ). IsSound (put_if (record s { best = better_of s.prices s.best (option_map (cheapest s.prices) (held_box s e)) }) at (Open ∷ []))) (sym can.1) (sound_leaf s can.0 e Open (better_of s.prices s.best (option_map (cheapest s.prices) (held_box s e))) refl (λ w. refl) can.1 sound)
sound_after s (GiveBack e) can sound = rw can.1 (sound_leaf s can.0 e Open s.best refl (λ w. refl) can.1 sound)

-- after any list of events of any number of explorers
pub sound_after_all : (s : BoardState) (events : List Event) → CanAllHappen s events → IsSound s → IsSound (after_all s events)
sound_after_all s [] can sound = sound
sound_after_all s (e ∷ events) can sound = sound_after_all (after s e) events can.1 (sound_after s e can.0 sound)

-- ---- the boxes after a leaf is replaced

boxed_on : (x : Place) (places : List Place) (b : Box) (pending : List Box) → is_leaf x ≡ true → boxed (x ∷ places) (b ∷ pending) ≡ (b, x) ∷ boxed places pending
boxed_on (Split param cut row) places b pending leaf = absurd (false≢true leaf)
boxed_on (Refuted row steps) places b pending leaf = refl
boxed_on Open places b pending leaf = refl
boxed_on (Held who) places b pending leaf = refl

no_box : Box × Place
no_box = ([], Open)

abbrev pub box_here : List (Box × Place) → ℕ → Box
box_here xs k = (slice_index_or xs k ([], Open)).0

cons_alike : {X : Type 0} (x : X) (xs ys : List X) → xs ≡ ys → x ∷ xs ≡ x ∷ ys
cons_alike x xs ys e = ap (λ zs. x ∷ zs) e

boxed_leaf_here : (x n : Place) (places : List Place) (b : Box) (pending : List Box) → is_leaf n ≡ true → is_leaf x ≡ true → boxed (n ∷ places) (b ∷ pending) ≡ (box_here (boxed (x ∷ places) (b ∷ pending)) 0, n) ∷ drop 1 (boxed (x ∷ places) (b ∷ pending))
boxed_leaf_here x n places b pending leaf was = rw (boxed_on x places b pending was) (boxed_on n places b pending leaf)

pub boxed_leaf : (places : List Place) (pending : List Box) (k : ℕ) (d n : Place) → is_leaf n ≡ true → k < length places → is_leaf (get_or places k d) ≡ true → Stands places pending → boxed (take k places ++ ((n ∷ []) ++ drop (suc k) places)) pending ≡ take k (boxed places pending) ++ (((box_here (boxed places pending) k, n) ∷ []) ++ drop (suc k) (boxed places pending))
boxed_leaf [] pending k d n leaf within was h = absurd (omega arith)
boxed_leaf (x ∷ places) [] k d n leaf within was h = absurd h
boxed_leaf (x ∷ places) (b ∷ pending) zero d n leaf within was h = boxed_leaf_here x n places b pending leaf was
boxed_leaf (Split param cut row ∷ places) (b ∷ pending) (suc k) d n leaf within was h =
    cons_alike (b, Split param cut row) _ _ (boxed_leaf places (lower_half b (param - 1) cut ∷ upper_half b (param - 1) cut ∷ pending) k d n leaf (omega arith) was h.1)
boxed_leaf (Refuted row steps ∷ places) (b ∷ pending) (suc k) d n leaf within was h = cons_alike (b, Refuted row steps) _ _ (boxed_leaf places pending k d n leaf (omega arith) was h)
boxed_leaf (Open ∷ places) (b ∷ pending) (suc k) d n leaf within was h = cons_alike (b, Open) _ _ (boxed_leaf places pending k d n leaf (omega arith) was h)
boxed_leaf (Held who ∷ places) (b ∷ pending) (suc k) d n leaf within was h = cons_alike (b, Held who) _ _ (boxed_leaf places pending k d n leaf (omega arith) was h)

-- the nodes that a cut puts in the place of a leaf
abbrev pub cut_nodes : Box → ℕ → ℤ → RowName → List (Box × Place)
cut_nodes b param cut row = (b, Split param cut row) ∷ (lower_half b (param - 1) cut, Open) ∷ (upper_half b (param - 1) cut, Open) ∷ []

pub boxed_split : (places : List Place) (pending : List Box) (k : ℕ) (d : Place) (param : ℕ) (cut : ℤ) (row : RowName) → k < length places → is_leaf (get_or places k d) ≡ true → Stands places pending → boxed (take k places ++ ((Split param cut row ∷ Open ∷ Open ∷ []) ++ drop (suc k) places)) pending ≡ take k (boxed places pending) ++ (cut_nodes (box_here (boxed places pending) k) param cut row ++ drop (suc k) (boxed places pending))
boxed_split [] pending k d param cut row within was h = absurd (omega arith)
boxed_split (x ∷ places) [] k d param cut row within was h = absurd h
boxed_split (Split p c r ∷ places) (b ∷ pending) zero d param cut row within was h = absurd (false≢true was)
boxed_split (Refuted r steps ∷ places) (b ∷ pending) zero d param cut row within was h = refl
boxed_split (Open ∷ places) (b ∷ pending) zero d param cut row within was h = refl
boxed_split (Held who ∷ places) (b ∷ pending) zero d param cut row within was h = refl
boxed_split (Split p c r ∷ places) (b ∷ pending) (suc k) d param cut row within was h =
    cons_alike (b, Split p c r) _ _ (boxed_split places (lower_half b (p - 1) c ∷ upper_half b (p - 1) c ∷ pending) k d param cut row (omega arith) was h.1)
boxed_split (Refuted r steps ∷ places) (b ∷ pending) (suc k) d param cut row within was h = cons_alike (b, Refuted r steps) _ _ (boxed_split places pending k d param cut row (omega arith) was h)
boxed_split (Open ∷ places) (b ∷ pending) (suc k) d param cut row within was h = cons_alike (b, Open) _ _ (boxed_split places pending k d param cut row (omega arith) was h)
boxed_split (Held who ∷ places) (b ∷ pending) (suc k) d param cut row within was h = cons_alike (b, Held who) _ _ (boxed_split places pending k d param cut row (omega arith) was h)

-- ---- each box of the tree lies in the root box and has no empty interval

pub record Fits (root b : Box) : Type 0 where
  pub spans : HasNoEmpty b
  pub within : (q : List ℤ) → In b q → In root q
  pub same : length b ≡ length root

pub lower_fits : (root b : Box) (place : ℕ) (cut : ℤ) → CanCut b place cut → Fits root b → Fits root (lower_half b place cut)
lower_fits root b place cut can h = record {
  spans = lower_spans b place cut can h.spans;
  within = λ q inside. h.within q (lower_within b place cut q can.within can.high inside);
  same = length-set b place _ ∙ h.same;
}

pub upper_fits : (root b : Box) (place : ℕ) (cut : ℤ) → CanCut b place cut → Fits root b → Fits root (upper_half b place cut)
upper_fits root b place cut can h = record {
  spans = upper_spans b place cut can h.spans;
  within = λ q inside. h.within q (upper_within b place cut q can.within can.low inside);
  same = length-set b place _ ∙ h.same;
}

abbrev pub AllFit : Box → List Box → Type 0
AllFit root [] = Unit {0}
AllFit root (b ∷ pending) = Fits root b × AllFit root pending

pub boxed_fit : (root : Box) (places : List Place) (pending : List Box) (k : ℕ) → Stands places pending → AllFit root pending → k < length (boxed places pending) → Fits root (box_here (boxed places pending) k)
boxed_fit root [] pending k h fit within = absurd (omega arith)
boxed_fit root (x ∷ places) [] k h fit within = absurd h
boxed_fit root (Split p c r ∷ places) (b ∷ pending) zero h fit within = fit.0
boxed_fit root (Refuted r steps ∷ places) (b ∷ pending) zero h fit within = fit.0
boxed_fit root (Open ∷ places) (b ∷ pending) zero h fit within = fit.0
boxed_fit root (Held who ∷ places) (b ∷ pending) zero h fit within = fit.0
boxed_fit root (Split p c r ∷ places) (b ∷ pending) (suc k) h fit within =
    boxed_fit root places (lower_half b (p - 1) c ∷ upper_half b (p - 1) c ∷ pending) k h.1 (lower_fits root b (p - 1) c h.0 fit.0, (upper_fits root b (p - 1) c h.0 fit.0, fit.1)) (omega arith)
boxed_fit root (Refuted r steps ∷ places) (b ∷ pending) (suc k) h fit within = boxed_fit root places pending k h fit.1 (omega arith)
boxed_fit root (Open ∷ places) (b ∷ pending) (suc k) h fit within = boxed_fit root places pending k h fit.1 (omega arith)
boxed_fit root (Held who ∷ places) (b ∷ pending) (suc k) h fit within = boxed_fit root places pending k h fit.1 (omega arith)

pub box_fits : (s : BoardState) (k : ℕ) → IsSound s → k < length (boxes s) → Fits s.root (box_at s k)
box_fits s k sound within = boxed_fit s.root s.places (s.root ∷ []) k sound.stands (record { spans = sound.spans; within = λ q h. h; same = refl }, tt) within

-- there are as many boxes as nodes
pub length-boxed : (places : List Place) (pending : List Box) → Stands places pending → length (boxed places pending) ≡ length places
length-boxed [] [] h = refl
length-boxed [] (b ∷ pending) h = absurd h
length-boxed (n ∷ places) [] h = absurd h
length-boxed (Split p c r ∷ places) (b ∷ pending) h = ap suc (length-boxed places (lower_half b (p - 1) c ∷ upper_half b (p - 1) c ∷ pending) h.1)
length-boxed (Refuted r steps ∷ places) (b ∷ pending) h = ap suc (length-boxed places pending h)
length-boxed (Open ∷ places) (b ∷ pending) h = ap suc (length-boxed places pending h)
length-boxed (Held who ∷ places) (b ∷ pending) h = ap suc (length-boxed places pending h)

pub held_fits : (s : BoardState) (e k : ℕ) → IsSound s → held_place s e ≡ Some k → Fits s.root (box_at s k)
held_fits s e k sound at =
    let here = held_place_held s e k at in
    box_fits s k sound (omega (arith, here.0, length-boxed s.places (s.root ∷ []) sound.stands))

pub held_is_leaf : (s : BoardState) (e k : ℕ) → held_place s e ≡ Some k → (k < length s.places) × (is_leaf (get_or s.places k Open) ≡ true)
held_is_leaf s e k at = let here = held_place_held s e k at in (here.0, leaf_held e (get_or s.places k Open) here.1)

pub best_is_leaf : (s : BoardState) (k : ℕ) → best_place s ≡ Some k → (k < length s.places) × (is_leaf (get_or s.places k Open) ≡ true)
best_is_leaf s k at = let here = best_place_open s k at in (here.0, leaf_open (get_or s.places k Open) here.1)
