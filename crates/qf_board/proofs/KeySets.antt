-- Sets of keys, in the order of points.
use Rattle.std.specs.Prelude.{◌≡◌, ◌≢◌, ℕ, ℤ, Bool, true, false, cond, ◌||◌, ◌⊎◌, List, [], ◌∷◌, nat_eq}
use Rattle.std.specs.declared.option.Option.{Option}
use Rattle.std.specs.declared.option.Option.TheVariants.{Some, None}
use Rattle.std.specs.List.{AllByRecursion, list_any, find}
use Rattle.std.specs.declared.cmp.Ordering.{Ordering}
use Rattle.std.specs.declared.cmp.Ordering.TheVariants.{Less, Equal, Greater}
use Rattle.std.specs.Ordering.{nat_cmp, int_cmp, ordering_then, match_ordering, is_lt, is_eq}
use Rattle.std.specs.Cmp.{IsTotalOrder}
use Rattle.std.specs.Cmp.Lexicographic.{slice_cmp}
use Rattle.std.specs.BTreeMap.{is_at}
use Rattle.std.specs.BTreeSet.{insert_key}
use Rattle.std.specs.Set.{remove_key}
use Rattle.std.specs.List.Sorted.{IsStrictlySortedBy}
use Rattle.std.specs.FinMap.{slice_cmp-IsAntisymmetric, int_cmp-IsAntisymmetric}
use Rattle.std.proofs.Common.{refl, sym, ap, ◌∙◌, subst, arith, inl, inr, ⊎_elim}
use Rattle.std.proofs.lemmas.Bool.{false≢true}
use Rattle.std.proofs.lemmas.Option.{none-some}
use Rattle.std.proofs.lemmas.Bool.Decides.{nat_tests, eqb_tells}
use Rattle.std.proofs.lemmas.Cmp.{nat_cmp_total, int_cmp_total, lists_total, on_total, then_total, tied_itself}
use Rattle.qf_point.specs.Points.{Price, cost, better}
use Rattle.qf_board.specs.declared.keys.Key.{Key}
use Rattle.qf_board.specs.Kept.{key_cmp, has_key}

-- ---- the order

pub key_total : IsTotalOrder key_cmp
key_total = then_total (on_total (λ (key : Key). key.cost) nat_cmp_total) (then_total (on_total (λ (key : Key). key.values.items) (lists_total int_cmp_total)) (on_total (λ (key : Key). key.leaf) nat_cmp_total))

-- keys with the same parts are at one place
pub same_parts : (a b : Key) → a.cost ≡ b.cost → a.values.items ≡ b.values.items → a.leaf ≡ b.leaf → (x : Key) → key_cmp a x ≡ key_cmp b x
same_parts a b cost values leaf x =
    ap (λ (n : ℕ). ordering_then (nat_cmp n x.cost) (ordering_then (slice_cmp int_cmp a.values.items x.values.items) (nat_cmp a.leaf x.leaf))) cost
    ∙ (ap (λ (vs : List ℤ). ordering_then (nat_cmp b.cost x.cost) (ordering_then (slice_cmp int_cmp vs x.values.items) (nat_cmp a.leaf x.leaf))) values
    ∙ ap (λ (n : ℕ). ordering_then (nat_cmp b.cost x.cost) (ordering_then (slice_cmp int_cmp b.values.items x.values.items) (nat_cmp n x.leaf))) leaf)

pub same_place : (a b : Key) → a.cost ≡ b.cost → a.values.items ≡ b.values.items → a.leaf ≡ b.leaf → is_at (key_cmp a) b ≡ true
same_place a b cost values leaf = ap is_eq (same_parts a b cost values leaf b ∙ tied_itself key_total b)

then_equal : (a b : Ordering) → is_eq (ordering_then a b) ≡ true → is_eq b ≡ true
then_equal Less b e = absurd (false≢true e)
then_equal Equal b e = e
then_equal Greater b e = absurd (false≢true e)

equal_numbers : (a b : ℕ) → is_eq (nat_cmp a b) ≡ true → a ≡ b
equal_numbers a b e = grind (arith, nat_tests)

-- keys at one place are of one leaf
pub at_leaf : (a b : Key) → is_at (key_cmp a) b ≡ true → a.leaf ≡ b.leaf
at_leaf a b e =
    equal_numbers a.leaf b.leaf
    (then_equal (slice_cmp int_cmp a.values.items b.values.items) (nat_cmp a.leaf b.leaf)
    (then_equal (nat_cmp a.cost b.cost) (ordering_then (slice_cmp int_cmp a.values.items b.values.items) (nat_cmp a.leaf b.leaf)) e))

-- the key before is no worse
less_parts : (a b c : Ordering) → ordering_then a (ordering_then b c) ≡ Less → (is_lt (ordering_then a b) ≡ true) ⊎ (ordering_then a b ≡ Equal)
less_parts Less b c e = inl refl
less_parts Equal Less c e = inl refl
less_parts Equal Equal c e = inr refl
less_parts Equal Greater c e = absurd (false≢true (ap is_lt e))
less_parts Greater b c e = absurd (false≢true (ap is_lt e))

pub before_better : (prices : List Price) (a b : Key) → a.cost ≡ cost prices a.values.items → b.cost ≡ cost prices b.values.items → key_cmp a b ≡ Less → (better prices a.values.items b.values.items ≡ true) ⊎ (a.values.items ≡ b.values.items)
before_better prices a b a_cost b_cost less =
    let by_cost : nat_cmp a.cost b.cost ≡ nat_cmp (cost prices a.values.items) (cost prices b.values.items) = ap (λ (n : ℕ). nat_cmp n b.cost) a_cost ∙ ap (λ (n : ℕ). nat_cmp (cost prices a.values.items) n) b_cost in
    ⊎_elim (λ first. inl (sym (ap (λ (o : Ordering). is_lt (ordering_then o (slice_cmp int_cmp a.values.items b.values.items))) by_cost) ∙ first))
    (λ tied. inr (slice_cmp-IsAntisymmetric int_cmp-IsAntisymmetric a.values.items b.values.items (tie (nat_cmp a.cost b.cost) (slice_cmp int_cmp a.values.items b.values.items) tied)))
    (less_parts (nat_cmp a.cost b.cost) (slice_cmp int_cmp a.values.items b.values.items) (nat_cmp a.leaf b.leaf) less)
  where
    tie : (x y : Ordering) → ordering_then x y ≡ Equal → y ≡ Equal
    tie Less y e = cc
    tie Equal y e = e
    tie Greater y e = cc

-- ---- a key put and taken away again

or_fails : (a b : Bool) → (a || b) ≡ false → (a ≡ false) × (b ≡ false)
or_fails true b e = absurd (false≢true (sym e))
or_fails false b e = (refl, e)

pub undone : (ks : List Key) (k u : Key) → ((x : Key) → key_cmp u x ≡ key_cmp k x) → list_any (is_at (key_cmp k)) ks ≡ false → remove_key (is_at (key_cmp u)) (insert_key key_cmp ks k) ≡ ks
undone [] k u same absent = ap (λ (b : Bool). cond {A = List Key} b [] (k ∷ [])) (ap is_eq (same k ∙ tied_itself key_total k))
undone (x ∷ xs) k u same absent =
    let parts = or_fails (is_at (key_cmp k) x) (list_any (is_at (key_cmp k)) xs) absent in
    elim (key_cmp k x) as (λ o. key_cmp k x ≡ o → remove_key (is_at (key_cmp u)) (match_ordering o (k ∷ x ∷ xs) (x ∷ xs) (x ∷ insert_key key_cmp xs k)) ≡ x ∷ xs) [
      | Less ↦ λ e. ap (λ (b : Bool). cond {A = List Key} b (x ∷ xs) (k ∷ remove_key (is_at (key_cmp u)) (x ∷ xs))) (ap is_eq (same k ∙ tied_itself key_total k))
      | Equal ↦ λ e. absurd (false≢true (sym parts.0 ∙ ap is_eq e))
      | Greater ↦ λ e.
          ap (λ (b : Bool). cond {A = List Key} b (insert_key key_cmp xs k) (x ∷ remove_key (is_at (key_cmp u)) (insert_key key_cmp xs k))) (ap is_eq (same x ∙ e))
          ∙ ap (λ (ys : List Key). x ∷ ys) (undone xs k u same parts.1)
    ] refl

-- ---- which leaves have keys

or_first : (a b : Bool) → a ≡ true → (a || b) ≡ true
or_first true b e = refl
or_first false b e = absurd (false≢true e)

or_second : (a b : Bool) → b ≡ true → (a || b) ≡ true
or_second true b e = refl
or_second false b e = e

or_cases : (a b : Bool) → (a || b) ≡ true → (a ≡ true) ⊎ (b ≡ true)
or_cases true b e = inl refl
or_cases false b e = inr e

itself : (n : ℕ) → nat_eq n n ≡ true
itself n = ⊎_elim (λ same. same.0) (λ other. absurd (other.1 refl)) (eqb_tells n n)

-- a leaf that had a key has one
pub has_inserted : (ks : List Key) (k : Key) (leaf : ℕ) → has_key ks leaf ≡ true → has_key (insert_key key_cmp ks k) leaf ≡ true
has_inserted [] k leaf h = absurd (false≢true h)
has_inserted (x ∷ xs) k leaf h =
    elim (key_cmp k x) as (λ o. has_key (match_ordering o (k ∷ x ∷ xs) (x ∷ xs) (x ∷ insert_key key_cmp xs k)) leaf ≡ true) [
      | Less ↦ or_second (nat_eq k.leaf leaf) (has_key (x ∷ xs) leaf) h
      | Equal ↦ h
      | Greater ↦ ⊎_elim (λ here. or_first (nat_eq x.leaf leaf) (has_key (insert_key key_cmp xs k) leaf) here) (λ there. or_second (nat_eq x.leaf leaf) (has_key (insert_key key_cmp xs k) leaf) (has_inserted xs k leaf there)) (or_cases (nat_eq x.leaf leaf) (has_key xs leaf) h)
    ]

-- the leaf of the key that is put has one
pub has_new : (ks : List Key) (k : Key) → has_key (insert_key key_cmp ks k) k.leaf ≡ true
has_new [] k = or_first (nat_eq k.leaf k.leaf) false (itself k.leaf)
has_new (x ∷ xs) k =
    elim (key_cmp k x) as (λ o. key_cmp k x ≡ o → has_key (match_ordering o (k ∷ x ∷ xs) (x ∷ xs) (x ∷ insert_key key_cmp xs k)) k.leaf ≡ true) [
      | Less ↦ λ e. or_first (nat_eq k.leaf k.leaf) (has_key (x ∷ xs) k.leaf) (itself k.leaf)
      | Equal ↦ λ e. or_first (nat_eq x.leaf k.leaf) (has_key xs k.leaf) (subst (λ (n : ℕ). nat_eq n k.leaf ≡ true) (at_leaf k x (ap is_eq e)) (itself k.leaf))
      | Greater ↦ λ e. or_second (nat_eq x.leaf k.leaf) (has_key (insert_key key_cmp xs k) k.leaf) (has_new xs k)
    ] refl

other_leaf : (gone x : Key) (leaf : ℕ) → leaf ≢ gone.leaf → is_at (key_cmp gone) x ≡ true → nat_eq x.leaf leaf ≡ false
other_leaf gone x leaf apart e =
    ⊎_elim (λ same. absurd (apart (sym same.1 ∙ sym (at_leaf gone x e)))) (λ other. other.0) (eqb_tells x.leaf leaf)

-- another leaf keeps its key where one is taken away
pub has_kept : (ks : List Key) (gone : Key) (leaf : ℕ) → leaf ≢ gone.leaf → has_key ks leaf ≡ true → has_key (remove_key (is_at (key_cmp gone)) ks) leaf ≡ true
has_kept [] gone leaf apart h = h
has_kept (x ∷ xs) gone leaf apart h =
    elim (is_at (key_cmp gone) x) as (λ b. is_at (key_cmp gone) x ≡ b → has_key (cond b xs (x ∷ remove_key (is_at (key_cmp gone)) xs)) leaf ≡ true) [
      | true ↦ λ e. ⊎_elim (λ here. absurd (false≢true (sym (other_leaf gone x leaf apart e) ∙ here))) (λ there. there) (or_cases (nat_eq x.leaf leaf) (has_key xs leaf) h)
      | false ↦ λ e.
          ⊎_elim (λ here. or_first (nat_eq x.leaf leaf) (has_key (remove_key (is_at (key_cmp gone)) xs) leaf) here)
          (λ there. or_second (nat_eq x.leaf leaf) (has_key (remove_key (is_at (key_cmp gone)) xs) leaf) (has_kept xs gone leaf apart there)) (or_cases (nat_eq x.leaf leaf) (has_key xs leaf) h)
    ] refl

-- ---- what all keys keep

pub all_inserted : (P : Key → Type 0) (ks : List Key) (k : Key) → AllByRecursion P ks → P k → AllByRecursion P (insert_key key_cmp ks k)
all_inserted P [] k h new = (new, tt)
all_inserted P (x ∷ xs) k h new =
    elim (key_cmp k x) as (λ o. AllByRecursion P (match_ordering o (k ∷ x ∷ xs) (x ∷ xs) (x ∷ insert_key key_cmp xs k))) [
      | Less ↦ (new, h)
      | Equal ↦ h
      | Greater ↦ (h.0, all_inserted P xs k h.1 new)
    ]

pub all_removed : (P : Key → Type 0) (test : Key → Bool) (ks : List Key) → AllByRecursion P ks → AllByRecursion P (remove_key test ks)
all_removed P test [] h = tt
all_removed P test (x ∷ xs) h =
    elim (test x) as (λ b. AllByRecursion P (cond b xs (x ∷ remove_key test xs))) [
      | true ↦ h.1
      | false ↦ (h.0, all_removed P test xs h.1)
    ]

pub none_at : (test : Key → Bool) (ks : List Key) → list_any test ks ≡ false → AllByRecursion (λ (key : Key). test key ≡ false) ks
none_at test [] e = tt
none_at test (x ∷ xs) e = let parts = or_fails (test x) (list_any test xs) e in (parts.0, none_at test xs parts.1)

-- where no key has the leaf, none is at the place of a key of that leaf
pub leaf_absent : (ks : List Key) (k : Key) → AllByRecursion (λ (key : Key). key.leaf ≢ k.leaf) ks → list_any (is_at (key_cmp k)) ks ≡ false
leaf_absent [] k h = refl
leaf_absent (x ∷ xs) k h =
    elim (is_at (key_cmp k) x) as (λ b. is_at (key_cmp k) x ≡ b → (b || list_any (is_at (key_cmp k)) xs) ≡ false) [
      | true ↦ λ e. absurd (h.0 (sym (at_leaf k x e)))
      | false ↦ λ e. leaf_absent xs k h.1
    ] refl

-- ---- the first of the keys that pass

some_is : (a b : Key) → Some a ≡ Some b → a ≡ b
some_is a b e = ap (λ (o : Option Key). key_or o) e
  where
    key_or : Option Key → Key
    key_or None = a
    key_or (Some x) = x

-- it passes, and each other one that passes comes behind it
pub record IsFirst (test : Key → Bool) (ks : List Key) (k : Key) : Type 0 where
  pub passes : test k ≡ true
  pub before : AllByRecursion (λ (x : Key). test x ≡ true → (x ≡ k) ⊎ (key_cmp k x ≡ Less)) ks

pub found_among : (P : Key → Type 0) (test : Key → Bool) (ks : List Key) (k : Key) → find test ks ≡ Some k → AllByRecursion P ks → P k
found_among P test [] k e all = absurd (none-some k e)
found_among P test (x ∷ xs) k e all =
    elim (test x) as (λ b. cond {A = Option Key} b (Some x) (find test xs) ≡ Some k → P k) [
      | true ↦ λ f. subst P (some_is x k f) all.0
      | false ↦ λ f. found_among P test xs k f all.1
    ] e

all_to : (P Q : Key → Type 0) (ks : List Key) → ((x : Key) → P x → Q x) → AllByRecursion P ks → AllByRecursion Q ks
all_to P Q [] f h = tt
all_to P Q (x ∷ xs) f h = (f x h.0, all_to P Q xs f h.1)

pub first_of : (test : Key → Bool) (ks : List Key) (k : Key) → IsStrictlySortedBy key_cmp ks → find test ks ≡ Some k → IsFirst test ks k
unfolding IsStrictlySortedBy
first_of test [] k sorted e = absurd (none-some k e)
first_of test (x ∷ xs) k sorted e =
    elim (test x) as (λ b. test x ≡ b → cond {A = Option Key} b (Some x) (find test xs) ≡ Some k → IsFirst test (x ∷ xs) k) [
      | true ↦ λ t f.
          let is = some_is x k f in
          record {
            passes = ap test (sym is) ∙ t;
            before = ((λ _. inl is), all_to (λ (y : Key). key_cmp x y ≡ Less) (λ (y : Key). test y ≡ true → (y ≡ k) ⊎ (key_cmp k y ≡ Less)) xs (λ y less _. inr (subst (λ (z : Key). key_cmp z y ≡ Less) is less)) sorted.0);
          }
      | false ↦ λ t f.
          let rest = first_of test xs k sorted.1 f in
          record {
            passes = rest.passes;
            before = ((λ passed. absurd (false≢true (sym t ∙ passed))), rest.before);
          }
    ] refl e

pub none_of : (test : Key → Bool) (ks : List Key) → find test ks ≡ None → AllByRecursion (λ (x : Key). test x ≡ false) ks
none_of test [] e = tt
none_of test (x ∷ xs) e =
    elim (test x) as (λ b. test x ≡ b → cond {A = Option Key} b (Some x) (find test xs) ≡ None → (test x ≡ false) × AllByRecursion (λ (y : Key). test y ≡ false) xs) [
      | true ↦ λ t f. absurd (none-some x (sym f))
      | false ↦ λ t f. (t, none_of test xs f)
    ] refl e
