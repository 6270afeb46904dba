-- Lists in which one item is replaced by others.
use Rattle.std.specs.Prelude.{◌≡◌, ℕ, suc, zero, ◌+◌, ◌<◌, Bool, true, false, cond, List, [], ◌∷◌, ◌++◌, map, length, take, drop}
use Rattle.std.specs.declared.option.Option.{Option}
use Rattle.std.specs.declared.option.Option.TheVariants.{Some, None}
use Rattle.std.specs.List.{AllByRecursion, find, count_by}
use Rattle.std.proofs.Common.{arith, refl, sym, ap, ◌∙◌, get_or}
use Rattle.std.proofs.lemmas.List.{map-append, length-append}
use Rattle.std.proofs.lemmas.List.Sums.{sum_by-cons}

-- the item at a place is replaced by these
abbrev pub put_in : {X : Type 0} → List X → ℕ → List X → List X
put_in xs k new = take k xs ++ (new ++ drop (suc k) xs)

-- ---- what all items keep

pub all_append : {X : Type 0} (P : X → Type 0) (xs ys : List X) → AllByRecursion P xs → AllByRecursion P ys → AllByRecursion P (xs ++ ys)
all_append P [] ys h k = k
all_append P (x ∷ xs) ys h k = (h.0, all_append P xs ys h.1 k)

pub all_put : {X : Type 0} (P : X → Type 0) (xs new : List X) (k : ℕ) → AllByRecursion P xs → AllByRecursion P new → AllByRecursion P (put_in xs k new)
all_put P [] new zero h m = all_append P new [] m tt
all_put P [] new (suc k) h m = all_append P new [] m tt
all_put P (x ∷ xs) new zero h m = all_append P new xs m h.1
all_put P (x ∷ xs) new (suc k) h m = (h.0, all_put P xs new k h.1 m)

pub all_at : {X : Type 0} (P : X → Type 0) (xs : List X) (k : ℕ) (d : X) → AllByRecursion P xs → k < length xs → P (get_or xs k d)
all_at P [] k d h within = absurd (omega arith)
all_at P (x ∷ xs) zero d h within = h.0
all_at P (x ∷ xs) (suc k) d h within = all_at P xs k d h.1 (omega arith)

-- ---- the first that passes

pub find-append : {X : Type 0} (test : X → Bool) (xs ys : List X) → AllByRecursion (λ x. test x ≡ false) xs → find test (xs ++ ys) ≡ find test ys
find-append test [] ys fail = refl
find-append {X} test (x ∷ xs) ys fail = ap (λ (b : Bool). cond {A = Option X} b (Some x) (find test (xs ++ ys))) fail.0 ∙ find-append test xs ys fail.1

-- an item that does not pass, replaced by others that do not
pub find-put : {X : Type 0} (test : X → Bool) (xs new : List X) (k : ℕ) (d : X) → k < length xs → test (get_or xs k d) ≡ false → AllByRecursion (λ x. test x ≡ false) new → find test (put_in xs k new) ≡ find test xs
find-put test [] new k d within was fail = absurd (omega arith)
find-put {X} test (x ∷ xs) new zero d within was fail = find-append test new xs fail ∙ sym (ap (λ (b : Bool). cond {A = Option X} b (Some x) (find test xs)) was)
find-put {X} test (x ∷ xs) new (suc k) d within was fail = ap (λ (f : Option X). cond {A = Option X} (test x) (Some x) f) (find-put test xs new k d (omega arith) was fail)

pub all_map : {X : Type 0} (P Q : X → Type 0) (xs : List X) → ((x : X) → P x → Q x) → AllByRecursion P xs → AllByRecursion Q xs
all_map P Q [] f h = tt
all_map P Q (x ∷ xs) f h = (f x h.0, all_map P Q xs f h.1)

pub all_both : {X : Type 0} (P Q : X → Type 0) (xs : List X) → AllByRecursion P xs → AllByRecursion Q xs → AllByRecursion (λ x. P x × Q x) xs
all_both P Q [] h k = tt
all_both P Q (x ∷ xs) h k = ((h.0, k.0), all_both P Q xs h.1 k.1)

pub map_put : {X Y : Type 0} (f : X → Y) (xs new : List X) (k : ℕ) → map f (put_in xs k new) ≡ put_in (map f xs) k (map f new)
map_put f [] new zero = map-append f new []
map_put f [] new (suc k) = map-append f new []
map_put f (x ∷ xs) new zero = map-append f new xs
map_put {X} {Y} f (x ∷ xs) new (suc k) = ap (λ (ys : List Y). f x ∷ ys) (map_put f xs new k)

pub put_same : {X : Type 0} (xs : List X) (k : ℕ) (d x : X) → k < length xs → get_or xs k d ≡ x → put_in xs k (x ∷ []) ≡ xs
put_same [] k d x within is = absurd (omega arith)
put_same {X} (y ∷ xs) zero d x within is = ap (λ (z : X). z ∷ xs) (sym is)
put_same {X} (y ∷ xs) (suc k) d x within is = ap (λ (ys : List X). y ∷ ys) (put_same xs k d x (omega arith) is)

pub length-put : {X : Type 0} (xs new : List X) (k : ℕ) → k < length xs → length (put_in xs k new) + 1 ≡ length xs + length new
length-put [] new k within = absurd (omega arith)
length-put (x ∷ xs) new zero within = omega (arith, length-append new xs)
length-put (x ∷ xs) new (suc k) within = omega (arith, length-put xs new k (omega arith))

-- the first that passes, where nothing has passed
pub find-put_here : {X : Type 0} (test : X → Bool) (xs : List X) (k : ℕ) (x : X) → k < length xs → AllByRecursion (λ y. test y ≡ false) xs → test x ≡ true → find test (put_in xs k (x ∷ [])) ≡ Some x
find-put_here test [] k x within fail is = absurd (omega arith)
find-put_here {X} test (y ∷ xs) zero x within fail is = ap (λ (b : Bool). cond {A = Option X} b (Some x) (find test xs)) is
find-put_here {X} test (y ∷ xs) (suc k) x within fail is =
    ap (λ (b : Bool). cond {A = Option X} b (Some y) (find test (put_in xs k (x ∷ [])))) fail.0 ∙ find-put_here test xs k x (omega arith) fail.1 is

none_passes : (b : Bool) (n : ℕ) → cond {A = ℕ} b 1 0 + n ≡ 0 → (b ≡ false) × (n ≡ 0)
none_passes true n e = absurd (omega arith)
none_passes false n e = (refl, omega arith)

pub fail-count : {X : Type 0} (test : X → Bool) (xs : List X) → count_by test xs ≡ 0 → AllByRecursion (λ x. test x ≡ false) xs
fail-count test [] e = tt
fail-count test (x ∷ xs) e =
    let parts = none_passes (test x) (count_by test xs) (sym (sum_by-cons (λ y. cond (test y) 1 0) x xs) ∙ e) in
    (parts.0, fail-count test xs parts.1)

pub find-none : {X : Type 0} (test : X → Bool) (xs : List X) → AllByRecursion (λ x. test x ≡ false) xs → find test xs ≡ None
find-none test [] fail = refl
find-none {X} test (x ∷ xs) fail = ap (λ (b : Bool). cond {A = Option X} b (Some x) (find test xs)) fail.0 ∙ find-none test xs fail.1
