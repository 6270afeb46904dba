-- Lists that grow, and what holds of each item.
use Rattle.std.specs.Prelude.{◌≡◌, ℕ, zero, suc, ◌+◌, Bool, true, false, cond, List, [], ◌∷◌, ◌++◌, map, slice_get}
use Rattle.std.specs.declared.option.Option.{Option}
use Rattle.std.specs.declared.option.Option.TheVariants.{Some}
use Rattle.std.specs.List.{flat_map, filter, find, AllByRecursion}
use Rattle.std.proofs.Common.{refl, ap, sym, ◌∙◌, take, drop}
use Rattle.std.proofs.lemmas.List.{append-nil, append_assoc, take_more, drop_more}
use Rattle.std.proofs.lemmas.Option.{slice_get_within, get_or_from_slice_get}

pub take-more : {X : Type 0} (xs : List X) (i : ℕ) (x : X) → slice_get xs i ≡ Some x → take (i + 1) xs ≡ take i xs ++ x ∷ []
take-more xs i x at = take_more xs i x (slice_get_within xs i x at) ∙ ap (λ z. take i xs ++ z ∷ []) (get_or_from_slice_get xs i x x at)

pub map-push : {X Y : Type 0} (f : X → Y) (xs : List X) (x : X) → map f (xs ++ x ∷ []) ≡ map f xs ++ f x ∷ []
map-push f [] x = refl
map-push f (y ∷ xs) x = ap (λ rest. f y ∷ rest) (map-push f xs x)

pub flat_map-push : {X Y : Type 0} (f : X → List Y) (xs : List X) (x : X) → flat_map f (xs ++ x ∷ []) ≡ flat_map f xs ++ f x
flat_map-push f [] x = append-nil (f x)
flat_map-push f (y ∷ xs) x = ap (λ rest. f y ++ rest) (flat_map-push f xs x) ∙ sym (append_assoc (f y) (flat_map f xs) (f x))

pub filter-push : {X : Type 0} (p : X → Bool) (xs : List X) (x : X) → filter p (xs ++ x ∷ []) ≡ filter p xs ++ cond (p x) (x ∷ []) []
filter-push p [] x = refl
filter-push p (y ∷ xs) x =
    elim (p y) as (λ b. cond b (y ∷ filter p (xs ++ x ∷ [])) (filter p (xs ++ x ∷ [])) ≡ cond b (y ∷ filter p xs) (filter p xs) ++ cond (p x) (x ∷ []) [])
    [ true ↦ ap (λ rest. y ∷ rest) (filter-push p xs x) | false ↦ filter-push p xs x ]

pub each-at : {X : Type 0} (P : X → Type 0) (xs : List X) (i : ℕ) (x : X) → AllByRecursion P xs → slice_get xs i ≡ Some x → P x
each-at P [] i x each at = absurd (cc)
each-at P (y ∷ xs) zero x each at = let e : y ≡ x = cc in rw (← e) each.0
each-at P (y ∷ xs) (suc i) x each at = each-at P xs i x each.1 at

pub each-append : {X : Type 0} (P : X → Type 0) (xs ys : List X) → AllByRecursion P (xs ++ ys) → AllByRecursion P xs × AllByRecursion P ys
each-append P [] ys each = (tt, each)
each-append P (x ∷ xs) ys each = let rest = each-append P xs ys each.1 in ((each.0, rest.0), rest.1)

opened : {X : Type 0} (xs : List X) (i : ℕ) (x : X) → slice_get xs i ≡ Some x → drop i xs ≡ x ∷ drop (i + 1) xs
opened xs i x at = drop_more xs i x (slice_get_within xs i x at) ∙ ap (λ y. y ∷ drop (i + 1) xs) (get_or_from_slice_get xs i x x at)

-- the next item passes, or is passed over
pub find-here : {X : Type 0} (p : X → Bool) (xs : List X) (i : ℕ) (x : X) (whole : Option X) → slice_get xs i ≡ Some x → find p (drop i xs) ≡ whole → p x ≡ true → Some x ≡ whole
find-here p xs i x whole at left passes = sym (ap (λ b. cond b (Some x) (find p (drop (i + 1) xs))) passes) ∙ ap (find p) (sym (opened xs i x at)) ∙ left

pub find-next : {X : Type 0} (p : X → Bool) (xs : List X) (i : ℕ) (x : X) (whole : Option X) → slice_get xs i ≡ Some x → find p (drop i xs) ≡ whole → p x ≡ false → find p (drop (i + 1) xs) ≡ whole
find-next p xs i x whole at left fails = sym (ap (λ b. cond b (Some x) (find p (drop (i + 1) xs))) fails) ∙ ap (find p) (sym (opened xs i x at)) ∙ left
