-- The place of the first item that passes.
use Rattle.std.specs.Prelude.{◌≡◌, ℕ, suc, ◌+◌, ◌<◌, ◌≤◌, ◌⊎◌, Bool, true, false, cond, not, nat_lt, List, [], ◌∷◌, map, length}
use Rattle.std.specs.declared.option.Option.{Option}
use Rattle.std.specs.declared.option.Option.TheVariants.{Some, None}
use Rattle.std.specs.Option.{option_map}
use Rattle.std.specs.List.{find, position, position_or_len}
use Rattle.std.proofs.Common.{arith, refl, sym, ap, ◌∙◌, get_or, ⊎_elim}
use Rattle.std.proofs.lemmas.Bool.Decides.{nat_tests}

within_some : (i n : ℕ) → i < n → cond {A = Option ℕ} (nat_lt i n) (Some i) None ≡ Some i
within_some i n h = grind (arith, nat_tests)

past_none : (i n : ℕ) → n ≤ i → cond {A = Option ℕ} (nat_lt i n) (Some i) None ≡ None
past_none i n h = grind (arith, nat_tests)

below_or_past : (i n : ℕ) → (i < n) ⊎ (n ≤ i)
below_or_past i n = grind arith

one_more : (i : ℕ) → 1 + i ≡ suc i
one_more i = omega arith

shift : (i n : ℕ) → cond {A = Option ℕ} (nat_lt (1 + i) (suc n)) (Some (1 + i)) None ≡ option_map suc (cond {A = Option ℕ} (nat_lt i n) (Some i) None)
shift i n =
    ⊎_elim (λ (h : i < n). within_some (1 + i) (suc n) (omega arith) ∙ (ap (λ (k : ℕ). Some k) (one_more i) ∙ sym (ap (option_map suc) (within_some i n h))))
    (λ (h : n ≤ i). past_none (1 + i) (suc n) (omega arith) ∙ sym (ap (option_map suc) (past_none i n h))) (below_or_past i n)

pub position-cons : {X : Type 0} (p : X → Bool) (x : X) (xs : List X) → position p (x ∷ xs) ≡ cond {A = Option ℕ} (p x) (Some 0) (option_map suc (position p xs))
position-cons p x xs =
    elim (p x) as (λ b. cond {A = Option ℕ} (nat_lt (cond (not b) (1 + position_or_len p xs) 0) (suc (length xs))) (Some (cond (not b) (1 + position_or_len p xs) 0)) None ≡ cond {A = Option ℕ} b (Some 0) (option_map suc (position p xs))) [
      | true ↦ within_some 0 (suc (length xs)) (omega arith)
      | false ↦ shift (position_or_len p xs) (length xs)
    ]

map-suc : {Y : Type 0} (f g : ℕ → Y) (o : Option ℕ) → ((k : ℕ) → f (suc k) ≡ g k) → option_map f (option_map suc o) ≡ option_map g o
map-suc f g None same = refl
map-suc {Y} f g (Some k) same = ap (λ (y : Y). Some y) (same k)

-- what stands beside the first item that passes
pub at_position : {X Y Z : Type 0} (p : X → Bool) (side : Y → Z) (mark : Y → X) (ys : List Y) (d : Y) → option_map (λ k. side (get_or ys k d)) (position p (map mark ys)) ≡ option_map side (find (λ y. p (mark y)) ys)
at_position p side mark [] d = refl
at_position {X} {Y} {Z} p side mark (y ∷ ys) d =
    ap (option_map (λ k. side (get_or (y ∷ ys) k d))) (position-cons p (mark y) (map mark ys))
    ∙ elim (p (mark y)) as (λ b. option_map (λ k. side (get_or (y ∷ ys) k d)) (cond {A = Option ℕ} b (Some 0) (option_map suc (position p (map mark ys)))) ≡ option_map side (cond {A = Option Y} b (Some y) (find (λ z. p (mark z)) ys))) [
      | true ↦ refl
      | false ↦ map-suc (λ k. side (get_or (y ∷ ys) k d)) (λ k. side (get_or ys k d)) (position p (map mark ys)) (λ k. refl) ∙ at_position p side mark ys d
    ]
