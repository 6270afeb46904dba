-- Columns that repeat, as a walk from left to right meets them.
use Rattle.std.proofs.Common.{◌≡◌, ◌∙◌, ap, sym, refl, ℕ, ◌+◌, ◌<◌, Bool, true, false, ◌||◌, ◌&&◌, ◌==◌, nat_lt, List, [], ◌∷◌, length, map, get_or, drop, arith}
use Rattle.std.specs.List.{list_all, list_any}
use Rattle.std.proofs.lemmas.List.{drop_more}
use Rattle.std.proofs.lemmas.Bool.{false≢true}
use Rattle.std.proofs.lemmas.Bool.Decides.{nat_tests}
use Rattle.qf_ir.specs.declared.column_set.ColumnSet.{ColumnSet}
use Rattle.qf_ir.specs.Flow.{At}
use Rattle.qf_ir.specs.ColumnSets.{has}
use Rattle.qf_ir.specs.Checked.{is_among, repeats, is_column}

-- one of the columns stands among the earlier ones, or among those before it
abbrev pub repeats_behind : List ℕ → List ℕ → Bool
repeats_behind earlier [] = false
repeats_behind earlier (c ∷ cs) = is_among earlier c || repeats_behind (c ∷ earlier) cs

abbrev pub Has : ColumnSet → List ℕ → Type 0
Has seen earlier = (c : ℕ) → has seen (At c) ≡ is_among earlier c

-- what a walk keeps: the columns that it has seen, and what is left to find
pub record Walks (seen : ColumnSet) (rest all : List ℕ) : Type 0 where
  pub earlier : List ℕ
  pub has : Has seen earlier
  pub left : repeats_behind earlier rest ≡ repeats all

pub and-both : (a b : Bool) → (a && b) ≡ true → (a ≡ true) × (b ≡ true)
and-both true b h = (refl, h)
and-both false b h = absurd (false≢true h)

four : (a b x y : Bool) → ((a || b) || (x || y)) ≡ ((a || x) || (b || y))
four true b x y = refl
four false true true y = refl
four false true false y = refl
four false false x y = refl

any-or : (p q : ℕ → Bool) (cs : List ℕ) → list_any (λ c. p c || q c) cs ≡ (list_any p cs || list_any q cs)
any-or p q [] = refl
any-or p q (c ∷ cs) = ap (λ b. (p c || q c) || b) (any-or p q cs) ∙ four (p c) (q c) (list_any p cs) (list_any q cs)

five : (a b x y : Bool) → (a || ((x || b) || y)) ≡ ((a || b) || (x || y))
five true b x y = refl
five false true true y = refl
five false true false y = refl
five false false true y = refl
five false false false y = refl

eq-sym : (c d : ℕ) → (c == d) ≡ (d == c)
eq-sym c d = grind (arith, nat_tests)

among-sym : (c : ℕ) (cs : List ℕ) → list_any (λ d. d == c) cs ≡ is_among cs c
among-sym c [] = refl
among-sym c (d ∷ cs) = ap (λ b. b || list_any (λ d. d == c) cs) (eq-sym d c) ∙ ap (λ b. (c == d) || b) (among-sym c cs)

pub repeats_behind_is : (earlier cs : List ℕ) → repeats_behind earlier cs ≡ (list_any (is_among earlier) cs || repeats cs)
repeats_behind_is earlier [] = refl
repeats_behind_is earlier (c ∷ cs) =
    ap (λ b. is_among earlier c || b) (repeats_behind_is (c ∷ earlier) cs)
    ∙ ap (λ b. is_among earlier c || (b || repeats cs)) (any-or (λ d. d == c) (is_among earlier) cs)
    ∙ ap (λ b. is_among earlier c || ((b || list_any (is_among earlier) cs) || repeats cs)) (among-sym c cs)
    ∙ five (is_among earlier c) (list_any (is_among earlier) cs) (is_among cs c) (repeats cs)

or-comm : (a b : Bool) → (a || b) ≡ (b || a)
or-comm true true = refl
or-comm true false = refl
or-comm false true = refl
or-comm false false = refl

none-among : (cs : List ℕ) → list_any (is_among []) cs ≡ false
none-among [] = refl
none-among (c ∷ cs) = none-among cs

-- a walk begins
pub walks-start : (seen : ColumnSet) (all : List ℕ) → ((c : ℕ) → has seen (At c) ≡ false) → Walks seen all all
walks-start seen all empty = record {
  earlier = [];
  has = empty;
  left = repeats_behind_is [] all ∙ ap (λ b. b || repeats all) (none-among all);
}

-- the next column was seen: there is a repeat
pub walks-found : (seen : ColumnSet) (c : ℕ) (rest all : List ℕ) → Walks seen (c ∷ rest) all → has seen (At c) ≡ true → true ≡ repeats all
walks-found seen c rest all w found = sym (ap (λ b. b || repeats_behind (c ∷ w.earlier) rest) (sym (w.has c) ∙ found)) ∙ w.left

-- the next column is new
pub walks-more : (seen next : ColumnSet) (c : ℕ) (rest all : List ℕ) → Walks seen (c ∷ rest) all → has seen (At c) ≡ false
    → ((d : ℕ) → has next (At d) ≡ (has seen (At d) || (d == c))) → Walks next rest all
walks-more seen next c rest all w new more = record {
  earlier = c ∷ w.earlier;
  has = λ d. more d ∙ ap (λ b. b || (d == c)) (w.has d) ∙ or-comm (is_among w.earlier d) (d == c);
  left = sym (ap (λ b. b || repeats_behind (c ∷ w.earlier) rest) (sym (w.has c) ∙ new)) ∙ w.left;
}

-- of a list of columns that are all below a bound, the next is
pub column-next : (bound c : ℕ) (rest : List ℕ) → list_all (is_column bound) (c ∷ rest) ≡ true → c < bound
column-next bound c rest all = let h : nat_lt c bound ≡ true = (and-both _ _ all).0 in grind (arith, nat_tests)

pub columns-more : (bound c : ℕ) (rest : List ℕ) → list_all (is_column bound) (c ∷ rest) ≡ true → list_all (is_column bound) rest ≡ true
columns-more bound c rest all = (and-both _ _ all).1

module _ {X : Type 0} (xs : List (ℕ × X)) (i : ℕ) (x : ℕ × X) (lt : i < length xs) (is : x ≡ get_or xs i x) where
  -- the columns of what is left
  pub firsts-next : map (λ (y : ℕ × X). y.0) (drop i xs) ≡ x.0 ∷ map (λ (y : ℕ × X). y.0) (drop (i + 1) xs)
  firsts-next =
      ap (map (λ (y : ℕ × X). y.0)) (drop_more xs i x lt)
      ∙ ap (λ (y : ℕ × X). y.0 ∷ map (λ (z : ℕ × X). z.0) (drop (i + 1) xs)) (sym is)
