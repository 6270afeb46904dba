-- Plain numerals are what numbers are spelled by.
use Rattle.std.proofs.Common.{◌≡◌, ℕ, zero, suc, ◌+◌, ◌-◌, ◌*◌, ◌^◌, ◌<◌, ◌==◌, Bool, true, false, cond, ◌&&◌, nat_lt, nat_le, List, [], ◌∷◌, length, get_or, fold, ℤ, pos, negsuc, neg_ℤ, ◌≤ℤ◌, int_le, unsigned_abs, refl, sym, ap, ◌∙◌, subst, arith, inl, inr, Option, Some, None, option_map, option_and_then, mul_comm}
use Rattle.std.specs.List.{list_all}
use Rattle.std.specs.Fmt.{decimal, signed_decimal}
use Rattle.std.proofs.lemmas.Int.{ints}
use Rattle.std.proofs.lemmas.Bool.{cases_Bool, and_parts, and_from, eqb-true, ne_eqb, ltb-true, leb-true, lt-ltb, le-leb}
use Rattle.std.proofs.lemmas.Fmt.{digits_decimal, digits_value-decimal, decimal-digits_value, first_decimal, decimal_digit, decimal_nonempty}
use Rattle.std.proofs.lemmas.Str.Parse.{IsNumeralModel, IsDigitsTest, FoldsDigits, numerals_by_fold}
use Rattle.qf_base.proofs.Integers.{int_le_true}
use Rattle.qf_csv.specs.Numerals.{is_digit, value_of, whole_of, after_sign, signed, numeral_of, within, is_plain, count_of}
use Rattle.qf_tree.specs.Lines.{is_number}
use Rattle.qf_certtext.specs.Words.{plain_within}

AllDigits : List ℕ → Type 0
AllDigits ds = list_all is_digit ds ≡ true

abbrev fold_on : ℕ → List ℕ → ℕ
fold_on n ds = fold (λ v d. 10 * v + (d - 48)) n ds

test : IsDigitsTest (λ ds. list_all is_digit ds ≡ true)
test = record {
  empty = refl;
  parts = λ c cs h.
      let p = and_parts (is_digit c) (list_all is_digit cs) h in
      let q = and_parts (nat_le 48 c) (nat_le c 57) p.0 in
      ((leb-true 48 c q.0, leb-true c 57 q.1), p.1);
  more = λ c cs r h.
      and_from (is_digit c) (list_all is_digit cs) (and_from (nat_le 48 c) (nat_le c 57) (le-leb 48 c r.0) (le-leb c 57 r.1)) h;
}

folds : FoldsDigits fold_on
folds = record {
  empty = λ n. refl;
  more = λ n c cs r. ap (λ m. fold_on (m + (c - 48)) cs) (mul_comm 10 n);
}

pub own : IsNumeralModel (λ ds. list_all is_digit ds ≡ true) value_of
own = numerals_by_fold (λ ds. list_all is_digit ds ≡ true) test fold_on folds

-- ---- digits

some_same : {X : Type 0} (a b : X) → (◌≡◌ {A = Option X} (Some a) (Some b)) → a ≡ b
some_same a b e = cc

-- what digits without a leading zero write is spelled by them
spelled_digits : (ds : List ℕ) (n : ℕ) → whole_of ds ≡ Some n → (get_or ds 0 0 ≡ 48 → length ds ≡ 1) → n < 2 ^ 64 → decimal n ≡ ds
spelled_digits [] n e first small = cc
spelled_digits (d ∷ ds) n e first small =
    elim (cases_Bool (list_all is_digit (d ∷ ds))) [
      | inl all ↦
          let same : value_of (d ∷ ds) ≡ n = some_same (value_of (d ∷ ds)) n (rw all at e) in
          rw (← same) (decimal-digits_value own (d ∷ ds) all (omega arith) first (omega (arith, same)))
      | inr other ↦ let bad = rw other at e in cc
    ]

whole_by_digits : (ds : List ℕ) → 0 < length ds → list_all is_digit ds ≡ true → whole_of ds ≡ Some (value_of ds)
whole_by_digits [] h all = absurd (omega arith)
whole_by_digits (d ∷ ds) h all = rw all refl

pub whole_decimal : (n : ℕ) → n < 2 ^ 64 → whole_of (decimal n) ≡ Some n
whole_decimal n small =
    whole_by_digits (decimal n) (decimal_nonempty n small) (digits_decimal own n small)
    ∙ ap Some (digits_value-decimal own n small)

-- ---- plain numerals

plain_head : (ds : List ℕ) → 48 < get_or ds 0 0 → is_plain ds ≡ true
plain_head [] h = refl
plain_head (a ∷ []) h = refl
plain_head (a ∷ b ∷ rest) h =
    let x = ne_eqb a 48 (λ e. absurd (omega (arith, e))) in
    let y = ne_eqb a 45 (λ e. absurd (omega (arith, e))) in
    rw (x, y) refl

plain_decimal : (n : ℕ) → n < 2 ^ 64 → is_plain (decimal n) ≡ true
plain_decimal zero small = rw (decimal_digit 0 (omega arith)) refl
plain_decimal (suc n) small = plain_head (decimal (suc n)) (first_decimal (suc n) (omega arith) small)

plain_minus : (ds : List ℕ) → 48 < get_or ds 0 0 → is_plain (45 ∷ ds) ≡ true
plain_minus [] h = refl
plain_minus (b ∷ rest) h = let x = ne_eqb b 48 (λ e. absurd (omega (arith, e))) in rw x refl

-- a plain list of digits that begins with a zero is that zero
plain_zero : (ds : List ℕ) → is_plain ds ≡ true → get_or ds 0 0 ≡ 48 → length ds ≡ 1
plain_zero [] p e = absurd (omega (arith, e))
plain_zero (a ∷ []) p e = refl
plain_zero (a ∷ b ∷ rest) p e = let q = rw e at p in cc

minus_no_zero : (ds : List ℕ) → is_plain (45 ∷ ds) ≡ true → get_or ds 0 0 ≡ 48 → ⊥
minus_no_zero [] p e = absurd (omega (arith, e))
minus_no_zero (b ∷ rest) p e = let q = rw e at p in cc

-- ---- counts

pick_number : (n m : ℕ) → cond (nat_le 1 n && nat_lt n (2 ^ 32)) (Some n) None ≡ Some m → (n ≡ m) × (is_number m ≡ true)
pick_number n m e =
    elim (cases_Bool (nat_le 1 n && nat_lt n (2 ^ 32))) [
      | inl in_range ↦
          let same : n ≡ m = some_same n m (rw in_range at e) in
          let parts = and_parts (nat_le 1 n) (nat_lt n (2 ^ 32)) in_range in (
            same,
            rw (← same) (and_from (nat_lt 0 n) (nat_lt n (2 ^ 32)) (lt-ltb 0 n (let h = leb-true 1 n parts.0 in omega arith)) parts.1),
          )
      | inr other ↦ let bad = rw other at e in cc
    ]

count_by_whole : (o : Option ℕ) (m : ℕ) → option_and_then (λ n. cond (nat_le 1 n && nat_lt n (2 ^ 32)) (Some n) None) o ≡ Some m → (o ≡ Some m) × (is_number m ≡ true)
count_by_whole None m e = cc
count_by_whole (Some n) m e = let p = pick_number n m e in (ap Some p.0, p.1)

pub below_by_number : (n : ℕ) → is_number n ≡ true → (0 < n) × (n < 2 ^ 32)
below_by_number n h =
    let parts = and_parts (nat_lt 0 n) (nat_lt n (2 ^ 32)) h in
    (ltb-true 0 n parts.0, ltb-true n (2 ^ 32) parts.1)

pub count_spelled : (ds : List ℕ) (n : ℕ) → count_of ds ≡ Some n → (is_number n ≡ true) × (ds ≡ decimal n)
count_spelled ds n e =
    elim (cases_Bool (is_plain ds)) [
      | inl plain ↦
          let by = count_by_whole (whole_of ds) n (rw plain at e) in
          let small = below_by_number n by.1 in
          (by.1, sym (spelled_digits ds n by.0 (plain_zero ds plain) (omega (arith, small.1))))
      | inr other ↦ let bad = rw other at e in cc
    ]

pub count_decimal : (n : ℕ) → is_number n ≡ true → count_of (decimal n) ≡ Some n
count_decimal n h =
    let small = below_by_number n h in
    let in64 : n < 2 ^ 64 = omega (arith, small.1) in
    let one = le-leb 1 n (omega (arith, small.0)) in
    let below = lt-ltb n (2 ^ 32) small.1 in
    rw (plain_decimal n in64, whole_decimal n in64, one, below) refl

-- ---- values

-- whether a number is one of these
abbrev pub is_between : ℤ → ℤ → ℤ → Bool
is_between least most z = int_le least z && int_le z most

within_parts : (least most z y : ℤ) → within least most z ≡ Some y → (z ≡ y) × (is_between least most y ≡ true)
within_parts least most z y e =
    elim (cases_Bool (int_le least z && int_le z most)) [
      | inl in_range ↦
          let same : z ≡ y = some_same z y (rw in_range at e) in
          (same, rw (← same) in_range)
      | inr other ↦ let bad = rw other at e in cc
    ]

then_within : (least most : ℤ) (o : Option ℤ) (y : ℤ) → option_and_then (within least most) o ≡ Some y → (o ≡ Some y) × (is_between least most y ≡ true)
then_within least most None y e = cc
then_within least most (Some z) y e =
    let p = within_parts least most z y e in (ap Some p.0, p.1)

signed_whole : (below : Bool) (o : Option ℕ) (y : ℤ) → option_map (signed below) o ≡ Some y → (n : ℕ) × (o ≡ Some n) × (signed below n ≡ y)
signed_whole below None y e = cc
signed_whole below (Some n) y e = (n, refl, some_same (signed below n) y e)

-- the range of numbers that fit 64 bits with a sign
abbrev pub FitsRange : ℤ → ℤ → Type 0
FitsRange least most = (neg_ℤ (pos (2 ^ 63)) ≤ℤ least) × (most ≤ℤ pos (2 ^ 63))

size_of_range : (least most : ℤ) (n : ℕ) (below : Bool) → FitsRange least most → is_between least most (signed below n) ≡ true → n < 2 ^ 64
size_of_range least most n true fits e =
    let parts = and_parts (int_le least (neg_ℤ (pos n))) (int_le (neg_ℤ (pos n)) most) e in
    omega (arith, ints, fits.0, int_le_true least (neg_ℤ (pos n)) parts.0)
size_of_range least most n false fits e =
    let parts = and_parts (int_le least (pos n)) (int_le (pos n) most) e in
    omega (arith, ints, fits.1, int_le_true (pos n) most parts.1)

-- a `-` and digits
minus_spelled : (ds : List ℕ) (n : ℕ) → whole_of ds ≡ Some n → is_plain (45 ∷ ds) ≡ true → n < 2 ^ 64 → signed_decimal (neg_ℤ (pos n)) ≡ 45 ∷ ds
minus_spelled ds zero e plain small =
    let text = spelled_digits ds 0 e (λ z. absurd (minus_no_zero ds plain z)) small in
    absurd (minus_no_zero ds plain (rw (← text, decimal_digit 0 (omega arith)) refl))
minus_spelled ds (suc n) e plain small =
    ap (λ (cs : List ℕ). 45 ∷ cs) (spelled_digits ds (suc n) e (λ z. absurd (minus_no_zero ds plain z)) small)

signed_by_sign : (word : List ℕ) (n : ℕ) (flag : Bool) → (after_sign word).0 ≡ flag → whole_of (after_sign word).1 ≡ Some n → is_plain word ≡ true → n < 2 ^ 64 → signed_decimal (signed flag n) ≡ word
signed_by_sign [] n flag f e plain small = cc
signed_by_sign (c ∷ ds) n flag f e plain small =
    elim (cases_Bool (c == 45)) [
      | inl minus ↦
          let g : true ≡ flag = rw minus at f in
          let w : whole_of ds ≡ Some n = rw minus at e in
          let same : c ≡ 45 = eqb-true c 45 minus in
          rw (← g, same) (minus_spelled ds n w (subst (λ x. is_plain (x ∷ ds) ≡ true) same plain) small)
      | inr other ↦
          let g : false ≡ flag = rw other at f in
          let w : whole_of (c ∷ ds) ≡ Some n = rw other at e in
          rw (← g) (spelled_digits (c ∷ ds) n w (plain_zero (c ∷ ds) plain) small)
    ]

pub value_spelled : (least most : ℤ) (word : List ℕ) (z : ℤ) → FitsRange least most → plain_within least most word ≡ Some z → (is_between least most z ≡ true) × (word ≡ signed_decimal z)
value_spelled least most word z fits e =
    elim (cases_Bool (is_plain word)) [
      | inl plain ↦
          let p = then_within least most (numeral_of word) z (rw plain at e) in
          let q = signed_whole (after_sign word).0 (whole_of (after_sign word).1) z p.0 in
          let small = size_of_range least most q.0 (after_sign word).0 fits (rw q.2 p.1) in
          (p.1, sym (rw q.2 at (signed_by_sign word q.0 (after_sign word).0 refl q.1 plain small)))
      | inr other ↦ let bad = rw other at e in cc
    ]

no_sign : (ds : List ℕ) → 47 < get_or ds 0 0 → after_sign ds ≡ (false, ds)
no_sign [] h = absurd (omega arith)
no_sign (c ∷ ds) h = let x = ne_eqb c 45 (λ e. absurd (omega (arith, e))) in rw x refl

head_decimal : (n : ℕ) → n < 2 ^ 64 → 47 < get_or (decimal n) 0 0
head_decimal zero small = rw (decimal_digit 0 (omega arith)) (omega arith)
head_decimal (suc n) small = let h = first_decimal (suc n) (omega arith) small in omega arith

numeral_signed : (z : ℤ) → unsigned_abs z < 2 ^ 64 → numeral_of (signed_decimal z) ≡ Some z
numeral_signed (pos n) small =
    let s = no_sign (decimal n) (head_decimal n small) in
    rw (s, whole_decimal n small) refl
numeral_signed (negsuc n) small = rw (whole_decimal (suc n) small) refl

plain_signed : (z : ℤ) → unsigned_abs z < 2 ^ 64 → is_plain (signed_decimal z) ≡ true
plain_signed (pos n) small = plain_decimal n small
plain_signed (negsuc n) small = plain_minus (decimal (suc n)) (first_decimal (suc n) (omega arith) small)

between_size : (least most z : ℤ) → FitsRange least most → is_between least most z ≡ true → unsigned_abs z < 2 ^ 64
between_size least most z fits e =
    let parts = and_parts (int_le least z) (int_le z most) e in
    omega (arith, ints, fits.0, fits.1, int_le_true least z parts.0, int_le_true z most parts.1)

pub value_read : (least most z : ℤ) → FitsRange least most → is_between least most z ≡ true → plain_within least most (signed_decimal z) ≡ Some z
value_read least most z fits e =
    let small = between_size least most z fits e in
    rw (plain_signed z small, numeral_signed z small, e) refl
