-- The numeral of a value, as a piece of a log.
use Rattle.std.proofs.Common.{◌≡◌, ℕ, suc, ◌+◌, ◌-◌, ◌*◌, ◌/◌, ◌%◌, ◌<◌, ◌≤◌, Bool, true, false, List, [], ◌∷◌, ◌++◌, length, refl, ap, ◌∙◌, arith, inl, inr, ◌⊎◌, fold}
use Rattle.std.specs.Prelude.{ℤ, pos, negsuc, ◌^◌}
use Rattle.std.specs.Fmt.{decimal, signed_decimal}
use Rattle.std.proofs.lemmas.Fmt.{decimal_by_steps}
use Rattle.std.proofs.lemmas.List.{length-append}
use Rattle.std.proofs.lemmas.Int.{ints}
use Rattle.std.proofs.lemmas.Bool.Decides.{nat_tests}
use Rattle.qf_ir.specs.Fits.{Small}
use Rattle.qf_lex.specs.declared.bytes.Class.{Class}
use Rattle.qf_lex.specs.declared.bytes.Class.TheVariants as class
use Rattle.qf_lex.specs.declared.bytes.Run.TheVariants as run
use Rattle.qf_lex.specs.Pieces.{Piece, number, class_of, in_digits, goes_on, text_of, Each, Starts}
use Rattle.qf_lex.specs.Tokens.{value_of, signed, IsSound}
use Rattle.qf_lex.proofs.Runs.{Each-push}

pub digit_class : (x : ℕ) → 48 ≤ x → x ≤ 57 → class_of x ≡ class.Digit
digit_class x low high = grind (arith, nat_tests)

pub digit_is : (k : Class) → in_digits k ≡ true → k ≡ class.Digit
digit_is class.Digit e = refl
digit_is k e = absurd cc

value_push : (v : ℕ) (ds : List ℕ) (d : ℕ) → fold (λ v d. 10 * v + (d - 48)) v (ds ++ d ∷ []) ≡ 10 * fold (λ v d. 10 * v + (d - 48)) v ds + (d - 48)
value_push v [] d = refl
value_push v (x ∷ ds) d = value_push (10 * v + (x - 48)) ds d

-- the digits of a number write it
abbrev pub Writes : ℕ → List ℕ → Type 0
Writes n ds = (value_of ds ≡ n) × Each (goes_on run.Digits) ds × (0 < length ds)

one_digit : (n : ℕ) → n < 10 → Writes n ((48 + n) ∷ [])
one_digit n lt = (omega arith, (ap in_digits (digit_class (48 + n) (omega arith) (omega arith)), tt), omega arith)

more_digits : (n : ℕ) (ds : List ℕ) → 10 ≤ n → Writes (n / 10) ds → Writes n (ds ++ (48 + n % 10) ∷ [])
more_digits n ds le h = (
  value_push 0 ds (48 + n % 10) ∙ omega (arith, h.0),
  Each-push (goes_on run.Digits) ds (48 + n % 10) h.1 (ap in_digits (digit_class (48 + n % 10) (omega arith) (omega arith))),
  omega (arith, length-append ds ((48 + n % 10) ∷ [])),
)

pub digits_write : (n : ℕ) → n < 2 ^ 64 → Writes n (decimal n)
digits_write n lt = decimal_by_steps Writes one_digit more_digits n lt

-- the numeral of a value: its sign and its digits
abbrev pub is_minus : ℤ → Bool
is_minus (pos n) = false
is_minus (negsuc n) = true

abbrev pub size_of : ℤ → ℕ
size_of (pos n) = n
size_of (negsuc n) = suc n

abbrev pub numeral_of : ℤ → Piece
numeral_of z = number (is_minus z) (decimal (size_of z))

pub numeral_text : (z : ℤ) → text_of (numeral_of z) ≡ signed_decimal z
numeral_text (pos n) = refl
numeral_text (negsuc n) = refl

pub size_fits : (z : ℤ) → Small z → size_of z ≤ 2 ^ 50
size_fits (pos n) h = omega (arith, ints, h.high)
size_fits (negsuc n) h = omega (arith, ints, h.low)

pub numeral_value : (z : ℤ) → Small z → signed (is_minus z) (value_of (decimal (size_of z))) ≡ z
numeral_value (pos n) h = ap pos (digits_write n (omega (arith, size_fits (pos n) h))).0
numeral_value (negsuc n) h = ap (signed true) (digits_write (suc n) (omega (arith, size_fits (negsuc n) h))).0

-- the first byte of a numeral is a `-` or a digit
pub record Begins (bytes : List ℕ) : Type 0 where
  pub first : ℕ
  pub others : List ℕ
  pub parts : bytes ≡ first ∷ others
  pub kind : (class_of first ≡ class.Dash) ⊎ (class_of first ≡ class.Digit)

digits_begin : (ds : List ℕ) → Each (goes_on run.Digits) ds → 0 < length ds → Begins ds
digits_begin [] e lt = absurd (omega arith)
digits_begin (d ∷ ds) e lt = record { first = d; others = ds; parts = refl; kind = inr (digit_is (class_of d) e.0) }

digits_start : (ds : List ℕ) → Each (goes_on run.Digits) ds → 0 < length ds → Starts class.Digit ds
digits_start [] e lt = absurd (omega arith)
digits_start (d ∷ ds) e lt = digit_is (class_of d) e.0

pub numeral_begins : (z : ℤ) → Small z → Begins (signed_decimal z)
numeral_begins (pos n) h = let w = digits_write n (omega (arith, size_fits (pos n) h)) in digits_begin (decimal n) w.1 w.2
numeral_begins (negsuc n) h = record { first = 45; others = decimal (suc n); parts = refl; kind = inl refl }

pub numeral_starts : (z : ℤ) → Small z → Starts class.Digit (decimal (size_of z)) × Each (goes_on run.Digits) (decimal (size_of z))
numeral_starts z h = let w = digits_write (size_of z) (omega (arith, size_fits z h)) in (digits_start (decimal (size_of z)) w.1 w.2, w.1)

pub old_begins : (minus : Bool) (digits : List ℕ) (rest : List ℕ) → Starts class.Digit digits → Begins (text_of (number minus digits) ++ rest)
old_begins true digits rest s = record { first = 45; others = digits ++ rest; parts = refl; kind = inl refl }
old_begins false [] rest s = absurd s
old_begins false (d ∷ digits) rest s = record { first = d; others = digits ++ rest; parts = refl; kind = inr s }

pub numeral_sound : (z : ℤ) → Small z → IsSound (numeral_of z)
numeral_sound z h = omega (arith, (digits_write (size_of z) (omega (arith, size_fits z h))).0, size_fits z h)

pub signed_small : (minus : Bool) (n : ℕ) → n ≤ 2 ^ 50 → Small (signed minus n)
signed_small true n h = record { low = omega (arith, ints, h); high = omega (arith, ints, h) }
signed_small false n h = record { low = omega (arith, ints, h); high = omega (arith, ints, h) }
