-- The pieces of a log with other numbers stand one after the other, as the old ones do.
use Rattle.std.proofs.Common.{◌≡◌, ◌≢◌, ℕ, ◌<◌, Bool, true, false, List, [], ◌∷◌, ◌++◌, length, refl, sym, ap, subst, ◌∙◌, arith, append_assoc, Option, Some, None, inl, inr, ◌⊎◌}
use Rattle.std.specs.Prelude.{ℤ, ◌==◌}
use Rattle.std.specs.Ordering.{int_eq}
use Rattle.std.specs.Fmt.{decimal, signed_decimal}
use Rattle.std.specs.List.{AllByRecursion}
use Rattle.std.proofs.lemmas.List.{append-nil}
use Rattle.std.proofs.lemmas.Bool.Decides.{nat_tests}
use Rattle.qf_ir.specs.Fits.{Small}
use Rattle.qf_lex.specs.declared.bytes.Class.{Class}
use Rattle.qf_lex.specs.declared.bytes.Class.TheVariants as class
use Rattle.qf_lex.specs.declared.bytes.Run.TheVariants as run
use Rattle.qf_lex.specs.declared.bytes.Before.{Before}
use Rattle.qf_lex.specs.declared.bytes.Before.TheVariants as before
use Rattle.qf_lex.specs.Pieces.{Piece, mark, blank, comment, word, number, string, one, two, class_of, in_word, goes_on, pairs, text_of, spelling, Stops, Each, StandsAlone, Fits, Stand, then_before}
use Rattle.qf_lex.specs.Tokens.{value_of, signed, IsSound}
use Rattle.qf_lex.proofs.Scanning.{not_empty}
use Rattle.qf_splice.specs.RepairedText.{joins}
use Rattle.qf_splice.proofs.Numerals.{numeral_of, numeral_text, is_minus, size_of, Begins, numeral_begins, numeral_starts, old_begins}

-- ---- the pieces with other numbers

-- the last byte of a text, or the one before it
abbrev pub last_of : Option ℕ → List ℕ → Option ℕ
last_of last [] = last
last_of last (b ∷ bytes) = last_of (Some b) bytes

-- whether a numeral would join the byte before it
abbrev pub joined : Option ℕ → List ℕ → Bool
joined None numeral = false
joined (Some last) [] = false
joined (Some last) (first ∷ numeral) = joins last first

abbrev pub with_blank : Bool → Piece → List Piece
with_blank true p = blank 32 ∷ p ∷ []
with_blank false p = p ∷ []

-- a number in place of another, which stays where its value is the same
abbrev pub new_number : Option ℕ → ℤ → Piece → Bool → List Piece
new_number last z p true = p ∷ []
new_number last z p false = with_blank (joined last (signed_decimal z)) (numeral_of z)

-- the pieces behind this byte, with these numbers for theirs
abbrev pub new_pieces : Option ℕ → List ℤ → List Piece → List Piece
new_pieces last zs [] = []
new_pieces last zs (mark ∷ ps) = mark ∷ new_pieces (last_of last (text_of mark)) zs ps
new_pieces last zs (blank b ∷ ps) = blank b ∷ new_pieces (last_of last (text_of (blank b))) zs ps
new_pieces last zs (comment text ∷ ps) = comment text ∷ new_pieces (last_of last (text_of (comment text))) zs ps
new_pieces last zs (word text ∷ ps) = word text ∷ new_pieces (last_of last (text_of (word text))) zs ps
new_pieces last zs (string body ∷ ps) = string body ∷ new_pieces (last_of last (text_of (string body))) zs ps
new_pieces last zs (one b ∷ ps) = one b ∷ new_pieces (last_of last (text_of (one b))) zs ps
new_pieces last zs (two b c ∷ ps) = two b c ∷ new_pieces (last_of last (text_of (two b c))) zs ps
new_pieces last [] (number minus digits ∷ ps) = number minus digits ∷ new_pieces (last_of last (text_of (number minus digits))) [] ps
new_pieces last (z ∷ zs) (number minus digits ∷ ps) =
    new_number last z (number minus digits) (int_eq z (signed minus (value_of digits))) ++ new_pieces (last_of last (text_of (number minus digits))) zs ps

-- ---- pieces up to the end of the log

abbrev pub Follow : Before → List Piece → Type 0
Follow b [] = Unit {0}
Follow b (p ∷ ps) = Fits b p (spelling ps) × Follow (then_before b p) ps

pub follow_from : (b : Before) (ps : List Piece) → Stand b ps [] → Follow b ps
follow_from b [] h = tt
follow_from b (p ∷ ps) h = (subst (Fits b p) (append-nil (spelling ps)) h.0, follow_from (then_before b p) ps h.1)

pub stand_from : (b : Before) (ps : List Piece) → Follow b ps → Stand b ps []
stand_from b [] h = tt
stand_from b (p ∷ ps) h = (subst (Fits b p) (sym (append-nil (spelling ps))) h.0, stand_from (then_before b p) ps h.1)

-- no number stands behind a value
abbrev pub NotBehind : Before → Piece → Type 0
NotBehind b (number minus digits) = b ≢ before.Value
NotBehind b p = Unit {0}

abbrev pub Unvalued : Before → List Piece → Type 0
Unvalued b [] = Unit {0}
Unvalued b (p ∷ ps) = NotBehind b p × Unvalued (then_before b p) ps

-- ---- what fits looks at the next byte alone

abbrev SameHead : List ℕ → List ℕ → Type 0
SameHead [] [] = Unit {0}
SameHead [] (y ∷ ys) = ⊥
SameHead (x ∷ xs) [] = ⊥
SameHead (x ∷ xs) (y ∷ ys) = x ≡ y

same_head : (text xs ys : List ℕ) → 0 < length text → SameHead (text ++ xs) (text ++ ys)
same_head [] xs ys lt = absurd (omega arith)
same_head (x ∷ text) xs ys lt = refl

stops_same : (p : ℕ → Bool) (xs ys : List ℕ) → SameHead xs ys → Stops p xs → Stops p ys
stops_same p [] [] h s = tt
stops_same p [] (y ∷ ys) h s = absurd h
stops_same p (x ∷ xs) [] h s = absurd h
stops_same p (x ∷ xs) (y ∷ ys) h s = ap p (sym h) ∙ s

alone_same : (b : Before) (xs ys : List ℕ) → SameHead xs ys → StandsAlone b xs → StandsAlone b ys
alone_same b [] [] h s = tt
alone_same b [] (y ∷ ys) h s = absurd h
alone_same b (x ∷ xs) [] h s = absurd h
alone_same b (x ∷ xs) (y ∷ ys) h s = (λ e. s.0 (ap class_of h ∙ e), λ e. s.1 (ap class_of h ∙ e))

fits_same : (b : Before) (p : Piece) (xs ys : List ℕ) → SameHead xs ys → Fits b p xs → Fits b p ys
fits_same b mark xs ys h f = f
fits_same b (blank x) xs ys h f = f
fits_same b (comment text) xs ys h f = (f.0, stops_same (goes_on run.Line) xs ys h f.1)
fits_same b (word text) xs ys h f = (f.0, f.1, stops_same (goes_on run.Word) xs ys h f.2)
fits_same b (number true digits) xs ys h f = (f.0, f.1, stops_same (goes_on run.Digits) xs ys h f.2, f.3)
fits_same b (number false digits) xs ys h f = (f.0, f.1, stops_same (goes_on run.Digits) xs ys h f.2)
fits_same b (string body) xs ys h f = (f.0, stops_same (λ c. c == 39) xs ys h f.1)
fits_same b (one x) xs ys h f = (f.0, stops_same (λ c. pairs (class_of x) (class_of c)) xs ys h f.1, λ e. alone_same b xs ys h (f.2 e))
fits_same b (two x y) xs ys h f = f

-- ---- a blank, a `-` or a digit in place of a `-` or a digit

abbrev Numeral : ℕ → Type 0
Numeral x = (class_of x ≡ class.Dash) ⊎ (class_of x ≡ class.Digit)

pairs_none : (j k : Class) → (k ≡ class.Blank) ⊎ ((k ≡ class.Dash) ⊎ (k ≡ class.Digit)) → pairs j k ≡ false
pairs_none class.Less k (inl e) = ap (pairs class.Less) e
pairs_none class.Less k (inr (inl e)) = ap (pairs class.Less) e
pairs_none class.Less k (inr (inr e)) = ap (pairs class.Less) e
pairs_none class.Greater k (inl e) = ap (pairs class.Greater) e
pairs_none class.Greater k (inr (inl e)) = ap (pairs class.Greater) e
pairs_none class.Greater k (inr (inr e)) = ap (pairs class.Greater) e
pairs_none class.Bang k (inl e) = ap (pairs class.Bang) e
pairs_none class.Bang k (inr (inl e)) = ap (pairs class.Bang) e
pairs_none class.Bang k (inr (inr e)) = ap (pairs class.Bang) e
pairs_none j k h = refl

no_line : (x : ℕ) → Numeral x → goes_on run.Line x ≡ false → ⊥
no_line x (inl e) f = grind (arith, nat_tests)
no_line x (inr e) f = grind (arith, nat_tests)

no_quote : (x : ℕ) → Numeral x → (x == 39) ≡ false
no_quote x (inl e) = grind (arith, nat_tests)
no_quote x (inr e) = grind (arith, nat_tests)

fits_blank : (b : Before) (p : Piece) (old : ℕ) (olds news : List ℕ) → Numeral old → Fits b p (old ∷ olds) → Fits b p (32 ∷ news)
fits_blank b mark old olds news n f = f
fits_blank b (blank x) old olds news n f = f
fits_blank b (comment text) old olds news n f = absurd (no_line old n f.1)
fits_blank b (word text) old olds news n f = (f.0, f.1, refl)
fits_blank b (number true digits) old olds news n f = (f.0, f.1, refl, f.3)
fits_blank b (number false digits) old olds news n f = (f.0, f.1, refl)
fits_blank b (string body) old olds news n f = (f.0, refl)
fits_blank b (one x) old olds news n f = (f.0, pairs_none (class_of x) class.Blank (inl refl), λ e. (λ d. cc, λ d. absurd cc))
fits_blank b (two x y) old olds news n f = f

-- the last byte of a run is of the run
pub record Last (q : ℕ → Bool) (last : Option ℕ) (text : List ℕ) : Type 0 where
  pub byte : ℕ
  pub is : last_of last text ≡ Some byte
  pub of : q byte ≡ true

last_each : (q : ℕ → Bool) (last : Option ℕ) (x : ℕ) (xs : List ℕ) → Each q (x ∷ xs) → Last q last (x ∷ xs)
last_each q last x [] h = record { byte = x; is = refl; of = h.0 }
last_each q last x (y ∷ ys) h = let l = last_each q (Some x) y ys h.1 in record { byte = l.byte; is = l.is; of = l.of }

word_joins : (last first : ℕ) → goes_on run.Word last ≡ true → class_of first ≡ class.Digit → joins last first ≡ true
word_joins last first w d = grind (arith, nat_tests)

dash_is : (x : ℕ) → class_of x ≡ class.Dash → x ≡ 45
dash_is x e = grind (arith, nat_tests)

dash_joins : (last first : ℕ) → class_of last ≡ class.Dash → class_of first ≡ class.Dash → joins last first ≡ true
dash_joins last first d e = ap (λ x. joins x first) (dash_is last d) ∙ ap (joins 45) (dash_is first e)

-- behind a word comes no digit that does not join it
word_stops : (last : Option ℕ) (text : List ℕ) (first : ℕ) (numeral : List ℕ) → Each (goes_on run.Word) text → 0 < length text → Numeral first → joined (last_of last text) (first ∷ numeral) ≡ false → goes_on run.Word first ≡ false
word_stops last [] first numeral e lt n j = absurd (omega arith)
word_stops last (x ∷ xs) first numeral e lt (inl d) j = ap in_word d
word_stops last (x ∷ xs) first numeral e lt (inr d) j =
    let l = last_each (goes_on run.Word) last x xs e in
    let yes : joined (last_of last (x ∷ xs)) (first ∷ numeral) ≡ true = ap (λ o. joined o (first ∷ numeral)) l.is ∙ word_joins l.byte first l.of d in
    absurd cc

-- a `-` that is a symbol
dash_stops : (b : Before) (x old first : ℕ) (olds news : List ℕ) → class_of x ≡ class.Dash → Numeral old → Numeral first → joins x first ≡ false → StandsAlone b (old ∷ olds) → StandsAlone b (first ∷ news)
dash_stops b x old first olds news e (inl o) n j s = absurd (s.0 o)
dash_stops b x old first olds news e (inr o) (inl d) j s = let yes = dash_joins x first e d in absurd cc
dash_stops b x old first olds news e (inr o) (inr d) j s = (λ k. cc, λ k. s.1 o)

fits_changed : (b : Before) (p : Piece) (last : Option ℕ) (old first : ℕ) (olds news numeral : List ℕ) → Numeral old → Numeral first → joined (last_of last (text_of p)) (first ∷ numeral) ≡ false → then_before b p ≢ before.Value → Fits b p (old ∷ olds) → Fits b p (first ∷ news)
fits_changed b mark last old first olds news numeral o n j v f = f
fits_changed b (blank x) last old first olds news numeral o n j v f = f
fits_changed b (comment text) last old first olds news numeral o n j v f = absurd (no_line old o f.1)
fits_changed b (word text) last old first olds news numeral o n j v f = (f.0, f.1, word_stops last text first numeral f.1 (not_empty b (word text) (old ∷ olds) f) n j)
fits_changed b (number true digits) last old first olds news numeral o n j v f = absurd (v refl)
fits_changed b (number false digits) last old first olds news numeral o n j v f = absurd (v refl)
fits_changed b (string body) last old first olds news numeral o n j v f = (f.0, no_quote first n)
fits_changed b (one x) last old first olds news numeral o n j v f = (f.0, pairs_none (class_of x) (class_of first) (inr n), λ e. dash_stops b x old first olds news e o n j (f.2 e))
fits_changed b (two x y) last old first olds news numeral o n j v f = f

-- ---- a piece before the pieces with other numbers

-- before a number that has changed
number_case : (b : Before) (p : Piece) (last : Option ℕ) (z : ℤ) (text rest others : List ℕ) (v : Bool) → joined (last_of last (text_of p)) (signed_decimal z) ≡ v → Small z → Begins (text ++ rest) → then_before b p ≢ before.Value → Fits b p (text ++ rest)
    → Fits b p (spelling (with_blank v (numeral_of z)) ++ others)
number_case b p last z text rest others true j small o v f = fits_blank b p o.first o.others ((text_of (numeral_of z) ++ []) ++ others) o.kind (subst (Fits b p) o.parts f)
number_case b p last z text rest others false j small o v f =
    let n = numeral_begins z small in
    let parts : spelling (with_blank false (numeral_of z)) ++ others ≡ n.first ∷ (n.others ++ others) = ap (λ t. t ++ others) (append-nil (text_of (numeral_of z)) ∙ numeral_text z ∙ n.parts) in
    let j' : joined (last_of last (text_of p)) (n.first ∷ n.others) ≡ false = ap (joined (last_of last (text_of p))) (sym n.parts) ∙ j in
    subst (Fits b p) (sym parts) (fits_changed b p last o.first n.first o.others (n.others ++ others) n.others o.kind n.kind j' v (subst (Fits b p) o.parts f))

spelled : (ps qs : List Piece) → spelling (ps ++ qs) ≡ spelling ps ++ spelling qs
spelled [] qs = refl
spelled (p ∷ ps) qs = ap (λ t. text_of p ++ t) (spelled ps qs) ∙ sym (append_assoc (text_of p) (spelling ps) (spelling qs))

new_case : (b : Before) (p : Piece) (last : Option ℕ) (z : ℤ) (minus : Bool) (digits rest : List ℕ) (others : List Piece) (v : Bool) → Small z → Fits (then_before b p) (number minus digits) rest → then_before b p ≢ before.Value → Fits b p (text_of (number minus digits) ++ rest)
    → Fits b p (spelling (new_number (last_of last (text_of p)) z (number minus digits) v ++ others))
new_case b p last z minus digits rest others true small q v f =
    fits_same b p (text_of (number minus digits) ++ rest) (text_of (number minus digits) ++ spelling others) (same_head (text_of (number minus digits)) rest (spelling others) (not_empty (then_before b p) (number minus digits) rest q)) f
new_case b p last z true digits rest others false small q v f =
    subst (Fits b p) (sym (spelled (with_blank (joined (last_of last (text_of p)) (signed_decimal z)) (numeral_of z)) others))
    (number_case b p last z (text_of (number true digits)) rest (spelling others) (joined (last_of last (text_of p)) (signed_decimal z)) refl small (old_begins true digits rest q.0) v f)
new_case b p last z false digits rest others false small q v f =
    subst (Fits b p) (sym (spelled (with_blank (joined (last_of last (text_of p)) (signed_decimal z)) (numeral_of z)) others))
    (number_case b p last z (text_of (number false digits)) rest (spelling others) (joined (last_of last (text_of p)) (signed_decimal z)) refl small (old_begins false digits rest q.0) v f)

same_next : (b : Before) (p q : Piece) (rest others : List ℕ) → Fits (then_before b p) q rest → Fits b p (text_of q ++ rest) → Fits b p (text_of q ++ others)
same_next b p q rest others f h = fits_same b p (text_of q ++ rest) (text_of q ++ others) (same_head (text_of q) rest others (not_empty (then_before b p) q rest f)) h

fits_new : (b : Before) (p : Piece) (last : Option ℕ) (zs : List ℤ) (ps : List Piece) → AllByRecursion Small zs → Follow (then_before b p) ps → Unvalued (then_before b p) ps → Fits b p (spelling ps) → Fits b p (spelling (new_pieces (last_of last (text_of p)) zs ps))
fits_new b p last zs [] small h u f = f
fits_new b p last zs (mark ∷ ps) small h u f = same_next b p mark (spelling ps) (spelling (new_pieces (last_of (last_of last (text_of p)) (text_of mark)) zs ps)) h.0 f
fits_new b p last zs (blank x ∷ ps) small h u f = same_next b p (blank x) (spelling ps) (spelling (new_pieces (last_of (last_of last (text_of p)) (text_of (blank x))) zs ps)) h.0 f
fits_new b p last zs (comment text ∷ ps) small h u f = same_next b p (comment text) (spelling ps) (spelling (new_pieces (last_of (last_of last (text_of p)) (text_of (comment text))) zs ps)) h.0 f
fits_new b p last zs (word text ∷ ps) small h u f = same_next b p (word text) (spelling ps) (spelling (new_pieces (last_of (last_of last (text_of p)) (text_of (word text))) zs ps)) h.0 f
fits_new b p last zs (string body ∷ ps) small h u f = same_next b p (string body) (spelling ps) (spelling (new_pieces (last_of (last_of last (text_of p)) (text_of (string body))) zs ps)) h.0 f
fits_new b p last zs (one x ∷ ps) small h u f = same_next b p (one x) (spelling ps) (spelling (new_pieces (last_of (last_of last (text_of p)) (text_of (one x))) zs ps)) h.0 f
fits_new b p last zs (two x y ∷ ps) small h u f = same_next b p (two x y) (spelling ps) (spelling (new_pieces (last_of (last_of last (text_of p)) (text_of (two x y))) zs ps)) h.0 f
fits_new b p last [] (number minus digits ∷ ps) small h u f = same_next b p (number minus digits) (spelling ps) (spelling (new_pieces (last_of (last_of last (text_of p)) (text_of (number minus digits))) [] ps)) h.0 f
fits_new b p last (z ∷ zs) (number minus digits ∷ ps) small h u f =
    new_case b p last z minus digits (spelling ps) (new_pieces (last_of (last_of last (text_of p)) (text_of (number minus digits))) zs ps) (int_eq z (signed minus (value_of digits))) small.0 h.0 u.0 f

-- ---- all pieces

numeral_fits : (b : Before) (z : ℤ) (rest : List ℕ) → Small z → b ≢ before.Value → Stops (goes_on run.Digits) rest → Fits b (numeral_of z) rest
numeral_fits b z rest small v s = minus_case b (is_minus z) (decimal (size_of z)) rest (numeral_starts z small) v s
  where
    minus_case : (b : Before) (m : Bool) (digits rest : List ℕ) → Rattle.qf_lex.specs.Pieces.Starts class.Digit digits × Each (goes_on run.Digits) digits → b ≢ before.Value → Stops (goes_on run.Digits) rest → Fits b (number m digits) rest
    minus_case b true digits rest h v s = (h.0, h.1, s, v)
    minus_case b false digits rest h v s = (h.0, h.1, s)

number_stops : (b : Before) (minus : Bool) (digits rest : List ℕ) → Fits b (number minus digits) rest → Stops (goes_on run.Digits) rest
number_stops b true digits rest f = f.2
number_stops b false digits rest f = f.2

not_value : (b : Before) → b ≢ before.Value → then_before b (blank 32) ≢ before.Value
not_value before.Start v = λ e. cc
not_value before.Value v = λ e. v refl
not_value before.Other v = λ e. cc

follow_blank : (b : Before) (z : ℤ) (ps : List Piece) (v : Bool) → Small z → b ≢ before.Value → Stops (goes_on run.Digits) (spelling ps) → Follow before.Value ps → Follow b (with_blank v (numeral_of z) ++ ps)
follow_blank b z ps true small v s h = (refl, (numeral_fits (then_before b (blank 32)) z (spelling ps) small (not_value b v) s, h))
follow_blank b z ps false small v s h = (numeral_fits b z (spelling ps) small v s, h)

follow_number : (b : Before) (last : Option ℕ) (z : ℤ) (minus : Bool) (digits : List ℕ) (ps : List Piece) (v : Bool) → Small z → b ≢ before.Value → Fits b (number minus digits) (spelling ps) → Follow before.Value ps → Follow b (new_number last z (number minus digits) v ++ ps)
follow_number b last z minus digits ps true small v f h = (f, h)
follow_number b last z minus digits ps false small v f h = follow_blank b z ps (joined last (signed_decimal z)) small v (number_stops b minus digits (spelling ps) f) h

pub follow_new : (b : Before) (last : Option ℕ) (zs : List ℤ) (ps : List Piece) → AllByRecursion Small zs → Follow b ps → Unvalued b ps → Follow b (new_pieces last zs ps)
follow_new b last zs [] small h u = tt
follow_new b last zs (mark ∷ ps) small h u = (fits_new b mark last zs ps small h.1 u.1 h.0, follow_new (then_before b mark) (last_of last (text_of mark)) zs ps small h.1 u.1)
follow_new b last zs (blank x ∷ ps) small h u = (fits_new b (blank x) last zs ps small h.1 u.1 h.0, follow_new (then_before b (blank x)) (last_of last (text_of (blank x))) zs ps small h.1 u.1)
follow_new b last zs (comment text ∷ ps) small h u = (fits_new b (comment text) last zs ps small h.1 u.1 h.0, follow_new (then_before b (comment text)) (last_of last (text_of (comment text))) zs ps small h.1 u.1)
follow_new b last zs (word text ∷ ps) small h u = (fits_new b (word text) last zs ps small h.1 u.1 h.0, follow_new (then_before b (word text)) (last_of last (text_of (word text))) zs ps small h.1 u.1)
follow_new b last zs (string body ∷ ps) small h u = (fits_new b (string body) last zs ps small h.1 u.1 h.0, follow_new (then_before b (string body)) (last_of last (text_of (string body))) zs ps small h.1 u.1)
follow_new b last zs (one x ∷ ps) small h u = (fits_new b (one x) last zs ps small h.1 u.1 h.0, follow_new (then_before b (one x)) (last_of last (text_of (one x))) zs ps small h.1 u.1)
follow_new b last zs (two x y ∷ ps) small h u = (fits_new b (two x y) last zs ps small h.1 u.1 h.0, follow_new (then_before b (two x y)) (last_of last (text_of (two x y))) zs ps small h.1 u.1)
follow_new b last [] (number minus digits ∷ ps) small h u =
    (fits_new b (number minus digits) last [] ps small h.1 u.1 h.0, follow_new before.Value (last_of last (text_of (number minus digits))) [] ps small h.1 u.1)
follow_new b last (z ∷ zs) (number minus digits ∷ ps) small h u =
    follow_number b last z minus digits (new_pieces (last_of last (text_of (number minus digits))) zs ps) (int_eq z (signed minus (value_of digits))) small.0 u.0
    (fits_new b (number minus digits) last zs ps small.1 h.1 u.1 h.0) (follow_new before.Value (last_of last (text_of (number minus digits))) zs ps small.1 h.1 u.1)

-- ---- sound pieces

sound_number : (last : Option ℕ) (z : ℤ) (p : Piece) (ps : List Piece) (v : Bool) → IsSound p → IsSound (numeral_of z) → AllByRecursion IsSound ps → AllByRecursion IsSound (new_number last z p v ++ ps)
sound_number last z p ps true s n h = (s, h)
sound_number last z p ps false s n h = blank_case (joined last (signed_decimal z)) (numeral_of z) ps n h
  where
    blank_case : (v : Bool) (p : Piece) (ps : List Piece) → IsSound p → AllByRecursion IsSound ps → AllByRecursion IsSound (with_blank v p ++ ps)
    blank_case true p ps n h = (tt, (n, h))
    blank_case false p ps n h = (n, h)

pub sound_new : (last : Option ℕ) (zs : List ℤ) (ps : List Piece) → AllByRecursion (λ (z : ℤ). IsSound (numeral_of z)) zs → AllByRecursion IsSound ps → AllByRecursion IsSound (new_pieces last zs ps)
sound_new last zs [] n h = tt
sound_new last zs (mark ∷ ps) n h = (h.0, sound_new (last_of last (text_of mark)) zs ps n h.1)
sound_new last zs (blank x ∷ ps) n h = (h.0, sound_new (last_of last (text_of (blank x))) zs ps n h.1)
sound_new last zs (comment text ∷ ps) n h = (h.0, sound_new (last_of last (text_of (comment text))) zs ps n h.1)
sound_new last zs (word text ∷ ps) n h = (h.0, sound_new (last_of last (text_of (word text))) zs ps n h.1)
sound_new last zs (string body ∷ ps) n h = (h.0, sound_new (last_of last (text_of (string body))) zs ps n h.1)
sound_new last zs (one x ∷ ps) n h = (h.0, sound_new (last_of last (text_of (one x))) zs ps n h.1)
sound_new last zs (two x y ∷ ps) n h = (h.0, sound_new (last_of last (text_of (two x y))) zs ps n h.1)
sound_new last [] (number minus digits ∷ ps) n h = (h.0, sound_new (last_of last (text_of (number minus digits))) [] ps n h.1)
sound_new last (z ∷ zs) (number minus digits ∷ ps) n h =
    sound_number last z (number minus digits) (new_pieces (last_of last (text_of (number minus digits))) zs ps) (int_eq z (signed minus (value_of digits))) h.0 n.0
    (sound_new (last_of last (text_of (number minus digits))) zs ps n.1 h.1)
