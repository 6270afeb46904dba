-- Bytes have tokens or a first fault.
use Rattle.std.proofs.Common.{◌≡◌, ℕ, zero, suc, ◌+◌, ◌-◌, ◌^◌, ◌<◌, ◌≤◌, ◌==◌, Bool, true, false, List, [], ◌∷◌, ◌++◌, length, take, refl, sym, subst, ◌∙◌, arith, Some, None, inl, inr, ◌⊎◌}
use Rattle.std.specs.Prelude.{IsUtf8, if◌then◌else◌}
use Rattle.std.specs.Str.{IsValidUpTo, is_utf8}
use Rattle.std.proofs.lemmas.Bool.{cases_lt}
use Rattle.std.proofs.lemmas.List.{take_all}
use Rattle.std.proofs.lemmas.Str.{IsUtf8-from_is_utf8, is_utf8-from_IsUtf8}
use Rattle.qf_lex.specs.declared.bytes.Before.{Before}
use Rattle.qf_lex.specs.declared.bytes.Before.TheVariants as before
use Rattle.qf_lex.specs.declared.token.Token.{Token}
use Rattle.qf_lex.specs.declared.token.LexFault.{LexFault}
use Rattle.qf_lex.specs.declared.token.LexFault.TheVariants as fault
use Rattle.qf_lex.specs.Pieces.{Piece, mark, blank, comment, word, number, string, one, two, text_of, Fits, then_before}
use Rattle.qf_lex.specs.Tokens.{value_of, token_at, IsSound, FaultIn, TokensOf, FirstFaultOf}
use Rattle.qf_lex.specs.FirstPiece.{Cut, first_piece}
use Rattle.qf_lex.proofs.Cutting.{Good, first_good, found_none}
use Rattle.qf_lex.proofs.Scanning.{SoFar, start, more, all_read, unsound, is_stuck, shorter}

-- ---- a piece is sound or has a fault

abbrev NoLonger : List ℕ → ℕ → Type 0
NoLonger body n = (m : ℕ) → n < m → IsUtf8 (take m body) → ⊥

no_longer : (body : List ℕ) (n : ℕ) → is_utf8 (take (suc n) body) ≡ false → NoLonger body (suc n) → NoLonger body n
no_longer body n e h m lt u = elim (cases_lt (suc n) m) [
  | inl above ↦ h m above u
  | inr le ↦
      let same : m ≡ suc n = omega arith in
      let yes : is_utf8 (take (suc n) body) ≡ true = is_utf8-from_IsUtf8 _ (subst (λ k. IsUtf8 (take k body)) same u) in
      let clash : ◌≡◌ {A = Bool} true false = sym yes ∙ e in cc
]

abbrev Longest : List ℕ → Type 0
Longest body = (n : ℕ) × IsUtf8 (take n body) × NoLonger body n

longest_case : (body : List ℕ) (n : ℕ) (v : Bool) → is_utf8 (take (suc n) body) ≡ v → NoLonger body (suc n) → (NoLonger body n → Longest body) → Longest body
longest_case body n true e h below = (suc n, IsUtf8-from_is_utf8 _ e, h)
longest_case body n false e h below = below (no_longer body n e h)

longest : (body : List ℕ) (n : ℕ) → NoLonger body n → Longest body
longest body zero h = (0, ([], (refl, refl)), h)
longest body (suc n) h = longest_case body n (is_utf8 (take (suc n) body)) refl h (longest body n)

valid_or_not : (body : List ℕ) (v : Bool) → is_utf8 body ≡ v → IsUtf8 body ⊎ ((n : ℕ) × IsValidUpTo body n)
valid_or_not body true e = inl (IsUtf8-from_is_utf8 body e)
valid_or_not body false e =
    let not_whole : (m : ℕ) → length body ≤ m → IsUtf8 (take m body) → ⊥ = λ m le u.
    let yes : is_utf8 body ≡ true = is_utf8-from_IsUtf8 _ (subst IsUtf8 (take_all m body le) u) in
    let clash : ◌≡◌ {A = Bool} true false = sym yes ∙ e in cc in
    let best = longest body (length body) (λ m lt. not_whole m (omega arith)) in
    inr (
      best.0,
      record {
        short = elim (cases_lt best.0 (length body)) [ inl lt ↦ lt | inr le ↦ absurd (not_whole best.0 le best.1) ];
        front = best.1;
        longest = best.2;
      },
    )

abbrev SoundOrNot : ℕ → Piece → Type 0
SoundOrNot at p = IsSound p ⊎ ((f : LexFault) × FaultIn at p f)

string_sound_or_not : (at : ℕ) (body : List ℕ) → IsUtf8 body ⊎ ((n : ℕ) × IsValidUpTo body n) → SoundOrNot at (string body)
string_sound_or_not at body (inl h) = inl h
string_sound_or_not at body (inr h) = inr (fault.BadByte (at + 1 + h.0), (h.0, h.1, refl))

number_sound_or_not : (at : ℕ) (minus : Bool) (digits : List ℕ) → (2 ^ 50 < value_of digits) ⊎ (value_of digits ≤ 2 ^ 50) → SoundOrNot at (number minus digits)
number_sound_or_not at minus digits (inl h) = inr (fault.NumberTooBig at, (h, refl))
number_sound_or_not at minus digits (inr h) = inl h

sound_or_not : (at : ℕ) (p : Piece) → SoundOrNot at p
sound_or_not at (number minus digits) = number_sound_or_not at minus digits (cases_lt (2 ^ 50) (value_of digits))
sound_or_not at (string body) = string_sound_or_not at body (valid_or_not body (is_utf8 body) refl)
sound_or_not at mark = inl tt
sound_or_not at (blank x) = inl tt
sound_or_not at (comment text) = inl tt
sound_or_not at (word text) = inl tt
sound_or_not at (one x) = inl tt
sound_or_not at (two x y) = inl tt

-- ---- the scan goes to its end

abbrev Either : List ℕ → Type 0
Either bytes = ((ts : List Token) × TokensOf bytes ts) ⊎ ((f : LexFault) × FirstFaultOf bytes f)

abbrev Onward : List ℕ → List ℕ → Type 0
Onward bytes rest = (b : Before) (tokens : List Token) (after : List ℕ) → length after < length rest → SoFar bytes after b tokens → Either bytes

piece_read : (bytes rest : List ℕ) (b : Before) (tokens : List Token) (p : Piece) (after : List ℕ) → SoFar bytes rest b tokens → rest ≡ text_of p ++ after → Fits b p after
    → Onward bytes rest → SoundOrNot (length bytes - length rest) p → Either bytes
piece_read bytes rest b tokens p after s e f onward (inl sound) =
    onward (then_before b p) (tokens ++ token_at (length bytes - length rest) p) after (shorter b p rest after e f) (more bytes rest after b tokens (token_at (length bytes - length rest) p) p s e f sound refl)
piece_read bytes rest b tokens p after s e f onward (inr wrong) = inr (wrong.0, unsound bytes rest after b tokens p wrong.0 s e f wrong.1)

cut_read : (bytes : List ℕ) (x : ℕ) (rest : List ℕ) (b : Before) (tokens : List Token) (o : Cut) → o ≡ first_piece b (x ∷ rest) → Good b (x ∷ rest) o → SoFar bytes (x ∷ rest) b tokens → Onward bytes (x ∷ rest) → Either bytes
cut_read bytes x rest b tokens None e g s onward =
    let at = length bytes - length (x ∷ rest) in
    let f : LexFault = if x == 39 then fault.OpenString at else fault.BadByte at in
    inr (f, is_stuck bytes (x ∷ rest) b tokens f s (found_none b (x ∷ rest) e) refl)
cut_read bytes x rest b tokens (Some p) e g s onward = piece_read bytes (x ∷ rest) b tokens p.0 p.1 s g.0 g.1 onward (sound_or_not (length bytes - length (x ∷ rest)) p.0)

read_on : (n : ℕ) (bytes rest : List ℕ) (b : Before) (tokens : List Token) → length rest ≤ n → SoFar bytes rest b tokens → Either bytes
read_on n bytes [] b tokens le s = inl (tokens, all_read bytes [] b tokens s refl)
read_on zero bytes (x ∷ rest) b tokens le s = absurd (omega arith)
read_on (suc n) bytes (x ∷ rest) b tokens le s =
    cut_read bytes x rest b tokens (first_piece b (x ∷ rest)) refl (first_good b (x ∷ rest)) s (λ c ts after lt t. read_on n bytes after c ts (omega arith) t)

pub either : (bytes : List ℕ) → ((ts : List Token) × TokensOf bytes ts) ⊎ ((f : LexFault) × FirstFaultOf bytes f)
either bytes = read_on (length bytes) bytes bytes before.Start [] (omega arith) (start bytes)
