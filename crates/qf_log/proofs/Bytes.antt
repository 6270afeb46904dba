-- The bytes of words and texts.
use Rattle.std.proofs.Common.{◌≡◌, ℕ, zero, suc, ◌+◌, ◌<◌, ◌≤◌, Bool, true, false, List, [], ◌∷◌, ◌++◌, length, get_or, take, drop, refl, sym, ap, subst, ◌∙◌, arith, append_assoc, Some}
use Rattle.std.specs.Prelude.{◌==◌, slice_range, IsUtf8}
use Rattle.std.specs.Str.{IsAscii}
use Rattle.std.proofs.lemmas.Bool.Decides.{nat_tests}
use Rattle.std.proofs.lemmas.Str.{IsUtf8-take, IsUtf8-drop, IsUtf8-append, IsUtf8-from_ascii, IsCharBoundary-before_ascii, IsCharBoundary-after_ascii}
use Rattle.std.proofs.lemmas.List.{take-append-le, drop-append-le, take_all, drop_all, length-append}
use Rattle.qf_lex.specs.declared.bytes.Run.TheVariants as run
use Rattle.qf_lex.specs.declared.token.Token.{Token}
use Rattle.qf_lex.specs.declared.token.TokenKind.TheVariants as kind
use Rattle.qf_lex.specs.Pieces.{Piece, mark, blank, comment, word, number, string, one, two, class_of, in_word, goes_on, Each, text_of, doubled, Fits}
use Rattle.qf_lex.specs.declared.bytes.Before.{Before}
use Rattle.qf_lex.specs.Tokens.{kind_of, IsSound, StandsIn}
use Rattle.qf_log.specs.Said.{single_quoted, between_quotes}

-- ---- words

word_byte : (b : ℕ) → in_word (class_of b) ≡ true → b < 128
word_byte b h = grind (arith, nat_tests)

word_ascii : (text : List ℕ) → Each (goes_on run.Word) text → IsAscii text
word_ascii [] h i = omega arith
word_ascii (b ∷ text) h zero = word_byte b h.0
word_ascii (b ∷ text) h (suc i) = word_ascii text h.1 i

-- ---- texts

other_byte : (b : ℕ) (bytes : List ℕ) → (b == 39) ≡ false → single_quoted (b ∷ bytes) ≡ b ∷ single_quoted bytes
unfolding single_quoted
other_byte b [] e = refl
other_byte b (c ∷ bytes) e = rw e refl

is_quote : (b : ℕ) → (b == 39) ≡ true → b ≡ 39
is_quote b e = grind (arith, nat_tests)

single_case : (b : ℕ) (content : List ℕ) (v : Bool) → (b == 39) ≡ v → single_quoted (doubled content) ≡ content → single_quoted (doubled (b ∷ content)) ≡ b ∷ content
unfolding single_quoted
single_case b content true e h = rw e (ap (λ t. 39 ∷ t) h ∙ ap (λ c. c ∷ content) (sym (is_quote b e)))
single_case b content false e h = rw e (other_byte b (doubled content) e ∙ ap (λ t. b ∷ t) h)

-- the text that a string stands for
pub single_doubled : (content : List ℕ) → single_quoted (doubled content) ≡ content
unfolding single_quoted
single_doubled [] = refl
single_doubled (b ∷ content) = single_case b content (b == 39) refl (single_doubled content)

quote_at : (front rest : List ℕ) → get_or (front ++ 39 ∷ rest) (length front) 0 ≡ 39
quote_at [] rest = refl
quote_at (b ∷ front) rest = quote_at front rest

take_front : (front rest : List ℕ) → take (length front) (front ++ rest) ≡ front
take_front front rest = take-append-le (length front) front rest (omega arith) ∙ take_all (length front) front (omega arith)

drop_front : (front rest : List ℕ) → drop (length front) (front ++ rest) ≡ rest
drop_front front rest = drop-append-le (length front) front rest (omega arith) ∙ ap (λ t. t ++ rest) (drop_all (length front) front (omega arith))

-- the front and the rest of a text that is cut at a quote
front_utf8 : (front rest : List ℕ) → IsUtf8 (front ++ 39 ∷ rest) → IsUtf8 front
front_utf8 front rest h =
    let whole = front ++ 39 ∷ rest in
    let within : length front < length whole = omega (arith, length-append front (39 ∷ rest)) in
    subst IsUtf8 (take_front front (39 ∷ rest)) (IsUtf8-take whole (length front) h (IsCharBoundary-before_ascii whole (length front) within (omega (arith, quote_at front rest))))

rest_utf8 : (front rest : List ℕ) → IsUtf8 (front ++ 39 ∷ rest) → IsUtf8 rest
rest_utf8 front rest h =
    let whole = front ++ 39 ∷ rest in
    let within : length front < length whole = omega (arith, length-append front (39 ∷ rest)) in
    let behind : drop (length front + 1) whole ≡ rest =
    ap (λ t. drop (length front + 1) t) (sym (append_assoc front (39 ∷ []) rest)) ∙ ap (λ n. drop n ((front ++ 39 ∷ []) ++ rest)) (sym (length-append front (39 ∷ []))) ∙ drop_front (front ++ 39 ∷ []) rest in
    subst IsUtf8 behind (IsUtf8-drop whole (length front + 1) h (IsCharBoundary-after_ascii whole (length front) h within (omega (arith, quote_at front rest))))

quote_ascii : IsAscii (39 ∷ [])
quote_ascii zero = omega arith
quote_ascii (suc i) = omega arith

utf8_case : (front : List ℕ) (b : ℕ) (content : List ℕ) (v : Bool) → (b == 39) ≡ v → ((next : List ℕ) → IsUtf8 (next ++ doubled content) → IsUtf8 (next ++ content)) → IsUtf8 (front ++ doubled (b ∷ content)) → IsUtf8 (front ++ b ∷ content)
utf8_case front b content true e again h =
    let quoted : IsUtf8 (front ++ 39 ∷ 39 ∷ doubled content) = rw e at h in
    let rest : IsUtf8 content = again [] (rest_utf8 [] (doubled content) (rest_utf8 front (39 ∷ doubled content) quoted)) in
    let first : IsUtf8 (39 ∷ content) = IsUtf8-append (39 ∷ []) content (IsUtf8-from_ascii (39 ∷ []) quote_ascii) rest in
    subst (λ c. IsUtf8 (front ++ c ∷ content)) (sym (is_quote b e)) (IsUtf8-append front (39 ∷ content) (front_utf8 front (39 ∷ doubled content) quoted) first)
utf8_case front b content false e again h =
    let plain : IsUtf8 (front ++ b ∷ doubled content) = rw e at h in
    subst IsUtf8 (append_assoc front (b ∷ []) content) (again (front ++ b ∷ []) (subst IsUtf8 (sym (append_assoc front (b ∷ []) (doubled content))) plain))

pub single_utf8 : (front content : List ℕ) → IsUtf8 (front ++ doubled content) → IsUtf8 (front ++ content)
single_utf8 front [] h = h
single_utf8 front (b ∷ content) h = utf8_case front b content (b == 39) refl (λ next. single_utf8 next content) h

between : (body : List ℕ) → between_quotes (39 ∷ (body ++ 39 ∷ [])) ≡ body
between body = ap (λ n. take n (body ++ 39 ∷ [])) (omega (arith, length-append body (39 ∷ []))) ∙ take_front body (39 ∷ [])

-- ---- tokens

word_case : (b : Before) (p : Piece) (after : List ℕ) → Fits b p after → kind_of p ≡ Some kind.Word → IsAscii (text_of p)
word_case b (word text) after f e = word_ascii text f.1
word_case b mark after f e = absurd cc
word_case b (blank x) after f e = absurd cc
word_case b (comment text) after f e = absurd cc
word_case b (number minus digits) after f e = absurd cc
word_case b (string body) after f e = absurd cc
word_case b (one x) after f e = absurd cc
word_case b (two x y) after f e = absurd cc

string_case : (b : Before) (p : Piece) (after : List ℕ) → Fits b p after → IsSound p → kind_of p ≡ Some kind.Str → IsUtf8 (single_quoted (between_quotes (text_of p)))
string_case b (string body) after f s e =
    let text : single_quoted (between_quotes (39 ∷ (body ++ 39 ∷ []))) ≡ f.0.0 = ap single_quoted (between body ∙ f.0.1) ∙ single_doubled f.0.0 in
    subst IsUtf8 (sym text) (single_utf8 [] f.0.0 (subst IsUtf8 f.0.1 s))
string_case b mark after f s e = absurd cc
string_case b (blank x) after f s e = absurd cc
string_case b (comment text) after f s e = absurd cc
string_case b (word text) after f s e = absurd cc
string_case b (number minus digits) after f s e = absurd cc
string_case b (one x) after f s e = absurd cc
string_case b (two x y) after f s e = absurd cc

string_long : (b : Before) (p : Piece) → kind_of p ≡ Some kind.Str → 2 ≤ length (text_of p)
string_long b (string body) e = omega (arith, length-append body (39 ∷ []))
string_long b mark e = absurd cc
string_long b (blank x) e = absurd cc
string_long b (comment text) e = absurd cc
string_long b (word text) e = absurd cc
string_long b (number minus digits) e = absurd cc
string_long b (one x) e = absurd cc
string_long b (two x y) e = absurd cc

pub word_is_ascii : (bytes : List ℕ) (t : Token) → StandsIn bytes t → t.kind ≡ kind.Word → IsAscii (slice_range bytes t.start t.end)
word_is_ascii bytes t h e = subst IsAscii (sym h.text) (word_case h.before h.piece (drop t.end bytes) h.fits (h.kind ∙ ap (λ k. Some k) e))

pub string_is_utf8 : (bytes : List ℕ) (t : Token) → StandsIn bytes t → t.kind ≡ kind.Str → IsUtf8 (single_quoted (between_quotes (slice_range bytes t.start t.end)))
string_is_utf8 bytes t h e = subst (λ text. IsUtf8 (single_quoted (between_quotes text))) (sym h.text) (string_case h.before h.piece (drop t.end bytes) h.fits h.sound (h.kind ∙ ap (λ k. Some k) e))

pub string_is_long : (bytes : List ℕ) (t : Token) → StandsIn bytes t → t.kind ≡ kind.Str → 2 ≤ length (slice_range bytes t.start t.end)
string_is_long bytes t h e = subst (λ text. 2 ≤ length text) (sym h.text) (string_long h.before h.piece (h.kind ∙ ap (λ k. Some k) e))
