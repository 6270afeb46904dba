-- The first byte of a kind, and what stands before and behind it.
use Rattle.std.proofs.Common.{◌≡◌, ℕ, ◌+◌, ◌-◌, ◌==◌, Bool, true, false, cond, List, [], ◌∷◌, ◌++◌, length, take, drop, refl, sym, ap, ◌∙◌, arith, inl, inr, Option, Some, None, length-drop}
use Rattle.std.specs.List.{AllByRecursion, All, position, position_from, onto_first, join_with_byte}
use Rattle.std.proofs.Math.Seq.{take-append_seam, drop-append-add}
use Rattle.std.proofs.lemmas.Bool.{cases_Bool, eqb-true}
use Rattle.std.proofs.lemmas.List.{take_all}
use Rattle.std.proofs.lemmas.List.Elements.{All-from_recursion}
use Rattle.std.proofs.lemmas.List.Splits.{slice_split_none, slice_split_at, join_with_byte-slice_split}
use Rattle.std.proofs.lemmas.Iterator.Adapters.{position_from-zero}
use Rattle.std.specs.Prelude.{IfSome, IfNone}
use denote.Ref.{Bor}
use Rattle.qf_certtext.specs.Words.{is_space, words_of, bare_answer, line_of_words, line_behind, numbered_line}
use Rattle.std.specs.Str.{bytes_eq}
use lib.Chars.{codes}

pub record IsCut (byte : ℕ) (bytes : List ℕ) (place : ℕ) : Type 0 where
  pub front : List ℕ
  pub back : List ℕ
  pub whole : bytes ≡ front ++ byte ∷ back
  pub place_is : place ≡ length front
  pub other : AllByRecursion (λ b. (b == byte) ≡ false) front

some_same : (a b : ℕ) → (◌≡◌ {A = Option ℕ} (Some a) (Some b)) → a ≡ b
some_same a b e = cc

cut_from : (byte : ℕ) (bytes : List ℕ) (start n : ℕ) → position_from (λ b. b == byte) start bytes ≡ Some n → (m : ℕ) × (n ≡ start + m) × IsCut byte bytes m
cut_from byte [] start n e = cc
cut_from byte (x ∷ xs) start n e =
    elim (cases_Bool (x == byte)) [
      | inl y ↦ (
        0,
        omega (arith, some_same start n (rw y at e)),
        record { front = []; back = xs; whole = ap (λ b. b ∷ xs) (eqb-true x byte y); place_is = refl; other = tt },
      )
      | inr z ↦
          let more = cut_from byte xs (start + 1) n (rw z at e) in (
            more.0 + 1,
            omega (arith, more.1),
            record {
              front = x ∷ more.2.front;
              back = more.2.back;
              whole = ap (λ bs. x ∷ bs) more.2.whole;
              place_is = omega (arith, more.2.place_is);
              other = (z, more.2.other);
            },
          )
    ]

none_from : (byte : ℕ) (bytes : List ℕ) (start : ℕ) → position_from (λ b. b == byte) start bytes ≡ None → AllByRecursion (λ b. (b == byte) ≡ false) bytes
none_from byte [] start e = tt
none_from byte (x ∷ xs) start e =
    elim (cases_Bool (x == byte)) [
      | inl y ↦ let bad = rw y at e in cc
      | inr z ↦ (z, none_from byte xs (start + 1) (rw z at e))
    ]

cut_at : (byte : ℕ) (bytes : List ℕ) (n : ℕ) → Some n ≡ position (λ b. b == byte) bytes → IsCut byte bytes n
cut_at byte bytes n e =
    let more = cut_from byte bytes 0 n (sym (e ∙ position_from-zero (λ b. b == byte) bytes)) in
    let same : more.0 ≡ n = omega (arith, more.1) in
    rw same at more.2

front_is : (byte : ℕ) (bytes : List ℕ) (n : ℕ) (cut : IsCut byte bytes n) → take n bytes ≡ cut.front
front_is byte bytes n cut =
    rw (cut.whole, cut.place_is) (take-append_seam cut.front (byte ∷ cut.back))

back_is : (byte : ℕ) (bytes : List ℕ) (n : ℕ) (cut : IsCut byte bytes n) → take (length bytes - (n + 1)) (drop (n + 1) bytes) ≡ cut.back
back_is byte bytes n cut =
    take_all (length bytes - (n + 1)) (drop (n + 1) bytes) (omega (arith, length-drop (n + 1) bytes))
    ∙ rw (cut.whole, cut.place_is) (drop-append-add cut.front (byte ∷ cut.back) 1)

pub cut_whole : (byte : ℕ) (bytes : List ℕ) (n : ℕ) → Some n ≡ position (λ b. b == byte) bytes → bytes ≡ take n bytes ++ byte ∷ take (length bytes - (n + 1)) (drop (n + 1) bytes)
cut_whole byte bytes n e =
    let cut = cut_at byte bytes n e in
    rw (front_is byte bytes n cut, back_is byte bytes n cut) cut.whole

pub cut_first : (byte : ℕ) (bytes : List ℕ) (n : ℕ) → Some n ≡ position (λ b. b == byte) bytes → All (λ b. (b == byte) ≡ false) (take n bytes)
cut_first byte bytes n e =
    let cut = cut_at byte bytes n e in
    rw (front_is byte bytes n cut) (All-from_recursion (λ b. (b == byte) ≡ false) cut.front cut.other)

pub cut_none : (byte : ℕ) (bytes : List ℕ) → None ≡ position (λ b. b == byte) bytes → All (λ b. (b == byte) ≡ false) bytes
cut_none byte bytes e =
    All-from_recursion (λ b. (b == byte) ≡ false) bytes (none_from byte bytes 0 (sym (e ∙ position_from-zero (λ b. b == byte) bytes)))

-- ---- words

pub words_first : (bytes front back : List ℕ) → bytes ≡ front ++ 32 ∷ back → All (λ b. (b == 32) ≡ false) front → words_of bytes ≡ front ∷ words_of back
words_first bytes front back e all = ap words_of e ∙ slice_split_at is_space front 32 back all refl

pub words_whole : (bytes : List ℕ) → All (λ b. (b == 32) ≡ false) bytes → words_of bytes ≡ bytes ∷ []
words_whole bytes all = slice_split_none is_space bytes all

pub joined_words : (bytes : List ℕ) → join_with_byte 32 (words_of bytes) ≡ bytes
joined_words bytes = join_with_byte-slice_split 32 bytes

onto_some : (byte : ℕ) (words : List (List ℕ)) → (word : List ℕ) × (rest : List (List ℕ)) × (onto_first byte words ≡ word ∷ rest)
onto_some byte [] = (byte ∷ [], [], refl)
onto_some byte (word ∷ words) = (byte ∷ word, words, refl)

cond_words : (b : Bool) (byte : ℕ) (words : List (List ℕ)) → (word : List ℕ) × (rest : List (List ℕ)) × (cond b ([] ∷ words) (onto_first byte words) ≡ word ∷ rest)
cond_words true byte words = ([], words, refl)
cond_words false byte words = onto_some byte words

-- there is a first word
pub some_word : (bytes : List ℕ) → (word : List ℕ) × (rest : List (List ℕ)) × (words_of bytes ≡ word ∷ rest)
some_word [] = ([], [], refl)
some_word (byte ∷ bytes) = cond_words (is_space byte) byte (words_of bytes)

pub words_of_split : (bytes : List ℕ) (split : Option (Bor (List ℕ) × Bor (List ℕ))) → IfSome split (λ p. bytes ≡ p.0.now ++ 32 ∷ p.1.now) → IfSome split (λ p. All (λ b. (b == 32) ≡ false) p.0.now) → IfSome split (λ p. words_of bytes ≡ p.0.now ∷ words_of p.1.now)
words_of_split bytes None some first = tt
words_of_split bytes (Some p) some first = words_first bytes p.0.now p.1.now some first

pub word_where_none : (bytes : List ℕ) (split : Option (Bor (List ℕ) × Bor (List ℕ))) → IfNone split (All (λ b. (b == 32) ≡ false) bytes) → IfNone split (words_of bytes ≡ bytes ∷ [])
word_where_none bytes None none = words_whole bytes none
word_where_none bytes (Some p) none = tt

-- ---- what stands behind a word

pub answer_with_words : (kind bytes : List ℕ) → None ≡ bare_answer kind (words_of bytes)
answer_with_words kind bytes = let more = some_word bytes in rw more.2 refl

pub line_with_words : (kind rest : List ℕ) (words : List (List ℕ)) → words ≡ kind ∷ words_of rest → line_of_words words ≡ line_behind kind (words_of rest)
line_with_words kind rest words e = let more = some_word rest in rw (e, more.2) refl

pub line_numbered : (kind rest : List ℕ) (words : List (List ℕ)) → words ≡ kind ∷ words_of rest → bytes_eq kind (codes "answer") ≡ false → numbered_line kind (words_of rest) ≡ line_of_words words
line_numbered kind rest words e other = rw (line_with_words kind rest words e, other) refl
