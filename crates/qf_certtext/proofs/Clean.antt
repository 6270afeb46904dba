-- No word of a line holds a space or a line feed, so its words and its end are found again.
use Rattle.std.proofs.Common.{◌≡◌, ℕ, suc, ◌-◌, ◌^◌, ◌<◌, ◌==◌, Bool, true, false, not, ◌&&◌, nat_le, List, [], ◌∷◌, ◌++◌, map, ℤ, pos, negsuc, neg_ℤ, int_le, unsigned_abs, refl, ap, ◌∙◌, arith}
use Rattle.std.specs.List.{list_all, AllByRecursion, join_with_byte}
use Rattle.std.specs.Fmt.{decimal, signed_decimal}
use Rattle.std.proofs.lemmas.Int.{ints}
use Rattle.std.proofs.lemmas.Bool.{and_parts, and_from, ne_eqb, leb-true, not-true}
use Rattle.std.proofs.lemmas.List.Elements.{All-from_recursion}
use Rattle.std.proofs.lemmas.List.Splits.{slice_split_at, slice_split_none}
use Rattle.std.proofs.lemmas.Fmt.{digits_decimal}
use lib.Chars.{codes}
use Rattle.qf_base.proofs.Integers.{int_le_true}
use Rattle.qf_base.specs.declared.names.Bound.TheVariants.{Low, High}
use Rattle.qf_base.specs.declared.names.RowName.{RowName}
use Rattle.qf_base.specs.declared.names.RowName.TheVariants.{Start, Inserted}
use Rattle.qf_csv.specs.Numerals.{is_digit}
use Rattle.qf_tree.specs.declared.cert.Answer.TheVariants.{Repair, Nothing, Budget, Best}
use Rattle.qf_tree.specs.declared.line.Line.{Line}
use Rattle.qf_tree.specs.declared.line.Line.TheVariants as line
use Rattle.qf_tree.specs.Lines.{is_number, is_value, is_small_end, is_named_row, line_fits}
use Rattle.qf_certtext.specs.Spelling.{row_word, answer_words, line_words, line_text}
use Rattle.qf_certtext.specs.Words.{is_space, words_of}
use Rattle.qf_certtext.proofs.Numbers.{own, below_by_number}

-- neither a space nor a line feed
abbrev is_clean : ℕ → Bool
is_clean c = not (c == 32) && not (c == 10)

abbrev is_clean_word : List ℕ → Bool
is_clean_word word = list_all is_clean word

-- ---- numbers

clean_digits : (ds : List ℕ) → list_all is_digit ds ≡ true → is_clean_word ds ≡ true
clean_digits [] h = refl
clean_digits (d ∷ ds) h =
    let parts = and_parts (is_digit d) (list_all is_digit ds) h in
    let low = leb-true 48 d ((and_parts (nat_le 48 d) (nat_le d 57) parts.0).0) in
    let a = ne_eqb d 32 (λ e. absurd (omega (arith, e))) in
    let b = ne_eqb d 10 (λ e. absurd (omega (arith, e))) in
    let more = clean_digits ds parts.1 in
    rw (a, b, more) refl

clean_decimal : (n : ℕ) → n < 2 ^ 64 → is_clean_word (decimal n) ≡ true
clean_decimal n small = clean_digits (decimal n) (digits_decimal own n small)

clean_number : (n : ℕ) → is_number n ≡ true → is_clean_word (decimal n) ≡ true
clean_number n h = let b = below_by_number n h in clean_decimal n (omega (arith, b.1))

clean_signed : (z : ℤ) → unsigned_abs z < 2 ^ 64 → is_clean_word (signed_decimal z) ≡ true
clean_signed (pos n) small = clean_decimal n small
clean_signed (negsuc n) small = clean_decimal (suc n) small

clean_value : (z : ℤ) → is_value z ≡ true → is_clean_word (signed_decimal z) ≡ true
clean_value z h =
    let parts = and_parts (int_le (neg_ℤ (pos (2 ^ 63))) z) (int_le z (pos (2 ^ 63 - 1))) h in
    clean_signed z (omega (arith, ints, int_le_true (neg_ℤ (pos (2 ^ 63))) z parts.0, int_le_true z (pos (2 ^ 63 - 1)) parts.1))

clean_end : (z : ℤ) → is_small_end z ≡ true → is_clean_word (signed_decimal z) ≡ true
clean_end z h =
    let parts = and_parts (int_le (neg_ℤ (pos (2 ^ 60))) z) (int_le z (pos (2 ^ 60))) h in
    clean_signed z (omega (arith, ints, int_le_true (neg_ℤ (pos (2 ^ 60))) z parts.0, int_le_true z (pos (2 ^ 60)) parts.1))

clean_row : (row : RowName) → is_named_row row ≡ true → is_clean_word (row_word row) ≡ true
clean_row (Start n) h = clean_number n h
clean_row (Inserted n) h = clean_number n h

clean_values : (zs : List ℤ) → list_all is_value zs ≡ true → list_all is_clean_word (map signed_decimal zs) ≡ true
clean_values [] h = refl
clean_values (z ∷ zs) h =
    let parts = and_parts (is_value z) (list_all is_value zs) h in
    and_from (is_clean_word (signed_decimal z)) (list_all is_clean_word (map signed_decimal zs)) (clean_value z parts.0) (clean_values zs parts.1)

-- ---- lines

three_clean : (a b c : List ℕ) → is_clean_word a ≡ true → is_clean_word b ≡ true → is_clean_word c ≡ true → list_all is_clean_word (a ∷ b ∷ c ∷ []) ≡ true
three_clean a b c p q r = rw (p, q, r) refl

clean_line : (l : Line) → line_fits l ≡ true → list_all is_clean_word (line_words l) ≡ true
clean_line line.Head h = refl
clean_line (line.Answer (Repair p)) h = clean_values p h
clean_line (line.Answer Nothing) h = refl
clean_line (line.Answer Budget) h = refl
clean_line (line.Answer (Best p)) h = clean_values p h
clean_line (line.Split n z row) h =
    let parts = and_parts (is_number n && is_value z) (is_named_row row) h in
    let two = and_parts (is_number n) (is_value z) parts.0 in
    three_clean (112 ∷ decimal n) (signed_decimal z) (row_word row) (clean_number n two.0) (clean_value z two.1) (clean_row row parts.1)
clean_line (line.Refuted row) h = let c = clean_row row h in rw c refl
clean_line (line.Tight n v (Low z)) h =
    let parts = and_parts (is_number n && is_number v) (is_small_end z) h in
    let two = and_parts (is_number n) (is_number v) parts.0 in
    three_clean (decimal n) (decimal v) (signed_decimal z) (clean_number n two.0) (clean_number v two.1) (clean_end z parts.1)
clean_line (line.Tight n v (High z)) h =
    let parts = and_parts (is_number n && is_number v) (is_small_end z) h in
    let two = and_parts (is_number n) (is_number v) parts.0 in
    three_clean (decimal n) (decimal v) (signed_decimal z) (clean_number n two.0) (clean_number v two.1) (clean_end z parts.1)
clean_line line.Empty h = refl
clean_line (line.Case v) h = let c = clean_number v h in rw c refl
clean_line line.Dear h = refl
clean_line line.Open h = refl
clean_line line.End h = refl

-- ---- the words found again

no_space : (word : List ℕ) → is_clean_word word ≡ true → AllByRecursion (λ b. is_space b ≡ false) word
no_space [] h = tt
no_space (c ∷ cs) h =
    let parts = and_parts (is_clean c) (list_all is_clean cs) h in
    let one = and_parts (not (c == 32)) (not (c == 10)) parts.0 in
    (not-true (c == 32) one.0, no_space cs parts.1)

words_joined : (word : List ℕ) (words : List (List ℕ)) → list_all is_clean_word (word ∷ words) ≡ true → words_of (join_with_byte 32 (word ∷ words)) ≡ word ∷ words
words_joined word [] h =
    let parts = and_parts (is_clean_word word) true h in
    slice_split_none is_space word (All-from_recursion (λ b. is_space b ≡ false) word (no_space word parts.0))
words_joined word (next ∷ words) h =
    let parts = and_parts (is_clean_word word) (list_all is_clean_word (next ∷ words)) h in
    slice_split_at is_space word 32 (join_with_byte 32 (next ∷ words)) (All-from_recursion (λ b. is_space b ≡ false) word (no_space word parts.0)) refl
    ∙ ap (λ (ws : List (List ℕ)). word ∷ ws) (words_joined next words parts.1)

words_of_some : (words : List (List ℕ)) (word : List ℕ) (more : List (List ℕ)) → words ≡ word ∷ more → list_all is_clean_word words ≡ true → words_of (join_with_byte 32 words) ≡ words
words_of_some [] word more e h = cc
words_of_some (w ∷ ws) word more e h = words_joined w ws h

first_word : (l : Line) → (word : List ℕ) × (more : List (List ℕ)) × (line_words l ≡ word ∷ more)
first_word line.Head = (codes "qfix-cert", codes "1" ∷ [], refl)
first_word (line.Answer a) = (codes "answer", answer_words a, refl)
first_word (line.Split n z row) = (codes "split", (112 ∷ decimal n) ∷ signed_decimal z ∷ row_word row ∷ [], refl)
first_word (line.Refuted row) = (codes "refuted", row_word row ∷ [], refl)
first_word (line.Tight n v (Low z)) = (codes "ge", decimal n ∷ decimal v ∷ signed_decimal z ∷ [], refl)
first_word (line.Tight n v (High z)) = (codes "le", decimal n ∷ decimal v ∷ signed_decimal z ∷ [], refl)
first_word line.Empty = (codes "empty", [], refl)
first_word (line.Case v) = (codes "case", decimal v ∷ [], refl)
first_word line.Dear = (codes "dear", [], refl)
first_word line.Open = (codes "open", [], refl)
first_word line.End = (codes "end", [], refl)

pub words_of_text : (l : Line) → line_fits l ≡ true → words_of (line_text l) ≡ line_words l
words_of_text l h =
    let first = first_word l in
    words_of_some (line_words l) first.0 first.1 first.2 (clean_line l h)

-- ---- no line feed

no_feed_in : (word rest : List ℕ) → is_clean_word word ≡ true → AllByRecursion (λ b. (b == 10) ≡ false) rest → AllByRecursion (λ b. (b == 10) ≡ false) (word ++ rest)
no_feed_in [] rest h more = more
no_feed_in (c ∷ cs) rest h more =
    let parts = and_parts (is_clean c) (list_all is_clean cs) h in
    let one = and_parts (not (c == 32)) (not (c == 10)) parts.0 in
    (not-true (c == 10) one.1, no_feed_in cs rest parts.1 more)

no_feed_alone : (word : List ℕ) → is_clean_word word ≡ true → AllByRecursion (λ b. (b == 10) ≡ false) word
no_feed_alone [] h = tt
no_feed_alone (c ∷ cs) h =
    let parts = and_parts (is_clean c) (list_all is_clean cs) h in
    let one = and_parts (not (c == 32)) (not (c == 10)) parts.0 in
    (not-true (c == 10) one.1, no_feed_alone cs parts.1)

no_feed_joined : (words : List (List ℕ)) → list_all is_clean_word words ≡ true → AllByRecursion (λ b. (b == 10) ≡ false) (join_with_byte 32 words)
no_feed_joined [] h = tt
no_feed_joined (word ∷ []) h = let parts = and_parts (is_clean_word word) true h in no_feed_alone word parts.0
no_feed_joined (word ∷ next ∷ words) h =
    let parts = and_parts (is_clean_word word) (list_all is_clean_word (next ∷ words)) h in
    no_feed_in word (32 ∷ join_with_byte 32 (next ∷ words)) parts.0 (refl, no_feed_joined (next ∷ words) parts.1)

-- a line's text holds no line feed
pub no_feed : (l : Line) → line_fits l ≡ true → AllByRecursion (λ b. (b == 10) ≡ false) (line_text l)
no_feed l h = no_feed_joined (line_words l) (clean_line l h)
