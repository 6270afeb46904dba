-- Lists of texts that are joined.
use Rattle.std.proofs.Common.{◌≡◌, ◌∙◌, ap, sym, refl, subst, ℕ, zero, suc, ◌+◌, ◌<◌, ◌≤◌, Bool, true, false, cond, not, ◌||◌, ◌==◌, if◌then◌else◌, List, [], ◌∷◌, ◌++◌, Some, length, map, slice_get, drop, append_assoc, arith}
use Rattle.std.specs.List.{list_any, position_or_len, AllByRecursion}
use Rattle.std.specs.Str.{bytes_eq}
use Rattle.std.proofs.lemmas.Slice.Eq.{bytes_eq-Decides}
use Rattle.std.proofs.lemmas.Bool.{false≢true}
use Rattle.std.proofs.lemmas.Bool.Decides.{nat_tests}
use Rattle.qf_ir.specs.Laws.{CodesMeanTexts}
use Rattle.std.proofs.lemmas.Option.{none-some}
use Rattle.std.proofs.lemmas.List.{append-nil}
use Rattle.std.proofs.lemmas.List.Folds.{list_any-append}
use Rattle.qf_ir.specs.Texts.{is_text, code_in, with_text, with_texts, AreDistinct}
use Rattle.qf_ir.specs.Numbered.{found_at}
use Rattle.qf_ir.proofs.Codes.{distinct-with, some-same, get-within}

abbrev pub IsHeld : List (List ℕ) → List ℕ → Type 0
IsHeld texts text = list_any (is_text text) texts ≡ true

-- the codes of the others, as each is added in turn
abbrev pub codes_from : List (List ℕ) → List (List ℕ) → List ℕ
codes_from texts [] = []
codes_from texts (text ∷ others) = code_in texts text ∷ codes_from (with_text texts text) others

pub drop-got : {X : Type 0} (xs : List X) (i : ℕ) (x : X) → slice_get xs i ≡ Some x → drop i xs ≡ x ∷ drop (i + 1) xs
drop-got [] i x got = absurd (none-some _ got)
drop-got (y ∷ xs) zero x got = ap (λ z. z ∷ xs) (some-same y x got)
drop-got (y ∷ xs) (suc i) x got = let e : suc i + 1 ≡ suc (i + 1) = omega arith in drop-got xs i x got ∙ ap (λ k. x ∷ drop k (y ∷ xs)) (sym e)

-- ---- a text that is held keeps its code

found-first : (p : List ℕ → Bool) (xs ys : List (List ℕ)) → list_any p xs ≡ true → position_or_len p (xs ++ ys) ≡ position_or_len p xs
found-first p [] ys some = absurd (false≢true some)
found-first p (x ∷ xs) ys some =
    elim (p x) as (λ b. (b || list_any p xs) ≡ true → cond (not b) (1 + position_or_len p (xs ++ ys)) 0 ≡ cond (not b) (1 + position_or_len p xs) 0) [
      | true ↦ λ s. refl
      | false ↦ λ s. ap (λ n. 1 + n) (found-first p xs ys s)
    ] some

found-within : (p : List ℕ → Bool) (xs : List (List ℕ)) → list_any p xs ≡ true → position_or_len p xs < length xs
found-within p [] some = absurd (false≢true some)
found-within p (x ∷ xs) some =
    elim (p x) as (λ b. (b || list_any p xs) ≡ true → cond (not b) (1 + position_or_len p xs) 0 < suc (length xs)) [
      | true ↦ λ s. omega arith
      | false ↦ λ s. let h = found-within p xs s in omega (arith, h)
    ] some

found-last : (p : List ℕ → Bool) (xs : List (List ℕ)) (x : List ℕ) → list_any p xs ≡ false → p x ≡ true → position_or_len p (xs ++ x ∷ []) ≡ position_or_len p xs
found-last p [] x none is = ap (λ b. cond (not b) 1 0) is
found-last p (y ∷ xs) x none is =
    elim (p y) as (λ b. (b || list_any p xs) ≡ false → cond (not b) (1 + position_or_len p (xs ++ x ∷ [])) 0 ≡ cond (not b) (1 + position_or_len p xs) 0) [
      | true ↦ λ s. refl
      | false ↦ λ s. ap (λ n. 1 + n) (found-last p xs x s is)
    ] none

by-case : (P : List (List ℕ) → Type 0) (xs : List (List ℕ)) (text : List ℕ) → (IsHeld xs text → P xs)
    → (list_any (is_text text) xs ≡ false → P (xs ++ text ∷ [])) → P (with_text xs text)
by-case P xs text held new =
    elim (list_any (is_text text) xs) as (λ b. list_any (is_text text) xs ≡ b → P (if b then xs else xs ++ text ∷ [])) [
      | true ↦ λ e. held e
      | false ↦ λ e. new e
    ] refl

is-itself : (text : List ℕ) → is_text text text ≡ true
is-itself text = (bytes_eq-Decides text text).1 refl

or-left : (a b : Bool) → a ≡ true → (a || b) ≡ true
or-left true b e = refl
or-left false b e = absurd (false≢true e)

or-right : (a b : Bool) → b ≡ true → (a || b) ≡ true
or-right true b e = refl
or-right false b e = e

held-append : (xs ys : List (List ℕ)) (text : List ℕ) → IsHeld xs text → IsHeld (xs ++ ys) text
held-append xs ys text held = list_any-append (is_text text) xs ys ∙ or-left (list_any (is_text text) xs) (list_any (is_text text) ys) held

held-stays : (xs : List (List ℕ)) (text other : List ℕ) → IsHeld xs text → IsHeld (with_text xs other) text
held-stays xs text other held = by-case (λ ys. IsHeld ys text) xs other (λ e. held) (λ e. held-append xs (other ∷ []) text held)

code-stays : (xs : List (List ℕ)) (text other : List ℕ) → IsHeld xs text → code_in (with_text xs other) text ≡ code_in xs text
code-stays xs text other held =
    by-case (λ ys. code_in ys text ≡ code_in xs text) xs other (λ e. refl) (λ e. found-first (is_text text) xs (other ∷ []) held)

held-with : (xs : List (List ℕ)) (text : List ℕ) → IsHeld (with_text xs text) text
held-with xs text =
    by-case (λ ys. IsHeld ys text) xs text (λ e. e)
    (λ e. list_any-append (is_text text) xs (text ∷ [])
    ∙ or-right (list_any (is_text text) xs) (is_text text text || false) (or-left (is_text text text) false (is-itself text)))

code-with : (xs : List (List ℕ)) (text : List ℕ) → code_in (with_text xs text) text ≡ code_in xs text
code-with xs text =
    by-case (λ ys. code_in ys text ≡ code_in xs text) xs text (λ e. refl) (λ e. found-last (is_text text) xs text e (is-itself text))

pub held-by-all : (xs others : List (List ℕ)) (text : List ℕ) → IsHeld xs text → IsHeld (with_texts xs others) text
held-by-all xs [] text held = held
held-by-all xs (other ∷ others) text held = held-by-all (with_text xs other) others text (held-stays xs text other held)

code-by-all : (xs others : List (List ℕ)) (text : List ℕ) → IsHeld xs text → code_in (with_texts xs others) text ≡ code_in xs text
code-by-all xs [] text held = refl
code-by-all xs (other ∷ others) text held =
    code-by-all (with_text xs other) others text (held-stays xs text other held) ∙ code-stays xs text other held

-- the codes are those in the whole list
pub codes-are : (xs others : List (List ℕ)) → codes_from xs others ≡ map (code_in (with_texts xs others)) others
codes-are xs [] = refl
codes-are xs (text ∷ others) =
    let whole = with_texts (with_text xs text) others in
    ap (λ k. k ∷ codes_from (with_text xs text) others) (sym (code-by-all (with_text xs text) others text (held-with xs text) ∙ code-with xs text))
    ∙ ap (λ ks. code_in whole text ∷ ks) (codes-are (with_text xs text) others)

-- each of the others is held at the end
all-held : (xs others : List (List ℕ)) → AllByRecursion (IsHeld (with_texts xs others)) others
all-held xs [] = tt
all-held xs (text ∷ others) = (held-by-all (with_text xs text) others text (held-with xs text), all-held (with_text xs text) others)

place-within : (whole others : List (List ℕ)) → AllByRecursion (IsHeld whole) others → (code : ℕ) → code < length others
    → found_at (map (code_in whole) others) code < length whole
place-within whole [] held code low = absurd (omega (arith, low))
place-within whole (text ∷ others) held zero low = found-within (is_text text) whole held.0
place-within whole (text ∷ others) held (suc code) low = place-within whole others held.1 code (omega (arith, low))

pub codes-within : (xs others : List (List ℕ)) (code : ℕ) → code < length others
    → found_at (map (code_in (with_texts xs others)) others) code < length (with_texts xs others)
codes-within xs others code low = place-within (with_texts xs others) others (all-held xs others) code low

-- ---- the joint list

length-push : (xs : List (List ℕ)) (x : List ℕ) → length (xs ++ x ∷ []) ≡ length xs + 1
length-push [] x = refl
length-push (y ∷ xs) x = let h = length-push xs x in omega (arith, h)

pub length-with : (xs : List (List ℕ)) (text : List ℕ) → length (with_text xs text) ≤ length xs + 1
length-with xs text =
    by-case (λ ys. length ys ≤ length xs + 1) xs text (λ e. omega arith) (λ e. let h = length-push xs text in omega (arith, h))

pub length-not-less : (xs : List (List ℕ)) (text : List ℕ) → length xs ≤ length (with_text xs text)
length-not-less xs text =
    by-case (λ ys. length xs ≤ length ys) xs text (λ e. omega arith) (λ e. let h = length-push xs text in omega (arith, h))

pub length-with-all : (xs others : List (List ℕ)) → length (with_texts xs others) ≤ length xs + length others
length-with-all xs [] = omega arith
length-with-all xs (text ∷ others) =
    let h = length-with-all (with_text xs text) others in
    let k = length-with xs text in
    omega (arith, h, k)

pub distinct-with-all : (xs others : List (List ℕ)) → AreDistinct xs → AreDistinct (with_texts xs others)
distinct-with-all xs [] distinct = distinct
distinct-with-all xs (text ∷ others) distinct = distinct-with-all (with_text xs text) others (distinct-with xs text distinct)

prefix-with : (xs : List (List ℕ)) (text : List ℕ) → (more : List (List ℕ)) × (with_text xs text ≡ xs ++ more)
prefix-with xs text =
    by-case (λ ys. (more : List (List ℕ)) × (ys ≡ xs ++ more)) xs text (λ e. ([], sym (append-nil xs))) (λ e. (text ∷ [], refl))

pub prefix-with-all : (xs others : List (List ℕ)) → (more : List (List ℕ)) × (with_texts xs others ≡ xs ++ more)
prefix-with-all xs [] = ([], sym (append-nil xs))
prefix-with-all xs (text ∷ others) =
    let one = prefix-with xs text in
    let rest = prefix-with-all (with_text xs text) others in
    (one.0 ++ rest.0, rest.1 ∙ ap (λ ys. ys ++ rest.0) one.1 ∙ append_assoc xs one.0 rest.0)

-- ---- a list of distinct texts, added one by one, is itself

get-front : (xs ys : List (List ℕ)) (i : ℕ) (x : List ℕ) → slice_get xs i ≡ Some x → slice_get (xs ++ ys) i ≡ Some x
get-front [] ys i x got = absurd (none-some _ got)
get-front (y ∷ xs) ys zero x got = got
get-front (y ∷ xs) ys (suc i) x got = get-front xs ys i x got

get-next : (xs ys : List (List ℕ)) (x : List ℕ) → slice_get (xs ++ x ∷ ys) (length xs) ≡ Some x
get-next [] ys x = refl
get-next (y ∷ xs) ys x = get-next xs ys x

place-held : (xs : List (List ℕ)) (text : List ℕ) → IsHeld xs text → (i : ℕ) × (slice_get xs i ≡ Some text)
place-held [] text held = absurd (false≢true held)
place-held (x ∷ xs) text held =
    elim (bytes_eq x text) as (λ b. bytes_eq x text ≡ b → (b || list_any (is_text text) xs) ≡ true → (i : ℕ) × (slice_get (x ∷ xs) i ≡ Some text)) [
      | true ↦ λ e h. (0, ap (λ y. Some y) ((bytes_eq-Decides x text).0 e))
      | false ↦ λ e h. let rest = place-held xs text h in (suc rest.0, rest.1)
    ] refl held

with-new : (xs ys : List (List ℕ)) (text : List ℕ) → AreDistinct (xs ++ text ∷ ys) → with_text xs text ≡ xs ++ text ∷ []
with-new xs ys text distinct =
    by-case (λ zs. zs ≡ xs ++ text ∷ []) xs text
    (λ held.
    let at = place-held xs text held in
    let same = distinct at.0 (length xs) text (get-front xs (text ∷ ys) at.0 text at.1) (get-next xs ys text) in
    absurd (let low = get-within xs text at.0 at.1 in omega (arith, same, low)))
    (λ e. refl)

pub with-distinct : (xs others : List (List ℕ)) → AreDistinct (xs ++ others) → with_texts xs others ≡ xs ++ others
with-distinct xs [] distinct = sym (append-nil xs)
with-distinct xs (text ∷ others) distinct =
    let whole : (xs ++ text ∷ []) ++ others ≡ xs ++ text ∷ others = append_assoc xs (text ∷ []) others in
    ap (λ ys. with_texts ys others) (with-new xs others text distinct)
    ∙ with-distinct (xs ++ text ∷ []) others (subst AreDistinct (sym whole) distinct)
    ∙ whole

-- ---- the code's walks

pub record Joins (joint first rest all : List (List ℕ)) (code : ℕ) : Type 0 where
  pub left : with_texts joint rest ≡ with_texts first all
  pub few : length joint ≤ length first + code

pub joins-more : (joint next first rest all : List (List ℕ)) (text : List ℕ) (code : ℕ) → Joins joint first (text ∷ rest) all code
    → next ≡ with_text joint text → Joins next first rest all (code + 1)
joins-more joint next first rest all text code joins is = subst (λ ys. Joins ys first rest all (code + 1)) (sym is) (record {
  left = joins.left;
  few = let h = joins.few in let k = length-with joint text in omega (arith, h, k);
})

pub codes-more : (joint next first rest all : List (List ℕ)) (text : List ℕ) (codes : List ℕ) → codes ++ codes_from joint (text ∷ rest) ≡ codes_from first all
    → next ≡ with_text joint text → (codes ++ code_in joint text ∷ []) ++ codes_from next rest ≡ codes_from first all
codes-more joint next first rest all text codes so_far is =
    ap (λ ys. (codes ++ code_in joint text ∷ []) ++ codes_from ys rest) is
    ∙ append_assoc codes (code_in joint text ∷ []) (codes_from (with_text joint text) rest) ∙ so_far

-- ---- codes mean texts

by-both : (a b : Bool) → (a ≡ true → b ≡ true) → (b ≡ true → a ≡ true) → a ≡ b
by-both true b to from = sym (to refl)
by-both false true to from = from refl
by-both false false to from = refl

pub same_codes : CodesMeanTexts
same_codes texts i j x y distinct at_i at_j =
    by-both (i == j) (bytes_eq x y)
    (λ same. let e : i ≡ j = grind (arith, nat_tests) in
    (bytes_eq-Decides x y).1 (some-same x y (sym at_i ∙ ap (slice_get texts) e ∙ at_j)))
    (λ same. let e : i ≡ j = distinct i j x at_i (at_j ∙ ap (λ t. Some t) (sym ((bytes_eq-Decides x y).0 same))) in grind (arith, nat_tests))
