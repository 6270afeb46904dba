-- The fold over the tokens said gives the names, texts, numbers and lexemes of the whole.
use Rattle.std.proofs.Common.{◌≡◌, ℕ, suc, ◌+◌, ◌<◌, ◌≤◌, Bool, true, false, cond, not, eqb, List, [], ◌∷◌, ◌++◌, length, map, refl, sym, ap, ◌∙◌, arith, append_assoc, fold}
use Rattle.std.specs.Prelude.{ℤ, ◌||◌}
use Rattle.std.specs.List.{AllByRecursion, list_any, position_or_len}
use Rattle.std.specs.Str.{bytes_eq}
use Rattle.std.proofs.lemmas.Bool.Decides.{nat_tests}
use Rattle.std.proofs.lemmas.Slice.Eq.{bytes_eq-Decides}
use Rattle.std.proofs.lemmas.List.{append-nil, length-append}
use Rattle.std.proofs.lemmas.List.Folds.{position_or_len_push}
use Rattle.qf_ir.specs.Texts.{is_text, code_in, with_text}
use Rattle.qf_lex.specs.declared.token.Token.{Token}
use Rattle.qf_grammar.specs.declared.lexeme.Lexeme.{Lexeme}
use Rattle.qf_grammar.specs.declared.lexeme.Lexeme.TheVariants as lex
use Rattle.qf_grammar.specs.Spelling.{Lexemes}
use Rattle.qf_log.specs.declared.lexing.Lexed.{Lexed}
use Rattle.qf_log.specs.Said.{Said, key, name, number, text, mark, said_by}
use Rattle.qf_log.specs.Lexed.{with_name, with_string, number_in, numbers_of, lexeme_of, lexemes_from, lexed_of, with_number, with_said, nothing_said, HasFew}

-- ---- a text keeps its code

held : {X : Type 0} (p : X → Bool) (xs : List X) → list_any p xs ≡ true → position_or_len p xs < length xs
held p [] h = absurd cc
held p (x ∷ xs) h =
    elim (p x) as (λ b. (b || list_any p xs) ≡ true → cond (not b) (1 + position_or_len p xs) 0 < suc (length xs)) [
      | true ↦ λ h. omega arith
      | false ↦ λ h. omega (arith, held p xs h)
    ] h

not_held : {X : Type 0} (p : X → Bool) (xs : List X) → list_any p xs ≡ false → position_or_len p xs ≡ length xs
not_held p [] h = refl
not_held p (x ∷ xs) h =
    elim (p x) as (λ b. (b || list_any p xs) ≡ false → cond (not b) (1 + position_or_len p xs) 0 ≡ suc (length xs)) [
      | true ↦ λ h. absurd cc
      | false ↦ λ h. omega (arith, not_held p xs h)
    ] h

same_text : (t : List ℕ) → bytes_eq t t ≡ true
same_text t = (bytes_eq-Decides t t).1 refl

pushed : {X : Type 0} (p : X → Bool) (xs : List X) (x : X) (v : Bool) → eqb (position_or_len p xs) (length xs) ≡ v → position_or_len p xs < length xs → position_or_len p (xs ++ x ∷ []) ≡ position_or_len p xs
pushed p xs x true e h = absurd (grind (arith, nat_tests))
pushed p xs x false e h = position_or_len_push p xs x ∙ rw e refl

pushed_last : {X : Type 0} (p : X → Bool) (xs : List X) (x : X) → position_or_len p xs ≡ length xs → p x ≡ true → position_or_len p (xs ++ x ∷ []) ≡ length xs
pushed_last p xs x e h =
    let same : eqb (position_or_len p xs) (length xs) ≡ true = grind (arith, nat_tests) in
    position_or_len_push p xs x ∙ rw (same, h) (omega arith)

with_case : (texts : List (List ℕ)) (more t : List ℕ) (v : Bool) → list_any (is_text more) texts ≡ v → code_in texts t < length texts
    → (code_in (with_text texts more) t ≡ code_in texts t) × (code_in (with_text texts more) t < length (with_text texts more))
with_case texts more t true e h = rw e (refl, h)
with_case texts more t false e h =
    let p : code_in (texts ++ more ∷ []) t ≡ code_in texts t = pushed (is_text t) texts more (eqb (code_in texts t) (length texts)) refl h in
    rw e (p, omega (arith, p, length-append texts (more ∷ [])))

code_with : (texts : List (List ℕ)) (more t : List ℕ) → code_in texts t < length texts → (code_in (with_text texts more) t ≡ code_in texts t) × (code_in (with_text texts more) t < length (with_text texts more))
code_with texts more t h = with_case texts more t (list_any (is_text more) texts) refl h

first_case : (texts : List (List ℕ)) (t : List ℕ) (v : Bool) → list_any (is_text t) texts ≡ v → (code_in (with_text texts t) t ≡ code_in texts t) × (code_in (with_text texts t) t < length (with_text texts t))
first_case texts t true e = rw e (refl, held (is_text t) texts e)
first_case texts t false e =
    let last = not_held (is_text t) texts e in
    let p : code_in (texts ++ t ∷ []) t ≡ length texts = pushed_last (is_text t) texts t last (same_text t) in
    rw e (p ∙ sym last, omega (arith, p, length-append texts (t ∷ [])))

code_first : (texts : List (List ℕ)) (t : List ℕ) → (code_in (with_text texts t) t ≡ code_in texts t) × (code_in (with_text texts t) t < length (with_text texts t))
code_first texts t = first_case texts t (list_any (is_text t) texts) refl

-- ---- .. whatever is said behind it

name_with : (names : List (List ℕ)) (s : Said) (n : List ℕ) → code_in names n < length names → (code_in (with_name names s) n ≡ code_in names n) × (code_in (with_name names s) n < length (with_name names s))
name_with names (name m) n h = code_with names m n h
name_with names (key k) n h = (refl, h)
name_with names (number z) n h = (refl, h)
name_with names (text t) n h = (refl, h)
name_with names (mark m) n h = (refl, h)

name_stays : (names : List (List ℕ)) (saids : List Said) (n : List ℕ) → code_in names n < length names → code_in (fold with_name names saids) n ≡ code_in names n
name_stays names [] n h = refl
name_stays names (s ∷ saids) n h = let w = name_with names s n h in name_stays (with_name names s) saids n w.1 ∙ w.0

string_with : (texts : List (List ℕ)) (s : Said) (n : List ℕ) → code_in texts n < length texts → (code_in (with_string texts s) n ≡ code_in texts n) × (code_in (with_string texts s) n < length (with_string texts s))
string_with texts (text m) n h = code_with texts m n h
string_with texts (key k) n h = (refl, h)
string_with texts (number z) n h = (refl, h)
string_with texts (name t) n h = (refl, h)
string_with texts (mark m) n h = (refl, h)

string_stays : (texts : List (List ℕ)) (saids : List Said) (n : List ℕ) → code_in texts n < length texts → code_in (fold with_string texts saids) n ≡ code_in texts n
string_stays texts [] n h = refl
string_stays texts (s ∷ saids) n h = let w = string_with texts s n h in string_stays (with_string texts s) saids n w.1 ∙ w.0

lexeme_stays : (names texts : List (List ℕ)) (k : ℕ) (s : Said) (saids : List Said) → lexeme_of names texts k s ≡ lexeme_of (fold with_name (with_name names s) saids) (fold with_string (with_string texts s) saids) k s
lexeme_stays names texts k (key x) saids = refl
lexeme_stays names texts k (name n) saids = let w = code_first names n in ap (λ c. lex.Name c) (sym (name_stays (with_text names n) saids n w.1 ∙ w.0))
lexeme_stays names texts k (number z) saids = refl
lexeme_stays names texts k (text t) saids = let w = code_first texts t in ap (λ c. lex.Text c) (sym (string_stays (with_text texts t) saids t w.1 ∙ w.0))
lexeme_stays names texts k (mark m) saids = refl

-- ---- the whole

numbers_with : (numbers : List ℤ) (s : Said) → with_number numbers s ≡ numbers ++ number_in s
numbers_with numbers (number z) = refl
numbers_with numbers (key k) = sym (append-nil numbers)
numbers_with numbers (name n) = sym (append-nil numbers)
numbers_with numbers (text t) = sym (append-nil numbers)
numbers_with numbers (mark m) = sym (append-nil numbers)

abbrev made : List (List ℕ) → List (List ℕ) → List ℤ → Lexemes → Lexed
made names texts numbers lexemes = record { names = names; texts = texts; numbers = numbers; lexemes = lexemes }

-- these, and behind them what the tokens say
abbrev after : Lexed → List Said → Lexed
after l saids =
    let names = fold with_name l.names saids in
    let texts = fold with_string l.texts saids in
    made names texts (l.numbers ++ numbers_of saids) (l.lexemes ++ lexemes_from names texts (length l.numbers) saids)

fold_after : (l : Lexed) (saids : List Said) → fold with_said l saids ≡ after l saids
fold_after l [] = ap (λ ns. made l.names l.texts ns l.lexemes) (sym (append-nil l.numbers)) ∙ ap (λ xs. made l.names l.texts (l.numbers ++ []) xs) (sym (append-nil l.lexemes))
fold_after l (s ∷ saids) =
    let names = fold with_name (with_name l.names s) saids in
    let texts = fold with_string (with_string l.texts s) saids in
    let numbers : with_number l.numbers s ++ numbers_of saids ≡ l.numbers ++ (number_in s ++ numbers_of saids) = ap (λ ns. ns ++ numbers_of saids) (numbers_with l.numbers s) ∙ append_assoc l.numbers (number_in s) (numbers_of saids) in
    let count : length (with_number l.numbers s) ≡ length l.numbers + length (number_in s) = ap length (numbers_with l.numbers s) ∙ length-append l.numbers (number_in s) in
    let rest = lexemes_from names texts (length l.numbers + length (number_in s)) saids in
    let lexemes : (l.lexemes ++ lexeme_of l.names l.texts (length l.numbers) s ∷ []) ++ lexemes_from names texts (length (with_number l.numbers s)) saids ≡ l.lexemes ++ (lexeme_of names texts (length l.numbers) s ∷ rest) =
    ap (λ k. (l.lexemes ++ lexeme_of l.names l.texts (length l.numbers) s ∷ []) ++ lexemes_from names texts k saids) count
    ∙ append_assoc l.lexemes (lexeme_of l.names l.texts (length l.numbers) s ∷ []) rest
    ∙ ap (λ x. l.lexemes ++ (x ∷ rest)) (lexeme_stays l.names l.texts (length l.numbers) s saids) in
    fold_after (with_said l s) saids
    ∙ ap (λ ns. made names texts ns ((l.lexemes ++ lexeme_of l.names l.texts (length l.numbers) s ∷ []) ++ lexemes_from names texts (length (with_number l.numbers s)) saids)) numbers
    ∙ ap (λ xs. made names texts (l.numbers ++ (number_in s ++ numbers_of saids)) xs) lexemes

fold_over : (bytes : List ℕ) (l : Lexed) (tokens : List Token) → fold (λ lexed token. with_said lexed (said_by bytes token)) l tokens ≡ fold with_said l (map (said_by bytes) tokens)
fold_over bytes l [] = refl
fold_over bytes l (t ∷ tokens) = fold_over bytes (with_said l (said_by bytes t)) tokens

pub fold_is : (bytes : List ℕ) (tokens : List Token) → fold (λ lexed token. with_said lexed (said_by bytes token)) nothing_said tokens ≡ lexed_of (map (said_by bytes) tokens)
fold_is bytes tokens = fold_over bytes nothing_said tokens ∙ fold_after nothing_said (map (said_by bytes) tokens)

-- ---- sizes

grown : (texts : List (List ℕ)) (t : List ℕ) (v : Bool) → list_any (is_text t) texts ≡ v → length (with_text texts t) ≤ length texts + 1
grown texts t true e = rw e (omega arith)
grown texts t false e = rw e (omega (arith, length-append texts (t ∷ [])))

pub few_more : (n : ℕ) (l : Lexed) (s : Said) → HasFew n l → HasFew (n + 1) (with_said l s)
few_more n l (name m) h = record { names = omega (arith, h.names, grown l.names m (list_any (is_text m) l.names) refl); texts = omega (arith, h.texts); numbers = omega (arith, h.numbers) }
few_more n l (text t) h = record { names = omega (arith, h.names); texts = omega (arith, h.texts, grown l.texts t (list_any (is_text t) l.texts) refl); numbers = omega (arith, h.numbers) }
few_more n l (number z) h = record { names = omega (arith, h.names); texts = omega (arith, h.texts); numbers = omega (arith, h.numbers, length-append l.numbers (z ∷ [])) }
few_more n l (key k) h = record { names = omega (arith, h.names); texts = omega (arith, h.texts); numbers = omega (arith, h.numbers) }
few_more n l (mark m) h = record { names = omega (arith, h.names); texts = omega (arith, h.texts); numbers = omega (arith, h.numbers) }

pub few_in : (m n : ℕ) (l : Lexed) → m ≤ n → HasFew m l → HasFew n l
few_in m n l le h = record { names = omega (arith, h.names); texts = omega (arith, h.texts); numbers = omega (arith, h.numbers) }

-- ---- what is held

string_held : (texts : List (List ℕ)) (saids : List Said) (n : List ℕ) → code_in texts n < length texts → code_in (fold with_string texts saids) n < length (fold with_string texts saids)
string_held texts [] n h = h
string_held texts (s ∷ saids) n h = string_held (with_string texts s) saids n (string_with texts s n h).1

-- a text lexeme has a code of the list
abbrev pub TextIn : ℕ → Lexeme → Type 0
TextIn texts (lex.Text t) = t < texts
TextIn texts _ = Unit {0}

pub texts_in : (names held : List (List ℕ)) (k : ℕ) (saids : List Said) → AllByRecursion (TextIn (length (fold with_string held saids))) (lexemes_from names (fold with_string held saids) k saids)
texts_in names held k [] = tt
texts_in names held k (text t ∷ saids) = (string_held (with_text held t) saids t (code_first held t).1, texts_in names (with_text held t) (k + 0) saids)
texts_in names held k (key x ∷ saids) = (tt, texts_in names held (k + 0) saids)
texts_in names held k (name n ∷ saids) = (tt, texts_in names held (k + 0) saids)
texts_in names held k (number z ∷ saids) = (tt, texts_in names held (k + 1) saids)
texts_in names held k (mark m ∷ saids) = (tt, texts_in names held (k + 0) saids)

pub names_few : (held : List (List ℕ)) (saids : List Said) → length (fold with_name held saids) ≤ length held + length saids
names_few held [] = omega arith
names_few held (name n ∷ saids) = omega (arith, names_few (with_text held n) saids, grown held n (list_any (is_text n) held) refl)
names_few held (key x ∷ saids) = omega (arith, names_few held saids)
names_few held (number z ∷ saids) = omega (arith, names_few held saids)
names_few held (text t ∷ saids) = omega (arith, names_few held saids)
names_few held (mark m ∷ saids) = omega (arith, names_few held saids)

pub texts_few : (held : List (List ℕ)) (saids : List Said) → length (fold with_string held saids) ≤ length held + length saids
texts_few held [] = omega arith
texts_few held (text n ∷ saids) = omega (arith, texts_few (with_text held n) saids, grown held n (list_any (is_text n) held) refl)
texts_few held (key x ∷ saids) = omega (arith, texts_few held saids)
texts_few held (number z ∷ saids) = omega (arith, texts_few held saids)
texts_few held (name t ∷ saids) = omega (arith, texts_few held saids)
texts_few held (mark m ∷ saids) = omega (arith, texts_few held saids)
