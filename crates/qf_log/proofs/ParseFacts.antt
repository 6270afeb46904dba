-- What the tokens of a log give: few lexemes, few uses, small numbers.
use Rattle.std.proofs.Common.{◌≡◌, ℕ, zero, suc, ◌+◌, ◌≤◌, Bool, true, false, cond, List, [], ◌∷◌, ◌++◌, length, map, filter, refl, sym, ap, subst, ◌∙◌, arith, Option, Some, None, Ok}
use Rattle.std.specs.Prelude.{ℤ, unsigned_abs, ◌^◌, slice_range}
use Rattle.std.specs.List.{AllByRecursion, flat_map}
use Rattle.std.proofs.lemmas.List.{length-append}
use Rattle.std.proofs.lemmas.List.Elements.{recursion_from_All}
use Rattle.std.proofs.lemmas.Int.{ints}
use Rattle.qf_lex.specs.declared.token.Token.{Token}
use Rattle.qf_lex.specs.declared.token.TokenKind.{TokenKind}
use Rattle.qf_lex.specs.declared.token.TokenKind.TheVariants as kind
use Rattle.qf_lex.specs.Pieces.{Piece, mark, blank, comment, word, number, string, one, two}
use Rattle.qf_lex.specs.Tokens.{kind_of, IsSound, signed, value_of, TokensOf, AreInOrder, StandsIn}
use Rattle.qf_lex.proofs.Standing.{tokens_in_order, tokens_stand}
use Rattle.qf_grammar.specs.declared.lexeme.Key.{Key}
use Rattle.qf_grammar.specs.declared.tree.Form.{Form}
use Rattle.qf_grammar.specs.declared.tree.Form.TheVariants as form
use Rattle.qf_grammar.specs.declared.uses.Use.{Use}
use Rattle.qf_grammar.specs.declared.uses.Use.TheVariants as used
use Rattle.qf_grammar.specs.declared.judging.Stated.{Stated}
use Rattle.qf_grammar.specs.Spelling.{Lexemes}
use Rattle.qf_grammar.specs.Usage.{uses_of, use_lexemes, is_atom}
use Rattle.qf_grammar.specs.Statements.{statements_of}
use Rattle.qf_grammar.specs.Laws.{IsStated}
use Rattle.qf_grammar.proofs.StatedLaws.{are_stated}
use Rattle.qf_log.specs.declared.lexing.Lexed.{Lexed}
use Rattle.qf_log.specs.Said.{Said, said, said_by, word_said, key_of}
use Rattle.qf_log.specs.Lexed.{number_in, numbers_of, lexemes_from, lexed_of}
use Rattle.qf_ir.specs.declared.ast.Statement.{Statement}
use Rattle.qf_log.specs.declared.places.ParamPlace.{ParamPlace}
use Rattle.qf_log.specs.Parameters.{is_number, places_from, ids_of}
use Rattle.qf_log.specs.Lowered.{AreSmall, lowered_form}
use Rattle.qf_log.specs.Reading.{Reading, reading_of, reading_or, read_lexed}
use Rattle.qf_log.proofs.Lists.{all_uses}

-- ---- counts

token_count : (bytes : List ℕ) (from : ℕ) (ts : List Token) → AreInOrder from ts → AllByRecursion (StandsIn bytes) ts → from ≤ length bytes → from + length ts ≤ length bytes
token_count bytes from [] order stand le = omega arith
token_count bytes from (t ∷ ts) order stand le =
    let rest = token_count bytes t.end ts order.1 stand.1 stand.0.within in
    omega (arith, rest, order.0, stand.0.some)

pub few_tokens : (bytes : List ℕ) (ts : List Token) → TokensOf bytes ts → length ts ≤ length bytes
few_tokens bytes ts h = omega (arith, token_count bytes 0 ts (tokens_in_order bytes ts h) (recursion_from_All (StandsIn bytes) ts (tokens_stand bytes ts h)) (omega arith))

lexeme_count : (names texts : List (List ℕ)) (k : ℕ) (saids : List Said) → length (lexemes_from names texts k saids) ≡ length saids
lexeme_count names texts k [] = refl
lexeme_count names texts k (s ∷ saids) = ap suc (lexeme_count names texts (k + length (number_in s)) saids)

pub map_count : {A B : Type 0} (f : A → B) (xs : List A) → length (map f xs) ≡ length xs
map_count f [] = refl
map_count f (x ∷ xs) = ap suc (map_count f xs)

pub few_lexemes : (bytes : List ℕ) (ts : List Token) → TokensOf bytes ts → length (lexed_of (map (said_by bytes) ts)).lexemes ≤ length bytes
few_lexemes bytes ts h =
    let saids = map (said_by bytes) ts in
    let e = lexeme_count (lexed_of saids).names (lexed_of saids).texts 0 saids in
    omega (arith, e, map_count (said_by bytes) ts, few_tokens bytes ts h)

one_lexeme : (u : Use) → 1 ≤ length (use_lexemes u)
one_lexeme (used.Name c) = omega arith
one_lexeme (used.Text t) = omega arith
one_lexeme (used.Number n) = omega arith
one_lexeme (used.Product l r) = omega arith

few_uses : (us : List Use) → length us ≤ length (flat_map use_lexemes us)
few_uses [] = omega arith
few_uses (u ∷ us) = omega (arith, one_lexeme u, few_uses us, length-append (use_lexemes u) (flat_map use_lexemes us))

kept : {A : Type 0} (p : A → Bool) (xs : List A) → length (filter p xs) ≤ length xs
kept p [] = omega arith
kept p (x ∷ xs) = elim (p x) as (λ b. length (cond b (x ∷ filter p xs) (filter p xs)) ≤ suc (length xs)) [
  | true ↦ omega (arith, kept p xs)
  | false ↦ omega (arith, kept p xs)
]

pub few_used : (numbers : List ℤ) (xs : Lexemes) (all : List Stated) → statements_of numbers xs ≡ Ok all → length (all_uses all) ≤ length xs
few_used numbers xs all e =
    let order = (are_stated numbers xs all e).in_order in
    omega (arith, few_uses (all_uses all), ap length order, kept is_atom xs)

form_uses_one : (f : Form) → 1 ≤ length (uses_of f)
form_uses_one (form.Update t s w) = omega arith
form_uses_one (form.Delete t w) = omega arith
form_uses_one (form.Insert t c s) = omega arith

stated_count : (numbers : List ℤ) (all : List Stated) → AllByRecursion (IsStated numbers) all → length all ≤ length (all_uses all)
stated_count numbers [] h = omega arith
stated_count numbers (s ∷ all) h = omega (arith, form_uses_one s.form, ap length h.0.uses, stated_count numbers all h.1, length-append s.uses (all_uses all))

pub few_stated : (numbers : List ℤ) (xs : Lexemes) (all : List Stated) → statements_of numbers xs ≡ Ok all → length all ≤ length xs
few_stated numbers xs all e = omega (arith, stated_count numbers all (are_stated numbers xs all e).each, few_used numbers xs all e)

-- ---- sizes of numbers

abbrev pub Small : ℤ → Type 0
Small z = unsigned_abs z ≤ 2 ^ 50

small_signed : (minus : Bool) (n : ℕ) → n ≤ 2 ^ 50 → Small (signed minus n)
small_signed true n h = omega (arith, ints)
small_signed false n h = h

small_piece : (p : Piece) (z : ℤ) → IsSound p → kind_of p ≡ Some (kind.Number z) → Small z
small_piece (number minus digits) z s e =
    let f : signed minus (value_of digits) ≡ z = cc in subst Small f (small_signed minus (value_of digits) s)
small_piece mark z s e = absurd cc
small_piece (blank x) z s e = absurd cc
small_piece (comment text) z s e = absurd cc
small_piece (word text) z s e = absurd cc
small_piece (string body) z s e = absurd cc
small_piece (one x) z s e = absurd cc
small_piece (two x y) z s e = absurd cc

small_word : (text : List ℕ) (o : Option Key) → AllByRecursion Small (number_in (word_said text o))
small_word text None = tt
small_word text (Some k) = tt

small_said : (bytes : List ℕ) (t : Token) (k : TokenKind) → t.kind ≡ k → StandsIn bytes t → AllByRecursion Small (number_in (said (slice_range bytes t.start t.end) k))
small_said bytes t (kind.Number z) e h = (small_piece h.piece z h.sound (h.kind ∙ ap (λ k. Some k) e), tt)
small_said bytes t kind.Word e h = small_word (slice_range bytes t.start t.end) (key_of (slice_range bytes t.start t.end))
small_said bytes t kind.Str e h = tt
small_said bytes t kind.Symbol e h = tt

small_join : (xs ys : List ℤ) → AllByRecursion Small xs → AllByRecursion Small ys → AllByRecursion Small (xs ++ ys)
small_join [] ys h k = k
small_join (x ∷ xs) ys h k = (h.0, small_join xs ys h.1 k)

small_numbers : (bytes : List ℕ) (ts : List Token) → AllByRecursion (StandsIn bytes) ts → AllByRecursion Small (numbers_of (map (said_by bytes) ts))
small_numbers bytes [] h = tt
small_numbers bytes (t ∷ ts) h = small_join (number_in (said_by bytes t)) (numbers_of (map (said_by bytes) ts)) (small_said bytes t t.kind refl h.0) (small_numbers bytes ts h.1)

small_at : (numbers : List ℤ) → AllByRecursion Small numbers → AreSmall numbers
small_at [] h n = omega arith
small_at (z ∷ numbers) h zero = h.0
small_at (z ∷ numbers) h (suc n) = small_at numbers h.1 n

pub all_small : (bytes : List ℕ) (ts : List Token) → TokensOf bytes ts → AllByRecursion Small (numbers_of (map (said_by bytes) ts))
all_small bytes ts h = small_numbers bytes ts (recursion_from_All (StandsIn bytes) ts (tokens_stand bytes ts h))

pub are_small : (bytes : List ℕ) (ts : List Token) → TokensOf bytes ts → AreSmall (numbers_of (map (said_by bytes) ts))
are_small bytes ts h = small_at (numbers_of (map (said_by bytes) ts)) (all_small bytes ts h)

-- ---- the reading

pub read_is : (tokens : List Token) (lexed : Lexed) (all : List Stated) → statements_of lexed.numbers lexed.lexemes ≡ Ok all → read_lexed tokens lexed ≡ Ok (reading_of (filter (λ (t : Token). is_number t.kind) tokens) lexed all)
read_is tokens lexed all e = ap (reading_or (filter (λ (t : Token). is_number t.kind) tokens) lexed) e

abbrev reading : Lexed → List Statement → List ParamPlace → Reading
reading l statements parameters = record { names = l.names; texts = l.texts; statements = statements; parameters = parameters }

pub reading_made : (tokens places : List Token) (l : Lexed) (values : List ℤ) (ids : List ℕ) (these all : List Stated) (statements : List Statement) (parameters : List ParamPlace)
    → values ≡ l.numbers → ids ≡ ids_of these → these ≡ all → places ≡ filter (λ (t : Token). is_number t.kind) tokens
    → statements ≡ map (λ (s : Stated). lowered_form values ids s.form) these → parameters ≡ places_from places values 1 these
    → reading_of (filter (λ (t : Token). is_number t.kind) tokens) l all ≡ record { names = l.names; texts = l.texts; statements = statements; parameters = parameters }
reading_made tokens places l values ids these all statements parameters v i o t s p =
    let lowered : statements ≡ map (λ (s : Stated). lowered_form l.numbers (ids_of all) s.form) all =
    s ∙ ap (λ (v : List ℤ). map (λ (s : Stated). lowered_form v ids s.form) these) v ∙ ap (λ (i : List ℕ). map (λ (s : Stated). lowered_form l.numbers i s.form) these) i
    ∙ ap (λ (o : List Stated). map (λ (s : Stated). lowered_form l.numbers (ids_of o) s.form) o) o in
    let placed : parameters ≡ places_from (filter (λ (t : Token). is_number t.kind) tokens) l.numbers 1 all =
    p ∙ ap (λ (t : List Token). places_from t values 1 these) t ∙ ap (λ (v : List ℤ). places_from (filter (λ (t : Token). is_number t.kind) tokens) v 1 these) v
    ∙ ap (λ (o : List Stated). places_from (filter (λ (t : Token). is_number t.kind) tokens) l.numbers 1 o) o in
    sym (ap (λ (s : List Statement). reading l s parameters) lowered ∙ ap (λ (p : List ParamPlace). reading l (map (λ (s : Stated). lowered_form l.numbers (ids_of all) s.form) all) p) placed)
