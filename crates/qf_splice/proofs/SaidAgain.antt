-- The pieces with other numbers say the same but for these numbers.
use Rattle.std.proofs.Common.{◌≡◌, ◌≢◌, ℕ, ◌+◌, Bool, true, false, cond, List, [], ◌∷◌, ◌++◌, length, map, take, drop, refl, sym, ap, subst, ◌∙◌, arith, append_assoc, Option, Some, None, fold}
use Rattle.std.specs.Prelude.{ℤ, ◌==◌, ◌||◌, ◌&&◌, ◌-◌, option_map, option_to_list, slice_range, is_some}
use Rattle.std.specs.Ordering.{int_eq}
use Rattle.std.specs.Fmt.{signed_decimal}
use Rattle.std.specs.List.{AllByRecursion, flat_map, list_any, find}
use Rattle.std.specs.Str.{str_eq_ignore_ascii_case}
use Rattle.std.proofs.lemmas.List.{length-append, take-append-le, drop-append-le, take_all, drop_all}
use Rattle.std.proofs.lemmas.Bool.{eqb-true}
use Rattle.std.proofs.lemmas.Bool.Decides.{Decides-int_eq}
use Rattle.qf_ir.specs.Fits.{Small}
use Rattle.qf_lex.specs.declared.bytes.Before.{Before}
use Rattle.qf_lex.specs.declared.bytes.Before.TheVariants as before
use Rattle.qf_lex.specs.declared.token.Token.{Token}
use Rattle.qf_lex.specs.declared.token.TokenKind.{TokenKind}
use Rattle.qf_lex.specs.Pieces.{Piece, mark, blank, comment, word, number, string, one, two, text_of, spelling, is_reserved, then_before}
use Rattle.qf_lex.specs.Tokens.{value_of, signed, kind_of, tokens_from}
use Rattle.qf_grammar.specs.declared.lexeme.Key.{Key}
use Rattle.qf_grammar.specs.declared.lexeme.Lexeme.TheVariants as lex
use Rattle.qf_grammar.specs.declared.lexeme.Mark.TheVariants as symbol
use Rattle.qf_log.specs.Said as said
use Rattle.qf_log.specs.Said.{Said, keys, key_of, key_in, mark_of, mark_of_one, mark_of_two, word_said, said_by}
use Rattle.qf_log.specs.Lexed.{with_name, with_string, number_in, numbers_of, lexeme_of, lexemes_from}
use Rattle.qf_splice.proofs.Neighbours.{is_value, Parted}
use Rattle.qf_splice.proofs.Numerals.{numeral_of, numeral_value}
use Rattle.qf_splice.proofs.NewPieces.{last_of, joined, with_blank, new_number, new_pieces, Unvalued}

-- ---- what pieces say

abbrev pub said_piece : Piece → List Said
said_piece p = option_to_list (option_map (said.said (text_of p)) (kind_of p))

abbrev pub saids_in : List Piece → List Said
saids_in ps = flat_map said_piece ps

drop_front : (front text : List ℕ) → drop (length front) (front ++ text) ≡ text
drop_front front text = drop-append-le (length front) front text (omega arith) ∙ ap (λ t. t ++ text) (drop_all (length front) front (omega arith))

take_front : (front text : List ℕ) → take (length front) (front ++ text) ≡ front
take_front front text = take-append-le (length front) front text (omega arith) ∙ take_all (length front) front (omega arith)

pub middle : (front text rest : List ℕ) → slice_range (front ++ (text ++ rest)) (length front) (length front + length text) ≡ text
middle front text rest =
    ap (λ t. take ((length front + length text) - length front) t) (drop_front front (text ++ rest))
    ∙ ap (λ n. take n (text ++ rest)) (omega arith) ∙ take_front text rest

abbrev token_of : ℕ → Piece → Option TokenKind → List Token
token_of at p o = option_to_list (option_map (λ k. record { start = at; end = at + length (text_of p); kind = k }) o)

one_said : (front rest : List ℕ) (p : Piece) (o : Option TokenKind) (ts : List Token)
    → map (said_by (front ++ (text_of p ++ rest))) (token_of (length front) p o ++ ts) ≡ option_to_list (option_map (said.said (text_of p)) o) ++ map (said_by (front ++ (text_of p ++ rest))) ts
one_said front rest p None ts = refl
one_said front rest p (Some k) ts = ap (λ t. said.said t k ∷ map (said_by (front ++ (text_of p ++ rest))) ts) (middle front (text_of p) rest)

pub saids_are : (front : List ℕ) (ps : List Piece) → map (said_by (front ++ spelling ps)) (tokens_from (length front) ps) ≡ saids_in ps
saids_are front [] = refl
saids_are front (p ∷ ps) =
    one_said front (spelling ps) p (kind_of p) (tokens_from (length front + length (text_of p)) ps)
    ∙ ap (λ s. said_piece p ++ s)
    (ap (λ n. map (said_by (front ++ (text_of p ++ spelling ps))) (tokens_from n ps)) (sym (length-append front (text_of p)))
    ∙ ap (λ t. map (said_by t) (tokens_from (length (front ++ text_of p)) ps)) (sym (append_assoc front (text_of p) (spelling ps)))
    ∙ saids_are (front ++ text_of p) ps)

-- ---- other numbers

abbrev pub renumbered : List ℤ → List Said → List Said
renumbered zs [] = []
renumbered zs (said.key k ∷ saids) = said.key k ∷ renumbered zs saids
renumbered zs (said.name n ∷ saids) = said.name n ∷ renumbered zs saids
renumbered zs (said.text t ∷ saids) = said.text t ∷ renumbered zs saids
renumbered zs (said.mark m ∷ saids) = said.mark m ∷ renumbered zs saids
renumbered [] (said.number x ∷ saids) = said.number x ∷ renumbered [] saids
renumbered (z ∷ zs) (said.number x ∷ saids) = said.number z ∷ renumbered zs saids

pub names_again : (names : List (List ℕ)) (zs : List ℤ) (saids : List Said) → fold with_name names (renumbered zs saids) ≡ fold with_name names saids
names_again names zs [] = refl
names_again names zs (said.key k ∷ saids) = names_again names zs saids
names_again names zs (said.name n ∷ saids) = names_again (with_name names (said.name n)) zs saids
names_again names zs (said.text t ∷ saids) = names_again names zs saids
names_again names zs (said.mark m ∷ saids) = names_again names zs saids
names_again names [] (said.number x ∷ saids) = names_again names [] saids
names_again names (z ∷ zs) (said.number x ∷ saids) = names_again names zs saids

pub texts_again : (texts : List (List ℕ)) (zs : List ℤ) (saids : List Said) → fold with_string texts (renumbered zs saids) ≡ fold with_string texts saids
texts_again texts zs [] = refl
texts_again texts zs (said.key k ∷ saids) = texts_again texts zs saids
texts_again texts zs (said.name n ∷ saids) = texts_again texts zs saids
texts_again texts zs (said.text t ∷ saids) = texts_again (with_string texts (said.text t)) zs saids
texts_again texts zs (said.mark m ∷ saids) = texts_again texts zs saids
texts_again texts [] (said.number x ∷ saids) = texts_again texts [] saids
texts_again texts (z ∷ zs) (said.number x ∷ saids) = texts_again texts zs saids

pub lexemes_again : (names texts : List (List ℕ)) (k : ℕ) (zs : List ℤ) (saids : List Said) → lexemes_from names texts k (renumbered zs saids) ≡ lexemes_from names texts k saids
lexemes_again names texts k zs [] = refl
lexemes_again names texts k zs (said.key x ∷ saids) = ap (λ t. lex.Key x ∷ t) (lexemes_again names texts (k + 0) zs saids)
lexemes_again names texts k zs (said.name n ∷ saids) = ap (λ t. lexeme_of names texts k (said.name n) ∷ t) (lexemes_again names texts (k + 0) zs saids)
lexemes_again names texts k zs (said.text n ∷ saids) = ap (λ t. lexeme_of names texts k (said.text n) ∷ t) (lexemes_again names texts (k + 0) zs saids)
lexemes_again names texts k zs (said.mark m ∷ saids) = ap (λ t. lex.Mark m ∷ t) (lexemes_again names texts (k + 0) zs saids)
lexemes_again names texts k [] (said.number x ∷ saids) = ap (λ t. lex.Number k ∷ t) (lexemes_again names texts (k + 1) [] saids)
lexemes_again names texts k (z ∷ zs) (said.number x ∷ saids) = ap (λ t. lex.Number k ∷ t) (lexemes_again names texts (k + 1) zs saids)

pub numbers_again : (zs : List ℤ) (saids : List Said) → length zs ≡ length (numbers_of saids) → numbers_of (renumbered zs saids) ≡ zs
numbers_again [] [] e = refl
numbers_again (z ∷ zs) [] e = absurd (omega (arith, e))
numbers_again zs (said.key k ∷ saids) e = numbers_again zs saids e
numbers_again zs (said.name n ∷ saids) e = numbers_again zs saids e
numbers_again zs (said.text t ∷ saids) e = numbers_again zs saids e
numbers_again zs (said.mark m ∷ saids) e = numbers_again zs saids e
numbers_again [] (said.number x ∷ saids) e = absurd (omega (arith, e))
numbers_again (z ∷ zs) (said.number x ∷ saids) e = ap (λ t. z ∷ t) (numbers_again zs saids (omega (arith, e)))

word_again : (zs : List ℤ) (text : List ℕ) (o : Option Key) (more less : List Said) → more ≡ renumbered zs less → word_said text o ∷ more ≡ renumbered zs (word_said text o ∷ less)
word_again zs text None more less e = ap (λ t. word_said text None ∷ t) e
word_again zs text (Some k) more less e = ap (λ t. said.key k ∷ t) e

blank_said : (v : Bool) (p : Piece) (ps : List Piece) → saids_in (with_blank v p ++ ps) ≡ said_piece p ++ saids_in ps
blank_said true p ps = refl
blank_said false p ps = refl

number_said : (last : Option ℕ) (z : ℤ) (minus : Bool) (digits : List ℕ) (v : Bool) (ps : List Piece) → int_eq z (signed minus (value_of digits)) ≡ v → Small z → saids_in (new_number last z (number minus digits) v ++ ps) ≡ said.number z ∷ saids_in ps
number_said last z minus digits true ps e small = ap (λ x. said.number x ∷ saids_in ps) (sym ((Decides-int_eq z (signed minus (value_of digits))).0 e))
number_said last z minus digits false ps e small = blank_said (joined last (signed_decimal z)) (numeral_of z) ps ∙ ap (λ x. said.number x ∷ saids_in ps) (numeral_value z small)

pub said_again : (last : Option ℕ) (zs : List ℤ) (ps : List Piece) → AllByRecursion Small zs → saids_in (new_pieces last zs ps) ≡ renumbered zs (saids_in ps)
said_again last zs [] small = refl
said_again last zs (mark ∷ ps) small = said_again (last_of last (text_of mark)) zs ps small
said_again last zs (blank x ∷ ps) small = said_again (last_of last (text_of (blank x))) zs ps small
said_again last zs (comment text ∷ ps) small = said_again (last_of last (text_of (comment text))) zs ps small
said_again last zs (word text ∷ ps) small = word_again zs text (key_of text) (saids_in (new_pieces (last_of last text) zs ps)) (saids_in ps) (said_again (last_of last text) zs ps small)
said_again last zs (string body ∷ ps) small = ap (λ t. said_piece (string body) ++ t) (said_again (last_of last (text_of (string body))) zs ps small)
said_again last zs (one x ∷ ps) small = ap (λ t. said_piece (one x) ++ t) (said_again (last_of last (text_of (one x))) zs ps small)
said_again last zs (two x y ∷ ps) small = ap (λ t. said_piece (two x y) ++ t) (said_again (last_of last (text_of (two x y))) zs ps small)
said_again last [] (number minus digits ∷ ps) small = ap (λ t. said_piece (number minus digits) ++ t) (said_again (last_of last (text_of (number minus digits))) [] ps small)
said_again last (z ∷ zs) (number minus digits ∷ ps) small =
    number_said last z minus digits (int_eq z (signed minus (value_of digits))) (new_pieces (last_of last (text_of (number minus digits))) zs ps) refl small.0
    ∙ ap (λ t. said.number z ∷ t) (said_again (last_of last (text_of (number minus digits))) zs ps small.1)

-- ---- a number does not stand behind a value

abbrev pub valued : Before → Bool
valued before.Start = false
valued before.Value = true
valued before.Other = false

blank_valued : (b : Before) (x : ℕ) → valued (then_before b (blank x)) ≡ valued b
blank_valued before.Start x = refl
blank_valued before.Value x = refl
blank_valued before.Other x = refl

comment_valued : (b : Before) (text : List ℕ) → valued (then_before b (comment text)) ≡ valued b
comment_valued before.Start text = refl
comment_valued before.Value text = refl
comment_valued before.Other text = refl

-- the reserved words are the keywords
found_any : (entries : List (List ℕ × Key)) (text : List ℕ) → is_some (find (λ (e : List ℕ × Key). str_eq_ignore_ascii_case e.0 text) entries) ≡ list_any (λ w. str_eq_ignore_ascii_case w text) (map (λ (e : List ℕ × Key). e.0) entries)
found_any [] text = refl
found_any (e ∷ entries) text =
    elim (str_eq_ignore_ascii_case e.0 text) as (λ b. is_some (cond b (Some e) (find (λ (e : List ℕ × Key). str_eq_ignore_ascii_case e.0 text) entries)) ≡ b || list_any (λ w. str_eq_ignore_ascii_case w text) (map (λ (e : List ℕ × Key). e.0) entries)) [
      | true ↦ refl
      | false ↦ found_any entries text
    ]

still_some : (o : Option (List ℕ × Key)) → is_some (option_map (λ (e : List ℕ × Key). e.1) o) ≡ is_some o
still_some None = refl
still_some (Some e) = refl

key_reserved : (text : List ℕ) → is_some (key_of text) ≡ is_reserved text
unfolding key_of
key_reserved text = still_some (find (λ (e : List ℕ × Key). str_eq_ignore_ascii_case e.0 text) keys) ∙ found_any keys text

word_case : (b : Before) (names texts : List (List ℕ)) (k : ℕ) (text : List ℕ) (o : Option Key) (v : Bool) → is_some o ≡ v → valued (cond v before.Other before.Value) ≡ is_value (lexeme_of names texts k (word_said text o))
word_case b names texts k text None true e = absurd cc
word_case b names texts k text None false e = refl
word_case b names texts k text (Some x) true e = refl
word_case b names texts k text (Some x) false e = absurd cc

word_valued : (b : Before) (names texts : List (List ℕ)) (k : ℕ) (text : List ℕ) → valued (then_before b (word text)) ≡ is_value (lexeme_of names texts k (word_said text (key_of text)))
word_valued b names texts k text = word_case b names texts k text (key_of text) (is_reserved text) (key_reserved text)

-- only `)` is a closing bracket
not_close : (a c d e f g h i : Bool) → is_value (lex.Mark (cond a symbol.Open (cond c symbol.Comma (cond d symbol.Semicolon (cond e symbol.Equal (cond f symbol.Less (cond g symbol.Greater (cond h symbol.Plus (cond i symbol.Minus symbol.Star))))))))) ≡ false
not_close true c d e f g h i = refl
not_close false true d e f g h i = refl
not_close false false true e f g h i = refl
not_close false false false true f g h i = refl
not_close false false false false true g h i = refl
not_close false false false false false true h i = refl
not_close false false false false false false true i = refl
not_close false false false false false false false true = refl
not_close false false false false false false false false = refl

close_case : (b : Before) (x : ℕ) (v : Bool) → (x == 41) ≡ v → valued (cond v before.Value before.Other) ≡ is_value (lex.Mark (mark_of_one x))
close_case b x true e = subst (λ y. true ≡ is_value (lex.Mark (mark_of_one y))) (sym (eqb-true x 41 e)) refl
close_case b x false e = rw e (sym (not_close (x == 40) (x == 44) (x == 59) (x == 61) (x == 60) (x == 62) (x == 43) (x == 45)))

two_case : (v w : Bool) → is_value (lex.Mark (cond v symbol.LessEqual (cond w symbol.GreaterEqual symbol.Unequal))) ≡ false
two_case true w = refl
two_case false true = refl
two_case false false = refl

not_behind : (b : Before) (v : Bool) → v ≡ valued b → v ≡ false → b ≢ before.Value
not_behind b v e f = λ h. let yes : true ≡ false = ap valued (sym h) ∙ sym e ∙ f in cc

pub unvalued : (b : Before) (v : Bool) (names texts : List (List ℕ)) (k : ℕ) (ps : List Piece) → v ≡ valued b → Parted v (lexemes_from names texts k (saids_in ps)) → Unvalued b ps
unvalued b v names texts k [] e h = tt
unvalued b v names texts k (mark ∷ ps) e h = (tt, unvalued b v names texts k ps e h)
unvalued b v names texts k (blank x ∷ ps) e h = (tt, unvalued (then_before b (blank x)) v names texts k ps (e ∙ sym (blank_valued b x)) h)
unvalued b v names texts k (comment text ∷ ps) e h = (tt, unvalued (then_before b (comment text)) v names texts k ps (e ∙ sym (comment_valued b text)) h)
unvalued b v names texts k (word text ∷ ps) e h =
    let l = lexeme_of names texts k (word_said text (key_of text)) in
    (tt, unvalued (then_before b (word text)) (is_value l) names texts (k + length (number_in (word_said text (key_of text)))) ps (sym (word_valued b names texts k text)) h.1)
unvalued b v names texts k (number minus digits ∷ ps) e h = (not_behind b v e h.0, unvalued before.Value true names texts (k + 1) ps refl h.1)
unvalued b v names texts k (string body ∷ ps) e h = (tt, unvalued before.Other false names texts (k + 0) ps refl h.1)
unvalued b v names texts k (one x ∷ ps) e h = (tt, unvalued (then_before b (one x)) (is_value (lex.Mark (mark_of_one x))) names texts (k + 0) ps (sym (close_case b x (x == 41) refl)) h.1)
unvalued b v names texts k (two x y ∷ ps) e h = (tt, unvalued before.Other (is_value (lex.Mark (mark_of_two x y))) names texts (k + 0) ps (two_case ((x == 60) && (y == 61)) ((x == 62) && (y == 61))) h.1)
