-- The repaired text is spelled by the pieces with other numbers.
use Rattle.std.proofs.Common.{◌≡◌, ℕ, zero, suc, ◌+◌, ◌-◌, ◌≤◌, Bool, true, false, cond, List, [], ◌∷◌, ◌++◌, length, map, filter, take, drop, get_or, refl, sym, ap, ◌∙◌, arith, append_assoc, Option, Some, None}
use Rattle.std.specs.Prelude.{ℤ, pos, ◌==◌, slice_get}
use Rattle.std.specs.Ordering.{int_eq}
use Rattle.std.specs.Fmt.{signed_decimal}
use Rattle.std.specs.List.{AllByRecursion}
use Rattle.std.proofs.lemmas.List.{append-nil, length-append, take-append-le, drop-append-le, take_all, length-drop}
use Rattle.std.proofs.lemmas.List.Concat.{flat_map-append}
use Rattle.std.proofs.lemmas.Bool.Decides.{Decides-int_eq, nat_tests}
use Rattle.qf_ir.specs.Fits.{Small}
use Rattle.qf_lex.specs.declared.token.Token.{Token}
use Rattle.qf_lex.specs.declared.token.TokenKind.{TokenKind}
use Rattle.qf_lex.specs.declared.token.TokenKind.TheVariants as kind
use Rattle.qf_lex.specs.Pieces.{Piece, mark, blank, comment, word, number, string, one, two, text_of, spelling}
use Rattle.qf_lex.specs.Tokens.{value_of, signed, tokens_from, IsSound}
use Rattle.qf_grammar.specs.declared.lexeme.Key.{Key}
use Rattle.qf_grammar.specs.declared.judging.Stated.{Stated}
use Rattle.qf_log.specs.declared.places.ParamPlace.{ParamPlace}
use Rattle.qf_log.specs.Said.{word_said, key_of}
use Rattle.qf_log.specs.Lexed.{number_in, numbers_of}
use Rattle.qf_log.specs.Parameters.{alone, parameters_in, number_at, no_token, token_at, is_number, place_of, places_in, places_from}
use Rattle.qf_log.proofs.Lists.{all_uses}
use Rattle.qf_splice.specs.RepairedText.{byte_before, parted, literal, repaired_from}
use Rattle.qf_splice.proofs.Numerals.{numeral_of, numeral_text, signed_small}
use Rattle.qf_splice.proofs.NewPieces.{last_of, joined, with_blank, new_number, new_pieces}
use Rattle.qf_splice.proofs.SaidAgain.{middle, saids_in}
use Rattle.qf_splice.proofs.Picks.{pick, put}

-- ---- where the numbers stand

-- the first byte of a number, the first behind it, and its value
abbrev pub Spot : Type 0
Spot = ℕ × ℕ × ℤ

abbrev pub spot_of : ParamPlace → Spot
spot_of p = (p.start, p.end, p.old)

abbrev pub value_in : Spot → ℤ
value_in s = s.2

abbrev pub spots_in : ℕ → List Piece → List Spot
spots_in at [] = []
spots_in at (number minus digits ∷ ps) = (at, at + length (text_of (number minus digits)), signed minus (value_of digits)) ∷ spots_in (at + length (text_of (number minus digits))) ps
spots_in at (p ∷ ps) = spots_in (at + length (text_of p)) ps

abbrev number_of : TokenKind → ℤ
number_of (kind.Number z) = z
number_of _ = pos 0

abbrev token_spot : Token → Spot
token_spot t = (t.start, t.end, number_of t.kind)

abbrev pub number_tokens : List Token → List Token
number_tokens ts = filter (λ (t : Token). is_number t.kind) ts

spots_are : (at : ℕ) (ps : List Piece) → spots_in at ps ≡ map token_spot (number_tokens (tokens_from at ps))
spots_are at [] = refl
spots_are at (mark ∷ ps) = spots_are (at + 3) ps
spots_are at (blank x ∷ ps) = spots_are (at + 1) ps
spots_are at (comment text ∷ ps) = spots_are (at + length (text_of (comment text))) ps
spots_are at (word text ∷ ps) = spots_are (at + length text) ps
spots_are at (number minus digits ∷ ps) = ap (λ t. (at, at + length (text_of (number minus digits)), signed minus (value_of digits)) ∷ t) (spots_are (at + length (text_of (number minus digits))) ps)
spots_are at (string body ∷ ps) = spots_are (at + length (text_of (string body))) ps
spots_are at (one x ∷ ps) = spots_are (at + 1) ps
spots_are at (two x y ∷ ps) = spots_are (at + 2) ps

word_none : (text : List ℕ) (o : Option Key) → number_in (word_said text o) ≡ []
word_none text None = refl
word_none text (Some k) = refl

pub numbers_are : (at : ℕ) (ps : List Piece) → numbers_of (saids_in ps) ≡ map value_in (spots_in at ps)
numbers_are at [] = refl
numbers_are at (mark ∷ ps) = numbers_are (at + 3) ps
numbers_are at (blank x ∷ ps) = numbers_are (at + 1) ps
numbers_are at (comment text ∷ ps) = numbers_are (at + length (text_of (comment text))) ps
numbers_are at (word text ∷ ps) = ap (λ t. t ++ numbers_of (saids_in ps)) (word_none text (key_of text)) ∙ numbers_are (at + length text) ps
numbers_are at (number minus digits ∷ ps) = ap (λ t. signed minus (value_of digits) ∷ t) (numbers_are (at + length (text_of (number minus digits))) ps)
numbers_are at (string body ∷ ps) = numbers_are (at + length (text_of (string body))) ps
numbers_are at (one x ∷ ps) = numbers_are (at + 1) ps
numbers_are at (two x y ∷ ps) = numbers_are (at + 2) ps

pub numbers_small : (at : ℕ) (ps : List Piece) → AllByRecursion IsSound ps → AllByRecursion Small (map value_in (spots_in at ps))
numbers_small at [] h = tt
numbers_small at (mark ∷ ps) h = numbers_small (at + 3) ps h.1
numbers_small at (blank x ∷ ps) h = numbers_small (at + 1) ps h.1
numbers_small at (comment text ∷ ps) h = numbers_small (at + length (text_of (comment text))) ps h.1
numbers_small at (word text ∷ ps) h = numbers_small (at + length text) ps h.1
numbers_small at (number minus digits ∷ ps) h = (signed_small minus (value_of digits) h.0, numbers_small (at + length (text_of (number minus digits))) ps h.1)
numbers_small at (string body ∷ ps) h = numbers_small (at + length (text_of (string body))) ps h.1
numbers_small at (one x ∷ ps) h = numbers_small (at + 1) ps h.1
numbers_small at (two x y ∷ ps) h = numbers_small (at + 2) ps h.1

-- ---- the places of the parameters

pub map_join : {A B : Type 0} (f : A → B) (xs ys : List A) → map f (xs ++ ys) ≡ map f xs ++ map f ys
map_join f [] ys = refl
map_join f (x ∷ xs) ys = ap (λ t. f x ∷ t) (map_join f xs ys)

pub map_map : {A B C : Type 0} (f : B → C) (g : A → B) (xs : List A) → map f (map g xs) ≡ map (λ x. f (g x)) xs
map_map f g [] = refl
map_map f g (x ∷ xs) = ap (λ t. f (g x) ∷ t) (map_map f g xs)

get_map : {A B : Type 0} (f : A → B) (xs : List A) (n : ℕ) (d : A) → get_or (map f xs) n (f d) ≡ f (get_or xs n d)
get_map f [] n d = refl
get_map f (x ∷ xs) zero d = refl
get_map f (x ∷ xs) (suc n) d = get_map f xs n d

pub map_same : {A B : Type 0} (f g : A → B) → ((x : A) → f x ≡ g x) → (xs : List A) → map f xs ≡ map g xs
map_same f g h [] = refl
map_same f g h (x ∷ xs) = ap (λ y. y ∷ map f xs) (h x) ∙ ap (λ t. g x ∷ t) (map_same f g h xs)

-- what is said of each parameter, where its statement does not count
pub over_places : {B : Type 0} (f : ParamPlace → B) (g : ℕ → B) (tokens : List Token) (numbers : List ℤ) → ((k n : ℕ) → f (place_of tokens numbers k n) ≡ g n) → (k : ℕ) (all : List Stated) → map f (places_from tokens numbers k all) ≡ map g (parameters_in (all_uses all))
over_places f g tokens numbers h k [] = refl
over_places f g tokens numbers h k (s ∷ all) =
    map_join f (places_in tokens numbers k s.uses) (places_from tokens numbers (k + 1) all)
    ∙ ap (λ t. t ++ map f (places_from tokens numbers (k + 1) all)) (map_map f (place_of tokens numbers k) (parameters_in s.uses) ∙ map_same (λ n. f (place_of tokens numbers k n)) g (h k) (parameters_in s.uses))
    ∙ ap (λ t. map g (parameters_in s.uses) ++ t) (over_places f g tokens numbers h (k + 1) all)
    ∙ sym (map_join g (parameters_in s.uses) (parameters_in (all_uses all)))
    ∙ ap (map g) (sym (flat_map-append alone s.uses (all_uses all)))

-- the statements of the parameters are the same, whatever the tokens and the numbers
pub homes_are : (tokens others : List Token) (numbers values : List ℤ) (k : ℕ) (all : List Stated) → map (λ (p : ParamPlace). p.statement) (places_from tokens numbers k all) ≡ map (λ (p : ParamPlace). p.statement) (places_from others values k all)
homes_are tokens others numbers values k [] = refl
homes_are tokens others numbers values k (s ∷ all) =
    let f : ParamPlace → ℕ = λ p. p.statement in
    let here = places_in tokens numbers k s.uses in
    let there = places_in others values k s.uses in
    map_join f here (places_from tokens numbers (k + 1) all)
    ∙ ap (λ t. t ++ map f (places_from tokens numbers (k + 1) all)) (map_map f (place_of tokens numbers k) (parameters_in s.uses) ∙ sym (map_map f (place_of others values k) (parameters_in s.uses)))
    ∙ ap (λ t. map f there ++ t) (homes_are tokens others numbers values (k + 1) all)
    ∙ sym (map_join f there (places_from others values (k + 1) all))

abbrev no_spot : Spot
no_spot = (0, 0, pos 0)

spot_here : (ps : List Piece) (numbers : List ℤ) → numbers ≡ map value_in (spots_in 0 ps) → (k n : ℕ) → spot_of (place_of (number_tokens (tokens_from 0 ps)) numbers k n) ≡ get_or (spots_in 0 ps) n no_spot
spot_here ps numbers e k n =
    let tokens = number_tokens (tokens_from 0 ps) in
    let t = token_at tokens n in
    let s : Spot = get_or (spots_in 0 ps) n no_spot in
    let at : ◌≡◌ {A = Spot} s (token_spot t) = ap (λ (xs : List Spot). get_or xs n no_spot) (spots_are 0 ps) ∙ get_map token_spot tokens n no_token in
    let value : number_at numbers n ≡ number_of t.kind = ap (λ (xs : List ℤ). get_or xs n (pos 0)) e ∙ get_map value_in (spots_in 0 ps) n no_spot ∙ ap value_in at in
    let same : ◌≡◌ {A = Spot} (t.start, t.end, number_at numbers n) (token_spot t) = ap (λ (z : ℤ). (t.start, t.end, z)) value in
    same ∙ sym at

pub spots_of_places : (ps : List Piece) (numbers : List ℤ) → numbers ≡ map value_in (spots_in 0 ps) → (all : List Stated) → map spot_of (places_from (number_tokens (tokens_from 0 ps)) numbers 1 all) ≡ map (λ n. get_or (spots_in 0 ps) n no_spot) (parameters_in (all_uses all))
spots_of_places ps numbers e all = over_places spot_of (λ n. get_or (spots_in 0 ps) n no_spot) (number_tokens (tokens_from 0 ps)) numbers (spot_here ps numbers e) 1 all

-- ---- the text

last_join : (last : Option ℕ) (front text : List ℕ) → last_of last (front ++ text) ≡ last_of (last_of last front) text
last_join last [] text = refl
last_join last (b ∷ front) text = last_join (Some b) front text

last_at : (b : ℕ) (bytes rest : List ℕ) → last_of (Some b) bytes ≡ slice_get (b ∷ (bytes ++ rest)) (length bytes)
last_at b [] rest = refl
last_at b (c ∷ bytes) rest = last_at c bytes rest

last_before : (front rest : List ℕ) → last_of None front ≡ byte_before (front ++ rest) (length front)
last_before [] rest = refl
last_before (b ∷ bytes) rest =
    let n = length bytes in
    let some : (suc n == 0) ≡ false = grind (arith, nat_tests) in
    let one : suc n - 1 ≡ n = omega arith in
    last_at b bytes rest ∙ ap (slice_get (b ∷ (bytes ++ rest))) (sym one) ∙ ap (λ v. cond v None (slice_get (b ∷ (bytes ++ rest)) (suc n - 1))) (sym some)

parted_is : (o : Option ℕ) (numeral : List ℕ) → parted o numeral ≡ cond (joined o numeral) (32 ∷ numeral) numeral
parted_is None numeral = refl
parted_is (Some b) [] = refl
parted_is (Some b) (x ∷ numeral) = refl

blank_text : (v : Bool) (z : ℤ) → spelling (with_blank v (numeral_of z)) ≡ cond v (32 ∷ signed_decimal z) (signed_decimal z)
blank_text true z = ap (λ t. 32 ∷ t) (append-nil (text_of (numeral_of z)) ∙ numeral_text z)
blank_text false z = append-nil (text_of (numeral_of z)) ∙ numeral_text z

abbrev literal_at : List ℕ → ℕ → ℕ → ℤ → Bool → List ℕ
literal_at bytes start end value v = cond v (take (end - start) (drop start bytes)) (parted (byte_before bytes start) (signed_decimal value))

-- a number in the place of another is the literal
number_text : (front rest : List ℕ) (here : ℕ) (last : Option ℕ) (z : ℤ) (p : Piece) (v : Bool) → here ≡ length front → last ≡ last_of None front
    → spelling (new_number last z p v) ≡ literal_at (front ++ (text_of p ++ rest)) here (here + length (text_of p)) z v
number_text front rest here last z p true e f =
    append-nil (text_of p) ∙ sym (ap (λ n. take ((n + length (text_of p)) - n) (drop n (front ++ (text_of p ++ rest)))) e ∙ middle front (text_of p) rest)
number_text front rest here last z p false e f =
    let byte : last ≡ byte_before (front ++ (text_of p ++ rest)) here = f ∙ last_before front (text_of p ++ rest) ∙ ap (byte_before (front ++ (text_of p ++ rest))) (sym e) in
    blank_text (joined last (signed_decimal z)) z ∙ sym (parted_is last (signed_decimal z)) ∙ ap (λ o. parted o (signed_decimal z)) byte

-- bytes that stay
grown : (front text : List ℕ) (at here : ℕ) → here ≡ length front → at ≤ here → take ((here + length text) - at) (drop at (front ++ text)) ≡ take (here - at) (drop at front) ++ text
grown front text at here e le =
    take_all ((here + length text) - at) (drop at (front ++ text)) (omega (arith, e, length-drop at (front ++ text), length-append front text))
    ∙ drop-append-le at front text (omega (arith, e, le))
    ∙ ap (λ t. t ++ text) (sym (take_all (here - at) (drop at front) (omega (arith, e, length-drop at front))))

same_step : (front text rest new : List ℕ) (at here : ℕ) (places : List ParamPlace) (vs : List ℤ) → here ≡ length front → at ≤ here
    → take ((here + length text) - at) (drop at (front ++ text)) ++ new ≡ repaired_from at ((front ++ text) ++ rest) places vs
    → take (here - at) (drop at front) ++ (text ++ new) ≡ repaired_from at (front ++ (text ++ rest)) places vs
same_step front text rest new at here places vs e le h =
    sym (append_assoc (take (here - at) (drop at front)) text new) ∙ ap (λ t. t ++ new) (sym (grown front text at here e le)) ∙ h
    ∙ ap (λ t. repaired_from at t places vs) (append_assoc front text rest)

-- bytes before a literal
kept : (front more : List ℕ) (at here : ℕ) → here ≡ length front → at ≤ here → take (here - at) (drop at (front ++ more)) ≡ take (here - at) (drop at front)
kept front more at here e le =
    ap (take (here - at)) (drop-append-le at front more (omega (arith, e, le))) ∙ take-append-le (here - at) (drop at front) more (omega (arith, e, length-drop at front))

new_step : (front rest : List ℕ) (at here : ℕ) (last : Option ℕ) (z x : ℤ) (p : Piece) (ps : List Piece) (place : ParamPlace) (places : List ParamPlace) (vs : List ℤ) → here ≡ length front → last ≡ last_of None front → at ≤ here
    → ◌≡◌ {A = Spot} (spot_of place) (here, here + length (text_of p), x)
    → take ((here + length (text_of p)) - (here + length (text_of p))) (drop (here + length (text_of p)) (front ++ text_of p)) ++ spelling ps ≡ repaired_from (here + length (text_of p)) ((front ++ text_of p) ++ rest) places vs
    → take (here - at) (drop at front) ++ spelling (new_number last z p (int_eq z x) ++ ps) ≡ repaired_from at (front ++ (text_of p ++ rest)) (place ∷ places) (z ∷ vs)
new_step front rest at here last z x p ps place places vs e f le s h =
    let bytes = front ++ (text_of p ++ rest) in
    let end = here + length (text_of p) in
    let none : end - end ≡ 0 = omega arith in
    let after : spelling ps ≡ repaired_from end bytes places vs =
    ap (λ n. take n (drop end (front ++ text_of p)) ++ spelling ps) (sym none) ∙ h ∙ ap (λ t. repaired_from end t places vs) (append_assoc front (text_of p) rest) in
    let first : place.start ≡ here = ap (λ (t : Spot). t.0) s in
    let last' : place.end ≡ end = ap (λ (t : Spot). t.1) s in
    let old : place.old ≡ x = ap (λ (t : Spot). t.2) s in
    let here' : literal bytes place z ≡ literal_at bytes here end z (int_eq z x) =
    ap (λ n. literal_at bytes n place.end z (int_eq z place.old)) first ∙ ap (λ n. literal_at bytes here n z (int_eq z place.old)) last' ∙ ap (λ y. literal_at bytes here end z (int_eq z y)) old in
    let front' : take (place.start - at) (drop at bytes) ≡ take (here - at) (drop at front) = ap (λ n. take (n - at) (drop at bytes)) first ∙ kept front (text_of p ++ rest) at here e le in
    ap (λ t. take (here - at) (drop at front) ++ t) (joined_text (new_number last z p (int_eq z x)) ps)
    ∙ ap (λ t. take (here - at) (drop at front) ++ (t ++ spelling ps)) (number_text front rest here last z p (int_eq z x) e f ∙ sym here')
    ∙ ap (λ t. take (here - at) (drop at front) ++ (literal bytes place z ++ t)) (after ∙ ap (λ n. repaired_from n bytes places vs) (sym last'))
    ∙ ap (λ t. t ++ (literal bytes place z ++ repaired_from place.end bytes places vs)) (sym front')
  where
    joined_text : (ps qs : List Piece) → spelling (ps ++ qs) ≡ spelling ps ++ spelling qs
    joined_text ps qs = flat_map-append text_of ps qs

grow : (front text : List ℕ) (here : ℕ) → here ≡ length front → here + length text ≡ length (front ++ text)
grow front text here e = omega (arith, e, length-append front text)

reach : (front text : List ℕ) (last : Option ℕ) → last ≡ last_of None front → last_of last text ≡ last_of None (front ++ text)
reach front text last e = ap (λ o. last_of o text) e ∙ sym (last_join None front text)

unchanged : (last : Option ℕ) (x : ℤ) (p : Piece) (ps : List Piece) → spelling (new_number last x p (int_eq x x) ++ ps) ≡ text_of p ++ spelling ps
unchanged last x p ps = ap (λ v. spelling (new_number last x p v ++ ps)) ((Decides-int_eq x x).1 refl)

abbrev News : ℕ → List Bool → List ℤ → List Piece → List ℤ
News here marks vs ps = put marks (map value_in (spots_in here ps)) vs

text_from : (front : List ℕ) (at here : ℕ) (last : Option ℕ) (ps : List Piece) (marks : List Bool) (places : List ParamPlace) (vs : List ℤ) → here ≡ length front → last ≡ last_of None front → at ≤ here
    → length marks ≡ length (spots_in here ps) → map spot_of places ≡ pick marks (spots_in here ps) → length vs ≡ length places
    → take (here - at) (drop at front) ++ spelling (new_pieces last (News here marks vs ps) ps) ≡ repaired_from at (front ++ spelling ps) places vs
text_from front at here last [] marks [] vs e f le m s l =
    append-nil (take (here - at) (drop at front)) ∙ take_all (here - at) (drop at front) (omega (arith, e, length-drop at front)) ∙ ap (drop at) (sym (append-nil front))
text_from front at here last [] marks (place ∷ places) vs e f le m s l = absurd (omega (arith, ap length s))
text_from front at here last (mark ∷ ps) marks places vs e f le m s l =
    let text = text_of mark in
    same_step front text (spelling ps) (spelling (new_pieces (last_of last text) (News (here + length text) marks vs ps) ps)) at here places vs e le
    (text_from (front ++ text) at (here + length text) (last_of last text) ps marks places vs (grow front text here e) (reach front text last f) (omega (arith, le)) m s l)
text_from front at here last (blank x ∷ ps) marks places vs e f le m s l =
    let text = text_of (blank x) in
    same_step front text (spelling ps) (spelling (new_pieces (last_of last text) (News (here + length text) marks vs ps) ps)) at here places vs e le
    (text_from (front ++ text) at (here + length text) (last_of last text) ps marks places vs (grow front text here e) (reach front text last f) (omega (arith, le)) m s l)
text_from front at here last (comment body ∷ ps) marks places vs e f le m s l =
    let text = text_of (comment body) in
    same_step front text (spelling ps) (spelling (new_pieces (last_of last text) (News (here + length text) marks vs ps) ps)) at here places vs e le
    (text_from (front ++ text) at (here + length text) (last_of last text) ps marks places vs (grow front text here e) (reach front text last f) (omega (arith, le)) m s l)
text_from front at here last (word text ∷ ps) marks places vs e f le m s l =
    same_step front text (spelling ps) (spelling (new_pieces (last_of last text) (News (here + length text) marks vs ps) ps)) at here places vs e le
    (text_from (front ++ text) at (here + length text) (last_of last text) ps marks places vs (grow front text here e) (reach front text last f) (omega (arith, le)) m s l)
text_from front at here last (string body ∷ ps) marks places vs e f le m s l =
    let text = text_of (string body) in
    same_step front text (spelling ps) (spelling (new_pieces (last_of last text) (News (here + length text) marks vs ps) ps)) at here places vs e le
    (text_from (front ++ text) at (here + length text) (last_of last text) ps marks places vs (grow front text here e) (reach front text last f) (omega (arith, le)) m s l)
text_from front at here last (one x ∷ ps) marks places vs e f le m s l =
    let text = text_of (one x) in
    same_step front text (spelling ps) (spelling (new_pieces (last_of last text) (News (here + length text) marks vs ps) ps)) at here places vs e le
    (text_from (front ++ text) at (here + length text) (last_of last text) ps marks places vs (grow front text here e) (reach front text last f) (omega (arith, le)) m s l)
text_from front at here last (two x y ∷ ps) marks places vs e f le m s l =
    let text = text_of (two x y) in
    same_step front text (spelling ps) (spelling (new_pieces (last_of last text) (News (here + length text) marks vs ps) ps)) at here places vs e le
    (text_from (front ++ text) at (here + length text) (last_of last text) ps marks places vs (grow front text here e) (reach front text last f) (omega (arith, le)) m s l)
text_from front at here last (number minus digits ∷ ps) [] places vs e f le m s l = absurd (omega (arith, m))
text_from front at here last (number minus digits ∷ ps) (false ∷ marks) places vs e f le m s l =
    let p = number minus digits in
    let text = text_of p in
    let x = signed minus (value_of digits) in
    let more = new_pieces (last_of last text) (News (here + length text) marks vs ps) ps in
    ap (λ t. take (here - at) (drop at front) ++ t) (unchanged last x p more)
    ∙ same_step front text (spelling ps) (spelling more) at here places vs e le
    (text_from (front ++ text) at (here + length text) (last_of last text) ps marks places vs (grow front text here e) (reach front text last f) (omega (arith, le)) (omega (arith, m)) s l)
text_from front at here last (number minus digits ∷ ps) (true ∷ marks) [] vs e f le m s l = absurd (omega (arith, ap length s))
text_from front at here last (number minus digits ∷ ps) (true ∷ marks) (place ∷ places) [] e f le m s l = absurd (omega (arith, l))
text_from front at here last (number minus digits ∷ ps) (true ∷ marks) (place ∷ places) (v ∷ vs) e f le m s l =
    let p = number minus digits in
    let text = text_of p in
    let more = new_pieces (last_of last text) (News (here + length text) marks vs ps) ps in
    new_step front (spelling ps) at here last v (signed minus (value_of digits)) p more place places vs e f le (ap (λ (t : List Spot). get_or t 0 (spot_of place)) s)
    (text_from (front ++ text) (here + length text) (here + length text) (last_of last text) ps marks places vs (grow front text here e) (reach front text last f) (omega arith) (omega (arith, m)) (ap (drop 1) s) (omega (arith, l)))

pub text_again : (ps : List Piece) (marks : List Bool) (places : List ParamPlace) (vs : List ℤ) → length marks ≡ length (spots_in 0 ps) → map spot_of places ≡ pick marks (spots_in 0 ps) → length vs ≡ length places
    → spelling (new_pieces None (News 0 marks vs ps) ps) ≡ repaired_from 0 (spelling ps) places vs
text_again ps marks places vs m s l = text_from [] 0 0 None ps marks places vs refl refl (omega arith) m s l
