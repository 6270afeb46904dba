-- Where tokens stand in their bytes.
use Rattle.std.proofs.Common.{◌≡◌, ℕ, ◌+◌, ◌-◌, ◌≤◌, List, [], ◌∷◌, ◌++◌, length, take, drop, refl, sym, ap, subst, ◌∙◌, arith, append_assoc, Option, Some, None, Result, Ok, Err}
use Rattle.std.specs.Prelude.{IfOk, option_map, option_to_list, slice_range}
use Rattle.std.specs.List.{All, AllByRecursion}
use Rattle.std.proofs.lemmas.List.{append-nil, length-append, take-append-le, drop-append-le, take_all, drop_all}
use Rattle.std.proofs.lemmas.List.Elements.{All-from_recursion}
use Rattle.qf_lex.specs.declared.bytes.Before.{Before}
use Rattle.qf_lex.specs.declared.bytes.Before.TheVariants as before
use Rattle.qf_lex.specs.declared.token.Token.{Token}
use Rattle.qf_lex.specs.declared.token.TokenKind.{TokenKind}
use Rattle.qf_lex.specs.declared.token.LexFault.{LexFault}
use Rattle.qf_lex.specs.Pieces.{Piece, text_of, spelling, Fits, Stand, then_before}
use Rattle.qf_lex.specs.Tokens.{kind_of, tokens_from, IsSound, TokensOf, AreInOrder, StandsIn}
use Rattle.qf_lex.proofs.Scanning.{not_empty}

-- the token of a piece, where it makes one
abbrev token_of : ℕ → Piece → Option TokenKind → List Token
token_of at p o = option_to_list (option_map (λ k. record { start = at; end = at + length (text_of p); kind = k }) o)

order_more : (from at : ℕ) (p : Piece) (o : Option TokenKind) (ts : List Token) → from ≤ at → ((next : ℕ) → next ≤ at + length (text_of p) → AreInOrder next ts) → AreInOrder from (token_of at p o ++ ts)
order_more from at p None ts le rest = rest from (omega arith)
order_more from at p (Some k) ts le rest = (le, rest (at + length (text_of p)) (omega arith))

order_from : (from at : ℕ) (ps : List Piece) → from ≤ at → AreInOrder from (tokens_from at ps)
order_from from at [] le = tt
order_from from at (p ∷ ps) le = order_more from at p (kind_of p) (tokens_from (at + length (text_of p)) ps) le (λ next h. order_from next (at + length (text_of p)) ps h)

drop_front : (front text : List ℕ) → drop (length front) (front ++ text) ≡ text
drop_front front text = drop-append-le (length front) front text (omega arith) ∙ ap (λ t. t ++ text) (drop_all (length front) front (omega arith))

take_front : (front text : List ℕ) → take (length front) (front ++ text) ≡ front
take_front front text = take-append-le (length front) front text (omega arith) ∙ take_all (length front) front (omega arith)

middle : (front text rest : List ℕ) → slice_range (front ++ (text ++ rest)) (length front) (length front + length text) ≡ text
middle front text rest =
    ap (λ t. take ((length front + length text) - length front) t) (drop_front front (text ++ rest))
    ∙ ap (λ n. take n (text ++ rest)) (omega arith) ∙ take_front text rest

behind : (front text rest : List ℕ) → drop (length front + length text) (front ++ (text ++ rest)) ≡ rest
behind front text rest =
    ap (λ n. drop n (front ++ (text ++ rest))) (sym (length-append front text))
    ∙ ap (drop (length (front ++ text))) (sym (append_assoc front text rest)) ∙ drop_front (front ++ text) rest

stands_here : (b : Before) (front rest : List ℕ) (p : Piece) (k : TokenKind) → Fits b p rest → IsSound p → kind_of p ≡ Some k
    → StandsIn (front ++ (text_of p ++ rest)) (record { start = length front; end = length front + length (text_of p); kind = k })
stands_here b front rest p k f s e = record {
  some = omega (arith, not_empty b p rest f);
  within = omega (arith, length-append front (text_of p ++ rest), length-append (text_of p) rest);
  piece = p;
  before = b;
  text = middle front (text_of p) rest;
  fits = subst (λ t. Fits b p t) (sym (behind front (text_of p) rest)) f;
  sound = s;
  kind = e;
}

stands_more : (b : Before) (front rest : List ℕ) (p : Piece) (o : Option TokenKind) (ts : List Token) → Fits b p rest → IsSound p → kind_of p ≡ o
    → AllByRecursion (StandsIn (front ++ (text_of p ++ rest))) ts → AllByRecursion (StandsIn (front ++ (text_of p ++ rest))) (token_of (length front) p o ++ ts)
stands_more b front rest p None ts f s e more = more
stands_more b front rest p (Some k) ts f s e more = (stands_here b front rest p k f s e, more)

stands_from : (b : Before) (front : List ℕ) (ps : List Piece) → Stand b ps [] → AllByRecursion IsSound ps → AllByRecursion (StandsIn (front ++ spelling ps)) (tokens_from (length front) ps)
stands_from b front [] stand sound = tt
stands_from b front (p ∷ ps) stand sound =
    let next = stands_from (then_before b p) (front ++ text_of p) ps stand.1 sound.1 in
    let whole = subst (λ t. AllByRecursion (StandsIn t) (tokens_from (length (front ++ text_of p)) ps)) (append_assoc front (text_of p) (spelling ps)) next in
    let placed = subst (λ n. AllByRecursion (StandsIn (front ++ (text_of p ++ spelling ps))) (tokens_from n ps)) (length-append front (text_of p)) whole in
    stands_more b front (spelling ps) p (kind_of p) (tokens_from (length front + length (text_of p)) ps) (subst (λ t. Fits b p t) (append-nil (spelling ps)) stand.0) sound.0 refl placed

-- ---- of the tokens of a log

pub tokens_in_order : (bytes : List ℕ) (ts : List Token) → TokensOf bytes ts → AreInOrder 0 ts
tokens_in_order bytes ts h = subst (AreInOrder 0) (sym h.tokens_are) (order_from 0 0 h.pieces (omega arith))

pub tokens_stand : (bytes : List ℕ) (ts : List Token) → TokensOf bytes ts → All (StandsIn bytes) ts
tokens_stand bytes ts h =
    let all = stands_from before.Start [] h.pieces h.begins.stand h.sound in
    let these = subst (AllByRecursion (StandsIn (spelling h.pieces))) (sym h.tokens_are) all in
    All-from_recursion (StandsIn bytes) ts (subst (λ t. AllByRecursion (StandsIn t) ts) (sym (h.begins.whole ∙ append-nil (spelling h.pieces))) these)

pub in_order_where_ok : (bytes : List ℕ) (r : Result (List Token) LexFault) → IfOk r (λ v. TokensOf bytes v) → IfOk r (λ v. AreInOrder 0 v)
in_order_where_ok bytes (Ok v) h = tokens_in_order bytes v h
in_order_where_ok bytes (Err e) h = tt

pub stand_where_ok : (bytes : List ℕ) (r : Result (List Token) LexFault) → IfOk r (λ v. TokensOf bytes v) → IfOk r (λ v. All (StandsIn bytes) v)
stand_where_ok bytes (Ok v) h = tokens_stand bytes v h
stand_where_ok bytes (Err e) h = tt
