-- What a scan has read so far, and one piece more.
use Rattle.std.proofs.Common.{◌≡◌, ℕ, ◌+◌, ◌-◌, ◌<◌, ◌≤◌, true, false, List, [], ◌∷◌, ◌++◌, length, get_or, refl, sym, ap, subst, ◌∙◌, arith, append_assoc, Some, None, inl, inr}
use Rattle.std.specs.Prelude.{option_map, option_to_list}
use Rattle.std.specs.List.{AllByRecursion}
use Rattle.std.proofs.lemmas.List.{append-nil, length-append}
use Rattle.qf_lex.specs.declared.bytes.Before.{Before}
use Rattle.qf_lex.specs.declared.bytes.Before.TheVariants as before
use Rattle.qf_lex.specs.declared.token.Token.{Token}
use Rattle.qf_lex.specs.declared.token.TokenKind.{TokenKind}
use Rattle.qf_lex.specs.declared.token.LexFault.{LexFault}
use Rattle.qf_lex.specs.Pieces.{Piece, mark, blank, comment, word, number, string, one, two, text_of, spelling, Fits, Stand, Begins, then_before, before_after}
use Rattle.qf_lex.specs.Tokens.{kind_of, token_at, tokens_from, IsSound, FaultIn, FaultOf, TokensOf, FirstFaultOf}

pub record SoFar (bytes rest : List ℕ) (b : Before) (tokens : List Token) : Type 0 where
  pub pieces : List Piece
  pub begins : Begins bytes pieces rest
  pub sound : AllByRecursion IsSound pieces
  pub tokens_are : tokens ≡ tokens_from 0 pieces
  pub before_is : b ≡ before_after before.Start pieces

pub start : (bytes : List ℕ) → SoFar bytes bytes before.Start []
start bytes = record { pieces = []; begins = record { whole = refl; stand = tt }; sound = tt; tokens_are = refl; before_is = refl }

-- ---- one piece at the end of a list of pieces

pub spelling_push : (ps : List Piece) (p : Piece) → spelling (ps ++ p ∷ []) ≡ spelling ps ++ text_of p
spelling_push [] p = append-nil (text_of p)
spelling_push (q ∷ ps) p = ap (λ t. text_of q ++ t) (spelling_push ps p) ∙ sym (append_assoc (text_of q) (spelling ps) (text_of p))

spelling_parts : (ps : List Piece) (p : Piece) (after : List ℕ) → spelling (ps ++ p ∷ []) ++ after ≡ spelling ps ++ (text_of p ++ after)
spelling_parts ps p after = ap (λ t. t ++ after) (spelling_push ps p) ∙ append_assoc (spelling ps) (text_of p) after

pub stand_push : (b : Before) (ps : List Piece) (p : Piece) (after : List ℕ) → Stand b ps (text_of p ++ after) → Fits (before_after b ps) p after → Stand b (ps ++ p ∷ []) after
stand_push b [] p after s f = (f, tt)
stand_push b (q ∷ ps) p after s f = (subst (λ t. Fits b q t) (sym (spelling_parts ps p after)) s.0, stand_push (then_before b q) ps p after s.1 f)

before_push : (b : Before) (ps : List Piece) (p : Piece) → before_after b (ps ++ p ∷ []) ≡ then_before (before_after b ps) p
before_push b [] p = refl
before_push b (q ∷ ps) p = before_push (then_before b q) ps p

tokens_push : (at : ℕ) (ps : List Piece) (p : Piece) → tokens_from at (ps ++ p ∷ []) ≡ tokens_from at ps ++ token_at (at + length (spelling ps)) p
tokens_push at [] p = append-nil (token_at at p) ∙ ap (λ k. token_at k p) (omega arith)
tokens_push at (q ∷ ps) p =
    ap (λ t. token_at at q ++ t) (tokens_push (at + length (text_of q)) ps p)
    ∙ sym (append_assoc (token_at at q) (tokens_from (at + length (text_of q)) ps) (token_at ((at + length (text_of q)) + length (spelling ps)) p))
    ∙ ap (λ k. tokens_from at (q ∷ ps) ++ token_at k p) (omega (arith, length-append (text_of q) (spelling ps)))

sound_push : (ps : List Piece) (p : Piece) → AllByRecursion IsSound ps → IsSound p → AllByRecursion IsSound (ps ++ p ∷ [])
sound_push [] p s h = (h, tt)
sound_push (q ∷ ps) p s h = (s.0, sound_push ps p s.1 h)

pub at_is : {bytes rest : List ℕ} {b : Before} {tokens : List Token} (s : SoFar bytes rest b tokens) → length (spelling s.pieces) ≡ length bytes - length rest
at_is {bytes} {rest} s = omega (arith, ap length s.begins.whole, length-append (spelling s.pieces) rest)

pub more : (bytes rest after : List ℕ) (b : Before) (tokens added : List Token) (p : Piece) → SoFar bytes rest b tokens → rest ≡ text_of p ++ after → Fits b p after → IsSound p
    → added ≡ token_at (length bytes - length rest) p → SoFar bytes after (then_before b p) (tokens ++ added)
more bytes rest after b tokens added p s parts fits sound e = record {
  pieces = s.pieces ++ p ∷ [];
  begins = record {
    whole = s.begins.whole ∙ ap (λ t. spelling s.pieces ++ t) parts ∙ sym (spelling_parts s.pieces p after);
    stand = stand_push before.Start s.pieces p after (subst (λ t. Stand before.Start s.pieces t) parts s.begins.stand) (subst (λ c. Fits c p after) s.before_is fits);
  };
  sound = sound_push s.pieces p s.sound sound;
  tokens_are = ap (λ t. t ++ added) s.tokens_are ∙ ap (λ t. tokens_from 0 s.pieces ++ t) (e ∙ ap (λ k. token_at k p) (omega (arith, at_is s))) ∙ sym (tokens_push 0 s.pieces p);
  before_is = ap (λ c. then_before c p) s.before_is ∙ sym (before_push before.Start s.pieces p);
}

pub all_read : (bytes rest : List ℕ) (b : Before) (tokens : List Token) → SoFar bytes rest b tokens → rest ≡ [] → TokensOf bytes tokens
all_read bytes rest b tokens s e = record { pieces = s.pieces; begins = subst (λ t. Begins bytes s.pieces t) e s.begins; sound = s.sound; tokens_are = s.tokens_are }

pub unsound : (bytes rest after : List ℕ) (b : Before) (tokens : List Token) (p : Piece) (f : LexFault) → SoFar bytes rest b tokens → rest ≡ text_of p ++ after → Fits b p after → FaultIn (length bytes - length rest) p f → FirstFaultOf bytes f
unsound bytes rest after b tokens p f s parts fits fault = record {
  pieces = s.pieces;
  after = rest;
  begins = s.begins;
  sound = s.sound;
  here = inl (record { piece = p; after = after; parts = parts; fits = subst (λ c. Fits c p after) s.before_is fits; fault = subst (λ k. FaultIn k p f) (sym (at_is s)) fault });
}

pub is_stuck : (bytes rest : List ℕ) (b : Before) (tokens : List Token) (f : LexFault) → SoFar bytes rest b tokens → ((p : Piece) (after : List ℕ) → rest ≡ text_of p ++ after → Fits b p after → ⊥) → FaultOf (length bytes - length rest) rest f → FirstFaultOf bytes f
is_stuck bytes rest b tokens f s none fault = record {
  pieces = s.pieces;
  after = rest;
  begins = s.begins;
  sound = s.sound;
  here = inr (record { none = λ p after e h. none p after e (subst (λ c. Fits c p after) (sym s.before_is) h); fault = subst (λ k. FaultOf k rest f) (sym (at_is s)) fault });
}

pub rest_fits : {bytes rest : List ℕ} {b : Before} {tokens : List Token} (s : SoFar bytes rest b tokens) → length rest ≤ length bytes
rest_fits {bytes} {rest} s = omega (arith, ap length s.begins.whole, length-append (spelling s.pieces) rest)

pub not_empty : (b : Before) (p : Piece) (after : List ℕ) → Fits b p after → 0 < length (text_of p)
not_empty b mark after f = omega arith
not_empty b (blank x) after f = omega arith
not_empty b (comment text) after f = omega arith
not_empty b (word []) after f = absurd f.0
not_empty b (word (x ∷ text)) after f = omega arith
not_empty b (number true ds) after f = omega arith
not_empty b (number false []) after f = absurd f.0
not_empty b (number false (x ∷ ds)) after f = omega arith
not_empty b (string body) after f = omega arith
not_empty b (one x) after f = omega arith
not_empty b (two x y) after f = omega arith

pub shorter : (b : Before) (p : Piece) (rest after : List ℕ) → rest ≡ text_of p ++ after → Fits b p after → length after < length rest
shorter b p rest after e f = omega (arith, ap length e, length-append (text_of p) after, not_empty b p after f)

pub token_is : (bytes rest after : List ℕ) (p : Piece) (k : TokenKind) → length rest ≤ length bytes → rest ≡ text_of p ++ after → Some k ≡ kind_of p
    → record { start = length bytes - length rest; end = length bytes - length after; kind = k } ∷ [] ≡ token_at (length bytes - length rest) p
token_is bytes rest after p k le e h =
    let ends : length bytes - length after ≡ (length bytes - length rest) + length (text_of p) = omega (arith, ap length e, length-append (text_of p) after) in
    ap (λ n. record { start = length bytes - length rest; end = n; kind = k } ∷ []) ends
    ∙ ap (λ o. option_to_list (option_map (λ j. record { start = length bytes - length rest; end = (length bytes - length rest) + length (text_of p); kind = j }) o)) h

pub no_token : (at : ℕ) (p : Piece) → None ≡ kind_of p → [] ≡ token_at at p
no_token at p h = ap (λ o. option_to_list (option_map (λ j. record { start = at; end = at + length (text_of p); kind = j }) o)) h

pub stuck_at : (at : ℕ) (rest : List ℕ) (f : LexFault) → 1 ≤ length rest → ((tail : List ℕ) → FaultOf at (get_or rest 0 0 ∷ tail) f) → FaultOf at rest f
stuck_at at [] f le h = absurd (omega arith)
stuck_at at (x ∷ rest) f le h = h rest
