-- Two worked texts, by computation.
use Rattle.std.proofs.Common.{◌≡◌, ℕ, zero, suc, List, [], ◌∷◌, ◌++◌, length, refl, sym, ap, subst, ◌∙◌, arith, append_assoc, Some, None, inr, codes, negsuc}
use Rattle.std.specs.List.{AllByRecursion}
use Rattle.qf_lex.specs.declared.bytes.Before.{Before}
use Rattle.qf_lex.specs.declared.bytes.Before.TheVariants as before
use Rattle.qf_lex.specs.declared.token.Token.{Token}
use Rattle.qf_lex.specs.declared.token.TokenKind.TheVariants as kind
use Rattle.qf_lex.specs.declared.token.LexFault.{LexFault}
use Rattle.qf_lex.specs.declared.token.LexFault.TheVariants as fault
use Rattle.qf_lex.specs.Pieces.{Piece, text_of, spelling, Fits, Stand, Begins, then_before, before_after}
use Rattle.qf_lex.specs.Tokens.{tokens_from, IsSound, FaultOf, TokensOf, FirstFaultOf}
use Rattle.qf_lex.specs.FirstPiece.{Cut, first_piece, span, string_at}
use Rattle.qf_lex.proofs.Cutting.{Good, first_good, found_none}

abbrev pub Cutting : Type 0
Cutting = Before → List ℕ → List Piece × List ℕ

abbrev pub cut_more : Cutting → Before → List ℕ → Cut → List Piece × List ℕ
cut_more f b xs None = ([], xs)
cut_more f b xs (Some p) = (p.0 ∷ (f (then_before b p.0) p.1).0, (f (then_before b p.0) p.1).1)

-- the pieces at the front, n of them or as many as there are, and the rest
abbrev pub cut_all : ℕ → Cutting
cut_all zero b xs = ([], xs)
cut_all (suc n) b xs = cut_more (cut_all n) b xs (first_piece b xs)

abbrev Parts : Before → List ℕ → List Piece × List ℕ → Type 0
Parts b xs c = (xs ≡ spelling c.0 ++ c.1) × Stand b c.0 c.1

more_parts : (f : Cutting) → ((b : Before) (xs : List ℕ) → Parts b xs (f b xs)) → (b : Before) (xs : List ℕ) (o : Cut) → Good b xs o → Parts b xs (cut_more f b xs o)
more_parts f h b xs None g = (refl, tt)
more_parts f h b xs (Some p) g =
    let c = f (then_before b p.0) p.1 in
    let rest = h (then_before b p.0) p.1 in
    (g.0 ∙ ap (λ t. text_of p.0 ++ t) rest.0 ∙ sym (append_assoc (text_of p.0) (spelling c.0) c.1), (subst (λ t. Fits b p.0 t) rest.0 g.1, rest.1))

cut_parts : (n : ℕ) (b : Before) (xs : List ℕ) → Parts b xs (cut_all n b xs)
cut_parts zero b xs = (refl, tt)
cut_parts (suc n) b xs = more_parts (cut_all n) (cut_parts n) b xs (first_piece b xs) (first_good b xs)

pub reads_by : (n : ℕ) (bytes : List ℕ) (ts : List Token) → (cut_all n before.Start bytes).1 ≡ [] → AllByRecursion IsSound (cut_all n before.Start bytes).0 → ts ≡ tokens_from 0 (cut_all n before.Start bytes).0 → TokensOf bytes ts
reads_by n bytes ts e s t =
    let p = cut_parts n before.Start bytes in
    record { pieces = (cut_all n before.Start bytes).0; begins = subst (λ a. Begins bytes (cut_all n before.Start bytes).0 a) e (record { whole = p.0; stand = p.1 }); sound = s; tokens_are = t }

pub stuck_by : (n : ℕ) (bytes : List ℕ) (f : LexFault) → AllByRecursion IsSound (cut_all n before.Start bytes).0
    → ◌≡◌ {A = Cut} None (first_piece (before_after before.Start (cut_all n before.Start bytes).0) (cut_all n before.Start bytes).1)
    → FaultOf (length (spelling (cut_all n before.Start bytes).0)) (cut_all n before.Start bytes).1 f → FirstFaultOf bytes f
stuck_by n bytes f s none h =
    let p = cut_parts n before.Start bytes in
    record {
      pieces = (cut_all n before.Start bytes).0;
      after = (cut_all n before.Start bytes).1;
      begins = record { whole = p.0; stand = p.1 };
      sound = s;
      here = inr (record { none = found_none (before_after before.Start (cut_all n before.Start bytes).0) (cut_all n before.Start bytes).1 none; fault = h });
    }

-- a - behind a reserved word belongs to the number
pub behind_words : TokensOf (codes "BETWEEN-5 AND-3")
    (record { start = 0; end = 7; kind = kind.Word } ∷ record { start = 7; end = 9; kind = kind.Number (negsuc 4) } ∷ record { start = 10; end = 13; kind = kind.Word } ∷ record { start = 13; end = 15; kind = kind.Number (negsuc 2) } ∷ [])
unfolding first_piece span string_at
behind_words = reads_by 9 (codes "BETWEEN-5 AND-3") _ refl (tt, (omega arith, (tt, (tt, (omega arith, tt))))) refl

-- a quote that nothing closes
pub never_closed : FirstFaultOf (codes "UPDATE t SET a = 'x") (fault.OpenString 17)
unfolding first_piece span string_at
never_closed = stuck_by 20 (codes "UPDATE t SET a = 'x") (fault.OpenString 17) (tt, (tt, (tt, (tt, (tt, (tt, (tt, (tt, (tt, (tt, tt)))))))))) refl refl
