-- The statements that were read, and those that are still read.
use Rattle.std.proofs.Common.{◌≡◌, ◌≢◌, ℕ, ◌+◌, ◌≤◌, Bool, true, false, Bor, List, [], ◌∷◌, ◌++◌, length, refl, sym, ap, ◌∙◌, append_assoc, arith, Option, Some, None, Result, Ok, Err}
use Rattle.std.specs.Prelude.{ℤ, IfOk, IfSome, option_map}
use Rattle.std.proofs.lemmas.List.{append-nil}
use Rattle.qf_base.specs.declared.memory.NoMemory.{NoMemory}
use Rattle.qf_grammar.specs.declared.lexeme.Lexeme.{Lexeme}
use Rattle.qf_grammar.specs.declared.tree.Form.{Form}
use Rattle.qf_grammar.specs.declared.judging.Stated.{Stated}
use Rattle.qf_grammar.specs.declared.fault.LogFault.{LogFault}
use Rattle.qf_grammar.specs.declared.fault.LogFault.TheVariants as fault
use Rattle.qf_grammar.specs.Spelling.{Lexemes, IsForm}
use Rattle.qf_grammar.specs.Reading.{form_at}
use Rattle.qf_grammar.specs.Statements.{is_semicolon, has_lexemes, cut_at, pieces_of, judged, judged_next, with_stated, first_table, statements_from, statements_of, Gives}
use Rattle.qf_grammar.proofs.Pieces.{pieces_left, pieces_cut}
use Rattle.qf_grammar.proofs.StatementLaws.{form_is, form_again}

abbrev pub Forms : Type 0
Forms = Result (List Stated) LogFault

abbrev pub joined : List Stated → Forms → Forms
joined front (Ok all) = Ok (front ++ all)
joined front (Err e) = Err e

pub nothing_joined : (r : Forms) → joined [] r ≡ r
nothing_joined (Ok forms) = refl
nothing_joined (Err e) = refl

joined_push : (front : List Stated) (f : Stated) (r : Forms) → joined front (with_stated f r) ≡ joined (front ++ f ∷ []) r
joined_push front f (Ok forms) = ap (λ (fs : List Stated). Ok fs) (sym (append_assoc front (f ∷ []) forms))
joined_push front f (Err e) = refl

from_piece : (numbers : List ℤ) (first : Option ℕ) (k : ℕ) (piece : Lexemes) (pieces : List Lexemes) → piece ≢ [] → statements_from numbers first k (piece ∷ pieces) ≡ judged_next (λ f. statements_from numbers (first_table first f.form) (k + 1) pieces) (judged numbers first k piece)
from_piece numbers first k [] pieces n = absurd (n refl)
from_piece numbers first k (x ∷ xs) pieces n = refl

-- the pieces of what is left, with the first of them cut off
left_cut : (xs piece : Lexemes) (after : Option Lexemes) → ◌≡◌ {A = Lexemes × Option Lexemes} (piece, after) (cut_at xs) → pieces_of xs ≡ piece ∷ pieces_left after
left_cut xs piece after e = pieces_cut xs ∙ ap (λ (c : Lexemes × Option Lexemes). c.0 ∷ pieces_left c.1) (sym e)

pub empty_piece : (numbers : List ℤ) (first : Option ℕ) (k : ℕ) (front : List Stated) (all : Forms) (xs piece : Lexemes) (after : Option Lexemes) → ◌≡◌ {A = Lexemes × Option Lexemes} (piece, after) (cut_at xs) → piece ≡ []
    → joined front (statements_from numbers first k (pieces_of xs)) ≡ all → joined front (statements_from numbers first k (pieces_left after)) ≡ all
empty_piece numbers first k front all xs piece after e n h =
    sym (ap (λ ps. joined front (statements_from numbers first k ps)) (left_cut xs piece after e ∙ ap (λ p. p ∷ pieces_left after) n)) ∙ h

pub good_piece : (numbers : List ℤ) (first : Option ℕ) (k : ℕ) (front : List Stated) (all : Forms) (xs piece : Lexemes) (after : Option Lexemes) (f : Stated) → ◌≡◌ {A = Lexemes × Option Lexemes} (piece, after) (cut_at xs) → piece ≢ [] → judged numbers first k piece ≡ Ok f
    → joined front (statements_from numbers first k (pieces_of xs)) ≡ all → joined (front ++ f ∷ []) (statements_from numbers (first_table first f.form) (k + 1) (pieces_left after)) ≡ all
good_piece numbers first k front all xs piece after f e n j h =
    let next : Stated → Forms = λ g. statements_from numbers (first_table first g.form) (k + 1) (pieces_left after) in
    sym (ap (λ ps. joined front (statements_from numbers first k ps)) (left_cut xs piece after e) ∙ ap (joined front) (from_piece numbers first k piece (pieces_left after) n ∙ ap (judged_next next) j) ∙ joined_push front f (next f)) ∙ h

bad_piece : (numbers : List ℤ) (first : Option ℕ) (k : ℕ) (front : List Stated) (all : Forms) (xs piece : Lexemes) (after : Option Lexemes) (x : LogFault) → ◌≡◌ {A = Lexemes × Option Lexemes} (piece, after) (cut_at xs) → piece ≢ [] → judged numbers first k piece ≡ Err x
    → joined front (statements_from numbers first k (pieces_of xs)) ≡ all → all ≡ Err x
bad_piece numbers first k front all xs piece after x e n j h =
    let next : Stated → Forms = λ g. statements_from numbers (first_table first g.form) (k + 1) (pieces_left after) in
    sym h ∙ ap (λ ps. joined front (statements_from numbers first k ps)) (left_cut xs piece after e) ∙ ap (joined front) (from_piece numbers first k piece (pieces_left after) n ∙ ap (judged_next next) j)

pub stops_at : (numbers : List ℤ) (first : Option ℕ) (k : ℕ) (front : List Stated) (all : Forms) (xs piece : Lexemes) (after : Option Lexemes) (x : LogFault) → ◌≡◌ {A = Lexemes × Option Lexemes} (piece, after) (cut_at xs) → piece ≢ []
    → Gives {A = Stated} (Err x) (judged numbers first k piece) → joined front (statements_from numbers first k (pieces_of xs)) ≡ all → Gives {A = List Stated} (Err x) all
stops_at numbers first k front all xs piece after fault.NoMemory e n j h = tt
stops_at numbers first k front all xs piece after (fault.BadSyntax s) e n j h = bad_piece numbers first k front all xs piece after (fault.BadSyntax s) e n j h
stops_at numbers first k front all xs piece after (fault.NotLinear s) e n j h = bad_piece numbers first k front all xs piece after (fault.NotLinear s) e n j h
stops_at numbers first k front all xs piece after (fault.BigCoefficient s) e n j h = bad_piece numbers first k front all xs piece after (fault.BigCoefficient s) e n j h
stops_at numbers first k front all xs piece after (fault.OtherTable s) e n j h = bad_piece numbers first k front all xs piece after (fault.OtherTable s) e n j h

-- how many lexemes are left, a missing semicolon counted too
abbrev pub left_count : Option Lexemes → ℕ
left_count None = 0
left_count (Some xs) = length xs + 1

abbrev pub nows : Option (Bor Lexemes) → Option Lexemes
nows o = option_map (λ r. r.now) o

count_case : (x : Lexeme) (xs : Lexemes) (v : Bool) → is_semicolon x ≡ v → length (cut_at xs).0 + left_count (cut_at xs).1 ≡ length xs → length (cut_at (x ∷ xs)).0 + left_count (cut_at (x ∷ xs)).1 ≡ length (x ∷ xs)
count_case x xs true e h = rw e (omega arith)
count_case x xs false e h = rw e (omega (arith, h))

cut_count : (xs : Lexemes) → length (cut_at xs).0 + left_count (cut_at xs).1 ≡ length xs
cut_count [] = refl
cut_count (x ∷ xs) = count_case x xs (is_semicolon x) refl (cut_count xs)

pub after_count : (xs piece : Lexemes) (after : Option Lexemes) → ◌≡◌ {A = Lexemes × Option Lexemes} (piece, after) (cut_at xs) → length piece + left_count after ≡ length xs
after_count xs piece after e = ap (λ (c : Lexemes × Option Lexemes). length c.0 + left_count c.1) e ∙ cut_count xs

pub no_piece : (piece : Lexemes) → has_lexemes piece ≡ false → piece ≡ []
no_piece [] e = refl
no_piece (x ∷ xs) e = absurd cc

pub a_piece : (piece : Lexemes) → has_lexemes piece ≡ true → piece ≢ []
a_piece [] e n = cc
a_piece (x ∷ xs) e n = cc

pub piece_count : (piece : Lexemes) → has_lexemes piece ≡ true → 1 ≤ length piece
piece_count [] e = absurd cc
piece_count (x ∷ xs) e = omega arith

-- what is still read, where this is left
pub from_left : (numbers : List ℤ) (first : Option ℕ) (k : ℕ) (front : List Stated) (all : Forms) (left : Option (Bor Lexemes)) (o : Option (Bor Lexemes)) → left ≡ o
    → joined front (statements_from numbers first k (pieces_left (nows left))) ≡ all → joined front (statements_from numbers first k (pieces_left (nows o))) ≡ all
from_left numbers first k front all left o e h = sym (ap (λ z. joined front (statements_from numbers first k (pieces_left (nows z)))) e) ∙ h

pub all_read : (front : List Stated) (all : Forms) → joined front (Ok []) ≡ all → all ≡ Ok front
all_read front all h = sym h ∙ ap (λ (fs : List Stated). Ok fs) (append-nil front)

pub start_is : (numbers : List ℤ) (front : List Stated) (xs : Lexemes) → front ≡ [] → joined front (statements_from numbers None 1 (pieces_of xs)) ≡ statements_of numbers xs
start_is numbers front xs e = ap (λ f. joined f (statements_from numbers None 1 (pieces_of xs))) e ∙ nothing_joined (statements_of numbers xs)

abbrev pub Read : Type 0
Read = Result (Option Form) NoMemory

pub found : (xs : Lexemes) (r : Read) → IfOk r (λ o. o ≡ form_at xs) → IfOk r (λ o. IfSome o (λ f. IsForm 32 xs f))
found xs (Ok None) h = tt
found xs (Ok (Some f)) h = form_is xs f h
found xs (Err e) h = tt

pub only : (xs : Lexemes) (r : Read) → IfOk r (λ o. o ≡ form_at xs) → IfOk r (λ o. (f : Form) → IsForm 32 xs f → o ≡ Some f)
only xs (Ok o) h = λ f k. h ∙ form_again xs f k
only xs (Err e) h = tt
