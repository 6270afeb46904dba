-- The repaired text of a log says the same statements, with the point as its constants.
use Rattle.std.proofs.Common.{◌≡◌, ℕ, suc, false, List, [], ◌∷◌, length, map, get_or, refl, sym, ap, subst, ◌∙◌, None, Result, Ok, Err}
use Rattle.std.specs.Prelude.{ℤ, pos}
use Rattle.std.specs.List.{AllByRecursion, flat_map}
use Rattle.std.proofs.lemmas.List.{append-nil}
use Rattle.qf_ir.specs.Fits.{Small}
use Rattle.qf_lex.specs.declared.bytes.Before.TheVariants as before
use Rattle.qf_lex.specs.declared.token.Token.{Token}
use Rattle.qf_lex.specs.Pieces.{Piece, spelling}
use Rattle.qf_lex.specs.Tokens.{tokens_from, IsSound, TokensOf}
use Rattle.qf_grammar.specs.declared.tree.Factor.TheVariants as factor
use Rattle.qf_grammar.specs.declared.uses.Use.{Use}
use Rattle.qf_grammar.specs.declared.uses.Use.TheVariants as used
use Rattle.qf_grammar.specs.declared.judging.Stated.{Stated}
use Rattle.qf_grammar.specs.declared.fault.LogFault.{LogFault}
use Rattle.qf_grammar.specs.Spelling.{Lexemes}
use Rattle.qf_grammar.specs.Statements.{statements_of}
use Rattle.qf_grammar.specs.Laws.{AreStated}
use Rattle.qf_grammar.proofs.StatedLaws.{are_stated}
use Rattle.qf_log.specs.declared.places.ParamPlace.{ParamPlace}
use Rattle.qf_log.specs.Said.{Said, said_by}
use Rattle.qf_log.specs.Lexed.{names_of, texts_of, numbers_of, lexemes_from, lexed_of}
use Rattle.qf_log.specs.Parameters.{parameters_in, number_at, ids_of}
use Rattle.qf_log.specs.Reading.{Reading, olds_of, reading_of, reading_or, read_lexed, log_of, IsLogOf}
use Rattle.qf_log.proofs.Lists.{all_uses}
use Rattle.qf_log.proofs.ParseFacts.{map_count, read_is}
use Rattle.qf_log.proofs.Ordering.{places_of, used_places, GoOn, go_on, atom_places, lexeme_places, range_length}
use Rattle.qf_splice.specs.RepairedText.{repaired_text}
use Rattle.qf_splice.specs.Laws.{SaysWith, RepairedLogsSayTheSame}
use Rattle.qf_splice.proofs.Neighbours.{statements_parted}
use Rattle.qf_splice.proofs.Agreeing.{AgreeAll, statements_again, lowered_same}
use Rattle.qf_splice.proofs.Numerals.{numeral_of, numeral_sound}
use Rattle.qf_splice.proofs.NewPieces.{new_pieces, Follow, follow_from, stand_from, follow_new, sound_new}
use Rattle.qf_splice.proofs.SaidAgain.{saids_in, saids_are, renumbered, names_again, texts_again, lexemes_again, numbers_again, said_again, unvalued}
use Rattle.qf_splice.proofs.Picks.{marks_of, put, put_length, put_all, pick_put, picked_all, agree_all}
use Rattle.qf_splice.proofs.TextAgain.{value_in, spots_in, spot_of, number_tokens, numbers_are, numbers_small, over_places, homes_are, spots_of_places, text_again}

mark_count : (us : List Use) → length (marks_of us) ≡ length (used_places us)
mark_count [] = refl
mark_count (used.Number n ∷ us) = ap suc (mark_count us)
mark_count (used.Name c ∷ us) = mark_count us
mark_count (used.Text t ∷ us) = mark_count us
mark_count (used.Product (factor.Name c) (factor.Name d) ∷ us) = mark_count us
mark_count (used.Product (factor.Number m) (factor.Name d) ∷ us) = ap suc (mark_count us)
mark_count (used.Product (factor.Name c) (factor.Number n) ∷ us) = ap suc (mark_count us)
mark_count (used.Product (factor.Number m) (factor.Number n) ∷ us) = ap (λ k. suc (suc k)) (mark_count us)

-- the numbers that the statements use are all of the log's, in order
module _ (saids : List Said) (all : List Stated) (s : AreStated (lexed_of saids).numbers (lexed_of saids).lexemes all) where
  places_are : used_places (all_uses all) ≡ Rattle.std.specs.List.range_with_len 0 (length (numbers_of saids))
  places_are = ap places_of s.in_order ∙ atom_places (lexed_of saids).lexemes ∙ lexeme_places (names_of saids) (texts_of saids) 0 saids

  used_on : GoOn 0 (used_places (all_uses all))
  used_on = subst (GoOn 0) (sym places_are) (go_on 0 (length (numbers_of saids)))

  used_count : length (used_places (all_uses all)) ≡ length (numbers_of saids)
  used_count = ap length places_are ∙ range_length 0 (length (numbers_of saids))

-- ---- what is said with other numbers

abbrev read_parts : List Token → List (List ℕ) → List (List ℕ) → List ℤ → Lexemes → Result Reading LogFault
read_parts tokens names texts numbers lexemes = read_lexed tokens (record { names = names; texts = texts; numbers = numbers; lexemes = lexemes })

read_again : (tokens : List Token) (zs : List ℤ) (saids : List Said) → length zs ≡ length (numbers_of saids)
    → read_lexed tokens (lexed_of (renumbered zs saids)) ≡ read_parts tokens (names_of saids) (texts_of saids) zs (lexemes_from (names_of saids) (texts_of saids) 0 saids)
read_again tokens zs saids e =
    let new = renumbered zs saids in
    let names : names_of new ≡ names_of saids = names_again [] zs saids in
    let texts : texts_of new ≡ texts_of saids = texts_again [] zs saids in
    ap (λ n. read_parts tokens n (texts_of new) (numbers_of new) (lexemes_from n (texts_of new) 0 new)) names
    ∙ ap (λ t. read_parts tokens (names_of saids) t (numbers_of new) (lexemes_from (names_of saids) t 0 new)) texts
    ∙ ap (λ z. read_parts tokens (names_of saids) (texts_of saids) z (lexemes_from (names_of saids) (texts_of saids) 0 new)) (numbers_again zs saids e)
    ∙ ap (λ x. read_parts tokens (names_of saids) (texts_of saids) zs x) (lexemes_again (names_of saids) (texts_of saids) 0 zs saids)

small_sound : (zs : List ℤ) → AllByRecursion Small zs → AllByRecursion (λ (z : ℤ). IsSound (numeral_of z)) zs
small_sound [] h = tt
small_sound (z ∷ zs) h = (numeral_sound z h.0, small_sound zs h.1)

-- ---- the reading

module _ (ps : List Piece) (all : List Stated) (vs : List ℤ) (follow : Follow before.Start ps) (sound : AllByRecursion IsSound ps)
    (stated : statements_of (lexed_of (saids_in ps)).numbers (lexed_of (saids_in ps)).lexemes ≡ Ok all) (within : AllByRecursion Small vs) where
  abbrev saids : List Said
  saids = saids_in ps

  abbrev names : List (List ℕ)
  names = names_of saids

  abbrev texts : List (List ℕ)
  texts = texts_of saids

  abbrev olds : List ℤ
  olds = numbers_of saids

  abbrev lexemes : Lexemes
  lexemes = lexemes_from names texts 0 saids

  abbrev us : List Use
  us = all_uses all

  abbrev old_log : Reading
  old_log = reading_of (number_tokens (tokens_from 0 ps)) (lexed_of saids) all

  abbrev zs : List ℤ
  zs = put (marks_of us) (map value_in (spots_in 0 ps)) vs

  abbrev new : List Piece
  new = new_pieces None zs ps

  abbrev new_log : Reading
  new_log = reading_of (number_tokens (tokens_from 0 new)) (record { names = names; texts = texts; numbers = zs; lexemes = lexemes }) all

  are : AreStated olds lexemes all
  are = are_stated olds lexemes all stated

  numbers : olds ≡ map value_in (spots_in 0 ps)
  numbers = numbers_are 0 ps

  small : AllByRecursion Small zs
  small = put_all Small (marks_of us) (map value_in (spots_in 0 ps)) vs (numbers_small 0 ps sound) within

  counted : length (used_places us) ≡ length (map value_in (spots_in 0 ps))
  counted = used_count (saids_in ps) all are ∙ ap length numbers

  on : GoOn 0 (used_places us)
  on = used_on (saids_in ps) all are

  read_is_again : read_lexed (tokens_from 0 new) (lexed_of (map (said_by (spelling new)) (tokens_from 0 new))) ≡ read_parts (tokens_from 0 new) names texts zs lexemes
  read_is_again =
      ap (λ s. read_lexed (tokens_from 0 new) (lexed_of s)) (saids_are [] new ∙ said_again None zs ps small)
      ∙ read_again (tokens_from 0 new) zs saids (put_length (marks_of us) (map value_in (spots_in 0 ps)) vs ∙ ap length (sym numbers))

  tokens_new : TokensOf (spelling new) (tokens_from 0 new)
  tokens_new = record {
    pieces = new;
    begins = record {
      whole = sym (append-nil (spelling new));
      stand = stand_from before.Start new (follow_new before.Start None zs ps small follow (unvalued before.Start false names texts 0 ps refl (statements_parted olds lexemes all stated)));
    };
    sound = sound_new None zs ps (small_sound zs small) sound;
    tokens_are = refl;
  }

  module _ (values : length vs ≡ length old_log.parameters) where
    place_count : length old_log.parameters ≡ length (parameters_in us)
    place_count =
        sym (map_count spot_of old_log.parameters) ∙ ap length (spots_of_places ps olds numbers all) ∙ map_count (λ n. get_or (spots_in 0 ps) n (0, 0, pos 0)) (parameters_in us)

    agree : AgreeAll olds zs us
    agree = subst (λ (ns : List ℤ). AgreeAll ns zs us) (sym numbers) (agree_all us (map value_in (spots_in 0 ps)) vs on counted (values ∙ place_count))

    read_new : IsLogOf (spelling new) new_log
    read_new = record {
      tokens = tokens_from 0 new;
      are_tokens = tokens_new;
      read = read_is_again ∙ read_is (tokens_from 0 new) (record { names = names; texts = texts; numbers = zs; lexemes = lexemes }) all (statements_again olds zs lexemes all stated agree);
    }

    constants : olds_of new_log ≡ vs
    constants =
        over_places (λ (p : ParamPlace). p.old) (number_at zs) (number_tokens (tokens_from 0 new)) zs (λ k n. refl) 1 all
        ∙ picked_all (pos 0) us zs on (counted ∙ sym (put_length (marks_of us) (map value_in (spots_in 0 ps)) vs))
        ∙ pick_put (marks_of us) (map value_in (spots_in 0 ps)) vs
        (values ∙ place_count ∙ sym (map_count (λ n. get_or (map value_in (spots_in 0 ps)) n (pos 0)) (parameters_in us)) ∙ ap length (picked_all (pos 0) us (map value_in (spots_in 0 ps)) on counted))

    text_is : spelling new ≡ repaired_text (spelling ps) old_log.parameters vs
    text_is = text_again ps (marks_of us) old_log.parameters vs
        (mark_count us ∙ counted ∙ map_count value_in (spots_in 0 ps))
        (spots_of_places ps olds numbers all ∙ picked_all (0, 0, pos 0) us (spots_in 0 ps) on (counted ∙ map_count value_in (spots_in 0 ps)))
        values

    pub says_pieces : SaysWith old_log vs (repaired_text (spelling ps) old_log.parameters vs)
    says_pieces = record {
      again = new_log;
      read = subst (λ (t : List ℕ). IsLogOf t new_log) text_is read_new;
      names = refl;
      texts = refl;
      statements = sym (lowered_same olds zs (ids_of all) olds all are.each agree);
      constants = constants;
      homes = homes_are (number_tokens (tokens_from 0 new)) (number_tokens (tokens_from 0 ps)) zs olds 1 all;
    }

-- ---- of a log that was read

abbrev FromStated : List Piece → Reading → Type 0
FromStated ps log =
    (all : List Stated) × (statements_of (lexed_of (saids_in ps)).numbers (lexed_of (saids_in ps)).lexemes ≡ Ok all)
    × (reading_of (number_tokens (tokens_from 0 ps)) (lexed_of (saids_in ps)) all ≡ log)

from_case : (ps : List Piece) (log : Reading) (r : Result (List Stated) LogFault) → statements_of (lexed_of (saids_in ps)).numbers (lexed_of (saids_in ps)).lexemes ≡ r
    → reading_or (number_tokens (tokens_from 0 ps)) (lexed_of (saids_in ps)) r ≡ Ok log → FromStated ps log
from_case ps log (Ok all) e h = (all, e, cc)
from_case ps log (Err x) e h = absurd cc

pub says_again : RepairedLogsSayTheSame
says_again bytes log point h p =
    let are = h.are_tokens in
    let ps = are.pieces in
    let spelled : bytes ≡ spelling ps = are.begins.whole ∙ append-nil (spelling ps) in
    let read : read_lexed (tokens_from 0 ps) (lexed_of (saids_in ps)) ≡ Ok log =
    ap (λ s. read_lexed (tokens_from 0 ps) (lexed_of s)) (sym (saids_are [] ps)) ∙ ap (λ t. log_of t (tokens_from 0 ps)) (sym spelled) ∙ ap (log_of bytes) (sym are.tokens_are) ∙ h.read in
    let f = from_case ps log (statements_of (lexed_of (saids_in ps)).numbers (lexed_of (saids_in ps)).lexemes) refl read in
    let says = says_pieces ps f.0 point (follow_from before.Start ps are.begins.stand) are.sound f.1 p.within (p.values ∙ ap (λ (r : Reading). length r.parameters) (sym f.2)) in
    subst (λ (t : List ℕ). SaysWith log point (repaired_text t log.parameters point)) (sym spelled)
    (subst (λ (r : Reading). SaysWith r point (repaired_text (spelling ps) r.parameters point)) f.2 says)
