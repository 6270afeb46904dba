-- A log at its own constants stays as it is.
use Rattle.std.proofs.Common.{◌≡◌, ℕ, ◌+◌, ◌-◌, ◌≤◌, cond, List, [], ◌∷◌, ◌++◌, length, map, filter, take, drop, refl, sym, ap, subst, ◌∙◌, arith, Result, Ok, Err}
use Rattle.std.specs.Fmt.{signed_decimal}
use Rattle.std.proofs.lemmas.List.{take-append-drop}
use Rattle.std.proofs.Math.Seq.{drop-drop}
use Rattle.std.proofs.lemmas.Bool.Decides.{Decides-int_eq}
use Rattle.qf_lex.specs.declared.token.Token.{Token}
use Rattle.qf_grammar.specs.declared.judging.Stated.{Stated}
use Rattle.qf_grammar.specs.declared.fault.LogFault.{LogFault}
use Rattle.qf_grammar.specs.Statements.{statements_of}
use Rattle.qf_log.specs.declared.places.ParamPlace.{ParamPlace}
use Rattle.qf_log.specs.Said.{said_by}
use Rattle.qf_log.specs.Lexed.{lexed_of}
use Rattle.qf_log.specs.Parameters.{is_number}
use Rattle.qf_log.specs.Ready.{AreApart}
use Rattle.qf_log.specs.Reading.{Reading, reading_of, reading_or, IsLogOf}
use Rattle.qf_log.proofs.ReadyLaws.{stand_apart}
use Rattle.qf_splice.specs.RepairedText.{byte_before, parted, literal, repaired_from}
use Rattle.qf_splice.specs.Laws.{UnchangedLogsStay}

-- a slice and what is behind it
cut : (bytes : List ℕ) (from to : ℕ) → from ≤ to → take (to - from) (drop from bytes) ++ drop to bytes ≡ drop from bytes
cut bytes from to le =
    let end : to ≡ from + (to - from) = omega arith in
    ap (λ t. take (to - from) (drop from bytes) ++ t) (ap (λ k. drop k bytes) end ∙ sym (drop-drop (to - from) from bytes)) ∙ take-append-drop (to - from) (drop from bytes)

literal_stays : (bytes : List ℕ) (p : ParamPlace) → literal bytes p p.old ≡ take (p.end - p.start) (drop p.start bytes)
literal_stays bytes p = ap (λ v. cond v (take (p.end - p.start) (drop p.start bytes)) (parted (byte_before bytes p.start) (signed_decimal p.old))) ((Decides-int_eq p.old p.old).1 refl)

stays_from : (at : ℕ) (bytes : List ℕ) (places : List ParamPlace) (end : ℕ) → AreApart at places end → repaired_from at bytes places (map (λ (p : ParamPlace). p.old) places) ≡ drop at bytes
stays_from at bytes [] end h = refl
stays_from at bytes (p ∷ places) end h =
    let front = take (p.start - at) (drop at bytes) in
    ap (λ t. front ++ (t ++ repaired_from p.end bytes places (map (λ (p : ParamPlace). p.old) places))) (literal_stays bytes p)
    ∙ ap (λ t. front ++ (take (p.end - p.start) (drop p.start bytes) ++ t)) (stays_from p.end bytes places end h.2)
    ∙ ap (λ t. front ++ t) (cut bytes p.start p.end (omega (arith, h.1))) ∙ cut bytes at p.start h.0

apart_case : (bytes : List ℕ) (log : Reading) (h : IsLogOf bytes log) (r : Result (List Stated) LogFault) → statements_of (lexed_of (map (said_by bytes) h.tokens)).numbers (lexed_of (map (said_by bytes) h.tokens)).lexemes ≡ r
    → reading_or (filter (λ (t : Token). is_number t.kind) h.tokens) (lexed_of (map (said_by bytes) h.tokens)) r ≡ Ok log → AreApart 0 log.parameters (length bytes)
apart_case bytes log h (Ok all) e f =
    let is : reading_of (filter (λ (t : Token). is_number t.kind) h.tokens) (lexed_of (map (said_by bytes) h.tokens)) all ≡ log = cc in
    subst (λ (r : Reading). AreApart 0 r.parameters (length bytes)) is (stand_apart bytes h.tokens all h.are_tokens e)
apart_case bytes log h (Err x) e f = absurd cc

pub log_apart : (bytes : List ℕ) (log : Reading) → IsLogOf bytes log → AreApart 0 log.parameters (length bytes)
log_apart bytes log h = apart_case bytes log h (statements_of (lexed_of (map (said_by bytes) h.tokens)).numbers (lexed_of (map (said_by bytes) h.tokens)).lexemes) refl h.read

pub logs_stay : UnchangedLogsStay
logs_stay bytes log h = stays_from 0 bytes log.parameters (length bytes) (log_apart bytes log h)
