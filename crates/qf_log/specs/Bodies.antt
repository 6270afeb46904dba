-- A log's statements and parameters, without its names and texts.
use Rattle.std.specs.Prelude.{ℤ, List, map, filter, Result, Ok, Err}
use Rattle.qf_lex.specs.declared.token.Token.{Token}
use Rattle.qf_grammar.specs.declared.judging.Stated.{Stated}
use Rattle.qf_grammar.specs.declared.fault.LogFault.{LogFault}
use Rattle.qf_log.specs.declared.parsing.Body.{Body}
use Rattle.qf_log.specs.Parameters.{is_number, places_from, ids_of}
use Rattle.qf_log.specs.Lowered.{lowered_form}

-- of the statements that these are
abbrev pub body_of : List Token → List ℤ → List Stated → Body
body_of tokens numbers all = record {
  statements = map (λ (s : Stated). lowered_form numbers (ids_of all) s.form) all;
  parameters = places_from (filter (λ (t : Token). is_number t.kind) tokens) numbers 1 all;
}

abbrev pub body_or : List Token → List ℤ → Result (List Stated) LogFault → Result Body LogFault
body_or tokens numbers (Ok all) = Ok (body_of tokens numbers all)
body_or tokens numbers (Err e) = Err e
