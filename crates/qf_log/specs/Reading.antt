-- What a log says: its statements over its own names and texts, and where its parameters stand.
use Rattle.std.specs.Prelude.{◌≡◌, ℕ, ℤ, List, map, filter, Result, Ok, Err}
use Rattle.qf_ir.specs.declared.ast.Statement.{Statement}
use Rattle.qf_lex.specs.declared.token.Token.{Token}
use Rattle.qf_lex.specs.Tokens.{TokensOf}
use Rattle.qf_grammar.specs.declared.judging.Stated.{Stated}
use Rattle.qf_grammar.specs.declared.fault.LogFault.{LogFault}
use Rattle.qf_grammar.specs.Statements.{statements_of}
use Rattle.qf_log.specs.declared.lexing.Lexed.{Lexed}
use Rattle.qf_log.specs.declared.places.ParamPlace.{ParamPlace}
use Rattle.qf_log.specs.Said.{said_by}
use Rattle.qf_log.specs.Lexed.{lexed_of}
use Rattle.qf_log.specs.Parameters.{is_number, places_from, ids_of}
use Rattle.qf_log.specs.Lowered.{lowered_form}

-- In the statements a column is a place in the names, a code a place in the texts, and Param(k) the k-th of the parameters.
pub record Reading : Type 0 where
  pub names : List (List ℕ)
  pub texts : List (List ℕ)
  pub statements : List Statement
  pub parameters : List ParamPlace

-- the old constants
abbrev pub olds_of : Reading → List ℤ
olds_of log = map (λ (p : ParamPlace). p.old) log.parameters

-- the statements and parameters that these are, where the numbers stand at these tokens
abbrev pub reading_of : List Token → Lexed → List Stated → Reading
reading_of tokens lexed all = record {
  names = lexed.names;
  texts = lexed.texts;
  statements = map (λ (s : Stated). lowered_form lexed.numbers (ids_of all) s.form) all;
  parameters = places_from tokens lexed.numbers 1 all;
}

abbrev pub reading_or : List Token → Lexed → Result (List Stated) LogFault → Result Reading LogFault
reading_or tokens lexed (Ok all) = Ok (reading_of tokens lexed all)
reading_or tokens lexed (Err e) = Err e

-- what the tokens of these bytes say, or the first fault of their statements
abbrev pub read_lexed : List Token → Lexed → Result Reading LogFault
read_lexed tokens lexed = reading_or (filter (λ (t : Token). is_number t.kind) tokens) lexed (statements_of lexed.numbers lexed.lexemes)

abbrev pub log_of : List ℕ → List Token → Result Reading LogFault
log_of bytes tokens = read_lexed tokens (lexed_of (map (said_by bytes) tokens))

-- the log was read from these bytes
pub record IsLogOf (bytes : List ℕ) (log : Reading) : Type 0 where
  pub tokens : List Token
  pub are_tokens : TokensOf bytes tokens
  pub read : log_of bytes tokens ≡ Ok log
