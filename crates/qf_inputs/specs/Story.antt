-- What a table and the log that ran on it say together, or their first refusal: of the table, then of the log, then of the
-- log as a program over the table.
use Rattle.std.specs.Prelude.{◌≡◌, ◌⊎◌, ℕ, List, Result, Ok, Err}
use Rattle.qf_base.specs.declared.refusal.Refusal.{Refusal}
use Rattle.qf_lex.specs.Refusals as lex
use Rattle.qf_lex.specs.Tokens.{TokensOf, FirstFaultOf}
use Rattle.qf_lex.specs.declared.token.LexFault.{LexFault}
use Rattle.qf_lex.specs.declared.token.Token.{Token}
use Rattle.qf_grammar.specs.Refusals as grammar
use Rattle.qf_grammar.specs.declared.fault.LogFault.{LogFault}
use Rattle.qf_log.specs.Reading.{Reading, log_of, olds_of, IsLogOf}
use Rattle.qf_ir.specs.Checked.{program_of}
use Rattle.qf_ir.specs.Faults as ir
use Rattle.qf_ir.specs.Plan.{Plan}
use Rattle.qf_ir.specs.declared.table.Table.{Table}
use Rattle.qf_table.specs.Faults as table
use Rattle.qf_table.specs.Tables.{table_of}
use Rattle.qf_inputs.specs.Refusals.{told, or_refusal}
use Rattle.qf_inputs.specs.declared.story.Story.{Story}

-- ---- the log

-- the scan of the bytes ends at a fault
pub record IsUnscanned (bytes : List ℕ) (refusal : Refusal) : Type 0 where
  pub fault : LexFault
  pub first : FirstFaultOf bytes fault
  pub refusal_is : refusal ≡ told (lex.refusal_of fault)

-- the tokens of the bytes have a fault in a statement
pub record IsMisstated (bytes : List ℕ) (refusal : Refusal) : Type 0 where
  pub tokens : List Token
  pub are_tokens : TokensOf bytes tokens
  pub fault : LogFault
  pub first : log_of bytes tokens ≡ Err fault
  pub refusal_is : refusal ≡ told (grammar.refusal_of fault)

-- the log of these bytes: what it says, or the refusal of its first fault
abbrev pub IsLog : List ℕ → Result Reading Refusal → Type 0
IsLog bytes (Ok log) = IsLogOf bytes log
IsLog bytes (Err refusal) = IsUnscanned bytes refusal ⊎ IsMisstated bytes refusal

-- ---- the table with its log

abbrev pub with_plan : Table → Reading → Result Plan Refusal → Result Story Refusal
with_plan table log (Err refusal) = Err refusal
with_plan table log (Ok plan) = Ok (record { table = table; log = log; program = plan })

-- the log's own names, texts, statements and old constants as a program over the table
abbrev pub plan_of : Table → Reading → Result Plan Refusal
plan_of table log = or_refusal ir.refusal_of (program_of table log.names log.texts log.statements (olds_of log))

abbrev pub with_log : Table → Result Reading Refusal → Result Story Refusal
with_log table (Err refusal) = Err refusal
with_log table (Ok log) = with_plan table log (plan_of table log)

abbrev pub with_table : Result Table Refusal → Result Reading Refusal → Result Story Refusal
with_table (Err refusal) reading = Err refusal
with_table (Ok table) reading = with_log table reading

-- the table of these bytes
abbrev pub table_in : List ℕ → Result Table Refusal
table_in initial = or_refusal table.refusal_of (table_of initial)

-- what a table and a log say together, or their first refusal
pub record IsStory (initial log : List ℕ) (story : Result Story Refusal) : Type 0 where
  pub reading : Result Reading Refusal
  pub reading_is : IsLog log reading
  pub story_is : story ≡ with_table (table_in initial) reading
