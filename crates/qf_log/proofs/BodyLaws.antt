-- A log is its body with its names and texts.
use Rattle.std.proofs.Common.{◌≡◌, ◌∙◌, ap, sym, refl, ℕ, ℤ, List, map, filter, Result, Ok, Err}
use Rattle.qf_lex.specs.declared.token.Token.{Token}
use Rattle.qf_grammar.specs.declared.judging.Stated.{Stated}
use Rattle.qf_grammar.specs.declared.fault.LogFault.{LogFault}
use Rattle.qf_grammar.specs.Spelling.{Lexemes}
use Rattle.qf_grammar.specs.Statements.{statements_of}
use Rattle.qf_log.specs.declared.lexing.Lexed.{Lexed}
use Rattle.qf_log.specs.declared.parsing.Body.{Body}
use Rattle.qf_log.specs.Said.{said_by}
use Rattle.qf_log.specs.Lexed.{lexed_of}
use Rattle.qf_log.specs.Parameters.{is_number}
use Rattle.qf_log.specs.Bodies.{body_or}
use Rattle.qf_log.specs.Reading.{Reading, reading_or, read_lexed, log_of}

abbrev pub with_names : Lexed → Body → Reading
with_names l body = record { names = l.names; texts = l.texts; statements = body.statements; parameters = body.parameters }

abbrev log_with : Lexed → Result Body LogFault → Result Reading LogFault
log_with l (Ok body) = Ok (with_names l body)
log_with l (Err f) = Err f

logs-same : (tokens : List Token) (l : Lexed) (r : Result (List Stated) LogFault) → reading_or (filter (λ (t : Token). is_number t.kind) tokens) l r ≡ log_with l (body_or tokens l.numbers r)
logs-same tokens l (Ok all) = refl
logs-same tokens l (Err f) = refl

module _ (bytes : List ℕ) (tokens these : List Token) (l : Lexed) (numbers : List ℤ) (lexemes : Lexemes) (is_lexed : l ≡ lexed_of (map (said_by bytes) tokens)) (is_tokens : these ≡ tokens)
    (is_numbers : numbers ≡ l.numbers) (is_lexemes : lexemes ≡ l.lexemes) where
  log-is : log_of bytes tokens ≡ log_with l (body_or these numbers (statements_of numbers lexemes))
  log-is =
      ap (read_lexed tokens) (sym is_lexed) ∙ logs-same tokens l (statements_of l.numbers l.lexemes)
      ∙ ap (log_with l)
      (sym (ap (λ ts. body_or ts numbers (statements_of numbers lexemes)) is_tokens
      ∙ ap (λ zs. body_or tokens zs (statements_of zs lexemes)) is_numbers
      ∙ ap (λ xs. body_or tokens l.numbers (statements_of l.numbers xs)) is_lexemes))

  pub log-found : (body : Body) → body_or these numbers (statements_of numbers lexemes) ≡ Ok body → log_of bytes tokens ≡ Ok (with_names l body)
  log-found body e = log-is ∙ ap (log_with l) e
