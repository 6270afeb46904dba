-- The statements of a log, or its first fault.
use Rattle.std.specs.Prelude.{◌≡◌, ℕ, ◌+◌, ◌==◌, ℤ, Bool, true, false, List, [], ◌∷◌, Option, Some, None, Result, Ok, Err, if◌then◌else◌}
use Rattle.std.specs.List.{list_any}
use Rattle.qf_grammar.specs.declared.lexeme.Lexeme.{Lexeme}
use Rattle.qf_grammar.specs.declared.lexeme.Lexeme.TheVariants as lex
use Rattle.qf_grammar.specs.declared.lexeme.Mark.TheVariants as mark
use Rattle.qf_grammar.specs.declared.tree.Form.{Form}
use Rattle.qf_grammar.specs.declared.tree.Form.TheVariants as form
use Rattle.qf_grammar.specs.declared.fault.LogFault.{LogFault}
use Rattle.qf_grammar.specs.declared.fault.LogFault.TheVariants as fault
use Rattle.qf_grammar.specs.Spelling.{Lexemes}
use Rattle.qf_grammar.specs.declared.judging.Stated.{Stated}
use Rattle.qf_grammar.specs.Reading.{form_at}
use Rattle.qf_grammar.specs.declared.uses.Use.{Use}
use Rattle.qf_grammar.specs.Usage.{uses_of, is_alike, has_big_factor}

-- ---- pieces

abbrev pub is_semicolon : Lexeme → Bool
is_semicolon (lex.Mark mark.Semicolon) = true
is_semicolon _ = false

abbrev pub onto : Lexeme → List Lexemes → List Lexemes
onto x [] = (x ∷ []) ∷ []
onto x (piece ∷ pieces) = (x ∷ piece) ∷ pieces

-- the pieces between semicolons, empty ones too
abbrev pub pieces_of : Lexemes → List Lexemes
pieces_of [] = [] ∷ []
pieces_of (x ∷ xs) = if is_semicolon x then [] ∷ pieces_of xs else onto x (pieces_of xs)

-- the piece before the first semicolon, and the lexemes behind it
abbrev pub cut_at : Lexemes → Lexemes × Option Lexemes
cut_at [] = ([], None)
cut_at (x ∷ xs) = if is_semicolon x then ([], Some xs) else (x ∷ (cut_at xs).0, (cut_at xs).1)

abbrev pub has_lexemes : Lexemes → Bool
has_lexemes [] = false
has_lexemes (x ∷ xs) = true

-- ---- statements

abbrev pub table_of : Form → ℕ
table_of (form.Update table sets filter) = table
table_of (form.Delete table filter) = table
table_of (form.Insert table columns tuples) = table

-- the table is that of the first statement, if there was one
abbrev pub is_table : Option ℕ → ℕ → Bool
is_table None table = true
is_table (Some first) table = first == table

-- statement k, which is of this form and uses these, or its first fault
abbrev pub judged_with : List ℤ → Option ℕ → ℕ → Form → List Use → Result Stated LogFault
judged_with numbers first k f uses =
    if list_any is_alike uses then Err (fault.NotLinear k)
    else if list_any (has_big_factor numbers) uses then Err (fault.BigCoefficient k)
    else if is_table first (table_of f) then Ok (record { form = f; uses = uses })
    else Err (fault.OtherTable k)

abbrev pub judged_form : List ℤ → Option ℕ → ℕ → Option Form → Result Stated LogFault
judged_form numbers first k None = Err (fault.BadSyntax k)
judged_form numbers first k (Some f) = judged_with numbers first k f (uses_of f)

-- statement k, or its first fault
abbrev pub judged : List ℤ → Option ℕ → ℕ → Lexemes → Result Stated LogFault
judged numbers first k piece = judged_form numbers first k (form_at piece)

abbrev pub first_table : Option ℕ → Form → Option ℕ
first_table None f = Some (table_of f)
first_table (Some first) f = Some first

abbrev pub with_stated : Stated → Result (List Stated) LogFault → Result (List Stated) LogFault
with_stated s (Ok all) = Ok (s ∷ all)
with_stated s (Err e) = Err e

abbrev pub judged_next : (Stated → Result (List Stated) LogFault) → Result Stated LogFault → Result (List Stated) LogFault
judged_next next (Ok s) = with_stated s (next s)
judged_next next (Err e) = Err e

-- the statements of the pieces, the first of which is statement k; a piece without lexemes is none
abbrev pub statements_from : List ℤ → Option ℕ → ℕ → List Lexemes → Result (List Stated) LogFault
statements_from numbers first k [] = Ok []
statements_from numbers first k ([] ∷ pieces) = statements_from numbers first k pieces
statements_from numbers first k ((x ∷ xs) ∷ pieces) = judged_next (λ s. statements_from numbers (first_table first s.form) (k + 1) pieces) (judged numbers first k (x ∷ xs))

-- the statements of a log, or its first fault
abbrev pub statements_of : List ℤ → Lexemes → Result (List Stated) LogFault
statements_of numbers xs = statements_from numbers None 1 (pieces_of xs)

-- what a call answered is this, or it wants memory
abbrev pub Gives : {A : Type 0} → Result A LogFault → Result A LogFault → Type 0
Gives (Ok a) r = r ≡ Ok a
Gives (Err fault.NoMemory) r = Unit {0}
Gives (Err e) r = r ≡ Err e
