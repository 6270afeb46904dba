-- Where the rows that a log inserts are born: the place of the INSERT among the statements, and of the tuple in it.
use Rattle.std.specs.Prelude.{ℕ, zero, suc, ◌+◌, List, [], ◌∷◌, ◌++◌, length, slice_get}
use Rattle.std.specs.declared.option.Option.{Option}
use Rattle.std.specs.declared.option.Option.TheVariants.{None}
use Rattle.qf_ir.specs.declared.ast.Statement.{Statement}
use Rattle.qf_ir.specs.declared.ast.Statement.TheVariants.{Update, Delete, Insert}
use Rattle.qf_ir.specs.Value.{Values}
use Rattle.qf_ir.specs.Replay.{inserted_table}
use Rattle.qf_ir.specs.Life.{Birth, born_or}

-- so many tuples of a statement, from the first on
abbrev pub tuple_places : ℕ → ℕ → ℕ → List (ℕ × ℕ)
tuple_places statement first zero = []
tuple_places statement first (suc n) = (statement, first) ∷ tuple_places statement (first + 1) n

-- the places of i1, i2, .., of which the first statement is number `first`
abbrev pub births_from : ℕ → List Statement → List (ℕ × ℕ)
births_from first [] = []
births_from first (Update sets where_ ∷ statements) = births_from (first + 1) statements
births_from first (Delete where_ ∷ statements) = births_from (first + 1) statements
births_from first (Insert columns tuples ∷ statements) = tuple_places first 0 (length tuples) ++ births_from (first + 1) statements

-- statements and tuples count from 0
abbrev pub births_of : List Statement → List (ℕ × ℕ)
births_of statements = births_from 0 statements

-- the row of a statement's tuple, before the rest of the log
abbrev pub born_by : ℕ → Values → Statement → ℕ → List Statement → Option Birth
born_by width point (Update sets where_) tuple rest = None
born_by width point (Delete where_) tuple rest = None
born_by width point (Insert columns tuples) tuple rest = born_or (slice_get (inserted_table width columns tuples point) tuple) rest None

-- the row that is born at a place
abbrev pub birth_at : ℕ → Values → List Statement → ℕ → ℕ → Option Birth
birth_at width point [] statement tuple = None
birth_at width point (s ∷ statements) zero tuple = born_by width point s tuple statements
birth_at width point (s ∷ statements) (suc statement) tuple = birth_at width point statements statement tuple
