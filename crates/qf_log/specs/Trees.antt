-- What a sum of a log is worth as it is written, in a row, at a point: one value for each parameter.
use Rattle.std.specs.Prelude.{◌≡◌, ℕ, ◌-◌, ℤ, pos, ◌+ℤ◌, ◌*ℤ◌, false, List, [], ◌∷◌, slice_index_or, Option, Some, None}
use Rattle.std.specs.List.{list_any}
use Rattle.qf_ir.specs.Value.{Cells, Values, cell_at, number_of, value}
use Rattle.qf_grammar.specs.declared.tree.Several.{Several}
use Rattle.qf_grammar.specs.declared.tree.Factor.{Factor}
use Rattle.qf_grammar.specs.declared.tree.Factor.TheVariants as factor
use Rattle.qf_grammar.specs.declared.tree.Term.{Term}
use Rattle.qf_grammar.specs.Usage.{several_uses, term_uses, is_alike}
use Rattle.qf_log.specs.Parameters.{number_at}
use Rattle.qf_log.specs.Lowered.{id_at, signed, lowered_sum}

-- a column is worth the row's cell there
abbrev pub column_worth : Cells → ℕ → ℤ
column_worth cells c = number_of (cell_at cells c)

-- a number in a product is worth itself
abbrev pub factor_worth : List ℤ → Cells → Factor → ℤ
factor_worth numbers cells (factor.Number n) = number_at numbers n
factor_worth numbers cells (factor.Name c) = column_worth cells c

-- a number alone is a parameter, worth its value at the point
abbrev pub lone_worth : List ℕ → Cells → Values → Factor → ℤ
lone_worth ids cells point (factor.Number n) = slice_index_or point (id_at ids n - 1) (pos 0)
lone_worth ids cells point (factor.Name c) = column_worth cells c

abbrev pub product_worth : List ℤ → List ℕ → Cells → Values → Factor → Option Factor → ℤ
product_worth numbers ids cells point l None = lone_worth ids cells point l
product_worth numbers ids cells point l (Some r) = factor_worth numbers cells l *ℤ factor_worth numbers cells r

abbrev pub term_worth : List ℤ → List ℕ → Cells → Values → Term → ℤ
term_worth numbers ids cells point t = signed t.minus (product_worth numbers ids cells point t.left t.right)

abbrev pub terms_worth : List ℤ → List ℕ → Cells → Values → List Term → ℤ
terms_worth numbers ids cells point [] = pos 0
terms_worth numbers ids cells point (t ∷ ts) = term_worth numbers ids cells point t +ℤ terms_worth numbers ids cells point ts

abbrev pub sum_worth : List ℤ → List ℕ → Cells → Values → Several Term → ℤ
sum_worth numbers ids cells point s = terms_worth numbers ids cells point (s.first ∷ s.others)

-- a sum that multiplies names by numbers alone, as each of a log that is read, is worth in the program what it is worth as
-- it is written
abbrev pub LoweredSumsKeepTheirValue : Type 0
LoweredSumsKeepTheirValue = (numbers : List ℤ) (ids : List ℕ) (s : Several Term) (cells : Cells) (point : Values) → list_any is_alike (several_uses term_uses s) ≡ false
    → value (lowered_sum numbers ids s) cells point ≡ sum_worth numbers ids cells point s
