-- The parameters of a log: its numbers that stand alone, in the order of its text, counted from 1.
use Rattle.std.specs.Prelude.{ℕ, ◌+◌, ℤ, pos, Bool, true, false, List, [], ◌∷◌, ◌++◌, map, slice_index_or}
use Rattle.std.specs.List.{flat_map}
use Rattle.qf_lex.specs.declared.token.Token.{Token}
use Rattle.qf_lex.specs.declared.token.TokenKind.{TokenKind}
use Rattle.qf_lex.specs.declared.token.TokenKind.TheVariants as kind
use Rattle.qf_grammar.specs.declared.tree.Factor.{Factor}
use Rattle.qf_grammar.specs.declared.tree.Factor.TheVariants as factor
use Rattle.qf_grammar.specs.declared.uses.Use.{Use}
use Rattle.qf_grammar.specs.declared.uses.Use.TheVariants as used
use Rattle.qf_grammar.specs.declared.judging.Stated.{Stated}
use Rattle.qf_log.specs.declared.places.ParamPlace.{ParamPlace}

-- the place of a number that stands alone
abbrev pub alone : Use → List ℕ
alone (used.Number n) = n ∷ []
alone _ = []

-- the places of the parameters among the numbers
abbrev pub parameters_in : List Use → List ℕ
parameters_in uses = flat_map alone uses

-- the value of the number at a place
abbrev pub number_at : List ℤ → ℕ → ℤ
number_at numbers n = slice_index_or numbers n (pos 0)

abbrev pub no_token : Token
no_token = record { start = 0; end = 0; kind = kind.Number (pos 0) }

abbrev pub token_at : List Token → ℕ → Token
token_at tokens n = slice_index_or tokens n no_token

abbrev pub is_number : TokenKind → Bool
is_number (kind.Number z) = true
is_number _ = false

-- the number tokens are those of the numbers
abbrev pub place_of : List Token → List ℤ → ℕ → ℕ → ParamPlace
place_of tokens numbers statement n = record { statement = statement; start = (token_at tokens n).start; end = (token_at tokens n).end; old = number_at numbers n }

abbrev pub places_in : List Token → List ℤ → ℕ → List Use → List ParamPlace
places_in tokens numbers statement uses = map (place_of tokens numbers statement) (parameters_in uses)

-- the parameters of the statements, the first of which has this number
abbrev pub places_from : List Token → List ℤ → ℕ → List Stated → List ParamPlace
places_from tokens numbers k [] = []
places_from tokens numbers k (s ∷ all) = places_in tokens numbers k s.uses ++ places_from tokens numbers (k + 1) all

abbrev pub coefficient_in : Factor → List ℕ
coefficient_in (factor.Number n) = 0 ∷ []
coefficient_in (factor.Name c) = []

-- for each number in turn: its number as a parameter, behind so many, or 0 for a coefficient
abbrev pub ids_from : ℕ → List Use → List ℕ
ids_from k [] = []
ids_from k (used.Number n ∷ uses) = (k + 1) ∷ ids_from (k + 1) uses
ids_from k (used.Product l r ∷ uses) = (coefficient_in l ++ coefficient_in r) ++ ids_from k uses
ids_from k (used.Name c ∷ uses) = ids_from k uses
ids_from k (used.Text t ∷ uses) = ids_from k uses

-- the numbers of the parameters, by the places of their literals among the numbers
abbrev pub ids_of : List Stated → List ℕ
ids_of all = ids_from 0 (flat_map (λ (s : Stated). s.uses) all)
