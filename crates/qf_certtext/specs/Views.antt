-- How many words there are.
use Rattle.std.specs.Prelude.{ℕ, List, [], ◌∷◌, Option, Some, None}

-- the word, where it is one
abbrev pub only_word : List (List ℕ) → Option (List ℕ)
only_word (word ∷ []) = Some word
only_word _ = None

-- the words, where there are three
abbrev pub three_words : List (List ℕ) → Option (List ℕ × List ℕ × List ℕ)
three_words (first ∷ second ∷ third ∷ []) = Some (first, second, third)
three_words _ = None
