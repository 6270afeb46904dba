-- The values of words, read one after another.
use Rattle.std.proofs.Common.{◌≡◌, ◌∙◌, ap, refl, sym, ℕ, ◌+◌, ℤ, List, [], ◌∷◌, ◌++◌, length, Option, Some, None, option_map}
use Rattle.std.proofs.lemmas.List.{append_assoc}
use Rattle.qf_certtext.specs.Words.{value_of_word, values_of_words}

-- the values behind those that stand in front
abbrev pub with_front : List ℤ → Option (List ℤ) → Option (List ℤ)
with_front front values = option_map (λ (zs : List ℤ). front ++ zs) values

abbrev pub bytes_left : Option (List ℕ) → ℕ
bytes_left None = 0
bytes_left (Some bytes) = length bytes + 1

with_more : (front : List ℤ) (z : ℤ) (o : Option (List ℤ)) → with_front (front ++ z ∷ []) o ≡ with_front front (option_map (λ (zs : List ℤ). z ∷ zs) o)
with_more front z None = refl
with_more front z (Some zs) = ap Some (append_assoc front (z ∷ []) zs)

-- a word with a value is read
pub one_more_value : (values after : List ℤ) (z : ℤ) (word : List ℕ) (all words : List (List ℕ)) (whole : Option (List ℤ)) → all ≡ word ∷ words → value_of_word word ≡ Some z → after ≡ values ++ z ∷ [] → with_front values (values_of_words all) ≡ whole → with_front after (values_of_words words) ≡ whole
one_more_value values after z word all words whole begins is more before =
    let here : values_of_words all ≡ option_map (λ (zs : List ℤ). z ∷ zs) (values_of_words words) = rw (begins, is) refl in
    ap (λ (front : List ℤ). with_front front (values_of_words words)) more ∙ (with_more values z (values_of_words words) ∙ (ap (with_front values) (sym here) ∙ before))

-- a word without one ends the reading
pub no_value : (values : List ℤ) (word : List ℕ) (all words : List (List ℕ)) (whole : Option (List ℤ)) → all ≡ word ∷ words → value_of_word word ≡ None → with_front values (values_of_words all) ≡ whole → None ≡ whole
no_value values word all words whole begins is before =
    let here : values_of_words all ≡ None = rw (begins, is) refl in
    ap (with_front values) (sym here) ∙ before
