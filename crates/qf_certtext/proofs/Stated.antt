-- The line of a stated point.
use Rattle.std.proofs.Common.{◌≡◌, ℕ, ℤ, List, [], ◌∷◌, ◌++◌, map, sym, ap, ◌∙◌, append_assoc, append-nil}
use Rattle.std.specs.List.{join_with_byte}
use Rattle.std.specs.Fmt.{signed_decimal}
use Rattle.std.proofs.lemmas.List.Concat.{flat_map-cons}
use lib.Chars.{codes}
use Rattle.qf_tree.specs.declared.cert.Answer.TheVariants.{Repair, Best}
use Rattle.qf_tree.specs.declared.line.Line.TheVariants as line
use Rattle.qf_certtext.specs.Spelling.{line_bytes, value_text, value_texts, stated_bytes}

joined_values : (word : List ℕ) (zs : List ℤ) → join_with_byte 32 (word ∷ map signed_decimal zs) ≡ word ++ value_texts zs
joined_values word [] = sym (append-nil word)
joined_values word (z ∷ zs) =
    ap (λ (bs : List ℕ). word ++ (32 ∷ bs)) (joined_values (signed_decimal z) zs)
    ∙ ap (λ (bs : List ℕ). word ++ bs) (sym (flat_map-cons value_text z zs))

stated : (word : List ℕ) (zs : List ℤ) → join_with_byte 32 (codes "answer" ∷ word ∷ map signed_decimal zs) ++ 10 ∷ [] ≡ stated_bytes (codes "answer " ++ word) zs
stated word zs =
    ap (λ (bs : List ℕ). (codes "answer" ++ (32 ∷ bs)) ++ 10 ∷ []) (joined_values word zs)
    ∙ append_assoc (codes "answer " ++ word) (value_texts zs) (10 ∷ [])

pub repair_stated : (zs : List ℤ) → line_bytes (line.Answer (Repair zs)) ≡ stated_bytes (codes "answer repair") zs
repair_stated zs = stated (codes "repair") zs

pub best_stated : (zs : List ℤ) → line_bytes (line.Answer (Best zs)) ≡ stated_bytes (codes "answer best") zs
best_stated zs = stated (codes "best") zs
