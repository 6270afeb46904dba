-- Lists that grow by a step: texts without their doubled quotes, numbers of parameters.
use Rattle.std.proofs.Common.{◌≡◌, ℕ, ◌+◌, ◌<◌, ◌≤◌, Bool, true, false, cond, List, [], ◌∷◌, ◌++◌, Some, None, length, refl, sym, ap, ◌∙◌, arith, append_assoc, Option}
use Rattle.std.specs.Prelude.{◌==◌, ◌&&◌}
use Rattle.std.proofs.lemmas.List.{append-nil}
use Rattle.qf_grammar.specs.declared.uses.Use.{Use}
use Rattle.qf_grammar.specs.declared.judging.Stated.{Stated}
use Rattle.std.specs.List.{flat_map}
use Rattle.qf_grammar.specs.declared.uses.Use.TheVariants as used
use Rattle.qf_log.specs.Said.{single_quoted, next_quoted}
use Rattle.qf_log.specs.Parameters.{coefficient_in, ids_from, parameters_in}

-- ---- texts

abbrev Step : List ℕ → Option (ℕ × List ℕ) → Type 0
Step xs None = single_quoted xs ≡ []
Step xs (Some p) = (single_quoted xs ≡ p.0 ∷ single_quoted p.1) × (length p.1 < length xs)

two_case : (b c : ℕ) (bytes : List ℕ) (v : Bool) → (b == 39) && (c == 39) ≡ v → Step (b ∷ c ∷ bytes) (cond v (Some (b, bytes)) (Some (b, c ∷ bytes)))
unfolding single_quoted
two_case b c bytes true e = (rw e refl, omega arith)
two_case b c bytes false e = (rw e refl, omega arith)

quoted_step : (xs : List ℕ) → Step xs (next_quoted xs)
unfolding single_quoted
quoted_step [] = refl
quoted_step (b ∷ []) = (refl, omega arith)
quoted_step (b ∷ c ∷ bytes) = two_case b c bytes ((b == 39) && (c == 39)) refl

pub next_byte : (xs : List ℕ) (b : ℕ) (rest : List ℕ) → ◌≡◌ {A = Option (ℕ × List ℕ)} (Some (b, rest)) (next_quoted xs) → (single_quoted xs ≡ b ∷ single_quoted rest) × (length rest < length xs)
next_byte xs b rest e = let h : Step xs (next_quoted xs) = quoted_step xs in rw (← e) at h

pub no_byte : (xs : List ℕ) → ◌≡◌ {A = Option (ℕ × List ℕ)} None (next_quoted xs) → single_quoted xs ≡ []
no_byte xs e = let h : Step xs (next_quoted xs) = quoted_step xs in rw (← e) at h

pub byte_more : (into xs : List ℕ) (b : ℕ) (rest all : List ℕ) → ◌≡◌ {A = Option (ℕ × List ℕ)} (Some (b, rest)) (next_quoted xs) → into ++ single_quoted xs ≡ all → (into ++ b ∷ []) ++ single_quoted rest ≡ all
byte_more into xs b rest all e h = append_assoc into (b ∷ []) (single_quoted rest) ∙ ap (λ t. into ++ t) (sym (next_byte xs b rest e).0) ∙ h

pub bytes_end : (into xs all : List ℕ) → ◌≡◌ {A = Option (ℕ × List ℕ)} None (next_quoted xs) → into ++ single_quoted xs ≡ all → into ≡ all
bytes_end into xs all e h = sym (append-nil into) ∙ ap (λ t. into ++ t) (sym (no_byte xs e)) ∙ h

-- ---- numbers of parameters

abbrev pub all_uses : List Stated → List Use
all_uses all = flat_map (λ (s : Stated). s.uses) all

pub ids_join : (k : ℕ) (us vs : List Use) → ids_from k (us ++ vs) ≡ ids_from k us ++ ids_from (k + length (parameters_in us)) vs
ids_join k [] vs = ap (λ n. ids_from n vs) (omega arith)
ids_join k (used.Number n ∷ us) vs = ap (λ t. (k + 1) ∷ t) (ids_join (k + 1) us vs ∙ ap (λ m. ids_from (k + 1) us ++ ids_from m vs) (omega arith))
ids_join k (used.Product l r ∷ us) vs = ap (λ t. (coefficient_in l ++ coefficient_in r) ++ t) (ids_join k us vs) ∙ sym (append_assoc (coefficient_in l ++ coefficient_in r) (ids_from k us) (ids_from (k + length (parameters_in us)) vs))
ids_join k (used.Name c ∷ us) vs = ids_join k us vs
ids_join k (used.Text t ∷ us) vs = ids_join k us vs

pub ids_more : (ids next : List ℕ) (k count : ℕ) (us vs : List Use) (all : List ℕ) → next ≡ ids ++ ids_from k us → count ≡ k + length (parameters_in us) → ids ++ ids_from k (us ++ vs) ≡ all → next ++ ids_from count vs ≡ all
ids_more ids next k count us vs all e f h =
    ap (λ t. t ++ ids_from count vs) e ∙ append_assoc ids (ids_from k us) (ids_from count vs) ∙ ap (λ m. ids ++ (ids_from k us ++ ids_from m vs)) f ∙ ap (λ t. ids ++ t) (sym (ids_join k us vs)) ∙ h

pub few_parameters : (us : List Use) → length (parameters_in us) ≤ length us
few_parameters [] = omega arith
few_parameters (used.Number n ∷ us) = omega (arith, few_parameters us)
few_parameters (used.Product l r ∷ us) = omega (arith, few_parameters us)
few_parameters (used.Name c ∷ us) = omega (arith, few_parameters us)
few_parameters (used.Text t ∷ us) = omega (arith, few_parameters us)
