-- A unit, by its first lexeme.
use Rattle.std.proofs.Common.{◌≡◌, ◌≢◌, ℕ, zero, suc, ◌-◌, refl, ap, arith, Option, Some, None}
use Rattle.std.specs.Prelude.{option_map}
use Rattle.qf_grammar.specs.declared.tree.Condition.{Condition}
use Rattle.qf_grammar.specs.declared.tree.Condition.TheVariants as condition
use Rattle.qf_grammar.specs.Spelling.{Lexemes}
use Rattle.qf_grammar.specs.Reading.{behind, is_not, is_open, closed, chain_with, unit_at, negated_at, grouped_at, test_of}

abbrev pub Read : Type 0
Read = Option (Condition × Lexemes)

-- ---- how deep

pub not_inside : (d : ℕ) (xs : Lexemes) → d ≢ 0 → option_map (λ p. (condition.Not p.0, p.1)) (unit_at (d - 1) xs) ≡ negated_at d xs
not_inside zero xs n = absurd (n refl)
not_inside (suc d) xs n = ap (λ k. option_map (λ p. (condition.Not p.0, p.1)) (unit_at k xs)) (omega arith)

pub not_deep : (d : ℕ) (xs : Lexemes) → d ≡ 0 → ◌≡◌ {A = Read} None (negated_at d xs)
not_deep zero xs n = refl
not_deep (suc d) xs n = absurd (omega arith)

pub group_inside : (d : ℕ) (xs : Lexemes) → d ≢ 0 → closed (chain_with (unit_at (d - 1)) xs) ≡ grouped_at d xs
group_inside zero xs n = absurd (n refl)
group_inside (suc d) xs n = ap (λ k. closed (chain_with (unit_at k) xs)) (omega arith)

pub group_deep : (d : ℕ) (xs : Lexemes) → d ≡ 0 → ◌≡◌ {A = Read} None (grouped_at d xs)
group_deep zero xs n = refl
group_deep (suc d) xs n = absurd (omega arith)

-- ---- which unit

pub not_at : (d : ℕ) (xs rest : Lexemes) → Some rest ≡ behind is_not xs → negated_at d rest ≡ unit_at d xs
unfolding unit_at
not_at zero xs rest e = rw (← e) refl
not_at (suc d) xs rest e = rw (← e) refl

pub group_at : (d : ℕ) (xs rest : Lexemes) → ◌≡◌ {A = Option Lexemes} None (behind is_not xs) → Some rest ≡ behind is_open xs → grouped_at d rest ≡ unit_at d xs
unfolding unit_at
group_at zero xs rest e f = rw (← e, ← f) refl
group_at (suc d) xs rest e f = rw (← e, ← f) refl

pub test_at : (d : ℕ) (xs : Lexemes) → ◌≡◌ {A = Option Lexemes} None (behind is_not xs) → ◌≡◌ {A = Option Lexemes} None (behind is_open xs) → test_of xs ≡ unit_at d xs
unfolding unit_at
test_at zero xs e f = rw (← e, ← f) refl
test_at (suc d) xs e f = rw (← e, ← f) refl
