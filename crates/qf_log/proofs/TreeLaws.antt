-- A sum is worth the same as it is written and in the program.
use Rattle.std.proofs.Common.{◌≡◌, ◌∙◌, ap, refl, ℕ, ℤ, pos, ◌+ℤ◌, ◌*ℤ◌, Bool, true, false, ◌||◌, List, [], ◌∷◌, map, Option, Some, None, arith}
use Rattle.std.specs.List.{list_any, flat_map}
use Rattle.std.proofs.Math.IntN.{*ℤ_comm}
use Rattle.std.proofs.lemmas.Int.{ints}
use Rattle.qf_base.proofs.Integers.{product_neg_left}
use Rattle.qf_ir.specs.Value.{Cells, Values, atom_value, term_value, sum_value}
use Rattle.qf_ir.specs.declared.ast.Atom.TheVariants.{Param}
use Rattle.qf_grammar.specs.declared.tree.Factor.{Factor}
use Rattle.qf_grammar.specs.declared.tree.Factor.TheVariants as factor
use Rattle.qf_grammar.specs.declared.tree.Term.{Term}
use Rattle.qf_grammar.specs.Usage.{product_use, term_uses, is_alike}
use Rattle.qf_log.specs.Parameters.{number_at}
use Rattle.qf_log.specs.Lowered.{id_at, signed, lowered_product, lowered_term}
use Rattle.qf_log.specs.Trees.{column_worth, product_worth, term_worth, terms_worth, LoweredSumsKeepTheirValue}

one-signed : (minus : Bool) (x : ℤ) → signed minus (pos 1) *ℤ x ≡ signed minus x
one-signed true x = omega (arith, ints)
one-signed false x = omega (arith, ints)

signed-left : (minus : Bool) (a x : ℤ) → signed minus a *ℤ x ≡ signed minus (a *ℤ x)
signed-left true a x = product_neg_left a x
signed-left false a x = refl

neither : (a b : Bool) → (a || b) ≡ false → (a ≡ false) × (b ≡ false)
neither true b h = absurd cc
neither false b h = (refl, h)

module _ (numbers : List ℤ) (ids : List ℕ) (cells : Cells) (point : Values) where
  term-same : (minus : Bool) (l : Factor) (r : Option Factor) → is_alike (product_use l r) ≡ false
      → term_value (lowered_product numbers ids minus l r) cells point ≡ signed minus (product_worth numbers ids cells point l r)
  term-same minus (factor.Number n) None plain = one-signed minus (atom_value (Param (id_at ids n)) cells point)
  term-same minus (factor.Name c) None plain = one-signed minus (column_worth cells c)
  term-same minus (factor.Number n) (Some (factor.Name c)) plain = signed-left minus (number_at numbers n) (column_worth cells c)
  term-same minus (factor.Name c) (Some (factor.Number n)) plain =
      signed-left minus (number_at numbers n) (column_worth cells c) ∙ ap (signed minus) (*ℤ_comm (number_at numbers n) (column_worth cells c))
  term-same minus (factor.Number m) (Some (factor.Number n)) plain = absurd cc
  term-same minus (factor.Name c) (Some (factor.Name d)) plain = absurd cc

  terms-same : (ts : List Term) → list_any is_alike (flat_map term_uses ts) ≡ false → sum_value (map (lowered_term numbers ids) ts) cells point ≡ terms_worth numbers ids cells point ts
  terms-same [] plain = refl
  terms-same (t ∷ ts) plain =
      let both = neither (is_alike (product_use t.left t.right)) (list_any is_alike (flat_map term_uses ts)) plain in
      ap (λ z. z +ℤ sum_value (map (lowered_term numbers ids) ts) cells point) (term-same t.minus t.left t.right both.0)
      ∙ ap (λ z. term_worth numbers ids cells point t +ℤ z) (terms-same ts both.1)

pub lowered_sums_keep_their_value : LoweredSumsKeepTheirValue
lowered_sums_keep_their_value numbers ids s cells point plain = terms-same numbers ids cells point (s.first ∷ s.others) plain
