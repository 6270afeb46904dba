-- Conditions and their lowered forms, by their parts.
use Rattle.std.proofs.Common.{◌≡◌, ℕ, List, [], ◌∷◌, map, refl, ap}
use Rattle.std.specs.Prelude.{ℤ}
use Rattle.qf_ir.specs.declared.ast.Cond.{Cond}
use Rattle.qf_ir.specs.declared.ast.Cond.TheVariants as cond
use Rattle.qf_grammar.specs.declared.tree.Condition.{Condition}
use Rattle.qf_grammar.specs.declared.tree.Condition.TheVariants as condition
use Rattle.qf_grammar.specs.declared.tree.Condition.TheVariants.{Test, All', Any', Not'}
use Rattle.qf_log.specs.Lowered.{lowered_condition, lowered_parts}

-- the parts of a condition, lowered
abbrev below : List ℤ → List ℕ → Condition → List Cond
below numbers ids (Test c) = []
below numbers ids (All' shape parts) = lowered_parts numbers ids parts
below numbers ids (Any' shape parts) = lowered_parts numbers ids parts
below numbers ids (Not' shape part) = []

below_all : (numbers : List ℤ) (ids : List ℕ) (parts : List Condition) → below numbers ids (condition.All parts) ≡ map (lowered_condition numbers ids) parts
unfolding Rattle.qf_grammar.specs.declared.tree.Condition.TheBlock.hidden-the_row-Condition-0 denote.Hole.Carrier.hidden
below_all numbers ids [] = refl
below_all numbers ids (part ∷ parts) = ap (λ cs. lowered_condition numbers ids part ∷ cs) (below_all numbers ids parts)

below_any : (numbers : List ℤ) (ids : List ℕ) (parts : List Condition) → below numbers ids (condition.Any parts) ≡ map (lowered_condition numbers ids) parts
unfolding Rattle.qf_grammar.specs.declared.tree.Condition.TheBlock.hidden-the_row-Condition-0 denote.Hole.Carrier.hidden
below_any numbers ids [] = refl
below_any numbers ids (part ∷ parts) = ap (λ cs. lowered_condition numbers ids part ∷ cs) (below_any numbers ids parts)

pub lowered_all : (numbers : List ℤ) (ids : List ℕ) (parts : List Condition) → lowered_condition numbers ids (condition.All parts) ≡ cond.All (map (lowered_condition numbers ids) parts)
unfolding Rattle.qf_grammar.specs.declared.tree.Condition.TheBlock.hidden-the_row-Condition-0 denote.Hole.Carrier.hidden
lowered_all numbers ids [] = refl
lowered_all numbers ids (part ∷ parts) = ap (λ cs. cond.All cs) (below_all numbers ids (part ∷ parts))

pub lowered_any : (numbers : List ℤ) (ids : List ℕ) (parts : List Condition) → lowered_condition numbers ids (condition.Any parts) ≡ cond.Any (map (lowered_condition numbers ids) parts)
unfolding Rattle.qf_grammar.specs.declared.tree.Condition.TheBlock.hidden-the_row-Condition-0 denote.Hole.Carrier.hidden
lowered_any numbers ids [] = refl
lowered_any numbers ids (part ∷ parts) = ap (λ cs. cond.Any cs) (below_any numbers ids (part ∷ parts))

pub lowered_not : (numbers : List ℤ) (ids : List ℕ) (part : Condition) → lowered_condition numbers ids (condition.Not part) ≡ cond.Not (lowered_condition numbers ids part)
unfolding Rattle.qf_grammar.specs.declared.tree.Condition.TheBlock.hidden-the_row-Condition-0 denote.Hole.Carrier.hidden Rattle.qf_grammar.specs.declared.tree.Condition.TheBlock.hidden-the_row-Condition-1
lowered_not numbers ids part = refl
