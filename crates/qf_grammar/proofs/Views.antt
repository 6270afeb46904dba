-- Chains of other lengths than one.
use Rattle.std.proofs.Common.{◌≡◌, ◌≢◌, List, [], ◌∷◌, length, refl}
use Rattle.qf_grammar.specs.declared.tree.Condition.{Condition}
use Rattle.qf_grammar.specs.declared.tree.Condition.TheVariants as condition
use Rattle.qf_grammar.specs.Spelling.{all_of, any_of}

pub all_many : (cs : List Condition) → length cs ≢ 1 → condition.All cs ≡ all_of cs
all_many [] n = refl
all_many (c ∷ []) n = absurd (n refl)
all_many (c ∷ d ∷ cs) n = refl

pub any_many : (cs : List Condition) → length cs ≢ 1 → condition.Any cs ≡ any_of cs
any_many [] n = refl
any_many (c ∷ []) n = absurd (n refl)
any_many (c ∷ d ∷ cs) n = refl
