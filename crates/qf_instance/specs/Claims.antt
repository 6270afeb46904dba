-- What the answer of a certificate claims of a problem.
use Rattle.std.specs.Prelude.{◌≡◌, ℕ, ◌≤◌, false, List, ℤ}
use Rattle.qf_base.specs.Values.{Bounds, In}
use Rattle.qf_point.specs.Points.{cost, better}
use Rattle.qf_goal.specs.Case.{Case, Mends, IsLeastRepair, HasNoRepair}
use Rattle.qf_tree.specs.declared.cert.Answer.{Answer}
use Rattle.qf_tree.specs.declared.cert.Answer.TheVariants.{Repair, Nothing, Budget, Best}

-- the point lies in the domains and repairs
abbrev pub IsRepair : Case → List ℤ → Type 0
IsRepair case p = In case.domains.region p × Mends case p

-- no repair in the box costs less
abbrev pub NoneCostsLess : Case → Bounds → ℕ → Type 0
NoneCostsLess case region least = (q : List ℤ) → In region q → Mends case q → least ≤ cost case.plan.olds q

-- over the domains
abbrev pub CaseClaim : Case → Answer → ℕ → Type 0
CaseClaim case (Repair p) least = IsLeastRepair case p
CaseClaim case Nothing least = HasNoRepair case
CaseClaim case Budget least = NoneCostsLess case case.domains.region least
CaseClaim case (Best p) least = IsRepair case p × NoneCostsLess case case.domains.region least

-- .. and over a box alone: the repair need not lie in it
abbrev pub BoxClaim : Case → Bounds → Answer → ℕ → Type 0
BoxClaim case region (Repair p) least =
    IsRepair case p × ((q : List ℤ) → In region q → Mends case q → better case.plan.olds q p ≡ false)
BoxClaim case region Nothing least = (q : List ℤ) → In region q → Mends case q → ⊥
BoxClaim case region Budget least = NoneCostsLess case region least
BoxClaim case region (Best p) least = IsRepair case p × NoneCostsLess case region least
