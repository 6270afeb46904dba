-- What the checker answers.
use Rattle.std.specs.Prelude.{◌≡◌, ℕ, false, List, ℤ}
use Rattle.std.specs.declared.option.Option.TheVariants.{Some}
use Rattle.std.specs.declared.result.Result.{Result}
use Rattle.std.specs.declared.result.Result.TheVariants.{Ok, Err}
use Rattle.qf_base.specs.Values.{Bounds, In}
use Rattle.qf_point.specs.Points.{cost, better}
use Rattle.qf_goal.specs.Case.{Case, Mends, IsLeastRepair, HasNoRepair}
use Rattle.qf_slice.specs.RootBox.{IsRootBox}
use Rattle.qf_encode.specs.Lives.{BoxIn}
use Rattle.qf_tree.specs.declared.cert.Answer.{Answer}
use Rattle.qf_tree.specs.declared.cert.Answer.TheVariants as answer
use Rattle.qf_tree.specs.declared.cert.Cert.{Cert}
use Rattle.qf_tree.specs.Certificates.{Instance, IsValid, first_bad_line, at_least}
use Rattle.qf_instance.specs.Claims.{IsRepair, NoneCostsLess}
use Rattle.qf_check.specs.declared.verdict.Verdict.{Verdict}
use Rattle.qf_check.specs.declared.verdict.Verdict.TheVariants as verdict
use Rattle.qf_check.specs.declared.verdict.CheckFault.{CheckFault}
use Rattle.qf_check.specs.declared.verdict.CheckFault.TheVariants.{Rejected, NoMemory}

-- ---- by the certificate

-- the answer as a verdict, with the stated point's cost, or with what no repair costs less than
abbrev pub verdict_of : Instance → Answer → ℕ → Verdict
verdict_of inst (answer.Repair p) least = verdict.Repair (cost inst.olds p)
verdict_of inst answer.Nothing least = verdict.Nothing
verdict_of inst answer.Budget least = verdict.Budget least
verdict_of inst (answer.Best p) least = verdict.Budget least

-- A certificate that is valid over the region gets its verdict, and any other is rejected at its first bad line.
abbrev pub IsJudged : Instance → Bounds → Cert → Result Verdict CheckFault → Type 0
IsJudged inst region cert (Ok given) =
    IsValid inst region cert × (given ≡ verdict_of inst cert.answer (at_least inst region cert))
IsJudged inst region cert (Err (Rejected line)) = first_bad_line inst region cert ≡ Some line
IsJudged inst region cert (Err NoMemory) = Unit {0}

-- there was memory enough
abbrev pub IsAnswered : Result Verdict CheckFault → Type 0
IsAnswered (Ok given) = Unit {0}
IsAnswered (Err (Rejected line)) = Unit {0}
IsAnswered (Err NoMemory) = ⊥

-- ---- in the problem's words

-- what a verdict says of the problem
abbrev pub Holds : Case → Verdict → Type 0
Holds case (verdict.Repair c) = (p : List ℤ) × IsLeastRepair case p × (c ≡ cost case.plan.olds p)
Holds case verdict.Nothing = HasNoRepair case
Holds case (verdict.Budget least) = NoneCostsLess case case.domains.region least

-- what it says of the repairs of a box alone; the repair that it tells of need not lie in the box
abbrev pub HoldsIn : Case → Bounds → Verdict → Type 0
HoldsIn case region (verdict.Repair c) =
    (p : List ℤ) × IsRepair case p × ((q : List ℤ) → In region q → Mends case q → better case.plan.olds q p ≡ false) × (c ≡ cost case.plan.olds p)
HoldsIn case region verdict.Nothing = (q : List ℤ) → In region q → Mends case q → ⊥
HoldsIn case region (verdict.Budget least) = NoneCostsLess case region least

-- the box lies in the problem's root box, and none of its intervals is empty
abbrev pub LiesInRootBox : Case → Bounds → Type 0
LiesInRootBox case region = (root : Bounds) → IsRootBox case root → BoxIn region root
