-- Where a certificate is valid, its claim holds of the problem.
use Rattle.std.proofs.Common.{ℕ, Bool, subst}
use Rattle.qf_base.specs.Values.{Bounds}
use Rattle.qf_base.proofs.BoxLaws.{IsWithin-In}
use Rattle.qf_goal.specs.Case.{Case}
use Rattle.qf_tree.specs.declared.cert.Answer.{Answer}
use Rattle.qf_tree.specs.declared.cert.Answer.TheVariants.{Repair, Nothing, Budget, Best}
use Rattle.qf_tree.specs.Certificates.{ClaimHolds, RegionClaim, at_least}
use Rattle.qf_tree.proofs.Claims.{regions_sound, certificates_sound}
use Rattle.qf_instance.specs.Instances.{instance_of}
use Rattle.qf_instance.specs.Claims.{CaseClaim, BoxClaim}
use Rattle.qf_instance.specs.Laws.{ValidCertificatesAreTrue, ValidRegionsAreTrue}
use Rattle.qf_instance.proofs.Encoded.{faithful}

module _ (case : Case) (root : Bounds) (is_needed : ℕ → Bool) where
  claimed : (answer : Answer) (least : ℕ) → ClaimHolds (instance_of case root is_needed) answer least → CaseClaim case answer least
  claimed (Repair p) least h = h
  claimed Nothing least h = h
  claimed Budget least h = h
  claimed (Best p) least h = ((h.0, h.1), h.2)

  claimed_in : (region : Bounds) (answer : Answer) (least : ℕ) → RegionClaim (instance_of case root is_needed) region answer least → BoxClaim case region answer least
  claimed_in region (Repair p) least h = ((h.0, h.1), λ q inside mends. h.2 q (IsWithin-In region q inside) mends)
  claimed_in region Nothing least h = λ q inside mends. h q (IsWithin-In region q inside) mends
  claimed_in region Budget least h = λ q inside mends. h q (IsWithin-In region q inside) mends
  claimed_in region (Best p) least h = ((h.0, h.1), λ q inside mends. h.2 q (IsWithin-In region q inside) mends)

pub certificates_true : ValidCertificatesAreTrue
certificates_true case inst cert sound x valid =
    let least = at_least inst inst.root cert in
    let claim = certificates_sound inst cert (faithful case inst sound x) valid in
    claimed case inst.root inst.is_needed cert.answer least (subst (λ i. ClaimHolds i cert.answer least) x.is claim)

pub regions_true : ValidRegionsAreTrue
regions_true case inst region cert sound x lies valid =
    let least = at_least inst region cert in
    let claim = regions_sound inst region cert (faithful case inst sound x) lies valid in
    claimed_in case inst.root inst.is_needed region cert.answer least (subst (λ i. RegionClaim i region cert.answer least) x.is claim)
