-- A walk's end is the certificate's verdict or its first bad line.
use Rattle.std.proofs.Common.{◌≡◌, ◌∙◌, ap, sym, refl, ℕ, Bool, true, false, ◌||◌, List, [], ◌∷◌, length, Option, None, Result, Ok, Err, IfOk, arith, length-append, append-nil}
use Rattle.std.specs.List.{list_any, flat_map}
use Rattle.qf_base.specs.Values.{Bounds}
use Rattle.qf_point.specs.Points.{cost}
use Rattle.qf_goal.specs.Case.{Case}
use Rattle.qf_goal.specs.SoundCase.{IsSoundCase}
use Rattle.qf_encode.specs.Lives.{BoxIn}
use Rattle.qf_tree.specs.declared.tree.Node.{Node}
use Rattle.qf_tree.specs.declared.cert.Answer.{Answer}
use Rattle.qf_tree.specs.declared.cert.Answer.TheVariants as answer
use Rattle.qf_tree.specs.declared.cert.Cert.{Cert}
use Rattle.qf_tree.specs.declared.line.Line.TheVariants as line
use Rattle.qf_tree.specs.Lines.{node_lines, cert_lines, HasSpelling}
use Rattle.qf_tree.specs.Certificates.{Instance, placed, fault_from, first_bad_line, answer_is_right, end_is_right, end_fault, is_open, at_least, least_of}
use Rattle.qf_tree.proofs.Faults.{bad_lines_found}
use Rattle.qf_instance.specs.Instances.{IsInstance}
use Rattle.qf_instance.specs.Claims.{CaseClaim, BoxClaim}
use Rattle.qf_instance.proofs.Claims.{certificates_true, regions_true}
use Rattle.qf_instance.proofs.Boxes.{boxes_hold}
use Rattle.qf_check.specs.declared.verdict.Verdict.{Verdict}
use Rattle.qf_check.specs.declared.verdict.CheckFault.{CheckFault}
use Rattle.qf_check.specs.declared.grounds.Grounds.{Grounds}
use Rattle.qf_check.specs.declared.walk.Walk.{Walk}
use Rattle.qf_check.specs.Grounding.{instance}
use Rattle.qf_check.specs.Walking.{as_list, Told, told, Begins, ends_right}
use Rattle.qf_check.specs.Judging.{IsJudged, verdict_of, Holds, HoldsIn}

-- ---- the begin and the end of a walk

-- what a walk has found that took all nodes of the certificate
record Ended (inst : Instance) (region : Bounds) (cert : Cert) (w : Walk) : Type 0 where
  no_fault : fault_from inst cert.answer 3 (placed (region ∷ []) cert.tree.nodes) ≡ None
  least : least_of (as_list w.least) ≡ at_least inst region cert
  any_open : w.any_open ≡ list_any is_open cert.tree.nodes
  line : w.line ≡ length (cert_lines cert)

or_none : (b : Bool) → (b || false) ≡ b
or_none true = refl
or_none false = refl

module _ (g : Grounds) (region : Bounds) (cert : Cert) (start : Walk) (same : g.answer.now ≡ cert.answer) (begins : Begins g region start) where
  abbrev inst : Instance
  inst = instance g

  abbrev nodes : List Node
  nodes = cert.tree.nodes

  begun_fault : (told g start nodes).fault ≡ fault_from inst cert.answer 3 (placed (region ∷ []) nodes)
  begun_fault = rw (begins.boxes, begins.line, same) refl

  ended : (w : Walk) → told g w [] ≡ told g start nodes → Ended inst region cert w
  ended w e =
      let fault = ap (λ (t : Told). t.fault) e in
      let least = ap (λ (t : Told). t.least) e in
      let any_open = ap (λ (t : Told). t.any_open) e in
      let end = ap (λ (t : Told). t.end) e in
      let none : (told g w []).fault ≡ None = refl in
      let now : (told g w []).least ≡ least_of (as_list w.least) = ap least_of (append-nil (as_list w.least)) in
      let at_start : (told g start nodes).least ≡ at_least inst region cert = rw (begins.boxes, begins.least, same) refl in
      let lines = length-append (flat_map node_lines nodes) (line.End ∷ []) in
      record {
        no_fault = sym begun_fault ∙ sym fault ∙ none;
        least = sym now ∙ least ∙ at_start;
        any_open = sym (or_none w.any_open) ∙ any_open ∙ rw begins.any_open refl;
        line = omega (arith, end, begins.line, lines);
      }

-- ---- the first bad line

module _ (inst : Instance) (region : Bounds) (cert : Cert) where
  abbrev faults : Option ℕ
  faults = fault_from inst cert.answer 3 (placed (region ∷ []) cert.tree.nodes)

  end_line : answer_is_right inst cert.answer ≡ true → faults ≡ None → first_bad_line inst region cert ≡ end_fault cert
  end_line e f = rw (e, f) refl

ends_by : (a : Answer) (any_open : Bool) (nodes : List Node) → any_open ≡ list_any is_open nodes → ends_right a any_open ≡ end_is_right a nodes
ends_by (answer.Repair p) any_open nodes e = refl
ends_by answer.Nothing any_open nodes e = refl
ends_by answer.Budget any_open nodes e = e
ends_by (answer.Best p) any_open nodes e = e

-- ---- the judgement

module _ (g : Grounds) (region : Bounds) (cert : Cert) (same : g.answer.now ≡ cert.answer) (right : answer_is_right (instance g) g.answer.now ≡ true) where
  stated : answer_is_right (instance g) cert.answer ≡ true
  stated = ap (answer_is_right (instance g)) (sym same) ∙ right

  pub judged_valid : (start w : Walk) (given : Verdict) → HasSpelling cert → Begins g region start → told g w [] ≡ told g start cert.tree.nodes → ends_right g.answer.now w.any_open ≡ true → given ≡ verdict_of (instance g) g.answer.now (least_of (as_list w.least)) → IsJudged (instance g) region cert (Ok given)
  judged_valid start w given spelled b e fine v =
      let at = ended g region cert start same b w e in
      let good_end : end_is_right cert.answer cert.tree.nodes ≡ true = sym (ends_by cert.answer w.any_open cert.tree.nodes at.any_open) ∙ ap (λ a. ends_right a w.any_open) (sym same) ∙ fine in
      let no_line : first_bad_line (instance g) region cert ≡ None = end_line (instance g) region cert stated at.no_fault ∙ rw good_end refl in
      ((bad_lines_found (instance g) region cert spelled).0 no_line, v ∙ ap (λ a. verdict_of (instance g) a (least_of (as_list w.least))) same ∙ ap (verdict_of (instance g) cert.answer) at.least)

-- ---- the verdict in the problem's words

verdict_holds : (case : Case) (inst : Instance) (a : Answer) (least : ℕ) → inst.olds ≡ case.plan.olds → CaseClaim case a least → Holds case (verdict_of inst a least)
verdict_holds case inst (answer.Repair p) least e claim = (p, claim, ap (λ olds. cost olds p) e)
verdict_holds case inst answer.Nothing least e claim = claim
verdict_holds case inst answer.Budget least e claim = claim
verdict_holds case inst (answer.Best p) least e claim = claim.1

verdict_holds_in : (case : Case) (region : Bounds) (inst : Instance) (a : Answer) (least : ℕ) → inst.olds ≡ case.plan.olds → BoxClaim case region a least → HoldsIn case region (verdict_of inst a least)
verdict_holds_in case region inst (answer.Repair p) least e claim = (p, claim.0, claim.1, ap (λ olds. cost olds p) e)
verdict_holds_in case region inst answer.Nothing least e claim = claim
verdict_holds_in case region inst answer.Budget least e claim = claim
verdict_holds_in case region inst (answer.Best p) least e claim = claim.1

module _ (case : Case) (inst : Instance) (cert : Cert) (sound : IsSoundCase case) (is : IsInstance case inst) where
  same_olds : inst.olds ≡ case.plan.olds
  same_olds = ap (λ (i : Instance). i.olds) is.is

  pub judged_holds : (r : Result Verdict CheckFault) → IsJudged inst inst.root cert r → IfOk r (Holds case)
  judged_holds (Err fault) j = tt
  judged_holds (Ok given) j =
      rw j.1 (verdict_holds case inst cert.answer (at_least inst inst.root cert) same_olds (certificates_true case inst cert sound is j.0))

  pub judged_holds_in : (region : Bounds) (r : Result Verdict CheckFault) → BoxIn region inst.root → IsJudged inst region cert r → IfOk r (HoldsIn case region)
  judged_holds_in region (Err fault) box j = tt
  judged_holds_in region (Ok given) box j =
      rw j.1 (verdict_holds_in case region inst cert.answer (at_least inst region cert) same_olds (regions_true case inst region cert sound is (boxes_hold region inst.root box) j.0))
