-- A certificate that is put is a proof of the question.
use Rattle.std.proofs.Common.{◌≡◌, Bool, true, false, Result, Ok, Err, sym, subst}
use Rattle.std.specs.Prelude.{nat_lt, if◌then◌else◌}
use Rattle.qf_base.specs.Values.{Bounds}
use Rattle.qf_base.specs.declared.refusal.Refusal.{Refusal}
use Rattle.qf_inputs.specs.Opened.{IsOpenedBy, most_open, too_many_free}
use Rattle.qf_inputs.specs.declared.inputs.Inputs.{Inputs}
use Rattle.qf_inputs.specs.declared.opened.Opened.{Opened}
use Rattle.qf_slice.specs.RootBox.{IsRootBox, open_count}
use Rattle.qf_slice.proofs.Slices.{root-boxes-equal}
use Rattle.qf_tree.specs.Certificates.{IsValid}
use Rattle.qf_app.specs.Laws.{CertificatesAreAccepted}

opened_as : (b : Bool) (refusal : Refusal) (opened other : Opened) → ◌≡◌ {A = Result Opened Refusal} (Ok opened) (if b then Err refusal else Ok other) → opened ≡ other
opened_as true refusal opened other same = absurd (cc)
opened_as false refusal opened other same = cc

never_opened : (refusal : Refusal) (opened : Opened) → ◌≡◌ {A = Result Opened Refusal} (Ok opened) (Err refusal) → ⊥
never_opened refusal opened same = cc

-- the box of a question is the root box
root_by : (inputs : Result Inputs Refusal) (opened : Opened) → IsOpenedBy inputs (Ok opened) → IsRootBox opened.problem opened.root
root_by (Err refusal) opened is = absurd (never_opened refusal opened is)
root_by (Ok inputs) opened is =
    let other : Opened = record { problem = inputs.problem; log = inputs.log; root = is.root } in
    let same : opened ≡ other = opened_as (nat_lt most_open (open_count is.root)) (too_many_free (open_count is.root)) opened other is.opened_is in
    subst (λ (o : Opened). IsRootBox o.problem o.root) (sym same) is.is_root

pub certificates_are_accepted : CertificatesAreAccepted
certificates_are_accepted words initial log complaints domains opened question answer found =
    let root = root_by question.inputs opened question.is_opened in
    let v = found.valid in
    record {
      cert = found.cert;
      text = found.text;
      inst = v.inst;
      is_instance = v.is_instance;
      valid = subst (λ (r : Bounds). IsValid v.inst r found.cert) (root-boxes-equal opened.problem opened.root v.inst.root root v.is_instance.root) v.valid;
    }
