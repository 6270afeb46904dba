-- What the checker gives is what is said of the bytes, and no bytes have two answers.
use Rattle.std.proofs.Common.{◌≡◌, ◌⊎◌, ℕ, List, Result, Ok, Err, inl, inr, refl, sym, ◌∙◌, subst}
use Rattle.std.specs.Prelude.{IfOk}
use Rattle.std.specs.declared.option.Option.{Option}
use Rattle.std.specs.declared.option.Option.TheVariants.{Some, None}
use Rattle.qf_base.specs.declared.status.Status.{Status}
use Rattle.qf_base.specs.declared.status.Status.TheVariants as status
use Rattle.qf_certtext.specs.Texts.{IsText, IsFaultOf, whole, bad_line, cut_short, trailing}
use Rattle.qf_certtext.specs.declared.fault.CertFault.{CertFault}
use Rattle.qf_certtext.specs.declared.fault.CertFault.TheVariants as fault
use Rattle.qf_certtext.proofs.OneReading.{readings_are_one}
use Rattle.qf_check.specs.Judging.{IsAnswered, IsJudged, Holds}
use Rattle.qf_check.specs.declared.verdict.Verdict.{Verdict}
use Rattle.qf_check.specs.declared.verdict.CheckFault.{CheckFault}
use Rattle.qf_goal.specs.Case.{Case}
use Rattle.qf_instance.specs.Instances.{IsInstance}
use Rattle.qf_instance.proofs.Instances.{one}
use Rattle.qf_shell.specs.declared.answer.Answer.{Answer}
use Rattle.qf_tree.proofs.Faults.{bad_lines_found}
use Rattle.qf_tree.specs.Certificates.{Instance, IsValid}
use Rattle.qf_tree.specs.declared.cert.Cert.{Cert}
use Rattle.qf_app.specs.Answers.{IsLine}
use Rattle.qf_app.specs.Checking.{IsProof, IsRejected, IsCheckedWith, IsChecked, IsFaultLine, accepted_line}

-- ---- what was judged

abbrev pub HasJudgement : Case → Cert → Result Verdict CheckFault → Type 0
HasJudgement case cert result = IsAnswered result → (inst : Instance) × IsInstance case inst × IsJudged inst inst.root cert result

pub accepted_is : {E : Type 0} (case : Case) (cert : Cert) (given : Result Verdict CheckFault) (verdict : Verdict) (result : Result Answer E) (bytes : List ℕ)
    → given ≡ Ok verdict → HasJudgement case cert given → IfOk given (Holds case) → IfOk result (IsLine status.Done (accepted_line verdict))
    → IsText cert bytes → IfOk result (IsChecked case bytes)
accepted_is case cert given verdict (Err e) bytes is judged holds line text = tt
accepted_is case cert given verdict (Ok a) bytes is judged holds line text =
    let j = subst (HasJudgement case cert) is judged tt in
    record {
      checked = subst (λ (s : Status). IsCheckedWith case bytes s a.line) (sym line.status_is) (record {
        proof = record { cert = cert; text = text; inst = j.0; is_instance = j.1; valid = j.2.0 };
        verdict = verdict;
        verdict_is = j.2.1;
        holds = subst (λ (r : Result Verdict CheckFault). IfOk r (Holds case)) is holds;
        line_is = line.line_is;
      });
      files = line.files;
    }

-- ---- one answer

pub done_or_rejected : (case : Case) (bytes : List ℕ) (s : Status) (line : List ℕ) → IsCheckedWith case bytes s line → (s ≡ status.Done) ⊎ (s ≡ status.Rejected)
done_or_rejected case bytes status.Done line h = inl refl
done_or_rejected case bytes status.Nothing line h = absurd h
done_or_rejected case bytes status.Budget line h = absurd h
done_or_rejected case bytes status.Refused line h = absurd h
done_or_rejected case bytes status.ReadFault line h = absurd h
done_or_rejected case bytes status.WriteFault line h = absurd h
done_or_rejected case bytes status.NoMemory line h = absurd h
done_or_rejected case bytes status.Usage line h = absurd h
done_or_rejected case bytes status.Rejected line h = inr refl

whole_is : (one other : Cert) → whole one ≡ whole other → one ≡ other
whole_is one other same = cc

texts_are_one : (one other : Cert) (bytes : List ℕ) → IsText one bytes → IsText other bytes → one ≡ other
texts_are_one one other bytes h k = whole_is one other (readings_are_one bytes (whole one) (whole other) h k)

not_bad : (cert : Cert) (n : ℕ) → whole cert ≡ bad_line n → ⊥
not_bad cert n same = cc

not_cut : (cert : Cert) → whole cert ≡ cut_short → ⊥
not_cut cert same = cc

not_trailing : (cert : Cert) (n : ℕ) → whole cert ≡ trailing n → ⊥
not_trailing cert n same = cc

-- a text has no fault
no_fault : (cert : Cert) (bytes line : List ℕ) (f : CertFault) → IsText cert bytes → IsFaultOf bytes f → IsFaultLine f line → ⊥
no_fault cert bytes line (fault.BadLine n) text is line_is = not_bad cert n (readings_are_one bytes (whole cert) (bad_line n) text is)
no_fault cert bytes line fault.CutShort text is line_is = not_cut cert (readings_are_one bytes (whole cert) cut_short text is)
no_fault cert bytes line (fault.Trailing n) text is line_is = not_trailing cert n (readings_are_one bytes (whole cert) (trailing n) text is)
no_fault cert bytes line fault.NoMemory text is line_is = line_is

none_not_some : (n : ℕ) → ◌≡◌ {A = Option ℕ} None (Some n) → ⊥
none_not_some n same = cc

-- what is valid has no bad line
not_rejected : (case : Case) (bytes line : List ℕ) → IsProof case bytes → IsRejected case bytes line → ⊥
not_rejected case bytes line good bad =
    let same_cert = texts_are_one good.cert bad.cert bytes good.text bad.text in
    let same_inst = one case good.inst bad.inst good.is_instance bad.is_instance in
    let valid = subst (λ (i : Instance). IsValid i i.root bad.cert) same_inst (subst (λ (c : Cert). IsValid good.inst good.inst.root c) same_cert good.valid) in
    none_not_some bad.number (sym ((bad_lines_found bad.inst bad.inst.root bad.cert bad.text.spelled).1 valid) ∙ bad.first)

pub proof_is_done : (case : Case) (bytes : List ℕ) (s : Status) (line : List ℕ) → IsProof case bytes → IsCheckedWith case bytes s line → s ≡ status.Done
proof_is_done case bytes status.Done line good h = refl
proof_is_done case bytes status.Nothing line good h = absurd h
proof_is_done case bytes status.Budget line good h = absurd h
proof_is_done case bytes status.Refused line good h = absurd h
proof_is_done case bytes status.ReadFault line good h = absurd h
proof_is_done case bytes status.WriteFault line good h = absurd h
proof_is_done case bytes status.NoMemory line good h = absurd h
proof_is_done case bytes status.Usage line good h = absurd h
proof_is_done case bytes status.Rejected line good (inl bad) = absurd (not_rejected case bytes line good bad)
proof_is_done case bytes status.Rejected line good (inr bad) = absurd (no_fault good.cert bytes line bad.fault good.text bad.is_fault bad.line_is)

pub else_rejected : (case : Case) (bytes : List ℕ) (s : Status) (line : List ℕ) → (IsProof case bytes → ⊥) → IsCheckedWith case bytes s line → s ≡ status.Rejected
else_rejected case bytes status.Done line none h = absurd (none h.proof)
else_rejected case bytes status.Nothing line none h = absurd h
else_rejected case bytes status.Budget line none h = absurd h
else_rejected case bytes status.Refused line none h = absurd h
else_rejected case bytes status.ReadFault line none h = absurd h
else_rejected case bytes status.WriteFault line none h = absurd h
else_rejected case bytes status.NoMemory line none h = absurd h
else_rejected case bytes status.Usage line none h = absurd h
else_rejected case bytes status.Rejected line none h = refl
