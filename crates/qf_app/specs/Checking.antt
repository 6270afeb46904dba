-- What `check` says of a certificate.
use Rattle.std.specs.Prelude.{◌≡◌, ◌⊎◌, ℕ, List, [], ◌∷◌, ◌++◌}
use Rattle.std.specs.Fmt.{decimal}
use lib.Chars.{codes}
use Rattle.qf_base.specs.declared.status.Status.{Status}
use Rattle.qf_base.specs.declared.status.Status.TheVariants as status
use Rattle.qf_certtext.specs.Texts.{IsText, IsFaultOf}
use Rattle.qf_certtext.specs.declared.fault.CertFault.{CertFault}
use Rattle.qf_certtext.specs.declared.fault.CertFault.TheVariants as fault
use Rattle.qf_check.specs.Judging.{verdict_of, Holds}
use Rattle.qf_check.specs.declared.verdict.Verdict.{Verdict}
use Rattle.qf_check.specs.declared.verdict.Verdict.TheVariants as verdict
use Rattle.qf_goal.specs.Case.{Case}
use Rattle.qf_shell.specs.declared.answer.Answer.{Answer}
use Rattle.qf_instance.specs.Instances.{IsInstance}
use Rattle.qf_tree.specs.Certificates.{Instance, IsValid, first_bad_line, at_least}
use Rattle.qf_tree.specs.declared.cert.Cert.{Cert}
use Rattle.std.specs.declared.option.Option.TheVariants.{Some}

-- ---- the lines

-- the words, a number and a line feed
abbrev pub numbered : List ℕ → ℕ → List ℕ
numbered words number = words ++ (decimal number ++ 10 ∷ [])

abbrev pub accepted_line : Verdict → List ℕ
accepted_line (verdict.Repair cost) = numbered (codes "accepted: repair ") cost
accepted_line verdict.Nothing = codes "accepted: none\n"
accepted_line (verdict.Budget least) = numbered (codes "accepted: budget, at least ") least

abbrev pub rejected_line : ℕ → List ℕ
rejected_line number = numbered (codes "rejected: line ") number

-- the line of bytes that are no certificate's text
abbrev pub IsFaultLine : CertFault → List ℕ → Type 0
IsFaultLine (fault.BadLine number) line = line ≡ numbered (codes "rejected: bad line ") number
IsFaultLine fault.CutShort line = line ≡ codes "rejected: cut short\n"
IsFaultLine (fault.Trailing number) line = line ≡ numbered (codes "rejected: trailing line ") number
IsFaultLine fault.NoMemory line = ⊥

-- ---- what the certificate's bytes are for a problem

-- the text of a certificate that is valid
pub record IsProof (case : Case) (bytes : List ℕ) : Type 0 where
  pub cert : Cert
  pub text : IsText cert bytes
  pub inst : Instance
  pub is_instance : IsInstance case inst
  pub valid : IsValid inst inst.root cert

-- a proof, whose verdict is said and holds: a repair of the cost that is said is the least, where none is said there is
-- none, and under a budget none costs less
pub record IsAccepted (case : Case) (bytes line : List ℕ) : Type 0 where
  pub proof : IsProof case bytes
  pub verdict : Verdict
  pub verdict_is : verdict ≡ verdict_of proof.inst proof.cert.answer (at_least proof.inst proof.inst.root proof.cert)
  pub holds : Holds case verdict
  pub line_is : line ≡ accepted_line verdict

-- the text of a certificate with a line that breaks its rule, the first of which is said
pub record IsRejected (case : Case) (bytes line : List ℕ) : Type 0 where
  pub cert : Cert
  pub text : IsText cert bytes
  pub inst : Instance
  pub is_instance : IsInstance case inst
  pub number : ℕ
  pub first : first_bad_line inst inst.root cert ≡ Some number
  pub line_is : line ≡ rejected_line number

-- no certificate's text, for the reason that is said
pub record IsUnread (bytes line : List ℕ) : Type 0 where
  pub fault : CertFault
  pub is_fault : IsFaultOf bytes fault
  pub line_is : IsFaultLine fault line

abbrev pub IsCheckedWith : Case → List ℕ → Status → List ℕ → Type 0
IsCheckedWith case bytes status.Done line = IsAccepted case bytes line
IsCheckedWith case bytes status.Nothing line = ⊥
IsCheckedWith case bytes status.Budget line = ⊥
IsCheckedWith case bytes status.Refused line = ⊥
IsCheckedWith case bytes status.ReadFault line = ⊥
IsCheckedWith case bytes status.WriteFault line = ⊥
IsCheckedWith case bytes status.NoMemory line = ⊥
IsCheckedWith case bytes status.Usage line = ⊥
IsCheckedWith case bytes status.Rejected line = IsRejected case bytes line ⊎ IsUnread bytes line

-- what it is for the problem is said, and nothing is put
pub record IsChecked (case : Case) (bytes : List ℕ) (answer : Answer) : Type 0 where
  pub checked : IsCheckedWith case bytes answer.status answer.line
  pub files : answer.files ≡ []
