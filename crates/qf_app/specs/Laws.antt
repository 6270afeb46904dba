-- What holds of the answers beside the promise of a run.
use Rattle.std.specs.Prelude.{ℕ, List, Ok}
use Rattle.qf_inputs.specs.Opened.{IsQuestion}
use Rattle.qf_inputs.specs.declared.opened.Opened.{Opened}
use Rattle.qf_shell.specs.declared.answer.Answer.{Answer}
use Rattle.qf_app.specs.Checking.{IsProof}
use Rattle.qf_app.specs.Finding.{IsFound}
use Rattle.qf_app.specs.Request.{Diagnosis}

-- each certificate that `diagnose` puts is accepted by `check` for the same four files
abbrev pub CertificatesAreAccepted : Type 0
CertificatesAreAccepted =
    (words : Diagnosis) (initial log complaints domains : List ℕ) (opened : Opened) → IsQuestion initial log complaints domains (Ok opened)
    → (answer : Answer) (found : IsFound words log opened answer) → IsProof opened.problem found.bytes
