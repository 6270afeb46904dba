-- What is delivered where the files were not all read.
use Rattle.std.specs.Prelude.{◌≡◌, ◌⊎◌}
use Rattle.qf_base.specs.Desk.{DeskState}
use Rattle.qf_base.specs.declared.status.Status.{Status}
use Rattle.qf_base.specs.declared.status.Status.TheVariants as status
use Rattle.qf_shell.specs.Delivery.{Delivers}
use Rattle.qf_shell.specs.Promise.{refusal_answer, too_long}
use Rattle.qf_shell.specs.declared.files.ReadEnd.{ReadEnd}
use Rattle.qf_shell.specs.declared.files.ReadEnd.TheVariants.{TooLong, Failed, NoMemory}

-- the status comes, and the desk stays as it is
abbrev pub Quietly : Status → DeskState → DeskState → Status → Type 0
Quietly wanted old new result = (result ≡ wanted) × (new ≡ old)

abbrev pub DeliversEnd : ReadEnd → DeskState → DeskState → Status → Type 0
DeliversEnd (TooLong number) old new result =
    Delivers (refusal_answer (too_long number)) old new result ⊎ Quietly status.NoMemory old new result
DeliversEnd Failed old new result = Quietly status.ReadFault old new result
DeliversEnd NoMemory old new result = Quietly status.NoMemory old new result
