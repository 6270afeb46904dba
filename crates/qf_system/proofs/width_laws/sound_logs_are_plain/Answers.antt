use Rattle.qf_system.proofs.SoundLogs.{sound_plain}
use Rattle.qf_system.proofs.width_laws.sound_logs_are_plain.Goals as goal

pub returns : goal.returns
returns c = λ plan table sound good belongs. sound_plain plan table sound good belongs
