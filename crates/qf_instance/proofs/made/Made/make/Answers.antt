use Rattle.std.proofs.Common.{refl}
use Rattle.std.proofs.lemmas.Result.{on_ok_weaker}
use Rattle.qf_base.specs.declared.names.RowName.TheVariants.{Start, Inserted}
use Rattle.qf_instance.proofs.made.Made.make.Goals as goal

pub returns-in-Start-clause-made : goal.returns-in-Start-clause-made
returns-in-Start-clause-made c =
    on_ok_weaker c.make.result
    (λ made. record { starts = made; inserted = c.requires.made.inserted })
    (c.make.ensures.made Start refl c.requires.made.starts)

pub returns-in-Inserted-clause-made : goal.returns-in-Inserted-clause-made
returns-in-Inserted-clause-made c =
    on_ok_weaker c.make-in-Inserted.result
    (λ made. record { starts = c.requires.made.starts; inserted = made })
    (c.make-in-Inserted.ensures.made Inserted refl c.requires.made.inserted)
