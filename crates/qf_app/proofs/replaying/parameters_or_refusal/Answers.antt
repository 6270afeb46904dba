use Rattle.qf_app.proofs.Splicing.{few_places}
use Rattle.qf_app.proofs.replaying.parameters_or_refusal.Goals as goal

pub print_parameters-requires : goal.print_parameters-requires
print_parameters-requires c =
    let sound = rw c.in-Ok.is at c.requires in
    rw (c.as_slice.ensures, c.parameters.ensures) (few_places c.in-Ok.story sound)
