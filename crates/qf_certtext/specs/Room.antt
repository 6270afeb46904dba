-- Counts of what is still to come that can be raised by two.
use Rattle.std.specs.Prelude.{◌+◌, ◌<◌, ◌^◌}
use Rattle.qf_certtext.specs.declared.draft.Draft.{Draft}
use Rattle.qf_certtext.specs.declared.draft.Draft.TheVariants as draft

abbrev pub HasRoom : Draft → Type 0
HasRoom draft.Head = Unit {0}
HasRoom draft.Answer = Unit {0}
HasRoom (draft.Trees answer nodes trees) = trees + 2 < 2 ^ 64
HasRoom (draft.Steps answer nodes trees row steps refutations) = (0 < refutations) × (refutations + 1 < 2 ^ 64)
HasRoom (draft.Whole cert) = Unit {0}
