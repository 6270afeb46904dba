-- A fault as its refusal.
use Rattle.std.specs.Prelude.{Result, Ok, Err, unwrap_or}
use Rattle.std.specs.declared.option.Option.{Option}
use Rattle.std.specs.declared.option.Option.TheVariants.{None}
use Rattle.qf_base.specs.declared.refusal.Refusal.{Refusal}
use Rattle.qf_base.specs.declared.refusal.Kind.TheVariants.{NoHeader}

-- The refusal of a fault. Want of memory alone has none, and no definition gives it.
abbrev pub told : Option Refusal → Refusal
told refusal = unwrap_or refusal (record { kind = NoHeader; first = None; second = None })

-- what was read, or the refusal of its fault
abbrev pub or_refusal : {A E : Type 0} → (E → Option Refusal) → Result A E → Result A Refusal
or_refusal refusal_of (Ok a) = Ok a
or_refusal refusal_of (Err fault) = Err (told (refusal_of fault))
