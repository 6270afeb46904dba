-- How the faults of a log are refused.
use Rattle.std.specs.Prelude.{ℕ, Option, Some, None}
use Rattle.qf_base.specs.declared.refusal.Refusal.{Refusal}
use Rattle.qf_base.specs.declared.refusal.Kind.{Kind}
use Rattle.qf_base.specs.declared.refusal.Kind.TheVariants as kind
use Rattle.qf_grammar.specs.declared.fault.LogFault.{LogFault}
use Rattle.qf_grammar.specs.declared.fault.LogFault.TheVariants as fault

abbrev pub refused_at : Kind → ℕ → Option Refusal
refused_at k statement = Some (record { kind = k; first = Some statement; second = None })

abbrev pub refusal_of : LogFault → Option Refusal
refusal_of (fault.BadSyntax statement) = refused_at kind.BadSyntax statement
refusal_of (fault.NotLinear statement) = refused_at kind.NotLinear statement
refusal_of (fault.BigCoefficient statement) = refused_at kind.BigCoefficient statement
refusal_of (fault.OtherTable statement) = refused_at kind.OtherTable statement
refusal_of fault.NoMemory = None
