-- What faults mean: their refusals, and when a call may answer them.
use Rattle.std.specs.Prelude.{◌≡◌, ℕ, Result, Ok, Err}
use Rattle.std.specs.declared.option.Option.{Option}
use Rattle.std.specs.declared.option.Option.TheVariants.{Some, None}
use Rattle.qf_base.specs.declared.refusal.Refusal.{Refusal}
use Rattle.qf_base.specs.declared.refusal.Kind.{Kind}
use Rattle.qf_base.specs.declared.refusal.Kind.TheVariants as kind
use Rattle.qf_goal.specs.declared.fault.GoalFault.{GoalFault}
use Rattle.qf_goal.specs.declared.fault.GoalFault.TheVariants.{TooManyComplaints, UnknownRow, RepeatedRow, ComplaintColumn, ComplaintType, NoMemory}

abbrev pub at_complaint : Kind → ℕ → Option Refusal
at_complaint k complaint = Some (record { kind = k; first = Some complaint; second = None })

abbrev pub refusal_of : GoalFault → Option Refusal
refusal_of TooManyComplaints = Some (record { kind = kind.TooManyComplaints; first = None; second = None })
refusal_of (UnknownRow complaint) = at_complaint kind.UnknownRow complaint
refusal_of (RepeatedRow complaint) = at_complaint kind.RepeatedRow complaint
refusal_of (ComplaintColumn complaint) = at_complaint kind.ComplaintColumn complaint
refusal_of (ComplaintType complaint) = at_complaint kind.ComplaintType complaint
refusal_of NoMemory = None

-- a call answers this, unless memory ran out
abbrev pub Gives : {X : Type 0} → Result X GoalFault → Result X GoalFault → Type 0
Gives (Ok x) answer = answer ≡ Ok x
Gives (Err NoMemory) answer = Unit {0}
Gives (Err fault) answer = answer ≡ Err fault
