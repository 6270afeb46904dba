-- A fault that has a refusal is no want of memory.
use Rattle.std.proofs.Common.{◌≡◌, ◌≢◌, ap}
use Rattle.std.specs.declared.option.Option.{Option}
use Rattle.std.specs.declared.option.Option.TheVariants.{Some, None}
use Rattle.qf_base.specs.declared.refusal.Refusal.{Refusal}
use Rattle.qf_lex.specs.Refusals.{refusal_of}
use Rattle.qf_lex.specs.declared.token.LexFault.{LexFault}
use Rattle.qf_lex.specs.declared.token.LexFault.TheVariants as fault

not_both : (o : Option Refusal) (r : Refusal) → o ≡ None → o ≡ Some r → ⊥
not_both o r none some = cc

pub lex_fault_is : (f : LexFault) (r : Refusal) → refusal_of f ≡ Some r → f ≢ fault.NoMemory
lex_fault_is f r e same = not_both (refusal_of f) r (ap refusal_of same) e
