-- What the definitions owe each other.
use Rattle.std.specs.Prelude.{◌≡◌, ℕ, List, ◌⊎◌}
use Rattle.std.specs.List.{All}
use Rattle.qf_lex.specs.declared.token.Token.{Token}
use Rattle.qf_lex.specs.declared.token.LexFault.{LexFault}
use Rattle.qf_lex.specs.Tokens.{TokensOf, FirstFaultOf, AreInOrder, StandsIn}

-- bytes have tokens or a first fault, and only one of these
pub record HasOneReading (bytes : List ℕ) : Type 0 where
  pub either : ((ts : List Token) × TokensOf bytes ts) ⊎ ((f : LexFault) × FirstFaultOf bytes f)
  pub not_both : (ts : List Token) (f : LexFault) → TokensOf bytes ts → FirstFaultOf bytes f → ⊥
  pub same_tokens : (ts us : List Token) → TokensOf bytes ts → TokensOf bytes us → ts ≡ us
  pub same_fault : (f g : LexFault) → FirstFaultOf bytes f → FirstFaultOf bytes g → f ≡ g

abbrev pub EachLogHasOneReading : Type 0
EachLogHasOneReading = (bytes : List ℕ) → HasOneReading bytes

abbrev pub TokensStandInTheirLog : Type 0
TokensStandInTheirLog = (bytes : List ℕ) (ts : List Token) → TokensOf bytes ts → AreInOrder 0 ts × All (StandsIn bytes) ts
