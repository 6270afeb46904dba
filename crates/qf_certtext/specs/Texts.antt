-- What bytes are as the text of a certificate.
use Rattle.std.specs.Prelude.{◌≡◌, ℕ, ◌+◌, ◌==◌, false, List, [], ◌∷◌, ◌++◌, length, All}
use Rattle.std.specs.declared.result.Result.{Result}
use Rattle.std.specs.declared.result.Result.TheVariants.{Ok, Err}
use Rattle.qf_tree.specs.declared.cert.Cert.{Cert}
use Rattle.qf_tree.specs.declared.line.Line.{Line}
use Rattle.qf_tree.specs.Lines.{cert_lines, HasSpelling}
use Rattle.qf_certtext.specs.Spelling.{Spells, bytes_of_lines, spelling}
use Rattle.qf_certtext.specs.declared.fault.CertFault.{CertFault}
use Rattle.qf_certtext.specs.declared.fault.CertFault.TheVariants as fault

-- the bytes are the certificate's text
pub record IsText (cert : Cert) (bytes : List ℕ) : Type 0 where
  pub spelled : HasSpelling cert
  pub text : bytes ≡ spelling cert

-- a certificate begins with the lines
pub record Begins (lines : List Line) : Type 0 where
  pub cert : Cert
  pub rest : List Line
  pub spelled : HasSpelling cert
  pub lines_are : cert_lines cert ≡ lines ++ rest

-- a certificate begins with the lines and goes on
pub record GoesOn (lines : List Line) : Type 0 where
  pub next : Line
  pub begins : Begins (lines ++ next ∷ [])

-- no line feed stands in the bytes
abbrev pub IsOneLine : List ℕ → Type 0
IsOneLine bytes = All (λ b. (b == 10) ≡ false) bytes

-- Line number n, from 1, is whole, and is no line that may stand there; all before it may stand where they stand.
pub record IsBadLine (bytes : List ℕ) (n : ℕ) : Type 0 where
  pub lines : List Line
  pub bad : List ℕ
  pub rest : List ℕ
  pub before : GoesOn lines
  pub bytes_are : bytes ≡ bytes_of_lines lines ++ (bad ++ 10 ∷ rest)
  pub one_line : IsOneLine bad
  pub number : n ≡ length lines + 1
  pub none : (line : Line) → Spells line bad → Begins (lines ++ line ∷ []) → ⊥

-- The bytes end before the last line is whole; the whole lines may stand where they stand.
pub record IsCutShort (bytes : List ℕ) : Type 0 where
  pub lines : List Line
  pub tail : List ℕ
  pub before : GoesOn lines
  pub bytes_are : bytes ≡ bytes_of_lines lines ++ tail
  pub one_line : IsOneLine tail

-- Bytes follow the text of a certificate; n is the number of the line that begins there.
pub record IsTrailing (bytes : List ℕ) (n : ℕ) : Type 0 where
  pub cert : Cert
  pub next : ℕ
  pub rest : List ℕ
  pub spelled : HasSpelling cert
  pub bytes_are : bytes ≡ spelling cert ++ next ∷ rest
  pub number : n ≡ length (cert_lines cert) + 1

-- what the bytes are
pub data Reading : Type 0 where
  whole : Cert → Reading
  bad_line : ℕ → Reading
  cut_short : Reading
  trailing : ℕ → Reading

abbrev pub IsReading : Reading → List ℕ → Type 0
IsReading (whole cert) bytes = IsText cert bytes
IsReading (bad_line n) bytes = IsBadLine bytes n
IsReading cut_short bytes = IsCutShort bytes
IsReading (trailing n) bytes = IsTrailing bytes n

-- the fault is what the bytes are, or want of memory
abbrev pub IsFaultOf : List ℕ → CertFault → Type 0
IsFaultOf bytes (fault.BadLine n) = IsBadLine bytes n
IsFaultOf bytes fault.CutShort = IsCutShort bytes
IsFaultOf bytes (fault.Trailing n) = IsTrailing bytes n
IsFaultOf bytes fault.NoMemory = Unit {0}

-- the certificate, where no bytes are behind its text
abbrev pub ended : Cert → List ℕ → ℕ → Result Cert CertFault
ended cert [] number = Ok cert
ended cert (byte ∷ rest) number = Err (fault.Trailing number)

-- no bytes are two things
abbrev pub ReadingsAreOne : Type 0
ReadingsAreOne = (bytes : List ℕ) (one other : Reading) → IsReading one bytes → IsReading other bytes → one ≡ other

-- no certificate's text begins with that of another
abbrev pub SpellingsDoNotGoOn : Type 0
SpellingsDoNotGoOn =
    (one other : Cert) (rest : List ℕ) → HasSpelling one → HasSpelling other → spelling other ≡ spelling one ++ rest → (rest ≡ []) × (one ≡ other)
