-- What `diagnose` answers to a question that is accepted: a certificate, which is put, and what it shows, which is said.
use Rattle.std.specs.Prelude.{◌≡◌, ℕ, ◌≤◌, ℤ, List, [], ◌∷◌, ◌++◌}
use Rattle.std.specs.Fmt.{decimal}
use lib.Chars.{codes}
use Rattle.qf_base.specs.declared.status.Status.{Status}
use Rattle.qf_base.specs.declared.status.Status.TheVariants as status
use Rattle.qf_certtext.specs.Texts.{IsText}
use Rattle.qf_goal.specs.Case.{IsLeastRepair, HasNoRepair}
use Rattle.qf_inputs.specs.declared.opened.Opened.{Opened}
use Rattle.qf_instance.specs.Leanness.{IsValidFor, IsLeanFor}
use Rattle.qf_search.specs.Solving.{IsBudget}
use Rattle.qf_shell.specs.declared.answer.Answer.{Answer}
use Rattle.qf_splice.specs.Laws.{SaysWith}
use Rattle.qf_splice.specs.RepairedText.{repaired_text}
use Rattle.qf_tree.specs.Sizes.{node_count}
use Rattle.qf_tree.specs.declared.cert.Answer.TheVariants as claim
use Rattle.qf_tree.specs.declared.cert.Answer.{Answer as Claim}
use Rattle.qf_tree.specs.declared.cert.Cert.{Cert}
use Rattle.qf_tree.specs.declared.tree.Tree.{Tree}
use Rattle.qf_app.specs.Request.{Diagnosis}

-- the text of the log with the constants of the least repair, nothing added
pub record SaysRepair (log : List ℕ) (opened : Opened) (point : List ℤ) (line : List ℕ) : Type 0 where
  pub least : IsLeastRepair opened.problem point
  pub line_is : line ≡ repaired_text log opened.log.parameters point
  -- the bytes say the same statements, with these constants
  pub says : SaysWith opened.log point line

-- no point of the domains repairs
pub record SaysNone (opened : Opened) (line : List ℕ) : Type 0 where
  pub none : HasNoRepair opened.problem
  pub line_is : line ≡ codes "none\n"

abbrev pub budget_line : ℕ → List ℕ
budget_line least = codes "budget\nat least " ++ (decimal least ++ 10 ∷ [])

-- exactly BUDGET boxes were split or refuted, a box is open, the cheapest point of the open box with the best key doesn't
-- repair, and the root box has more points than BUDGET can settle; the least cost among the keys of the open boxes is said
pub record SaysBudget (words : Diagnosis) (opened : Opened) (tree : Tree) (line : List ℕ) : Type 0 where
  pub least : ℕ
  pub budget : IsBudget opened.problem opened.root words.budget tree least
  pub line_is : line ≡ budget_line least

-- what is said, and the status, by what the certificate claims
abbrev pub Says : Diagnosis → List ℕ → Opened → Tree → Claim → Status → List ℕ → Type 0
Says words log opened tree (claim.Repair point) s line = (s ≡ status.Done) × SaysRepair log opened point line
Says words log opened tree claim.Nothing s line = (s ≡ status.Nothing) × SaysNone opened line
Says words log opened tree claim.Budget s line = (s ≡ status.Budget) × SaysBudget words opened tree line
Says words log opened tree (claim.Best point) s line = ⊥

-- The certificate is put under the name that the words give, and nothing else is put. Its bytes read, with nothing left
-- over, as a certificate that is valid and lean over the root box, with at most BUDGET split and refuted boxes.
pub record IsFound (words : Diagnosis) (log : List ℕ) (opened : Opened) (answer : Answer) : Type 0 where
  pub cert : Cert
  pub bytes : List ℕ
  pub text : IsText cert bytes
  pub files : answer.files ≡ (words.certificate, bytes) ∷ []
  pub valid : IsValidFor opened.problem opened.root cert
  pub lean : IsLeanFor opened.problem opened.root cert
  pub few : node_count cert.tree.nodes ≤ words.budget
  pub says : Says words log opened cert.tree cert.answer answer.status answer.line
