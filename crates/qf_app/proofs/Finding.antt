-- What is found over the root box holds of the domains, and what is answered is what was found.
use Rattle.std.proofs.Common.{◌≡◌, ℕ, ℤ, List, [], ◌∷◌, Result, Ok, Err, refl, sym, ◌∙◌, subst}
use Rattle.std.specs.Prelude.{IfOk}
use Rattle.qf_base.specs.Values.{Bounds}
use Rattle.qf_base.specs.declared.status.Status.{Status}
use Rattle.qf_base.specs.declared.status.Status.TheVariants as status
use Rattle.qf_certtext.specs.Spelling.{spelling}
use Rattle.qf_goal.specs.Case.{Case, Mends, IsLeastRepair, HasNoRepair}
use Rattle.qf_goal.specs.SoundCase.{IsSoundCase}
use Rattle.qf_inputs.specs.declared.opened.Opened.{Opened}
use Rattle.qf_point.specs.Least.{Least, Nothing}
use Rattle.qf_search.specs.Solving.{Answers, IsBudget, IsSolved, answer_in, cert_of, tree_in}
use Rattle.qf_search.specs.declared.solving.Found.{Found}
use Rattle.qf_search.specs.declared.solving.Found.TheVariants as found
use Rattle.qf_shell.specs.declared.answer.Answer.{Answer}
use Rattle.qf_slice.specs.RootBox.{IsRootBox}
use Rattle.qf_slice.proofs.Slicing.{has-the-least, misses-none}
use Rattle.qf_splice.specs.Laws.{SaysWith}
use Rattle.qf_splice.specs.RepairedText.{repaired_text}
use Rattle.qf_tree.specs.declared.tree.Tree.{Tree}
use Rattle.qf_app.specs.Finding.{IsFound, Says, SaysNone, budget_line}
use Rattle.qf_app.specs.Request.{Diagnosis}

-- ---- over the root box and over the domains

pub least_found : (case : Case) (root : Bounds) (budget : ℕ) (f : Found) (point : List ℤ) (tree : Tree) → IsSoundCase case → IsRootBox case root
    → f ≡ found.Repair point tree → IsSolved case root budget f → IsLeastRepair case point
least_found case root budget f point tree sound is same solved =
    let least : Least (Mends case) root case.plan.olds point = subst (Answers case root budget) same solved.answers in
    (has-the-least case root sound is point).0 least

none_found : (case : Case) (root : Bounds) (budget : ℕ) (f : Found) (tree : Tree) → IsSoundCase case → IsRootBox case root
    → f ≡ found.Nothing tree → IsSolved case root budget f → HasNoRepair case
none_found case root budget f tree sound is same solved =
    let none : Nothing (Mends case) root = subst (Answers case root budget) same solved.answers in
    (misses-none case root sound is).0 none

-- ---- what is said of it

module _ (words : Diagnosis) (log : List ℕ) (opened : Opened) (f : Found) (sound : IsSoundCase opened.problem) (is : IsRootBox opened.problem opened.root)
    (solved : IsSolved opened.problem opened.root words.budget f) where
  abbrev SaysOf : Found → Status → List ℕ → Type 0
  SaysOf g s line = Says words log opened (tree_in g) (answer_in g) s line

  pub says_repair : (point : List ℤ) (tree : Tree) (line : List ℕ) → f ≡ found.Repair point tree
      → line ≡ repaired_text log opened.log.parameters point → SaysWith opened.log point line → Says words log opened (tree_in f) (answer_in f) status.Done line
  says_repair point tree line same text says =
      subst (λ (g : Found). SaysOf g status.Done line) (sym same)
      (refl, record { least = least_found opened.problem opened.root words.budget f point tree sound is same solved; line_is = text; says = says })

  pub says_none : (tree : Tree) (line : List ℕ) → f ≡ found.Nothing tree → ((none : HasNoRepair opened.problem) → SaysNone opened line)
      → Says words log opened (tree_in f) (answer_in f) status.Nothing line
  says_none tree line same says =
      subst (λ (g : Found). SaysOf g status.Nothing line) (sym same)
      (refl, says (none_found opened.problem opened.root words.budget f tree sound is same solved))

  pub says_budget : (tree : Tree) (least : ℕ) (line : List ℕ) → f ≡ found.Budget tree least → line ≡ budget_line least
      → Says words log opened (tree_in f) (answer_in f) status.Budget line
  says_budget tree least line same text =
      let short : IsBudget opened.problem opened.root words.budget tree least = subst (Answers opened.problem opened.root words.budget) same solved.answers in
      subst (λ (g : Found). SaysOf g status.Budget line) (sym same)
      (refl, record { least = least; budget = short; line_is = text })

-- ---- the answer

pub found_is : {E : Type 0} (words : Diagnosis) (log : List ℕ) (opened : Opened) (f : Found) (s : Status) (line : List ℕ) (result : Result Answer E)
    → IsSolved opened.problem opened.root words.budget f → Says words log opened (tree_in f) (answer_in f) s line
    → IfOk result (λ (a : Answer). a.status ≡ s) → IfOk result (λ (a : Answer). a.files ≡ (words.certificate, spelling (cert_of f)) ∷ []) → IfOk result (λ (a : Answer). a.line ≡ line)
    → IfOk result (IsFound words log opened)
found_is words log opened f s line (Err e) solved says status_is files line_is = tt
found_is words log opened f s line (Ok a) solved says status_is files line_is = record {
  cert = cert_of f;
  bytes = spelling (cert_of f);
  text = record { spelled = solved.valid.valid.spelled; text = refl };
  files = files;
  valid = solved.valid;
  lean = solved.lean;
  few = solved.few;
  says =
      subst (λ (l : List ℕ). Says words log opened (tree_in f) (answer_in f) a.status l) (sym line_is)
      (subst (λ (t : Status). Says words log opened (tree_in f) (answer_in f) t line) (sym status_is) says);
}
