-- Where the desk tells the files of a command, no count of faults rose, and memory was not wanting, the files fix the status.
use Rattle.std.proofs.Common.{◌≡◌, ◌⊎◌, ◌↔◌, ℕ, List, [], ◌∷◌, Option, Some, None, Result, Ok, Err, inl, inr, refl, ⊎_elim, sym, ◌∙◌, subst, arith}
use Rattle.qf_base.specs.Desk.{DeskState}
use Rattle.qf_base.specs.declared.refusal.Refusal.{Refusal}
use Rattle.qf_base.specs.declared.status.Status.{Status}
use Rattle.qf_base.specs.declared.status.Status.TheVariants.{Done, Nothing, Budget, Refused, ReadFault, WriteFault, NoMemory, Usage, Rejected}
use Rattle.qf_goal.specs.Case.{Case}
use Rattle.qf_inputs.specs.Opened.{IsQuestion}
use Rattle.qf_inputs.specs.Story.{IsStory}
use Rattle.qf_inputs.specs.declared.opened.Opened.{Opened}
use Rattle.qf_inputs.proofs.OneReading.{stories_are_one, questions_are_one}
use Rattle.qf_shell.proofs.Completing.{answered, long_refused, long_or_short}
use Rattle.qf_shell.specs.Completeness.{AreShort, IsAnsweredBy, AnswersFiles}
use Rattle.qf_shell.specs.Promise.{refusal_answer, too_long}
use Rattle.qf_shell.specs.declared.answer.Answer.{Answer}
use Rattle.qf_app.proofs.Certifying.{done_or_rejected, proof_is_done}
use Rattle.qf_tree.specs.declared.cert.Answer.{Answer as Claim}
use Rattle.qf_tree.specs.declared.cert.Answer.TheVariants as claim
use Rattle.qf_tree.specs.declared.tree.Tree.{Tree}
use Rattle.qf_app.proofs.Ending.{said_with}
use Rattle.qf_app.proofs.Fitting.{replayed_are_one, carried}
use Rattle.qf_app.specs.Answers.{or_refused, IsReplayed, IsFinalTable, AreItsParameters, answers_of}
use Rattle.qf_app.specs.Checking.{IsProof, IsChecked, IsCheckedWith}
use Rattle.qf_app.specs.Complete.{IsPlainRun, FilesAreRefused, IsFirstRefusal, DiagnosisTells, StatusTells, IsComplete, IsCompleteFor}
use Rattle.qf_app.specs.Finding.{IsFound, Says}
use Rattle.qf_app.specs.Promise.{Promise}
use Rattle.qf_app.specs.Request.{Diagnosis, Request, diagnose, check, replay, params, input_words, output_words}

-- ---- what is refused has its refusal

pub fit_refused : (request : Request) (files : List (List ℕ)) (refusal : Refusal) (answer : Answer)
    → FilesAreRefused request files refusal → answers_of request files answer → answer ≡ refusal_answer refusal
fit_refused (diagnose words) (initial ∷ log ∷ complaints ∷ domains ∷ []) refusal answer is h =
    carried (IsFound words log) h.opened (Err refusal) answer (questions_are_one initial log complaints domains h.opened (Err refusal) h.question is) h.answer_is
fit_refused (check words) (initial ∷ log ∷ complaints ∷ domains ∷ certificate ∷ []) refusal answer is h =
    carried (λ (o : Opened). IsChecked o.problem certificate) h.opened (Err refusal) answer
    (questions_are_one initial log complaints domains h.opened (Err refusal) h.is_question is) h.answer_is
fit_refused (replay words) (initial ∷ log ∷ []) refusal answer is h =
    carried IsFinalTable h.replayed (Err refusal) answer (replayed_are_one initial log h.replayed (Err refusal) h.is_replayed is) h.answer_is
fit_refused (params words) (initial ∷ log ∷ []) refusal answer is h =
    carried AreItsParameters h.story (Err refusal) answer (stories_are_one initial log h.story (Err refusal) h.is_story is) h.answer_is
fit_refused request files refusal answer is h = absurd is

-- ---- and only that

not_refused : (s t : Status) → s ≡ t → (t ≡ Refused → ⊥) → s ≡ Refused → ⊥
not_refused s t is other e = other (sym is ∙ e)

neither_refused : (s t u : Status) → (s ≡ t) ⊎ (s ≡ u) → (t ≡ Refused → ⊥) → (u ≡ Refused → ⊥) → s ≡ Refused → ⊥
neither_refused s t u (inl is) first second e = first (sym is ∙ e)
neither_refused s t u (inr is) first second e = second (sym is ∙ e)

none_of_three_refused : (s t u v : Status) → (s ≡ t) ⊎ ((s ≡ u) ⊎ (s ≡ v)) → (t ≡ Refused → ⊥) → (u ≡ Refused → ⊥) → (v ≡ Refused → ⊥) → s ≡ Refused → ⊥
none_of_three_refused s t u v (inl is) first second third e = first (sym is ∙ e)
none_of_three_refused s t u v (inr (inl is)) first second third e = second (sym is ∙ e)
none_of_three_refused s t u v (inr (inr is)) first second third e = third (sym is ∙ e)

budget_not_refused : Budget ≡ Refused → ⊥
budget_not_refused e = cc

done_not_refused : Done ≡ Refused → ⊥
done_not_refused e = cc

nothing_not_refused : Nothing ≡ Refused → ⊥
nothing_not_refused e = cc

rejected_not_refused : Rejected ≡ Refused → ⊥
rejected_not_refused e = cc

refused_by : {A : Type 0} (answers : A → Answer → Type 0) (read : Result A Refusal) (answer : Answer)
    → ((a : A) → answers a answer → answer.status ≡ Refused → ⊥) → or_refused answers read answer → answer.status ≡ Refused
    → (refusal : Refusal) × (read ≡ Err refusal)
refused_by answers (Ok a) answer never h refused = absurd (never a h refused)
refused_by answers (Err refusal) answer never h refused = (refusal, refl)

pub only_refused : (request : Request) (files : List (List ℕ)) (answer : Answer) → answers_of request files answer → answer.status ≡ Refused
    → (refusal : Refusal) × FilesAreRefused request files refusal
only_refused (diagnose words) (initial ∷ log ∷ complaints ∷ domains ∷ []) answer h refused =
    let r = refused_by (IsFound words log) h.opened answer
    (λ opened found. none_of_three_refused answer.status Done Nothing Budget (said_with words log opened found.cert.tree found.cert.answer answer.status answer.line found.says) done_not_refused nothing_not_refused budget_not_refused) h.answer_is refused in
    (r.0, subst (IsQuestion initial log complaints domains) r.1 h.question)
only_refused (check words) (initial ∷ log ∷ complaints ∷ domains ∷ certificate ∷ []) answer h refused =
    let r = refused_by (λ (o : Opened). IsChecked o.problem certificate) h.opened answer
    (λ opened checked. neither_refused answer.status Done Rejected (done_or_rejected opened.problem certificate answer.status answer.line checked.checked) done_not_refused rejected_not_refused) h.answer_is refused in
    (r.0, subst (IsQuestion initial log complaints domains) r.1 h.is_question)
only_refused (replay words) (initial ∷ log ∷ []) answer h refused =
    let r = refused_by IsFinalTable h.replayed answer (λ story final. not_refused answer.status Done final.status_is done_not_refused) h.answer_is refused in
    (r.0, subst (IsReplayed initial log) r.1 h.is_replayed)
only_refused (params words) (initial ∷ log ∷ []) answer h refused =
    let r = refused_by AreItsParameters h.story answer (λ story listed. not_refused answer.status Done listed.status_is done_not_refused) h.answer_is refused in
    (r.0, subst (IsStory initial log) r.1 h.is_story)
only_refused request files answer h refused = absurd h

-- ---- what is accepted has the status that the files call for

abbrev TellsProof : Case → List ℕ → Status → Type 0
TellsProof case certificate status = ((status ≡ Done) ↔ IsProof case certificate) × ((status ≡ Rejected) ↔ (IsProof case certificate → ⊥))

done_not_nothing : Done ≡ Nothing → ⊥
done_not_nothing e = cc

done_not_rejected : Done ≡ Rejected → ⊥
done_not_rejected e = cc

done_not_budget : Done ≡ Budget → ⊥
done_not_budget e = cc

nothing_not_budget : Nothing ≡ Budget → ⊥
nothing_not_budget e = cc

found_tells : (words : Diagnosis) (log : List ℕ) (opened : Opened) (tree : Tree) (c : Claim) (s : Status) (line : List ℕ) → Says words log opened tree c s line → DiagnosisTells words opened s
found_tells words log opened tree (claim.Repair point) s line says =
    let least = says.1.least in
    record {
      repair = λ e. (point, least.inside, least.repairs);
      none = λ e. absurd (done_not_nothing (sym says.0 ∙ e));
      found = λ has. inl says.0;
      not_found = λ none. absurd (none point least.inside least.repairs);
      suffices = λ enough e. done_not_budget (sym says.0 ∙ e);
    }
found_tells words log opened tree claim.Nothing s line says = record {
  repair = λ e. absurd (done_not_nothing (sym e ∙ says.0));
  none = λ e. says.1.none;
  found = λ has. absurd (says.1.none has.0 has.1 has.2);
  not_found = λ none. inl says.0;
  suffices = λ enough e. nothing_not_budget (sym says.0 ∙ e);
}
found_tells words log opened tree claim.Budget s line says =
    let many = says.1.budget.many in
    record {
      repair = λ e. absurd (done_not_budget (sym e ∙ says.0));
      none = λ e. absurd (nothing_not_budget (sym e ∙ says.0));
      found = λ has. inr says.0;
      not_found = λ none. inr says.0;
      suffices = λ enough e. omega (arith, many, enough);
    }
found_tells words log opened tree (claim.Best point) s line says = absurd says

checked_tells : (case : Case) (certificate : List ℕ) (status : Status) (line : List ℕ) → IsCheckedWith case certificate status line → TellsProof case certificate status
checked_tells case certificate Done line checked = (
  (λ e. checked.proof, λ proof. refl),
  (λ e. absurd (done_not_rejected e), λ none. absurd (none checked.proof)),
)
checked_tells case certificate Nothing line checked = absurd checked
checked_tells case certificate Budget line checked = absurd checked
checked_tells case certificate Refused line checked = absurd checked
checked_tells case certificate ReadFault line checked = absurd checked
checked_tells case certificate WriteFault line checked = absurd checked
checked_tells case certificate NoMemory line checked = absurd checked
checked_tells case certificate Usage line checked = absurd checked
checked_tells case certificate Rejected line checked =
    let never : IsProof case certificate → ⊥ = λ proof. done_not_rejected (sym (proof_is_done case certificate Rejected line proof checked)) in (
      (λ e. absurd (done_not_rejected (sym e)), λ proof. absurd (never proof)),
      (λ e. never, λ none. refl),
    )

pub tells : (request : Request) (files : List (List ℕ)) (answer : Answer) → answers_of request files answer → StatusTells request files answer.status
tells (diagnose words) (initial ∷ log ∷ complaints ∷ domains ∷ []) answer h = λ opened is.
    let found = carried (IsFound words log) h.opened (Ok opened) answer (questions_are_one initial log complaints domains h.opened (Ok opened) h.question is) h.answer_is in
    found_tells words log opened found.cert.tree found.cert.answer answer.status answer.line found.says
tells (check words) (initial ∷ log ∷ complaints ∷ domains ∷ certificate ∷ []) answer h = λ opened is.
    checked_tells opened.problem certificate answer.status answer.line
    (carried (λ (o : Opened). IsChecked o.problem certificate) h.opened (Ok opened) answer
    (questions_are_one initial log complaints domains h.opened (Ok opened) h.is_question is) h.answer_is).checked
tells (replay words) (initial ∷ log ∷ []) answer h = λ story is.
    (carried IsFinalTable h.replayed (Ok story) answer (replayed_are_one initial log h.replayed (Ok story) h.is_replayed is) h.answer_is).status_is
tells (params words) (initial ∷ log ∷ []) answer h = λ story is.
    (carried AreItsParameters h.story (Ok story) answer (stories_are_one initial log h.story (Ok story) h.is_story is) h.answer_is).status_is
tells request files answer h = absurd h

-- ---- the clause

module _ (request : Request) (old new : DeskState) (status : Status) (promise : Promise request old new status) where
  module _ (files : List (List ℕ)) (run : IsPlainRun request files old new status) where
    answers : AreShort (input_words request) files → AnswersFiles (answers_of request) files old new status
    answers short =
        ⊎_elim (λ a. a) (λ none. absurd (run.memory none))
        (answered (input_words request) (output_words request) (answers_of request) old new status files run.told short run.no_fault promise)

    refused : (refusal : Refusal) → IsFirstRefusal request files old refusal → IsAnsweredBy (refusal_answer refusal) old new status
    refused refusal (inl long) =
        subst (λ (r : Refusal). IsAnsweredBy (refusal_answer r) old new status) (sym long.2)
        (⊎_elim (λ a. a) (λ none. absurd (run.memory none))
        (long_refused (input_words request) (output_words request) (answers_of request) old new status files long.0 run.told long.1 run.no_fault promise))
    refused refusal (inr first) =
        let a = answers first.0 in
        subst (λ (b : Answer). IsAnsweredBy b old new status) (fit_refused request files refusal a.answer first.1 a.is_answer) a.delivered

    refused_only : status ≡ Refused → (refusal : Refusal) × IsFirstRefusal request files old refusal
    refused_only is =
        ⊎_elim
        (λ long. (too_long long.0, inl (long.0, long.1, refl)))
        (λ short.
        let a = answers short in
        let r = only_refused request files a.answer a.is_answer (sym a.delivered.status_is ∙ is) in
        (r.0, inr (short, r.1)))
        (long_or_short old (input_words request) files run.told)

    accepted : AreShort (input_words request) files → StatusTells request files status
    accepted short =
        let a = answers short in
        subst (λ (s : Status). StatusTells request files s) (sym a.delivered.status_is) (tells request files a.answer a.is_answer)

  pub complete : IsComplete request old new status
  complete = record { refused = refused; refused_only = refused_only; accepted = accepted }

pub complete_for : (wanted : Option Request) (request : Request) (old new : DeskState) (status : Status)
    → wanted ≡ Some request → Promise request old new status → IsCompleteFor wanted old new status
complete_for wanted request old new status is promise =
    subst (λ (w : Option Request). IsCompleteFor w old new status) (sym is) (complete request old new status promise)

pub nothing_to_complete : (wanted : Option Request) (old new : DeskState) (status : Status) → wanted ≡ None → IsCompleteFor wanted old new status
nothing_to_complete wanted old new status is = subst (λ (w : Option Request). IsCompleteFor w old new status) (sym is) tt
