-- An answer comes with a status of an answer, and what was read and delivered is what a command promises.
use Rattle.std.proofs.Common.{◌≡◌, ◌⊎◌, ℕ, List, [], ◌∷◌, Result, Ok, Err, inl, inr, refl, sym, ap, subst}
use Rattle.qf_base.specs.Desk.{DeskState}
use Rattle.qf_base.specs.declared.refusal.Refusal.{Refusal}
use Rattle.qf_base.specs.declared.status.Status.{Status}
use Rattle.qf_base.specs.declared.status.Status.TheVariants as status
use Rattle.qf_inputs.specs.declared.opened.Opened.{Opened}
use Rattle.qf_inputs.specs.declared.story.Story.{Story}
use Rattle.qf_shell.proofs.Promises.{OnlyRead, promised}
use Rattle.qf_shell.specs.Delivery.{AnyPutRose, AnyWriteRose, names_of, put_names, Delivers}
use Rattle.qf_shell.specs.Inputs.{AreRead, WereRead}
use Rattle.qf_shell.specs.Promise.{IsAnswered, refusal_answer}
use Rattle.qf_shell.specs.declared.answer.Answer.{Answer}
use Rattle.qf_tree.specs.declared.cert.Answer.{Answer as Claim}
use Rattle.qf_tree.specs.declared.cert.Answer.TheVariants as claim
use Rattle.qf_tree.specs.declared.tree.Tree.{Tree}
use Rattle.qf_app.proofs.Certifying.{done_or_rejected}
use Rattle.qf_app.specs.Answers.{or_refused, IsFinalTable, AreItsParameters, answers_of}
use Rattle.qf_app.specs.Checking.{IsChecked}
use Rattle.qf_app.specs.Finding.{IsFound, Says}
use Rattle.qf_app.specs.Promise.{Promise}
use Rattle.qf_app.specs.Request.{Diagnosis, Request, diagnose, check, replay, params, input_words, output_words}

-- ---- the status of an answer, and the names of its files

-- with a status that comes with an answer nothing is put but under these names
pub record IsFitting (outputs : List (List ℕ)) (answer : Answer) : Type 0 where
  pub answered : IsAnswered answer.status
  pub names : (put_names answer ≡ []) ⊎ (put_names answer ≡ outputs)

-- nothing is put
no_names : (answer : Answer) → answer.files ≡ [] → put_names answer ≡ []
no_names answer none = ap names_of none

answered_with : (s t : Status) → s ≡ t → IsAnswered t → IsAnswered s
answered_with s t same answered = subst IsAnswered (sym same) answered

refusal_fits : (outputs : List (List ℕ)) (refusal : Refusal) (answer : Answer) → answer ≡ refusal_answer refusal → IsFitting outputs answer
refusal_fits outputs refusal answer is = subst (IsFitting outputs) (sym is) (record { answered = tt; names = inl refl })

read_fits : {A : Type 0} (outputs : List (List ℕ)) (answers : A → Answer → Type 0) (read : Result A Refusal) (answer : Answer)
    → ((a : A) → answers a answer → IsFitting outputs answer) → or_refused answers read answer → IsFitting outputs answer
read_fits outputs answers (Ok a) answer each h = each a h
read_fits outputs answers (Err refusal) answer each h = refusal_fits outputs refusal answer h

-- what is found has one of three statuses
pub said_with : (words : Diagnosis) (log : List ℕ) (opened : Opened) (tree : Tree) (c : Claim) (s : Status) (line : List ℕ) → Says words log opened tree c s line
    → (s ≡ status.Done) ⊎ ((s ≡ status.Nothing) ⊎ (s ≡ status.Budget))
said_with words log opened tree (claim.Repair point) s line says = inl says.0
said_with words log opened tree claim.Nothing s line says = inr (inl says.0)
said_with words log opened tree claim.Budget s line says = inr (inr says.0)
said_with words log opened tree (claim.Best point) s line says = absurd says

one_of_three : (s t u v : Status) → IsAnswered t → IsAnswered u → IsAnswered v → (s ≡ t) ⊎ ((s ≡ u) ⊎ (s ≡ v)) → IsAnswered s
one_of_three s t u v h k l (inl e) = answered_with s t e h
one_of_three s t u v h k l (inr (inl e)) = answered_with s u e k
one_of_three s t u v h k l (inr (inr e)) = answered_with s v e l

one_of_two : (s t u : Status) → IsAnswered t → IsAnswered u → (s ≡ t) ⊎ (s ≡ u) → IsAnswered s
one_of_two s t u h k (inl e) = answered_with s t e h
one_of_two s t u h k (inr e) = answered_with s u e k

found_fits : (words : Diagnosis) (log : List ℕ) (opened : Opened) (answer : Answer) → IsFound words log opened answer → IsFitting (words.certificate ∷ []) answer
found_fits words log opened answer h = record {
  answered =
      one_of_three answer.status status.Done status.Nothing status.Budget tt tt tt (said_with words log opened h.cert.tree h.cert.answer answer.status answer.line h.says);
  names = inr (ap names_of h.files);
}

checked_fits : (certificate : List ℕ) (opened : Opened) (answer : Answer) → IsChecked opened.problem certificate answer → IsFitting [] answer
checked_fits certificate opened answer h = record {
  answered = one_of_two answer.status status.Done status.Rejected tt tt (done_or_rejected opened.problem certificate answer.status answer.line h.checked);
  names = inl (no_names answer h.files);
}

table_fits : (story : Story) (answer : Answer) → IsFinalTable story answer → IsFitting [] answer
table_fits story answer h = record { answered = answered_with answer.status status.Done h.status_is tt; names = inl (no_names answer h.files) }

parameters_fit : (story : Story) (answer : Answer) → AreItsParameters story answer → IsFitting [] answer
parameters_fit story answer h = record { answered = answered_with answer.status status.Done h.status_is tt; names = inl (no_names answer h.files) }

pub answer_fits : (request : Request) (files : List (List ℕ)) (answer : Answer) → answers_of request files answer → IsFitting (output_words request) answer
answer_fits (diagnose words) (initial ∷ log ∷ complaints ∷ domains ∷ []) answer h =
    read_fits (words.certificate ∷ []) (IsFound words log) h.opened answer (λ opened. found_fits words log opened answer) h.answer_is
answer_fits (check words) (initial ∷ log ∷ complaints ∷ domains ∷ certificate ∷ []) answer h =
    read_fits [] (λ (o : Opened). IsChecked o.problem certificate) h.opened answer (λ opened. checked_fits certificate opened answer) h.answer_is
answer_fits (replay words) (initial ∷ log ∷ []) answer h = read_fits [] IsFinalTable h.replayed answer (λ story. table_fits story answer) h.answer_is
answer_fits (params words) (initial ∷ log ∷ []) answer h = read_fits [] AreItsParameters h.story answer (λ story. parameters_fit story answer) h.answer_is
answer_fits request files answer h = absurd h

-- ---- an answer that was delivered

-- a fault of putting is one under an output word
within : (outputs names : List (List ℕ)) (old new : DeskState) → (names ≡ []) ⊎ (names ≡ outputs) → AnyWriteRose names old new → AnyWriteRose outputs old new
within outputs names old new (inl none) (inl says) = inl says
within outputs names old new (inl none) (inr puts) = absurd (subst (λ (n : List (List ℕ)). AnyPutRose n old new) none puts)
within outputs names old new (inr same) rose = subst (λ (n : List (List ℕ)). AnyWriteRose n old new) same rose

pub answered : (request : Request) (files : List (List ℕ)) (old mid new : DeskState) (answer : Answer) (result : Status)
    → AreRead old (input_words request) files → WereRead (input_words request) files old mid → OnlyRead (input_words request) old mid
    → answers_of request files answer → Delivers answer mid new result → Promise request old new result
answered request files old mid new answer result read were_read before is_answer delivers =
    let fits = answer_fits request files answer is_answer in
    promised (input_words request) (output_words request) (answers_of request) old mid new answer result fits.answered
    (inl (record { files = files; read = read; were_read = were_read; is_answer = is_answer }))
    (within (output_words request) (put_names answer) mid new fits.names) before delivers
