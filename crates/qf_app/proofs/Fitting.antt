-- The files ask one thing, so what answers one reading of them answers each.
use Rattle.std.proofs.Common.{◌≡◌, ℕ, List, Result, sym, ◌∙◌, ap, subst}
use Rattle.qf_base.specs.declared.refusal.Refusal.{Refusal}
use Rattle.qf_inputs.specs.Laws.{IsOne}
use Rattle.qf_inputs.specs.declared.story.Story.{Story}
use Rattle.qf_inputs.proofs.OneReading.{stories_are_one}
use Rattle.qf_shell.specs.declared.answer.Answer.{Answer}
use Rattle.qf_app.specs.Answers.{or_refused, IsReplayed, if_narrow}

pub replayed_are_one : (initial log : List ℕ) → IsOne (Result Story Refusal) (IsReplayed initial log)
replayed_are_one initial log a b h k =
    h.replayed_is ∙ (ap if_narrow (stories_are_one initial log h.story k.story h.story_is k.story_is) ∙ sym k.replayed_is)

-- an answer to what was read is one to what any reading gives
pub carried : {A : Type 0} (answers : A → Answer → Type 0) (a b : Result A Refusal) (answer : Answer) → a ≡ b → or_refused answers a answer → or_refused answers b answer
carried {A = A} answers a b answer same h = subst (λ (r : Result A Refusal). or_refused answers r answer) same h
