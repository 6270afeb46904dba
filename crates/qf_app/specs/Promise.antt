-- What a run promises of the desk and the status.
use Rattle.std.specs.Prelude.{◌≡◌, ℕ, List, Option, Some, None}
use Rattle.qf_base.specs.Desk.{DeskState}
use Rattle.qf_base.specs.declared.status.Status.{Status}
use Rattle.qf_base.specs.declared.status.Status.TheVariants.{Usage}
use Rattle.qf_shell.specs.Promise.{CommandPromise}
use Rattle.qf_app.specs.Answers.{answers_of}
use Rattle.qf_app.specs.Request.{Request, request_of, input_words, output_words}

-- what a command promises that has a form
abbrev pub Promise : Request → DeskState → DeskState → Status → Type 0
Promise request old new status = CommandPromise (input_words request) (output_words request) (answers_of request) old new status

-- without a form nothing is done
abbrev pub by_request : Option Request → DeskState → DeskState → Status → Type 0
by_request None old new status = (status ≡ Usage) × (new ≡ old)
by_request (Some request) old new status = Promise request old new status

-- the promise of the command that the words give
abbrev pub RunPromise : List (List ℕ) → DeskState → DeskState → Status → Type 0
RunPromise words old new status = by_request (request_of words) old new status
