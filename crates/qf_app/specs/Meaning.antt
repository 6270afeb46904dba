-- What a command means.
use Rattle.qf_app.specs.Request.{Story, Question, Diagnosis, Checking, Request, diagnose, check, replay, params}
use Rattle.qf_app.specs.declared.command.StoryNames.{StoryNames}
use Rattle.qf_app.specs.declared.command.QuestionNames.{QuestionNames}
use Rattle.qf_app.specs.declared.command.Diagnose.{Diagnose}
use Rattle.qf_app.specs.declared.command.Check.{Check}
use Rattle.qf_app.specs.declared.command.Command.{Command}
use Rattle.qf_app.specs.declared.command.Command.TheVariants as command

-- the names as their bytes
abbrev pub story_named : StoryNames → Story
story_named names = record { initial = names.initial.now; log = names.log.now }

abbrev pub question_named : QuestionNames → Question
question_named names = record { story = story_named names.story; complaints = names.complaints.now; domains = names.domains.now }

abbrev pub diagnosis : Diagnose → Diagnosis
diagnosis d = record { question = question_named d.question; budget = d.budget; certificate = d.certificate.now }

abbrev pub checking : Check → Checking
checking c = record { question = question_named c.question; certificate = c.certificate.now }

abbrev pub meaning_of : Command → Request
meaning_of (command.Diagnose d) = diagnose (diagnosis d)
meaning_of (command.Check c) = check (checking c)
meaning_of (command.Replay names) = replay (story_named names)
meaning_of (command.Params names) = params (story_named names)
