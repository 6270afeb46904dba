-- What a table, its log, complaints and domains say together, or the first refusal: of the story, the domains, the widths, the
-- complaints, in this order.
use Rattle.std.specs.Prelude.{◌≡◌, ℕ, ℤ, List, length, Result, Ok, Err}
use Rattle.std.specs.declared.option.Option.{Option}
use Rattle.std.specs.declared.option.Option.TheVariants.{Some, None}
use Rattle.qf_base.specs.Values.{Bounds}
use Rattle.qf_base.specs.declared.refusal.Refusal.{Refusal}
use Rattle.qf_base.specs.declared.refusal.Kind.TheVariants.{Wide}
use Rattle.qf_ir.specs.Plan.{Plan}
use Rattle.qf_ir.specs.Width.{widths_of}
use Rattle.qf_ir.specs.declared.table.Table.{Table}
use Rattle.qf_forms.specs.Complaints.{complaints_of}
use Rattle.qf_forms.specs.Domains.{domains_of}
use Rattle.qf_forms.specs.Faults as forms
use Rattle.qf_forms.specs.declared.complaint.Complaint.{Complaint}
use Rattle.qf_point.specs.Domains.{DomainBox, domains_from, first_fault}
use Rattle.qf_point.specs.Domains as point
use Rattle.qf_point.specs.declared.domains.DomainFault.{DomainFault}
use Rattle.qf_point.specs.declared.domains.DomainRow.{DomainRow}
use Rattle.qf_goal.specs.Asked.{problem_of}
use Rattle.qf_goal.specs.Case.{Case}
use Rattle.qf_goal.specs.Faults as goal
use Rattle.qf_log.specs.Reading.{Reading}
use Rattle.qf_inputs.specs.Refusals.{told, or_refusal}
use Rattle.qf_inputs.specs.Story.{IsStory}
use Rattle.qf_inputs.specs.declared.story.Story.{Story}
use Rattle.qf_inputs.specs.declared.inputs.Inputs.{Inputs}

-- ---- domains

-- the domains of the records, of which each parameter has at most one
abbrev pub box_of : List ℤ → List DomainRow → DomainBox
box_of olds rows = record { olds = olds; region = domains_from 1 olds rows }

abbrev pub unless_fault : Option DomainFault → DomainBox → Result DomainBox Refusal
unless_fault (Some fault) box = Err (told (point.refusal_of fault))
unless_fault None box = Ok box

abbrev pub with_rows : List ℤ → Result (List DomainRow) Refusal → Result DomainBox Refusal
with_rows olds (Err refusal) = Err refusal
with_rows olds (Ok rows) = unless_fault (first_fault 1 olds rows) (box_of olds rows)

-- the domains in these bytes of parameters with these old constants
abbrev pub domains_in : List ℤ → List ℕ → Result DomainBox Refusal
domains_in olds bytes = with_rows olds (or_refusal forms.refusal_of (domains_of (length olds) bytes))

-- ---- widths

abbrev pub wide : ℕ → Refusal
wide statement = record { kind = Wide; first = Some statement; second = None }

abbrev pub or_wide : Result Bounds ℕ → Result Bounds Refusal
or_wide (Ok widths) = Ok widths
or_wide (Err statement) = Err (wide statement)

-- how large the numbers can become within these domains, or the first statement that leaves the limit
abbrev pub widths_in : Plan → Table → Bounds → Result Bounds Refusal
widths_in plan table domains = or_wide (widths_of (length plan.columns) table.rows plan.statements domains)

-- ---- the problem

abbrev pub with_problem : Reading → Result Case Refusal → Result Inputs Refusal
with_problem log (Err refusal) = Err refusal
with_problem log (Ok case) = Ok (record { problem = case; log = log })

abbrev pub with_complaints : Story → DomainBox → Result (List Complaint) Refusal → Result Inputs Refusal
with_complaints story domains (Err refusal) = Err refusal
with_complaints story domains (Ok complaints) =
    with_problem story.log (or_refusal goal.refusal_of (problem_of story.program story.table complaints domains))

abbrev pub with_widths : Story → DomainBox → List ℕ → Result Bounds Refusal → Result Inputs Refusal
with_widths story domains complaints (Err refusal) = Err refusal
with_widths story domains complaints (Ok widths) = with_complaints story domains (or_refusal forms.refusal_of (complaints_of complaints))

abbrev pub with_domains : Story → List ℕ → Result DomainBox Refusal → Result Inputs Refusal
with_domains story complaints (Err refusal) = Err refusal
with_domains story complaints (Ok domains) = with_widths story domains complaints (widths_in story.program story.table domains.region)

abbrev pub with_story : Result Story Refusal → List ℕ → List ℕ → Result Inputs Refusal
with_story (Err refusal) complaints domains = Err refusal
with_story (Ok story) complaints domains = with_domains story complaints (domains_in story.program.olds domains)

-- what the four files say together, or their first refusal
pub record AreInputs (initial log complaints domains : List ℕ) (inputs : Result Inputs Refusal) : Type 0 where
  pub story : Result Story Refusal
  pub story_is : IsStory initial log story
  pub inputs_is : inputs ≡ with_story story complaints domains
