-- Which line may stand next in a certificate's text, and what the lines so far say.
use Rattle.std.specs.Prelude.{◌≡◌, ◌↔◌, IsTrue, ℕ, ◌+◌, ◌-◌, ◌==◌, List, [], ◌∷◌, ◌++◌, Option, Some, None, if◌then◌else◌, option_and_then}
use Rattle.qf_base.specs.declared.names.RowName.{RowName}
use Rattle.qf_lin.specs.declared.step.Step.{Step}
use Rattle.qf_lin.specs.declared.step.Step.TheVariants as step
use Rattle.qf_tree.specs.declared.tree.Node.{Node}
use Rattle.qf_tree.specs.declared.tree.Node.TheVariants as node
use Rattle.qf_tree.specs.declared.cert.Answer.{Answer}
use Rattle.qf_tree.specs.declared.cert.Cert.{Cert}
use Rattle.qf_tree.specs.Lines.{are_trees, cert_lines}
use Rattle.qf_tree.specs.declared.line.Line.{Line}
use Rattle.qf_tree.specs.declared.line.Line.TheVariants as line
use Rattle.qf_certtext.specs.declared.draft.Draft.{Draft}
use Rattle.qf_certtext.specs.declared.draft.Draft.TheVariants as draft

-- a node that fills one of the trees to come, and brings so many more
abbrev pub with_node : Answer → List Node → ℕ → Node → ℕ → Option Draft
with_node answer nodes trees node more =
    if trees == 0 then None else Some (draft.Trees answer (nodes ++ node ∷ []) (trees - 1 + more))

abbrev pub after_trees : Answer → List Node → ℕ → Line → Option Draft
after_trees answer nodes trees (line.Split param cut row) = with_node answer nodes trees (node.Split param cut row) 2
after_trees answer nodes trees (line.Refuted row) =
    if trees == 0 then None else Some (draft.Steps answer nodes (trees - 1) row [] 1)
after_trees answer nodes trees line.Dear = with_node answer nodes trees node.Dear 0
after_trees answer nodes trees line.Open = with_node answer nodes trees node.Open 0
after_trees answer nodes trees line.End =
    if trees == 0 then Some (draft.Whole (record { answer = answer; tree = record { nodes = nodes } })) else None
after_trees answer nodes trees _ = None

-- the last refutation closes its node
abbrev pub after_empty : Answer → List Node → ℕ → RowName → List Step → ℕ → Draft
after_empty answer nodes trees row steps refutations =
    if refutations == 1 then draft.Trees answer (nodes ++ node.Refuted row (steps ++ step.Empty ∷ []) ∷ []) trees
    else draft.Steps answer nodes trees row (steps ++ step.Empty ∷ []) (refutations - 1)

abbrev pub after_steps : Answer → List Node → ℕ → RowName → List Step → ℕ → Line → Option Draft
after_steps answer nodes trees row steps refutations (line.Tight inequality var bound) =
    Some (draft.Steps answer nodes trees row (steps ++ step.Tight inequality var bound ∷ []) refutations)
after_steps answer nodes trees row steps refutations line.Empty = Some (after_empty answer nodes trees row steps refutations)
after_steps answer nodes trees row steps refutations (line.Case var) =
    Some (draft.Steps answer nodes trees row (steps ++ step.Case var ∷ []) (refutations + 1))
after_steps answer nodes trees row steps refutations _ = None

abbrev pub after_head : Line → Option Draft
after_head (line.Answer answer) = Some (draft.Trees answer [] 1)
after_head _ = None

abbrev pub at_start : Line → Option Draft
at_start line.Head = Some draft.Answer
at_start _ = None

-- the draft with a line behind it, where the line may stand there
abbrev pub draft_after : Draft → Line → Option Draft
draft_after draft.Head l = at_start l
draft_after draft.Answer l = after_head l
draft_after (draft.Trees answer nodes trees) l = after_trees answer nodes trees l
draft_after (draft.Steps answer nodes trees row steps refutations) l = after_steps answer nodes trees row steps refutations l
draft_after (draft.Whole cert) l = None

-- the draft with all these lines behind it
abbrev pub drafted : Draft → List Line → Option Draft
drafted d [] = Some d
drafted d (l ∷ lines) = option_and_then (λ next. drafted next lines) (draft_after d l)

-- the lines are taken to the end of a certificate exactly where they are its lines, and its tree is whole
abbrev pub LinesAreAccepted : Type 0
LinesAreAccepted =
    (lines : List Line) (cert : Cert) → (drafted draft.Head lines ≡ Some (draft.Whole cert)) ↔ ((lines ≡ cert_lines cert) × IsTrue (are_trees 1 cert.tree.nodes))
