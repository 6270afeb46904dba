-- The lines of a certificate, and which certificates have a spelling.
use Rattle.std.specs.Prelude.{ℕ, zero, suc, ◌-◌, ◌^◌, ◌&&◌, nat_lt, Bool, true, false, List, [], ◌∷◌, ◌++◌, map, ℤ, pos, neg_ℤ, int_le, IsTrue, All}
use Rattle.std.specs.List.{flat_map, list_all}
use Rattle.qf_base.specs.declared.names.Bound.{Bound}
use Rattle.qf_base.specs.declared.names.Bound.TheVariants.{Low, High}
use Rattle.qf_base.specs.declared.names.RowName.{RowName}
use Rattle.qf_base.specs.declared.names.RowName.TheVariants.{Start, Inserted}
use Rattle.qf_lin.specs.declared.step.Step.{Step}
use Rattle.qf_lin.specs.declared.step.Step.TheVariants as step
use Rattle.qf_tree.specs.declared.tree.Node.{Node}
use Rattle.qf_tree.specs.declared.tree.Node.TheVariants as node
use Rattle.qf_tree.specs.declared.cert.Answer.{Answer}
use Rattle.qf_tree.specs.declared.cert.Answer.TheVariants.{Repair, Nothing, Budget, Best}
use Rattle.qf_tree.specs.declared.cert.Cert.{Cert}
use Rattle.qf_tree.specs.declared.line.Line.{Line}
use Rattle.qf_tree.specs.declared.line.Line.TheVariants as line

-- ---- lines

abbrev pub step_line : Step → Line
step_line (step.Tight inequality var bound) = line.Tight inequality var bound
step_line step.Empty = line.Empty
step_line (step.Case var) = line.Case var

abbrev pub node_lines : Node → List Line
node_lines (node.Split param cut row) = line.Split param cut row ∷ []
node_lines (node.Refuted row steps) = line.Refuted row ∷ map step_line steps
node_lines node.Dear = line.Dear ∷ []
node_lines node.Open = line.Open ∷ []

-- the head, the answer, the lines of each node with its steps, and the end
abbrev pub cert_lines : Cert → List Line
cert_lines cert = line.Head ∷ line.Answer cert.answer ∷ (flat_map node_lines cert.tree.nodes ++ line.End ∷ [])

-- ---- numbers in their ranges

abbrev pub is_number : ℕ → Bool
is_number n = nat_lt 0 n && nat_lt n (2 ^ 32)

-- whether a number fits 64 bits with a sign
abbrev pub is_value : ℤ → Bool
is_value z = int_le (neg_ℤ (pos (2 ^ 63))) z && int_le z (pos (2 ^ 63 - 1))

abbrev pub is_named_row : RowName → Bool
is_named_row (Start n) = is_number n
is_named_row (Inserted n) = is_number n

-- whether a bound is within 2^60 in size
abbrev pub is_small_end : ℤ → Bool
is_small_end z = int_le (neg_ℤ (pos (2 ^ 60))) z && int_le z (pos (2 ^ 60))

abbrev pub is_small_bound : Bound → Bool
is_small_bound (Low least) = is_small_end least
is_small_bound (High most) = is_small_end most

abbrev pub answer_fits : Answer → Bool
answer_fits (Repair p) = list_all is_value p
answer_fits Nothing = true
answer_fits Budget = true
answer_fits (Best p) = list_all is_value p

-- whether each number of the line is in its range
abbrev pub line_fits : Line → Bool
line_fits line.Head = true
line_fits (line.Answer answer) = answer_fits answer
line_fits (line.Split param cut row) = is_number param && is_value cut && is_named_row row
line_fits (line.Refuted row) = is_named_row row
line_fits (line.Tight inequality var bound) = is_number inequality && is_number var && is_small_bound bound
line_fits line.Empty = true
line_fits (line.Case var) = is_number var
line_fits line.Dear = true
line_fits line.Open = true
line_fits line.End = true

-- each step can be written: its numbers are in their ranges
abbrev pub StepsFit : List Step → Type 0
StepsFit steps = All (λ (s : Step). IsTrue (line_fits (step_line s))) steps

-- ---- whole trees and refutations

-- the steps are so many refutations one after another, and no more: one is any tight steps, and then `Empty`, or `Case`
-- and two refutations
abbrev pub are_refutations : ℕ → List Step → Bool
are_refutations zero [] = true
are_refutations (suc n) [] = false
are_refutations zero (s ∷ steps) = false
are_refutations (suc n) (step.Tight inequality var bound ∷ steps) = are_refutations (suc n) steps
are_refutations (suc n) (step.Empty ∷ steps) = are_refutations n steps
are_refutations (suc n) (step.Case var ∷ steps) = are_refutations (suc (suc n)) steps

-- the nodes are so many trees one after another, and no more: one is `Split` and two trees, or a single other node; a
-- refuted node has one refutation
abbrev pub are_trees : ℕ → List Node → Bool
are_trees zero [] = true
are_trees (suc n) [] = false
are_trees zero (x ∷ nodes) = false
are_trees (suc n) (node.Split param cut row ∷ nodes) = are_trees (suc (suc n)) nodes
are_trees (suc n) (node.Refuted row steps ∷ nodes) = are_refutations 1 steps && are_trees n nodes
are_trees (suc n) (node.Dear ∷ nodes) = are_trees n nodes
are_trees (suc n) (node.Open ∷ nodes) = are_trees n nodes

-- the tree is one tree, each refutation is one, and the numbers are in their ranges
pub record HasSpelling (cert : Cert) : Type 0 where
  pub tree : IsTrue (are_trees 1 cert.tree.nodes)
  pub numbers : All (λ line. IsTrue (line_fits line)) (cert_lines cert)
