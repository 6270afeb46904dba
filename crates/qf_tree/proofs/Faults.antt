-- No line is bad exactly where every rule is kept.
use Rattle.std.proofs.Common.{◌≡◌, ℕ, ◌+◌, Bool, true, false, cond, ◌&&◌, List, [], ◌∷◌, length, refl, Option, Some, None}
use Rattle.std.specs.List.{AllByRecursion}
use Rattle.std.proofs.lemmas.Bool.{and_parts, and_from}
use Rattle.std.proofs.lemmas.List.Elements.{All-from_recursion, recursion_from_All}
use Rattle.qf_base.specs.Values.{Bounds}
use Rattle.qf_lin.specs.declared.inequality.System.{System}
use Rattle.qf_lin.specs.declared.step.Step.{Step}
use Rattle.qf_tree.specs.Refutations.{IsRefutation, Pending, keeps_rule, pending_after, first_wrong_step, refutes_in_turn, one_later}
use Rattle.qf_tree.proofs.Soundness.{no_wrong_step, from_turns, to_turns, one_of_all}
use Rattle.qf_tree.specs.declared.tree.Node.TheVariants.{Split, Refuted, Dear, Open}
use Rattle.qf_tree.specs.declared.cert.Answer.{Answer}
use Rattle.qf_tree.specs.declared.cert.Cert.{Cert}
use Rattle.qf_tree.specs.Lines.{HasSpelling, cert_lines}
use Rattle.qf_tree.specs.Certificates.{Instance, Placed, placed, NodeIsRight, cuts_inside, dear_is_right, may_be_open, wrong_unless, node_fault, line_count, first_of_two, fault_from, answer_is_right, end_is_right, end_fault, IsValid, first_bad_line, BadLinesAreFound}

-- ---- steps

right_by_steps : (flag : Bool) (o : Option ℕ) (b : Bool) → (b ≡ true → o ≡ None) → (flag && b) ≡ true → cond flag (one_later o) (Some 0) ≡ None
right_by_steps true None b h e = refl
right_by_steps true (Some n) b h e = let none = h e in cc
right_by_steps false o b h e = cc

-- where the steps refute in turn, no step is wrong
turns_no_wrong : (system : System) (ps : Pending) (steps : List Step) → refutes_in_turn system ps steps ≡ true → first_wrong_step system ps steps ≡ None
turns_no_wrong system [] [] e = refl
turns_no_wrong system (p ∷ ps) [] e = cc
turns_no_wrong system [] (step ∷ steps) e = cc
turns_no_wrong system (p ∷ ps) (step ∷ steps) e =
    right_by_steps (keeps_rule system (p ∷ ps) step) (first_wrong_step system (pending_after (p ∷ ps) step) steps) (refutes_in_turn system (pending_after (p ∷ ps) step) steps) (turns_no_wrong system (pending_after (p ∷ ps) step) steps) e

refutation_without_wrong : (system : System) (bounds : Bounds) (steps : List Step) → first_wrong_step system ((bounds, 0) ∷ []) steps ≡ None → IsRefutation system bounds steps
refutation_without_wrong system bounds steps e =
    one_of_all system bounds steps (from_turns system ((bounds, 0) ∷ []) steps (no_wrong_step system ((bounds, 0) ∷ []) steps e))

no_wrong_in_refutation : (system : System) (bounds : Bounds) (steps : List Step) → IsRefutation system bounds steps → first_wrong_step system ((bounds, 0) ∷ []) steps ≡ None
no_wrong_in_refutation system bounds steps r = turns_no_wrong system ((bounds, 0) ∷ []) steps (to_turns r [] refl)

-- ---- nodes

right_by : (right : Bool) → wrong_unless right ≡ None → right ≡ true
right_by true e = refl
right_by false e = cc

none_by : (right : Bool) → right ≡ true → wrong_unless right ≡ None
none_by true e = refl
none_by false e = cc

later_none : (flag : Bool) (o : Option ℕ) → cond flag (one_later o) (Some 0) ≡ None → (flag ≡ true) × (o ≡ None)
later_none true None e = (refl, refl)
later_none true (Some n) e = cc
later_none false o e = cc

none_later : (flag : Bool) (o : Option ℕ) → flag ≡ true → o ≡ None → cond flag (one_later o) (Some 0) ≡ None
none_later true None f e = refl
none_later true (Some n) f e = cc
none_later false o f e = cc

module _ (inst : Instance) (answer : Answer) where
  right_node : (leaf : Placed) → node_fault inst answer leaf ≡ None → NodeIsRight inst answer leaf
  right_node (region, Split param cut row) e =
      let whole = and_parts (inst.is_needed param && cuts_inside region param cut) (inst.has_row row) (right_by (inst.is_needed param && cuts_inside region param cut && inst.has_row row) e) in
      let two = and_parts (inst.is_needed param) (cuts_inside region param cut) whole.0 in
      (two.0, two.1, whole.1)
  right_node (region, Refuted row steps) e =
      let parts = later_none (inst.has_row row) (first_wrong_step (inst.system row) ((inst.hull row region, 0) ∷ []) steps) e in
      (parts.0, refutation_without_wrong (inst.system row) (inst.hull row region) steps parts.1)
  right_node (region, Dear) e = right_by (dear_is_right inst answer region) e
  right_node (region, Open) e = right_by (may_be_open answer) e

  fault_none : (leaf : Placed) → NodeIsRight inst answer leaf → node_fault inst answer leaf ≡ None
  fault_none (region, Split param cut row) h =
      none_by (inst.is_needed param && cuts_inside region param cut && inst.has_row row) (and_from (inst.is_needed param && cuts_inside region param cut) (inst.has_row row) (and_from (inst.is_needed param) (cuts_inside region param cut) h.0 h.1) h.2)
  fault_none (region, Refuted row steps) h =
      none_later (inst.has_row row) (first_wrong_step (inst.system row) ((inst.hull row region, 0) ∷ []) steps) h.0 (no_wrong_in_refutation (inst.system row) (inst.hull row region) steps h.1)
  fault_none (region, Dear) h = none_by (dear_is_right inst answer region) h
  fault_none (region, Open) h = none_by (may_be_open answer) h

  none_of_two : (line : ℕ) (a b : Option ℕ) → first_of_two line a b ≡ None → (a ≡ None) × (b ≡ None)
  none_of_two line None b e = (refl, e)
  none_of_two line (Some n) b e = cc

  two_none : (line : ℕ) (a b : Option ℕ) → a ≡ None → b ≡ None → first_of_two line a b ≡ None
  two_none line None b e f = f
  two_none line (Some n) b e f = cc

  all_right : (line : ℕ) (leaves : List Placed) → fault_from inst answer line leaves ≡ None → AllByRecursion (λ leaf. NodeIsRight inst answer leaf) leaves
  all_right line [] e = tt
  all_right line (leaf ∷ leaves) e =
      let parts = none_of_two line (node_fault inst answer leaf) (fault_from inst answer (line + line_count leaf.1) leaves) e in
      (right_node leaf parts.0, all_right (line + line_count leaf.1) leaves parts.1)

  no_fault : (line : ℕ) (leaves : List Placed) → AllByRecursion (λ leaf. NodeIsRight inst answer leaf) leaves → fault_from inst answer line leaves ≡ None
  no_fault line [] h = refl
  no_fault line (leaf ∷ leaves) h =
      two_none line (node_fault inst answer leaf) (fault_from inst answer (line + line_count leaf.1) leaves) (fault_none leaf h.0) (no_fault (line + line_count leaf.1) leaves h.1)

-- ---- the whole certificate

parts_of : (flag : Bool) (n : ℕ) (o : Option ℕ) → cond flag o (Some n) ≡ None → (flag ≡ true) × (o ≡ None)
parts_of true n o e = (refl, e)
parts_of false n o e = cc

from_parts : (flag : Bool) (n : ℕ) (o : Option ℕ) → flag ≡ true → o ≡ None → cond flag o (Some n) ≡ None
from_parts true n o f e = e
from_parts false n o f e = cc

end_none : (flag : Bool) (n : ℕ) → cond flag None (Some n) ≡ None → flag ≡ true
end_none true n e = refl
end_none false n e = cc

none_end : (flag : Bool) (n : ℕ) → flag ≡ true → cond flag None (Some n) ≡ None
none_end true n e = refl
none_end false n e = cc

valid_from : (inst : Instance) (region : Bounds) (cert : Cert) → HasSpelling cert → first_bad_line inst region cert ≡ None → IsValid inst region cert
valid_from inst region cert spelled e =
    let leaves = placed (region ∷ []) cert.tree.nodes in
    let first = parts_of (answer_is_right inst cert.answer) 2 (first_of_two 0 (fault_from inst cert.answer 3 leaves) (end_fault cert)) e in
    let tree = none_of_two inst cert.answer 0 (fault_from inst cert.answer 3 leaves) (end_fault cert) first.1 in
    record {
      spelled = spelled;
      answer = first.0;
      nodes = All-from_recursion (λ leaf. NodeIsRight inst cert.answer leaf) leaves (all_right inst cert.answer 3 leaves tree.0);
      end = end_none (end_is_right cert.answer cert.tree.nodes) (length (cert_lines cert)) tree.1;
    }

no_bad_line : (inst : Instance) (region : Bounds) (cert : Cert) → IsValid inst region cert → first_bad_line inst region cert ≡ None
no_bad_line inst region cert valid =
    let leaves = placed (region ∷ []) cert.tree.nodes in
    let tree = no_fault inst cert.answer 3 leaves (recursion_from_All (λ leaf. NodeIsRight inst cert.answer leaf) leaves valid.nodes) in
    from_parts (answer_is_right inst cert.answer) 2 (first_of_two 0 (fault_from inst cert.answer 3 leaves) (end_fault cert)) valid.answer (two_none inst cert.answer 0 (fault_from inst cert.answer 3 leaves) (end_fault cert) tree (none_end (end_is_right cert.answer cert.tree.nodes) (length (cert_lines cert)) valid.end))

pub bad_lines_found : BadLinesAreFound
bad_lines_found inst region cert spelled = (valid_from inst region cert spelled, no_bad_line inst region cert)
