-- A table of one cell 0 and the log `UPDATE t SET a = a + 5`, whose constant may be 0 to 10, with the complaint that the
-- cell should be 9: a certificate of the repair 9, and what is wrong with others.
use Rattle.std.proofs.Common.{◌≡◌, ℕ, ◌==◌, ◌&&◌, Bool, false, List, [], ◌∷◌, ℤ, pos, neg_ℤ, int_le, Option, Some, None, refl, sym, arith, not, cond, All, inl, inr}
use Rattle.qf_base.specs.Values.{Bounds, interval_of_var}
use Rattle.qf_base.specs.declared.names.Bound.TheVariants.{Low}
use Rattle.qf_base.specs.declared.names.RowName.{RowName}
use Rattle.qf_base.specs.declared.names.RowName.TheVariants.{Start, Inserted}
use Rattle.qf_lin.specs.declared.inequality.System.{System}
use Rattle.qf_lin.specs.declared.step.Step.TheVariants.{Tight, Empty}
use Rattle.qf_tree.specs.declared.tree.Node.{Node}
use Rattle.qf_tree.specs.declared.tree.Node.TheVariants.{Split, Refuted, Dear, Open}
use Rattle.qf_tree.specs.declared.cert.Answer.{Answer}
use Rattle.qf_tree.specs.declared.cert.Answer.TheVariants.{Repair, Nothing, Budget, Best}
use Rattle.qf_tree.specs.declared.cert.Cert.{Cert}
use Rattle.qf_tree.specs.Certificates.{Instance, first_bad_line, at_least, placed}
use Rattle.qf_tree.specs.Lean.{Aims, NodeIsLean, IsLean}
use Rattle.std.proofs.lemmas.Bool.{false≢true}
use Rattle.std.proofs.lemmas.List.Elements.{All-cons, All-nil}

abbrev is_first : RowName → Bool
is_first (Start n) = n == 1
is_first (Inserted n) = false

-- the definitions 0, 1, the constant, and the new cell, which is the sum of the first and the third
abbrev system : System
system = record {
  inequalities = record { terms = (pos 1, 1) ∷ (pos 1, 3) ∷ (neg_ℤ (pos 1), 4) ∷ []; least = pos 0 } ∷ record { terms = (neg_ℤ (pos 1), 1) ∷ (neg_ℤ (pos 1), 3) ∷ (pos 1, 4) ∷ []; least = pos 0 } ∷ record { terms = (pos 1, 2) ∷ []; least = pos 1 } ∷ record { terms = (pos 1, 4) ∷ []; least = pos 9 } ∷ record { terms = (neg_ℤ (pos 1), 4) ∷ []; least = neg_ℤ (pos 9) } ∷ [];
  vars = 4;
  selectors = [];
}

abbrev is_nine : List ℤ → Bool
is_nine [] = false
is_nine (z ∷ zs) = int_le z (pos 9) && int_le (pos 9) z

abbrev hull : Bounds → Bounds
hull region =
    (pos 0, pos 0) ∷ (pos 1, pos 1) ∷ interval_of_var region 1 ∷ interval_of_var region 1 ∷ []

abbrev one_cell : Instance
one_cell = record {
  olds = pos 5 ∷ [];
  domains = (pos 0, pos 10) ∷ [];
  root = (pos 0, pos 10) ∷ [];
  is_needed = λ k. k == 1;
  has_row = is_first;
  repairs = is_nine;
  system = λ row. system;
  hull = λ row. hull;
}

-- `split p1 CUT r1`, then `refuted r1` by `ge 4 4 BOUND` and `empty`, then another node
abbrev cert : Answer → ℤ → ℤ → Node → Cert
cert answer cut bound last = record {
  answer = answer;
  tree = record { nodes = Split 1 cut (Start 1) ∷ Refuted (Start 1) (Tight 4 4 (Low bound) ∷ Empty ∷ []) ∷ last ∷ [] };
}

abbrev bad : Cert → Option ℕ
bad c = first_bad_line one_cell one_cell.root c

nine : bad (cert (Repair (pos 9 ∷ [])) (pos 8) (pos 9) Dear) ≡ None
nine = refl

bound_too_strong : bad (cert (Repair (pos 9 ∷ [])) (pos 8) (pos 10) Dear) ≡ Some 5
bound_too_strong = refl

bound_does_not_cross : bad (cert (Repair (pos 9 ∷ [])) (pos 8) (pos 8) Dear) ≡ Some 6
bound_does_not_cross = refl

no_repair : bad (cert (Repair (pos 8 ∷ [])) (pos 8) (pos 9) Dear) ≡ Some 2
no_repair = refl

dear_under_none : bad (cert Nothing (pos 8) (pos 9) Dear) ≡ Some 7
dear_under_none = refl

cheaper_box : bad (cert (Repair (pos 9 ∷ [])) (pos 7) (pos 9) Dear) ≡ Some 7
cheaper_box = refl

open_under_repair : bad (cert (Repair (pos 9 ∷ [])) (pos 8) (pos 9) Open) ≡ Some 7
open_under_repair = refl

dear_under_budget : bad (cert Budget (pos 8) (pos 9) Dear) ≡ Some 7
dear_under_budget = refl

nothing_open : bad (cert (Best (pos 9 ∷ [])) (pos 8) (pos 9) Dear) ≡ Some 8
nothing_open = refl

least_open : at_least one_cell one_cell.root (cert Budget (pos 8) (pos 9) Open) ≡ 4
least_open = refl

-- ---- lean trees

-- what lean trees look at: the row is complained, and misses its goal at every point but 9
abbrev aims : Aims
aims = record {
  complained = Start 1 ∷ [];
  misses = λ point row. not (is_nine point);
  first_missed = λ point. cond (is_nine point) None (Some (Start 1));
}

abbrev nine_cert : Cert
nine_cert = cert (Repair (pos 9 ∷ [])) (pos 8) (pos 9) Dear

nine_nodes : All (λ leaf. NodeIsLean one_cell aims nine_cert leaf) (placed (one_cell.root ∷ []) nine_cert.tree.nodes)
nine_nodes =
    All-cons (λ leaf. NodeIsLean one_cell aims nine_cert leaf) ((pos 0, pos 10) ∷ [], Split 1 (pos 8) (Start 1)) (placed (((pos 0, pos 8) ∷ []) ∷ ((pos 9, pos 10) ∷ []) ∷ []) (Refuted (Start 1) (Tight 4 4 (Low (pos 9)) ∷ Empty ∷ []) ∷ Dear ∷ [])) (refl, refl, refl, refl)
    (All-cons (λ leaf. NodeIsLean one_cell aims nine_cert leaf) ((pos 0, pos 8) ∷ [], Refuted (Start 1) (Tight 4 4 (Low (pos 9)) ∷ Empty ∷ [])) (((pos 9, pos 10) ∷ [], Dear) ∷ []) (inr (inl refl), refl)
    (All-cons (λ leaf. NodeIsLean one_cell aims nine_cert leaf) ((pos 9, pos 10) ∷ [], Dear) [] tt
    (All-nil (λ leaf. NodeIsLean one_cell aims nine_cert leaf))))

-- over 0 to 8 the row closes the box, so it may not be split
abbrev closed_cert : Cert
closed_cert = record { answer = Nothing; tree = record { nodes = Split 1 (pos 4) (Start 1) ∷ Dear ∷ Dear ∷ [] } }

closed_box_split : IsLean one_cell aims ((pos 0, pos 8) ∷ []) closed_cert → ⊥
closed_box_split lean = false≢true (sym (lean.nodes 0 ((pos 0, pos 8) ∷ [], Dear) (omega arith)).1)
