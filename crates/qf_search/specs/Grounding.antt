-- What a search stands on.
use Rattle.std.specs.Prelude.{◌≡◌, ℕ, false, length}
use Rattle.qf_base.specs.declared.names.RowName.{RowName}
use Rattle.qf_base.specs.Values.{Bounds}
use Rattle.qf_lin.specs.Steps.{is_closable}
use Rattle.qf_goal.specs.SoundCase.{IsSoundCase}
use Rattle.qf_tree.specs.Certificates.{Instance}
use Rattle.qf_replay.specs.BirthPlaces.{births_of}
use Rattle.qf_instance.specs.Instances.{instance_of, is_marked, IsInstance}
use Rattle.qf_search.specs.declared.grounds.Grounds.{Grounds}
use Rattle.qf_search.specs.declared.grounds.Store.{Store}
use Rattle.qf_search.specs.declared.grounds.Tools.{Tools}
use Rattle.qf_instance.specs.RowsMade.{AreMade}

abbrev pub instance : Grounds → Instance
instance g = instance_of g.problem.now g.root (λ (k : ℕ). is_marked g.marks k)

-- the box is the root box, the marks say which parameters are needed, and the births are those of the log
pub record AreGrounds (g : Grounds) : Type 0 where
  pub is : IsInstance g.problem.now (instance g)
  pub sound : IsSoundCase g.problem.now
  pub births : g.births ≡ births_of g.problem.now.plan.statements

-- what was made is right, and there is room for a row
pub record AreTools (g : Grounds) (tools : Tools) : Type 0 where
  pub made : AreMade g.problem.now g.root tools.made
  pub replay : tools.replay ≡ length g.problem.now.plan.columns

-- .. and for a point
pub record IsReady (g : Grounds) (store : Store) : Type 0 where
  pub tools : AreTools g store.tools
  pub room : length store.point ≡ length g.root

-- the row does not close the box
abbrev pub IsOpenRow : Grounds → Bounds → RowName → Type 0
IsOpenRow g region row = is_closable ((instance g).system row) ((instance g).hull row region) ≡ false
