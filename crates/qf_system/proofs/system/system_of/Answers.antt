use Rattle.std.proofs.Common.{◌↔◌, ◌≡◌, IsTrue}
use Rattle.std.proofs.lemmas.Result.{IfOk-weaker}
use Rattle.qf_lin.specs.declared.inequality.System.{System}
use Rattle.qf_lin.specs.Inequalities.{AllHold, IsWellFormed}
use Rattle.qf_circuit.specs.Circuits.{eval, IsCircuit}
use Rattle.qf_ir.specs.Life.{ending}
use Rattle.qf_ir.specs.Repairs.{meets}
use Rattle.qf_encode.specs.Systems.{system_of}
use Rattle.qf_encode.proofs.GoalsMet.{row_encoded}
use Rattle.qf_system.proofs.GoalSystems.{system_well_formed}
use Rattle.qf_system.proofs.system.system_of.Goals as goal

pub returns-clause-system : goal.returns-clause-system
returns-clause-system c =
    let coded = c.args.coded.now in
    let root = c.args.root.now in
    let g = c.args.goal.now in
    IfOk-weaker c.goal_system.result (λ (system : System). (system ≡ system_of coded root g) × IsCircuit coded.circuit) (λ (system : System). system ≡ system_of coded root g) (λ (system : System) (h : (system ≡ system_of coded root g) × IsCircuit coded.circuit). h.0) c.goal_system.ensures

pub returns-clause-well_formed : goal.returns-clause-well_formed
returns-clause-well_formed c = λ width narrow own.
    let coded = c.args.coded.now in
    let root = c.args.root.now in
    let g = c.args.goal.now in
    IfOk-weaker c.goal_system.result (λ (system : System). (system ≡ system_of coded root g) × IsCircuit coded.circuit) (λ (system : System). IsWellFormed system) (λ (system : System) (h : (system ≡ system_of coded root g) × IsCircuit coded.circuit). let e = h.0 in rw e (system_well_formed width coded root g h.1 c.requires.few narrow own)) c.goal_system.ensures

pub returns-clause-alone : goal.returns-clause-alone
returns-clause-alone c = λ moment point values codes inside within params fits.
    let coded = c.args.coded.now in
    let root = c.args.root.now in
    let g = c.args.goal.now in
    IfOk-weaker c.goal_system.result (λ (system : System). (system ≡ system_of coded root g) × IsCircuit coded.circuit) (λ (system : System). AllHold system.inequalities values ↔ ((values ≡ eval point coded.circuit) × IsTrue (meets (ending moment) g))) (λ (system : System) (h : (system ≡ system_of coded root g) × IsCircuit coded.circuit). let e = h.0 in rw e (row_encoded coded moment g root point values codes h.1 inside within params fits)) c.goal_system.ensures
