use Rattle.std.proofs.Common.{◌↔◌, ◌≡◌}
use Rattle.std.proofs.lemmas.Result.{IfOk-weaker}
use Rattle.qf_lin.specs.declared.inequality.System.{System}
use Rattle.qf_lin.specs.Inequalities.{AllHold, IsWellFormed}
use Rattle.qf_circuit.specs.Circuits.{eval}
use Rattle.qf_rows.specs.Encoding.{circuit_system}
use Rattle.qf_rows.proofs.Forms.{well_formed}
use Rattle.qf_rows.proofs.Systems.{matches_over}
use Rattle.qf_rows.proofs.system.rows_of.Goals as goal

pub returns-clause-well_formed : goal.returns-clause-well_formed
returns-clause-well_formed c =
    let defs = c.args.circuit.now in
    let hull = c.args.root.now in
    IfOk-weaker c.system_over.result (λ (system : System). system ≡ circuit_system hull defs) (λ (system : System). IsWellFormed system) (λ (system : System) (e : system ≡ circuit_system hull defs). rw e (well_formed hull defs c.system_over.ensures.circuit.names c.requires.few)) c.system_over.ensures.system

pub returns-clause-alone : goal.returns-clause-alone
returns-clause-alone c = λ region point values same inside within params.
    let defs = c.args.circuit.now in
    let hull = c.args.root.now in
    IfOk-weaker c.system_over.result (λ (system : System). system ≡ circuit_system hull defs) (λ (system : System). AllHold system.inequalities values ↔ (values ≡ eval point defs)) (λ (system : System) (e : system ≡ circuit_system hull defs). rw e (matches_over defs hull region point c.system_over.ensures.circuit same inside values within params)) c.system_over.ensures.system
