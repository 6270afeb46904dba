use Rattle.std.proofs.Common.{◌≡◌, ◌<◌, ◌^◌, ℤ, List, Some, length}
use Rattle.qf_circuit.specs.Circuits.{circuit_size}
use Rattle.qf_ir.specs.Life.{birth}
use Rattle.qf_ir.specs.Plan.{final_outcome}
use Rattle.qf_encode.specs.declared.coded.Coded.{Coded}
use Rattle.qf_encode.specs.Coding.{circuit_of}
use Rattle.qf_encode.specs.Lives.{NamesDefinitions, CodesBirth, CodesOutcome}
use Rattle.qf_encode.proofs.RowBirths.{if_ok, plan_size}
use Rattle.qf_encode.proofs.Outcomes.{plan_names, plan_lives, plan_outcomes}
use Rattle.qf_encode.proofs.encode.circuit_of.Goals as goal

pub returns-clause-small : goal.returns-clause-small
returns-clause-small c =
    let plan = c.args.program.now in
    let table = c.args.table.now in
    if_ok c.coded_row.result (λ (x : Coded). circuit_of (length plan.columns) table.rows plan.statements c.args.row ≡ Some x) (λ (x : Coded). circuit_size x.circuit < 2 ^ 29) (λ x e. plan_size plan table c.args.row x c.coded_row.ensures.sound c.requires.belongs e) c.coded_row.ensures.coded

pub returns-clause-named : goal.returns-clause-named
returns-clause-named c =
    let plan = c.args.program.now in
    let table = c.args.table.now in
    if_ok c.coded_row.result (λ (x : Coded). circuit_of (length plan.columns) table.rows plan.statements c.args.row ≡ Some x) (λ (x : Coded). NamesDefinitions (length plan.columns) x) (λ x e. plan_names plan table c.args.row x c.coded_row.ensures.sound c.requires.belongs e) c.coded_row.ensures.coded

pub returns-clause-lives : goal.returns-clause-lives
returns-clause-lives c =
    let plan = c.args.program.now in
    let table = c.args.table.now in
    if_ok c.coded_row.result (λ (x : Coded). circuit_of (length plan.columns) table.rows plan.statements c.args.row ≡ Some x) (λ (x : Coded). (point : List ℤ) → CodesBirth point (Some x) (birth (length plan.columns) table.rows plan.statements c.args.row point)) (λ x e point. plan_lives plan table c.args.row x point c.coded_row.ensures.sound c.requires.belongs e) c.coded_row.ensures.coded

pub returns-clause-outcomes : goal.returns-clause-outcomes
returns-clause-outcomes c =
    let plan = c.args.program.now in
    let table = c.args.table.now in
    if_ok c.coded_row.result (λ (x : Coded). circuit_of (length plan.columns) table.rows plan.statements c.args.row ≡ Some x) (λ (x : Coded). (point : List ℤ) → CodesOutcome point x (final_outcome plan table c.args.row point)) (λ x e point. plan_outcomes plan table c.args.row x point c.coded_row.ensures.sound c.requires.belongs c.requires.exists e) c.coded_row.ensures.coded
