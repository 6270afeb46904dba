use Rattle.std.proofs.Common.{◌≡◌, ◌∙◌, ap, subst, ℕ, map, List, IfOk}
use Rattle.qf_ir.specs.Texts.{code_in, with_texts}
use Rattle.qf_ir.specs.Tables.{names_of}
use Rattle.qf_ir.specs.Numbered.{Numbering, numbered_statement, numbering_of, joint_texts}
use Rattle.qf_ir.proofs.making.parts.numbered.Goals as goal

pub returns-clause-statements : goal.returns-clause-statements
returns-clause-statements c =
    let table = c.args.table.now in
    let names = c.args.names.now in
    let texts = c.args.texts.now in
    let is_columns : c.in_ok-columns.columns ≡ map (code_in (names_of table.columns)) names =
    c.in_ok-columns.ensures ∙ ap (λ xs. map (code_in (names_of xs)) names) c.as_slice.ensures in
    let is_codes : c.in_ok-codes.codes ≡ map (code_in (joint_texts table texts)) texts =
    c.in_ok-codes.ensures.codes ∙ ap (λ (xs : List (List ℕ)). map (code_in (with_texts xs texts)) texts) c.requires.joint in
    let is : ◌≡◌ {A = Numbering} (record { columns = c.in_ok-columns.columns; codes = c.in_ok-codes.codes }) (numbering_of table names texts) =
    ap (λ (ks : List ℕ). let n : Numbering = record { columns = ks; codes = c.in_ok-codes.codes } in n) is_columns
    ∙ ap (λ (ks : List ℕ). let n : Numbering = record { columns = map (code_in (names_of table.columns)) names; codes = ks } in n) is_codes in
    subst (λ (n : Numbering). IfOk c.renumbered.result (λ made. made ≡ map (numbered_statement n) c.args.statements.now)) is c.renumbered.ensures
