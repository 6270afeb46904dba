use Rattle.std.proofs.Common.{refl, ap, ◌∙◌, List}
use Rattle.std.specs.BTreeMap.{is_at}
use Rattle.std.specs.BTreeSet.{insert_key}
use Rattle.std.specs.Set.{remove_key}
use Rattle.qf_board.specs.declared.keys.Key.{Key}
use Rattle.qf_board.specs.Kept.{key_cmp}
use Rattle.qf_board.proofs.KeySets.{undone, same_parts}
use Rattle.qf_board.proofs.keys.replace_key.Goals as goal

pub returns-in-Ok-clause-ok : goal.returns-in-Ok-clause-ok
returns-in-Ok-clause-ok c =
    c.remove.ensures.keys
    ∙ ap (λ (ks : List Key). remove_key (is_at (key_cmp c.args.gone.now)) ks) (c.in-Ok.ensures.keys ∙ ap (λ (ks : List Key). insert_key key_cmp ks c.args.second) c.in_ok-insert.ensures.keys)

pub returns-clause-err : goal.returns-clause-err
returns-clause-err c =
    let undo : Key = record { cost = c.args.first.cost; values = c.in_ok-from_slice.field-0; leaf = c.args.first.leaf } in
    let same = same_parts undo c.args.first refl (c.in_ok-from_slice.ensures.items ∙ c.as_slice.ensures.value) refl in
    c.remove-in-Err.ensures.keys
    ∙ (ap (λ (ks : List Key). remove_key (is_at (key_cmp undo)) ks) (c.in-Err.ensures.err ∙ c.in_ok-insert.ensures.keys) ∙ undone c.args.keys.now.keys c.args.first undo same c.requires)
