use Rattle.std.proofs.Common.{ap, ◌∙◌}
use Rattle.std.specs.BTreeSet.{insert_key}
use Rattle.qf_board.specs.Kept.{key_cmp}
use Rattle.qf_board.specs.declared.keys.Key.{Key}
use Rattle.std.specs.Prelude.{List}
use Rattle.qf_board.proofs.board.first_key.Goals as goal

pub returns-clause-key : goal.returns-clause-key
returns-clause-key c =
    let key = c.in_ok-key_of.field-0 in
    record {
      key = key;
      only = c.in_ok-insert.ensures.keys ∙ ap (λ (keys : List Key). insert_key key_cmp keys key) c.new-left.ensures.empty;
      is = c.in_ok-key_of.ensures.key;
    }
