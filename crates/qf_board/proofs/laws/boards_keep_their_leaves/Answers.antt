use Rattle.qf_board.proofs.BoardLaws.{partition, sound_start, sound_after_all}
use Rattle.qf_board.specs.Boards.{start, after_all}
use Rattle.qf_board.proofs.laws.boards_keep_their_leaves.Goals as goal

pub returns : goal.returns
returns c root prices explorers events same spans can =
    let sound = sound_after_all (start root prices explorers) events can (sound_start root prices explorers same spans) in
    (partition (after_all (start root prices explorers) events) sound.stands, sound.holds_one)
