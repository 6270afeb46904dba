use Rattle.qf_board.proofs.BoardLaws.{sound_start, sound_after, sound_after_all}
use Rattle.qf_board.proofs.Others.{others_after}
use Rattle.qf_board.specs.Boards.{start, after_all}
use Rattle.qf_board.proofs.laws.others_keep_their_boxes.Goals as goal

pub returns : goal.returns
returns c root prices explorers events next other same spans can can_next apart =
    let s = after_all (start root prices explorers) events in
    let sound = sound_after_all (start root prices explorers) events can (sound_start root prices explorers same spans) in
    others_after s next other can_next apart sound (sound_after s next can_next sound)
