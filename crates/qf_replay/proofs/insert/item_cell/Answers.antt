use Rattle.qf_replay.proofs.Items.{item_fits}
use Rattle.qf_replay.proofs.insert.item_cell.Goals as goal

pub cell_value-requires : goal.cell_value-requires
cell_value-requires c = rw c.index-tuple-place.is (item_fits c.args.tuple.now c.args.place c.args.point.now _ c.requires.fits c.requires.within)
