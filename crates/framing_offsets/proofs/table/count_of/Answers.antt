-- That `count_of` counts the offsets that a table's own bytes hold. Assumes nothing.
use Rattle.framing_offset_size.specs.Widths.{width_of}
use Rattle.framing_offsets.proofs.HeldLaws.{count_held}
use Rattle.framing_offsets.proofs.table.count_of.Goals as goal

pub returns : goal.returns
returns c = count_held (width_of c.args.size) c.args.table.now c.count_in.ensures
