-- `framing_offsets::count` gives how many offsets stand from a start on, as `count_from` says. Assumes nothing.
use Rattle.framing_offsets.proofs.TableLaws.{count_past, count_there}
use Rattle.framing_offset_size.specs.Widths.{width_of}
use Rattle.framing_offsets.proofs.count.Goals as goal

pub returns-then-container-start : goal.returns-then-container-start
returns-then-container-start c = count_past (width_of c.args.size) _ c.args.container.now c.if-container-start.true

pub returns : goal.returns
returns c = count_there (width_of c.args.size) c.args.start c.args.container.now c.count_in.ensures
