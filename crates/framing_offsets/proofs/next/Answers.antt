-- That `next` gives what the table says of a number, by the table's own bytes. Assumes nothing.
use Rattle.framing_offset_size.proofs.WidthLaws.{width_positive}
use Rattle.framing_offsets.specs.Tables.{table_in}
use Rattle.framing_offsets.proofs.TableLaws.{offset_behind}
use Rattle.framing_offsets.proofs.HeldLaws.{offset_beyond, offset_through}
use Rattle.framing_offsets.proofs.next.Goals as goal

pub returns-then-offsets-i : goal.returns-then-offsets-i
returns-then-offsets-i c = offset_behind (table_in c.args.offsets) _ c.args.container.now c.if-offsets-i.true

pub returns-then-container-start : goal.returns-then-container-start
returns-then-container-start c =
    let a = c.args in
    offset_beyond (table_in a.offsets) a.i a.container.now c.if-offsets-i.false (width_positive a.offsets.size) c.if-container-start.true

pub returns : goal.returns
returns c =
    let a = c.args in
    offset_through (table_in a.offsets) a.i a.container.now c.if-offsets-i.false (width_positive a.offsets.size) c.next_in.ensures
