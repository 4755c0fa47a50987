-- `framing_offset_size::FramingOffsetSize::read_last_offset_from_buffer` meets its contract. Assumes nothing.
use mathlib.Core.Path.{sym, ◌∙◌}
use Rattle.framing_offset_size.specs.Widths.{width_of}
use Rattle.framing_offset_size.proofs.WidthLaws.{last_empty, last_short, last_there}
use Rattle.framing_offset_size.proofs.FramingOffsetSize.read_last_offset_from_buffer.Goals as goal

pub returns-then-is_empty : goal.returns-then-is_empty
returns-then-is_empty c = last_empty (width_of c.args.self) c.args.buffer.now (sym c.is_empty.ensures ∙ c.if-is_empty.true)

pub returns-then-buffer-width : goal.returns-then-buffer-width
returns-then-buffer-width c =
    last_short (width_of c.args.self) c.args.buffer.now (sym c.is_empty.ensures ∙ c.if-is_empty.false) (rw c.width-width.ensures at c.if-buffer-width.true)

pub returns : goal.returns
returns c =
    c.offset_at.ensures
    ∙ last_there (width_of c.args.self) c.args.buffer.now (sym c.is_empty.ensures ∙ c.if-is_empty.false) c.width-width.ensures (rw c.width-width.ensures at c.if-buffer-width.false)
