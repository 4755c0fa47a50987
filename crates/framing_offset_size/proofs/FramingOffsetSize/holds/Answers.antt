-- `framing_offset_size::FramingOffsetSize::holds` meets its contract. Assumes nothing.
use Rattle.framing_offset_size.proofs.WidthLaws.{fits_count}
use Rattle.framing_offset_size.specs.Widths.{width_of}
use Rattle.meaning.proofs.OffsetSteps.{too_long}
use borrow.Author.Tests.{lt-leb}
use mathlib.Core.Path.{sym, ◌∙◌}
use Rattle.framing_offset_size.proofs.FramingOffsetSize.holds.Goals as goal

pub returns-then-len-most : goal.returns-then-len-most
returns-then-len-most c = fits_count c.args.self _ _ c.max-most.ensures c.if-len-most.true c.count_in.ensures

pub returns-else-len-most : goal.returns-else-len-most
returns-else-len-most c =
    lt-leb _ _ c.if-len-most.false ∙ sym (too_long (width_of c.args.self) c.args.len c.args.count _ (rw c.max-most.ensures at c.if-len-most.false))
