-- `de::read_number` gives what `number_at` says, for each width. Assumes nothing.
use mathlib.Core.Path.{◌∙◌}
use Rattle.byte_order.proofs.Standings.{number_of_is}
use Rattle.framing_offset_size.proofs.WidthLaws.{width_aligns}
use Rattle.de.proofs.read_number.Goals as goal

pub returns : goal.returns
returns c = c.number_at.ensures ∙ rw c.width.ensures (number_of_is _ _ _ (width_aligns c.args.size))
