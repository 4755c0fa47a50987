-- `letter_inside` meets its contract. Assumes nothing.
use mathlib.Core.Path.{sym, ◌∙◌}
use Rattle.signature.proofs.Letters.{letter_some}
use Rattle.signature_table.proofs.letter_inside.Goals as goal

pub returns : goal.returns
returns c = c.letter_of.ensures ∙ sym (letter_some c.args.text.now c.args.at c.requires)
