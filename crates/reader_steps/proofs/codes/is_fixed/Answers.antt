-- `reader_steps::codes::is_fixed` meets its contract. Assumes nothing.
use Rattle.std.proofs.Common.{◌∙◌}
use Rattle.meaning.specs.TypeText.{basic_among}
use Rattle.signature.specs.Places.{letter_by}
use Rattle.reader_steps.proofs.Characters.{fixed_by}
use Rattle.reader_steps.proofs.codes.is_fixed.Goals as goal

pub returns-then-code-eq98 : goal.returns-then-code-eq98
unfolding letter_by basic_among
returns-then-code-eq98 c = rw c.if-code-eq98.true

pub returns-else-code-eq98 : goal.returns-else-code-eq98
returns-else-code-eq98 c = c.is_some.ensures ∙ fixed_by _ _ c.number_width.ensures c.if-code-eq98.false
