-- `utils::reaches` says, as `holds` does, whether so many bytes stand at a place; no sum is taken that could wrap. Assumes nothing.
use Rattle.std.proofs.Common.{◌∙◌}
use borrow.Author.Tests.{lt-leb}
use Rattle.utils.proofs.Places.{holds_not, holds_rest}
use Rattle.utils.proofs.reaches.Goals as goal

pub returns-then-place-part : goal.returns-then-place-part
returns-then-place-part c = holds_rest c.args.part.now _ _ c.if-place-part.true

pub returns-else-place-part : goal.returns-else-place-part
returns-else-place-part c = lt-leb _ _ c.if-place-part.false ∙ holds_not c.args.part.now _ _ c.if-place-part.false
