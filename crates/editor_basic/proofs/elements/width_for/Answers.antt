-- `width_for` meets its contract.
use Rattle.editor_basic.proofs.ElementLaws.{written_fitting}
use Rattle.editor_basic.proofs.elements.width_for.Goals as goal

pub returns : goal.returns
returns c = rw c.unwrap_or.ensures (written_fitting _ _ _ c.for_bare_container.ensures.width)
