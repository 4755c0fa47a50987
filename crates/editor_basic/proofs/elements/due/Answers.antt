-- `due` meets its contract.
use Rattle.editor_basic.proofs.ElementLaws.{due_masked}
use Rattle.meaning.proofs.PaddingLaws.{aligns_positive}
use Rattle.editor_basic.proofs.elements.due.Goals as goal

pub overflow_sub-result : goal.overflow_sub-result
overflow_sub-result c = aligns_positive c.requires

pub returns : goal.returns
returns c = due_masked c.requires _ _ c.wrapping_neg.ensures
