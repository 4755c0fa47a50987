-- `writer_store::put_type` meets its contract. Assumes nothing.
use mathlib.Core.Path.{◌∙◌}
use Rattle.writer_store.proofs.Puts.{puts_front}
use Rattle.writer_store.proofs.put_type.Goals as goal

pub returns : goal.returns
returns c = λ h. c.copy_all.ensures ∙ puts_front _ _ _ _
