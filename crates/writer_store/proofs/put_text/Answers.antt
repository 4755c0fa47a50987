-- `writer_store::put_text` meets its contract. Assumes nothing.
use Rattle.writer_store.proofs.Puts.{puts_snoc}
use Rattle.writer_store.proofs.put_text.Goals as goal

pub returns : goal.returns
returns c = λ h. rw c.copy_all.ensures (puts_snoc _ _ _ _)
