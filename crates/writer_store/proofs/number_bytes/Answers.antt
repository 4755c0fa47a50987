-- `writer_store::number_bytes` meets its contract. Assumes nothing.
use mathlib.Core.Path.{sym}
use Rattle.writer_store.proofs.Puts.{puts_out}
use Rattle.writer_store.proofs.number_bytes.Goals as goal

pub returns-then-out-at : goal.returns-then-out-at
returns-then-out-at c = sym (puts_out _ _ _ c.if-out-at.true)
