-- `writer_store::copy_ends` meets its contract. Assumes nothing.
use native.Mathlib.Omega.{arith}
use mathlib.Core.Path.{◌∙◌}
use Rattle.writer_store.proofs.Puts.{overlap}
use Rattle.writer_store.proofs.copy_ends.Goals as goal

pub returns : goal.returns
returns g c = c.copy_block-2.ensures ∙ rw c.copy_block.ensures (overlap _ _ _ _ _ (omega arith) (omega arith))
