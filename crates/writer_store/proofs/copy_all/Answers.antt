-- `writer_store::copy_all` meets its contract. Assumes nothing.
use native.Mathlib.Omega.{arith}
use Rattle.writer_store.proofs.Puts.{puts_empty, puts_one}
use Rattle.writer_store.proofs.copy_all.Goals as goal

pub returns-then-part-gt0 : goal.returns-then-part-gt0
returns-then-part-gt0 c = puts_one _ _ _ (omega arith)

pub returns-else-part-gt0 : goal.returns-else-part-gt0
returns-else-part-gt0 c = puts_empty _ _ _ (omega arith)
