-- `writer_ends::width` meets its contract. Assumes nothing.
use Rattle.writer_store.proofs.Puts.{width_1, width_2, width_4}
use native.Mathlib.Omega.{arith}
use Rattle.writer_ends.proofs.width.Goals as goal

pub returns-then-body-count-le255 : goal.returns-then-body-count-le255
returns-then-body-count-le255 c = (width_1 _ _ (omega arith), omega arith, omega arith)

pub returns-then-body-count-le65535 : goal.returns-then-body-count-le65535
returns-then-body-count-le65535 c = (width_2 _ _ (omega arith) (omega arith), omega arith, omega arith)

pub returns : goal.returns
returns c = (width_4 _ _ (omega arith) (omega arith) (omega arith) (omega arith), omega arith, omega arith)
