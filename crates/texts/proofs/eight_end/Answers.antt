-- `eight_end` meets its contract. Assumes nothing.
use Rattle.std.proofs.Common.{arith}
use Rattle.texts.proofs.Runs.{bytes_run}
use Rattle.texts.proofs.eight_end.Goals as goal

pub returns-then-plain_bytes : goal.returns-then-plain_bytes
returns-then-plain_bytes c = bytes_run _ _ 8 (omega arith) (c.plain_bytes.ensures c.if-plain_bytes.true)
