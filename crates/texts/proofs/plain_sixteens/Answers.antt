-- `plain_sixteens` meets its contract. Assumes nothing.
use Rattle.std.proofs.Common.{arith}
use Rattle.texts.proofs.Runs.{plain_on, bytes_run}
use Rattle.texts.proofs.plain_sixteens.Goals as goal

pub loop-i-preserved : goal.loop-i-preserved
loop-i-preserved c = plain_on _ _ _ _ c.loop-i.invariant (bytes_run _ _ 16 (omega arith) (c.plain_bytes.ensures c.if-plain_bytes.true))
