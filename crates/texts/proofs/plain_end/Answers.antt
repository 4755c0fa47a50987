-- `plain_end` meets its contract. Assumes nothing.
use Rattle.std.proofs.Common.{arith}
use Rattle.texts.proofs.Runs.{plain_next}
use Rattle.texts.proofs.plain_end.Goals as goal

pub loop-i-preserved : goal.loop-i-preserved
loop-i-preserved c = let p = c.plain.ensures c.if-not-plain.false in plain_next _ _ _ c.loop-i.invariant (omega arith) p.0 p.1
