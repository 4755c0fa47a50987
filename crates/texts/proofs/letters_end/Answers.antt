-- `letters_end` meets its contract. Assumes nothing.
use Rattle.std.proofs.Common.{arith}
use Rattle.texts.proofs.Runs.{plain_next, plain_on}
use Rattle.texts.proofs.letters_end.Goals as goal

pub loop-i-preserved-then-plain-2 : goal.loop-i-preserved-then-plain-2
loop-i-preserved-then-plain-2 c =
    let p = c.plain.ensures c.if-plain.true in
    plain_on _ _ _ _ (plain_next _ _ _ c.loop-i.invariant (omega arith) p.0 p.1) c.plain_end-i.ensures

pub loop-i-preserved-else-plain-2 : goal.loop-i-preserved-else-plain-2
loop-i-preserved-else-plain-2 c = let p = c.plain.ensures c.if-plain.true in plain_next _ _ _ c.loop-i.invariant (omega arith) p.0 p.1
