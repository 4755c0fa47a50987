-- `lines::gather` meets its contract. The invariant: what is left of the block answers the whole of it. Assumes nothing.
use native.Mathlib.Omega.{arith}
use Rattle.lines.proofs.GatherLaws.{going_begin, going_end, going_next, going_stop}
use Rattle.lines.proofs.gather.Goals as goal

pub loop-i-init : goal.loop-i-init
loop-i-init c = going_begin _ _ _

pub returns-then-byte-eq10 : goal.returns-then-byte-eq10
returns-then-byte-eq10 c = going_end c.loop-i.invariant c.loop-i-test.true c.if-byte-eq10.true

pub loop-i-preserved : goal.loop-i-preserved
loop-i-preserved c =
    going_next c.loop-i.invariant _ _ c.loop-i-test.true c.if-byte-eq10.false c.keep-count.ensures.0 c.keep-count.ensures.1

pub returns : goal.returns
returns c = going_stop c.loop-i.invariant (omega arith)
