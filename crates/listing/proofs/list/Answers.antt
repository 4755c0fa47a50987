-- `listing::list` meets its contract. The invariant: what is left of the block answers the whole of it, with what was printed in
-- front. Assumes nothing.
use mathlib.Core.Path.{refl}
use native.Mathlib.Omega.{arith}
use Rattle.listing.proofs.Blocks.{going_begin, going_next, going_short, going_end}
use Rattle.listing.proofs.list.Goals as goal

pub loop-passed-init : goal.loop-passed-init
loop-passed-init c = going_begin _ _ _

pub overflow_sub-out : goal.overflow_sub-out
overflow_sub-out c = let f = c.loop-passed.invariant.fits in omega arith

pub returns-then-out-written-lt84 : goal.returns-then-out-written-lt84
returns-then-out-written-lt84 c =
    going_short c.loop-passed.invariant c.loop-passed.auto.out c.loop-passed-test.true c.if-out-written-lt84.true

pub put_output-written-requires : goal.put_output-written-requires
put_output-written-requires c = let f = c.loop-passed.invariant.fits in omega arith

pub loop-passed-preserved : goal.loop-passed-preserved
loop-passed-preserved c =
    going_next c.loop-passed.invariant c.loop-passed.auto.out _ _ _ _ c.loop-passed-test.true c.if-out-written-lt84.false refl c.put_output-written.ensures c.step-s.ensures

pub returns : goal.returns
returns c = going_end c.loop-passed.invariant c.loop-passed.auto.out (omega arith)
