-- The needs of `array::items`, and what answers each.
use Rattle.meaning.proofs.RefusalLaws.{number_not_0}
use Rattle.writer_basic.proofs.Rows.{stopped_on, left_on, left_short, left_shut, left_stop}
use Rattle.writer_cycle.proofs.EntryRows.{item_alignment, item_shorter}
use Rattle.writer_cycle.proofs.Spots.{item_as}
use mathlib.Core.Path.{refl}
use native.Mathlib.Omega.{arith}
use Rattle.writer_cycle.proofs.+writing.Goals as goal

pub returns-then-events-row-eq-CONTAINER_END : goal.array::items-returns-then-events-row-eq-CONTAINER_END
returns-then-events-row-eq-CONTAINER_END t c =
    (left_shut _ _ _ _ _ _ _ _ _ _ _ _ _ c.loop-row.invariant (omega (arith, c.loop-row.invariant.within, c.loop-row-test.true)) c.if-events-row-eq-CONTAINER_END.true)

pub returns-in_err-r : goal.array::items-returns-in_err-r
returns-in_err-r t c =
    stopped_on _ _ c.from_residual.ensures
    (left_stop _ _ _ _ _ _ _ _ _ _ _ _ _ c.loop-row.invariant (omega (arith, c.loop-row.invariant.within, c.loop-row-test.true)) c.if-events-row-eq-CONTAINER_END.false _ _ _ _ _ _ (item_as c.child_spot-here.ensures _ _ _ _ _ _ c.in_err-r.ensures) (number_not_0 _))

pub loop-row-preserved : goal.array::items-loop-row-preserved
loop-row-preserved t c =
    left_on _ _ _ _ _ _ _ _ _ _ _ _ _ c.loop-row.invariant (omega (arith, c.loop-row.invariant.within, c.loop-row-test.true)) c.if-events-row-eq-CONTAINER_END.false _ _ _ _ _ _
    (item_as c.child_spot-here.ensures _ _ _ _ _ _ c.in_ok-r.ensures) _ _ _ _ _ _ (item_shorter _ _ _ _ _ _) (item_alignment _ _ _ _ _ _ c.requires.0 _ _) refl c.pad-padding.ensures.count.0
    c.pad-padding.ensures.bytes refl refl c.add.ensures c.keep.ensures (omega (arith, c.loop-row.invariant.same, c.one.auto.out, c.one.auto.ends, c.pad-padding.auto.out))
    (omega (arith, c.loop-row.invariant.same, c.one.auto.out, c.one.auto.ends, c.pad-padding.auto.out, c.keep.auto.out, c.keep.auto.ends)) (omega (arith, c.loop-row.invariant.sames, c.one.auto.out, c.one.auto.ends))
    (omega (arith, c.loop-row.invariant.sames, c.one.auto.out, c.one.auto.ends, c.keep.auto.out, c.keep.auto.ends))

pub returns : goal.array::items-returns
returns t c =
    (left_short _ _ _ _ _ _ _ _ _ _ _ _ _ c.loop-row.invariant (omega (arith, c.loop-row.invariant.within, c.loop-row-test.false)))
