-- `writer_basic::numbers::readings` meets its contract. Assumes nothing.
use native.Mathlib.Omega.{arith}
use mathlib.Core.Path.{refl}
use mathlib.Core.List.{[]}
use Rattle.meaning.proofs.RefusalLaws.{number_not_0}
use Rattle.container_depths.specs.Opening.{depths_of}
use Rattle.signature.specs.declared.Letter.TheVariants.{Number}
use Rattle.writer_basic.specs.Wrote.{key_basic}
use Rattle.writer_basic.proofs.Answers.{bounds, key_aligned}
use Rattle.writer_basic.proofs.Rows.{stopped_on, left_short, left_shut, left_stop, left_on}
use Rattle.writer_basic.proofs.NumberRows.{number_alignment, number_fixed, reading_alignment, reading_shorter}
use Rattle.writer_basic.proofs.numbers.readings.Goals as goal

pub overflow_sub-events : goal.overflow_sub-events
overflow_sub-events c = omega (arith, (c.loop-row.invariant []).within)

pub returns-then-events-row-eq-CONTAINER_END : goal.returns-then-events-row-eq-CONTAINER_END
returns-then-events-row-eq-CONTAINER_END c = λ texts. left_shut _ _ _ _ _ _ _ _ _ _ _ _ _ (c.loop-row.invariant texts) (omega (arith, (c.loop-row.invariant []).within, c.loop-row-test.true)) c.if-events-row-eq-CONTAINER_END.true

pub overflow_add-spot : goal.overflow_add-spot
overflow_add-spot c = omega (arith, (c.loop-row.invariant []).small, c.requires.1.near)

pub pad-padding-requires : goal.pad-padding-requires
pad-padding-requires c = (omega (arith, (c.loop-row.invariant []).small, c.requires.1.near), key_aligned _ _ c.requires.0)

pub overflow_add-row : goal.overflow_add-row
overflow_add-row c = omega (arith, (c.loop-row.invariant []).small, c.pad-padding.ensures.count.1)

pub add-start-requires : goal.add-start-requires
add-start-requires c = (omega (arith, c.requires.1.near), omega (arith, (c.loop-row.invariant []).small, c.pad-padding.ensures.count.1))

pub returns-in_err-one : goal.returns-in_err-one
returns-in_err-one c =
    λ texts. stopped_on _ _ c.from_residual.ensures
    (left_stop _ _ _ _ _ _ _ _ _ _ _ _ _ (c.loop-row.invariant texts) (omega (arith, (c.loop-row.invariant []).within, c.loop-row-test.true)) c.if-events-row-eq-CONTAINER_END.false _ 0 _ _ _ _ (c.in_err-one.ensures texts 0 _) (number_not_0 _))

pub overflow_add-row-in-loop-row : goal.overflow_add-row-in-loop-row
overflow_add-row-in-loop-row c = omega (arith, (c.loop-row.invariant []).small, c.pad-padding.ensures.count.1)

pub add-requires : goal.add-requires
add-requires c =
    (omega (arith, (c.loop-row.invariant []).small, c.pad-padding.ensures.count.1), let q = bounds refl (c.in_ok-one.ensures [] 0 []) in omega (arith, q.small))

pub keep-requires : goal.keep-requires
keep-requires c =
    omega (arith, (c.loop-row.invariant []).few, c.requires.1.few)

pub loop-row-smaller : goal.loop-row-smaller
loop-row-smaller c = let q = bounds refl (c.in_ok-one.ensures [] 0 []) in omega (arith, q.forward, q.within)

pub loop-row-preserved : goal.loop-row-preserved
loop-row-preserved c =
    λ texts. left_on _ _ _ _ _ _ _ _ _ _ _ _ _ (c.loop-row.invariant texts) (omega (arith, (c.loop-row.invariant []).within, c.loop-row-test.true)) c.if-events-row-eq-CONTAINER_END.false _ _ _ _ _ _ (c.in_ok-one.ensures texts _ _) _ _
    _ _ _ _ (reading_shorter texts c.args.context.big (key_basic (Number c.args.code c.args.width)) (depths_of c.args.context.depths) (number_fixed _ _ c.requires.0))
    (reading_alignment texts c.args.context.big (key_basic (Number c.args.code c.args.width)) (depths_of c.args.context.depths) _ _ (number_alignment _ _ c.requires.0)) refl
    c.pad-padding.ensures.count.0 c.pad-padding.ensures.bytes c.add-start.ensures refl c.add.ensures c.keep.ensures (omega (arith, (c.loop-row.invariant []).same)) (omega (arith, (c.loop-row.invariant []).same))
    (omega (arith, (c.loop-row.invariant []).sames)) (omega (arith, (c.loop-row.invariant []).sames))

pub returns : goal.returns
returns c = λ texts. left_short _ _ _ _ _ _ _ _ _ _ _ _ _ (c.loop-row.invariant texts) (omega (arith, (c.loop-row.invariant []).within, c.loop-row-test.false))
