-- `writer_basic::numbers::run` meets its contract. Assumes nothing.
use native.Mathlib.Omega.{arith}
use mathlib.Core.Path.{refl}
use Rattle.meaning.proofs.RefusalLaws.{number_not_0}
use Rattle.writer_basic.proofs.Answers.{key_aligned}
use Rattle.writer_basic.proofs.Rows.{stopped_on, left_shut, left_short}
use Rattle.writer_basic.proofs.NumberRows.{numbers_on, numbers_stop, number_bounds}
use Rattle.writer_basic.proofs.numbers.run.Goals as goal

pub returns-then-events-all-eq-CONTAINER_END : goal.returns-then-events-all-eq-CONTAINER_END
returns-then-events-all-eq-CONTAINER_END g c = λ texts d s. left_shut _ _ _ _ _ _ _ _ _ _ _ _ _ (c.loop-all.invariant.left texts d _ s) (omega (arith, c.loop-all.invariant.within, c.loop-all-test.true)) c.if-events-all-eq-CONTAINER_END.true

pub number-requires : goal.number-requires
number-requires g c = (c.loop-all.invariant.within, omega (arith, c.add-start.ensures), key_aligned _ _ c.requires.0)

pub returns-in_err-one : goal.returns-in_err-one
returns-in_err-one g c =
    λ texts d s. stopped_on _ _ c.from_residual.ensures
    (numbers_stop _ _ c.requires.0 _ _ _ _ _ _ _ _ c.loop-all.invariant (omega (arith, c.loop-all.invariant.within, c.loop-all-test.true)) c.if-events-all-eq-CONTAINER_END.false _ _ _ c.in_err-one.ensures texts d _ s (number_not_0 _))

pub add-requires : goal.add-requires
add-requires g c =
    (omega (arith, c.loop-all.invariant.small), let q = number_bounds _ _ c.requires.0 _ _ _ _ _ _ _ c.in_ok-one.ensures refl in omega (arith, q.small))

pub loop-all-smaller : goal.loop-all-smaller
loop-all-smaller g c = let q = number_bounds _ _ c.requires.0 _ _ _ _ _ _ _ c.in_ok-one.ensures refl in omega (arith, q.forward, q.within)

pub loop-all-preserved : goal.loop-all-preserved
loop-all-preserved g c =
    numbers_on _ _ c.requires.0 _ _ _ _ _ _ _ _ c.loop-all.invariant (omega (arith, c.loop-all.invariant.within, c.loop-all-test.true)) c.if-events-all-eq-CONTAINER_END.false _ _ _ c.in_ok-one.ensures _ refl
    c.add-start.ensures c.add.ensures (omega (arith, c.loop-all.invariant.same, c.number.auto.out))

pub returns : goal.returns
returns g c = λ texts d s. left_short _ _ _ _ _ _ _ _ _ _ _ _ _ (c.loop-all.invariant.left texts d _ s) (omega (arith, c.loop-all.invariant.within, c.loop-all-test.false))
