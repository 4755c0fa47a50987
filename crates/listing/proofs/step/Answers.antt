-- `listing::step` meets its contract: a law for each way out. Assumes nothing.
use native.Mathlib.Omega.{arith}
use Rattle.listing.specs.States.{spoiled, halved}
use Rattle.listing.proofs.Steps.{step_end, step_letter, step_spoilt, step_first, step_second}
use Rattle.listing.proofs.step.Goals as goal

pub returns-then-byte-eq10 : goal.returns-then-byte-eq10
returns-then-byte-eq10 c = step_end _ _ _ c.if-byte-eq10.true c.next_number.ensures

pub returns-then-s-eq0 : goal.returns-then-s-eq0
returns-then-s-eq0 c = step_letter _ _ _ _ c.if-byte-eq10.false c.if-s-eq0.true c.told-text c.keep.ensures.0 c.keep.ensures.1

pub returns-in-None-default : goal.returns-in-None-default
unfolding spoiled
returns-in-None-default c =
    step_spoilt _ _ c.if-byte-eq10.false c.if-s-eq0.false (rw c.in-None-default.is-0 at c.digit.ensures.value)

pub returns-in-Some-None : goal.returns-in-Some-None
unfolding halved
returns-in-Some-None c =
    let e = c.in-Some-None.ensures.value in
    let k = c.in-Some-None.ensures.small in
    step_first _ _ _ c.if-byte-eq10.false c.if-s-eq0.false (omega arith) (omega arith) c.in-Some-None.is-1

pub returns-in-Some-Some : goal.returns-in-Some-Some
returns-in-Some-Some c =
    let e = c.in-Some-Some.ensures.value in
    let k = c.in-Some-Some.ensures.small in
    step_second _ _ _ _ _ _ c.if-byte-eq10.false c.if-s-eq0.false (omega arith) (omega arith) c.in-Some-Some.is-1 c.told-frame c.keep-in-Some-Some.ensures.0 c.keep-in-Some-Some.ensures.1
