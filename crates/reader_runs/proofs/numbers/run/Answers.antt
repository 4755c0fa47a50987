-- `reader_runs::numbers::run` meets its contract. Assumes nothing.
use mathlib.Core.Path.{◌∙◌}
use native.Mathlib.Omega.{arith}
use Rattle.byte_order.proofs.Standings.{number_known}
use Rattle.utils.proofs.Answered.{checked_value}
use Rattle.meaning.proofs.PaddingLaws.{aligns_positive}
use Rattle.meaning.proofs.TypeLaws.{aligns_most}
use Rattle.reader_runs.proofs.NumberLaws.{run_begin, run_next, run_short, run_full, found_there}
use Rattle.reader_runs.proofs.numbers.run.Goals as goal
use Rattle.reader_runs.proofs.numbers.run.Goals.{then-loop-count-test+else-at-len, then-loop-count-test+then-at-len+else-len-at, else-loop-count-test}

pub loop-count-init : goal.loop-count-init
loop-count-init g c =
    run_begin _ _ _ _ _ _ _ _ c.requires.2 c.requires.1

pub overflow_sub-len : goal.overflow_sub-len
overflow_sub-len g c =
    omega (arith, c.loop-count.invariant.bound)

pub overflow_add-place : goal.overflow_add-place
overflow_add-place g c =
    omega (arith, c.loop-count.invariant.bound)

pub overflow_add-at : goal.overflow_add-at
overflow_add-at g c =
    omega (arith, c.loop-count.invariant.bound)

pub loop-count-smaller : goal.loop-count-smaller
loop-count-smaller g c =
    omega (arith, c.if-len-at.true, aligns_positive c.requires.2)

pub loop-count-preserved : goal.loop-count-preserved
loop-count-preserved g c =
    let found = c.unwrap_or-found.ensures ∙ checked_value c.number.result ∙ found_there _ _ _ _ _ (c.number.ensures ∙ number_known _ _ _ _ (aligns_most c.requires.2)) c.loop-count.invariant.bound c.if-len-at.true in
    run_next _ _ _ _ _ _ _ _ _ _ _ c.loop-count.invariant c.requires.2 _ _ _ c.if-len-at.true found c.emit-count.ensures.counted (c.emit-count.ensures.written ∙ rw c.from-kind.ensures)

pub counted-requires : goal.counted-requires
counted-requires g c = aligns_positive c.requires.2

pub returns : goal.returns
returns g c = elim c.loop-count-test.branch [
  | then-loop-count-test+else-at-len w ↦ run_short _ _ _ _ _ _ _ _ _ _ _ c.loop-count.invariant _ c.counted.ensures (omega arith) (omega (arith, w.if-at-len.false, aligns_positive c.requires.2))
  | then-loop-count-test+then-at-len+else-len-at w ↦ run_short _ _ _ _ _ _ _ _ _ _ _ c.loop-count.invariant _ c.counted.ensures (omega arith) w.if-len-at.false
  | else-loop-count-test w ↦ run_full _ _ _ _ _ _ _ _ _ _ _ c.loop-count.invariant _ c.counted.ensures (omega arith) w.loop-count-test.false
]
