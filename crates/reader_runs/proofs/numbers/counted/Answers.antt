-- `reader_runs::numbers::counted` meets its contract. Assumes nothing.
use native.Mathlib.Nat.{mod-le}
use Rattle.reader_runs.proofs.NumberLaws.{counted_over, counted_all}
use Rattle.reader_runs.proofs.numbers.counted.Goals as goal

pub overflow_sub-left : goal.overflow_sub-left
overflow_sub-left c =
    mod-le _ _

pub returns-then-over-ne0 : goal.returns-then-over-ne0
returns-then-over-ne0 c =
    rw c.refused.ensures (counted_over _ _ _ _ c.if-over-ne0.true c.saturating_add-count.ensures)

pub returns : goal.returns
returns c =
    rw c.done.ensures (counted_all _ _ _ _ c.if-over-ne0.false c.saturating_add-count.ensures)
