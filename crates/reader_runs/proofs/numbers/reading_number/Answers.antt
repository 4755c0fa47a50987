-- `reader_runs::numbers::reading_number` meets its contract. Assumes nothing.
use mathlib.Core.Path.{◌∙◌}
use Rattle.reader_basic.proofs.Leaves.{number_given}
use Rattle.reader_runs.proofs.numbers.reading_number.Goals as goal

pub returns-then-width-eq2 : goal.returns-then-width-eq2
returns-then-width-eq2 c =
    λ a. rw c.if-width-eq2.true c.number.ensures

pub returns-else-width-eq2 : goal.returns-else-width-eq2
returns-else-width-eq2 c =
    λ a. c.number_at.ensures ∙ number_given a _ _ _
