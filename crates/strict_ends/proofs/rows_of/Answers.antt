-- `rows_of` meets its contract. Assumes nothing.
use Rattle.strict_ends.proofs.EndLaws.{rows_fixed}
use Rattle.strict_ends.proofs.rows_of.Goals as goal

pub returns-then-x : goal.returns-then-x
returns-then-x c = rows_fixed _ _ _ c.if-x.true
