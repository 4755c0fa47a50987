-- `listing::put_output` meets its contract. Assumes nothing.
use Rattle.listing.proofs.Steps.{output_none, output_line}
use Rattle.numerals.proofs.StoringLaws.{puts_none, puts_as}
use Rattle.listing.proofs.put_output.Goals as goal

pub returns-then-byte-eq10 : goal.returns-then-byte-eq10
returns-then-byte-eq10 c = puts_as (output_line _ _ c.if-byte-eq10.true) c.put_line.ensures

pub returns-else-byte-eq10 : goal.returns-else-byte-eq10
returns-else-byte-eq10 c = puts_as (output_none _ _ c.if-byte-eq10.false) (puts_none _ _)
