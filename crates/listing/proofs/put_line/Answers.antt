-- `listing::put_line` meets its contract. Assumes nothing.
use Rattle.listing.proofs.Steps.{line_type, line_frame}
use Rattle.numerals.proofs.StoringLaws.{puts_none, puts_as}
use Rattle.listing.proofs.put_line.Goals as goal

pub returns-then-s-eq0 : goal.returns-then-s-eq0
returns-then-s-eq0 c = puts_as (line_type _ c.if-s-eq0.true) (puts_none _ _)

pub returns : goal.returns
returns c = puts_as (line_frame _ _ c.if-s-eq0.false c.answer-a.ensures) c.put_answer.ensures
