-- `numerals::places` meets its contract. The invariant: the digits of what is left of the number are to be counted. Assumes nothing.
use Rattle.numerals.proofs.DecimalLaws.{counting_begin, counting_next, counting_few, counting_end}
use Rattle.numerals.proofs.places.Goals as goal

pub loop-count-init : goal.loop-count-init
loop-count-init c = counting_begin _

pub returns-then-rest-lt10-clause-value : goal.returns-then-rest-lt10-clause-value
returns-then-rest-lt10-clause-value c = counting_few _ _ _ c.loop-count.invariant c.if-rest-lt10.true

pub loop-count-preserved : goal.loop-count-preserved
loop-count-preserved c = counting_next _ _ _ c.loop-count.invariant c.loop-count-test.true c.if-rest-lt10.false

pub returns-clause-value : goal.returns-clause-value
returns-clause-value c = counting_end _ _ _ c.loop-count.invariant c.loop-count-test.false
