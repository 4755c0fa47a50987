-- `reader_runs::numbers::readings` meets its contract. Assumes nothing.
use Rattle.meaning.specs.Reading.{child_step}
use Rattle.meaning.proofs.PaddingLaws.{eight_left, by8}
use Rattle.reader_basic.proofs.Leaves.{within_part}
use Rattle.reader_runs.proofs.numbers.readings.Goals as goal

pub each-requires : goal.each-requires
each-requires c = (c.requires.0.in_frame, c.requires.1, λ j e h i. (within_part j e c.requires.0 h i, rw c.in-1.is at c.requires.2))

pub returns-in-1 : goal.returns-in-1
unfolding child_step
returns-in-1 c = rw c.in-1.is c.each.ensures

pub each-requires-in-2 : goal.each-requires-in-2
each-requires-in-2 c = (c.requires.0.in_frame, c.requires.1, λ j e h i. (within_part j e c.requires.0 h i, rw c.in-2.is at c.requires.2))

pub returns-in-2 : goal.returns-in-2
unfolding child_step
returns-in-2 c = rw c.in-2.is c.each-in-2.ensures

pub each-requires-in-4 : goal.each-requires-in-4
each-requires-in-4 c = (c.requires.0.in_frame, c.requires.1, λ j e h i. (within_part j e c.requires.0 h i, rw c.in-4.is at c.requires.2))

pub returns-in-4 : goal.returns-in-4
unfolding child_step
returns-in-4 c = rw c.in-4.is c.each-in-4.ensures

pub each-requires-in_default : goal.each-requires-in_default
each-requires-in_default c = (c.requires.0.in_frame, c.requires.1, λ j e h i. (within_part j e c.requires.0 h i, by8))

pub returns-in_default : goal.returns-in_default
unfolding child_step
returns-in_default c =
    rw (eight_left c.requires.2 c.in_default.in_default-own.rest.0.0.1 c.in_default.in_default-own.rest.0.1 c.in_default.in_default-own.rest.1) c.each-in_default.ensures
