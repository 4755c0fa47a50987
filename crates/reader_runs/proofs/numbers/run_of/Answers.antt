-- `reader_runs::numbers::run_of` meets its contract. Assumes nothing.
use Rattle.meaning.proofs.PaddingLaws.{eight_left, by8}
use Rattle.reader_runs.proofs.numbers.run_of.Goals as goal

pub returns-in-1 : goal.returns-in-1
returns-in-1 c = rw c.in-1.is c.run.ensures

pub returns-in-2 : goal.returns-in-2
returns-in-2 c = rw c.in-2.is c.run-in-2.ensures

pub returns-in-4 : goal.returns-in-4
returns-in-4 c = rw c.in-4.is c.run-in-4.ensures

pub run-requires-in_default : goal.run-requires-in_default
run-requires-in_default c = (c.requires.0, c.requires.1, by8)

pub returns-in_default : goal.returns-in_default
returns-in_default c = rw (eight_left c.requires.2 c.in_default.in_default-own.rest.0.0.1 c.in_default.in_default-own.rest.0.1 c.in_default.in_default-own.rest.1) c.run-in_default.ensures
