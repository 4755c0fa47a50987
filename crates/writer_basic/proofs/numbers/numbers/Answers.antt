-- `writer_basic::numbers::numbers` meets its contract. Assumes nothing.
use Rattle.meaning.proofs.PaddingLaws.{eight_left}
use Rattle.writer_basic.proofs.Answers.{key_aligned}
use Rattle.writer_basic.proofs.NumberRows.{key_width, row_width}
use Rattle.writer_basic.proofs.numbers.numbers.Goals as goal

pub run-requires : goal.run-requires
run-requires c = (key_width c.in-1.is _ c.requires.0, c.requires.1)

pub run-requires-in-2 : goal.run-requires-in-2
run-requires-in-2 c = (key_width c.in-2.is _ c.requires.0, c.requires.1)

pub run-requires-in-4 : goal.run-requires-in-4
run-requires-in-4 c = (key_width c.in-4.is _ c.requires.0, c.requires.1)

pub run-requires-in_default : goal.run-requires-in_default
run-requires-in_default c =
    (key_width (eight_left (key_aligned _ _ c.requires.0) c.in_default.in_default-own.rest.0.0.1 c.in_default.in_default-own.rest.0.1 c.in_default.in_default-own.rest.1) _ c.requires.0, c.requires.1)

pub returns-in-1 : goal.returns-in-1
returns-in-1 c = row_width c.in-1.is _ _ _ _ _ _ _ c.run.ensures

pub returns-in-2 : goal.returns-in-2
returns-in-2 c = row_width c.in-2.is _ _ _ _ _ _ _ c.run-in-2.ensures

pub returns-in-4 : goal.returns-in-4
returns-in-4 c = row_width c.in-4.is _ _ _ _ _ _ _ c.run-in-4.ensures

pub returns-in_default : goal.returns-in_default
returns-in_default c =
    row_width (eight_left (key_aligned _ _ c.requires.0) c.in_default.in_default-own.rest.0.0.1 c.in_default.in_default-own.rest.0.1 c.in_default.in_default-own.rest.1) _ _ _ _ _ _ _ c.run-in_default.ensures
