-- `writer::judge` meets its contract. Assumes nothing.
use mathlib.Core.Path.{refl}
use Rattle.writer.specs.Answers.{left, long, full, good}
use Rattle.writer.proofs.judge.Goals as goal

pub returns-then-walked-numbers : goal.returns-then-walked-numbers
returns-then-walked-numbers c = left refl c.if-walked-numbers.true refl

pub returns-then-walked-gt-LARGEST_FRAME : goal.returns-then-walked-gt-LARGEST_FRAME
returns-then-walked-gt-LARGEST_FRAME c = long refl c.if-walked-numbers.false c.if-walked-gt-LARGEST_FRAME.true refl

pub returns-then-room-walked : goal.returns-then-room-walked
returns-then-room-walked c = full refl c.if-walked-numbers.false c.if-walked-gt-LARGEST_FRAME.false c.if-room-walked.true refl

pub returns : goal.returns
returns c = good refl c.if-walked-numbers.false c.if-walked-gt-LARGEST_FRAME.false c.if-room-walked.false refl
