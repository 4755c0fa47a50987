-- `lines::keep` meets its contract. Assumes nothing.
use borrow.Author.Tests.{lt-ltb, le-ltb}
use Rattle.lines.specs.Lines.{more, stored}
use Rattle.lines.proofs.keep.Goals as goal

pub returns-then-kept-line : goal.returns-then-kept-line
unfolding more stored
returns-then-kept-line c = (rw (lt-ltb _ _ c.if-kept-line.true), rw (lt-ltb _ _ c.if-kept-line.true))

pub returns-else-kept-line : goal.returns-else-kept-line
unfolding more stored
returns-else-kept-line c = (rw (le-ltb _ _ c.if-kept-line.false), rw (le-ltb _ _ c.if-kept-line.false))
