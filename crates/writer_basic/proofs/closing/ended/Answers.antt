-- `writer_basic::closing::ended` meets its contract. Assumes nothing.
use mathlib.Core.Path.{refl}
use borrow.Author.Tests.{not-true, not-false}
use Rattle.writer_basic.proofs.Rounds.{ended_open, ended_shut}
use Rattle.writer_basic.proofs.closing.ended.Goals as goal

pub returns-then-not-plain_at : goal.returns-then-not-plain_at
returns-then-not-plain_at c = λ m x i base top k j l l' s s' d. ended_open m x _ i base top k j l l' s s' _ d _ refl c.plain_at.ensures (not-true _ c.if-not-plain_at.true-raw)

pub returns : goal.returns
returns c = λ m x i base top k j l l' s s' d. ended_shut m x _ i base top k j l l' s s' _ d _ refl c.plain_at.ensures (not-false _ c.if-not-plain_at.false-raw)
