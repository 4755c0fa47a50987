-- `writer_basic::closing::variant_end` meets its contract. Assumes nothing.
use mathlib.Core.Path.{refl}
use borrow.Author.Tests.{not-true, not-false}
use Rattle.writer_basic.proofs.Rounds.{value_open, value_shut}
use Rattle.writer_basic.proofs.closing.variant_end.Goals as goal

pub returns-then-not-plain_at : goal.returns-then-not-plain_at
returns-then-not-plain_at c = λ x t i top l s s' k n d. value_open x t _ i _ top l _ s s' _ d _ refl c.plain_at.ensures (not-true _ c.if-not-plain_at.true-raw)

pub returns : goal.returns
returns c = λ x t i top l s s' k n d. value_shut x t _ i _ top l _ s s' _ d _ _ _ _ _ refl c.plain_at.ensures (not-false _ c.if-not-plain_at.false-raw) k refl c.put_type.ensures c.add.ensures n
