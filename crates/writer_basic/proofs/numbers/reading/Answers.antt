-- `writer_basic::numbers::reading` meets its contract. Assumes nothing.
use mathlib.Core.Path.{refl}
use borrow.Author.Tests.{not-true, not-false}
use Rattle.meaning.proofs.RefusalLaws.{number_not_0}
use Rattle.writer_basic.proofs.Answers.{refused_on, key_aligned}
use Rattle.writer_basic.proofs.Openings.{maybe_empty, maybe_neither, maybe_deep}
use Rattle.writer_basic.proofs.NumberRows.{reading_on, number_done}
use Rattle.writer_basic.proofs.numbers.reading.Goals as goal

pub returns-then-plain_at : goal.returns-then-plain_at
returns-then-plain_at c = λ texts top s. maybe_empty _ _ _ _ _ _ _ top _ s (c.plain_at.ensures.here c.if-plain_at.true)

pub returns-then-not-plain_at : goal.returns-then-not-plain_at
returns-then-not-plain_at c = λ texts top s. maybe_neither _ _ _ _ _ _ _ top _ s _ _ (c.plain_at.ensures.not c.if-plain_at.false) (c.plain_at-2.ensures.not (not-true _ c.if-not-plain_at.true-raw))

pub returns-in_err-inc_maybe : goal.returns-in_err-inc_maybe
returns-in_err-inc_maybe c =
    λ texts top s. refused_on _ _ c.from_residual.ensures (maybe_deep _ _ _ _ _ _ _ top _ s (c.plain_at-2.ensures.here (not-false _ c.if-not-plain_at.false-raw)) _ c.in_err-inc_maybe.ensures _ _ (number_not_0 _))

pub number-requires : goal.number-requires
number-requires c =
    ((c.plain_at-2.ensures.here (not-false _ c.if-not-plain_at.false-raw)).whole, c.requires.1, key_aligned _ _ c.requires.2)

pub returns : goal.returns
returns c =
    λ texts top s. reading_on texts _ _ _ _ _ _ top _ _ s _ (c.plain_at-2.ensures.here (not-false _ c.if-not-plain_at.false-raw)) _ c.in_ok-inc_maybe.ensures refl
    (λ d top s. number_done _ _ c.requires.2 _ _ _ _ _ _ _ c.number.ensures texts d top s)
