-- `writer_basic::basic::number` meets its contract. Assumes nothing.
use native.Mathlib.Omega.{arith}
use mathlib.Core.Path.{◌∙◌}
use borrow.Author.Tests.{not-true, not-false}
use Rattle.writer_basic.proofs.Answers.{refused_on, aligns_small, number_absent, number_large, number_made}
use Rattle.writer_basic.proofs.basic.number.Goals as goal

pub returns-in_err-x : goal.returns-in_err-x
returns-in_err-x c = λ n texts d top s e f. refused_on _ _ c.from_residual.ensures (number_absent texts _ d _ _ _ top _ s n _ (c.from.ensures ∙ e) _ c.in_err-x.ensures)

pub returns-then-not-suits : goal.returns-then-not-suits
returns-then-not-suits c =
    λ n texts d top s e f. number_large texts _ d _ _ _ top _ s n _ (c.from.ensures ∙ e) _ _ _ f c.in_ok-x.ensures c.suits.ensures (not-true _ c.if-not-suits.true-raw)

pub number_bytes-requires : goal.number_bytes-requires
number_bytes-requires c = omega (arith, aligns_small c.requires.2)

pub returns : goal.returns
returns c =
    λ n texts d top s e f. number_made texts _ d _ _ _ top _ s n _ (c.from.ensures ∙ e) _ _ _ f c.in_ok-x.ensures c.suits.ensures (not-false _ c.if-not-suits.false-raw) c.number_bytes.ensures
