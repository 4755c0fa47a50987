-- The needs of `variant::variant`, and what answers each.
use Rattle.writer_basic.proofs.Answers.{refused_on}
use Rattle.writer_basic.proofs.Openings.{few_variants}
use Rattle.writer_cycle.proofs.Values.{value_variant_not, value_variant_text}
use borrow.Author.Tests.{not-false, not-true}
use Rattle.writer_cycle.proofs.+writing.Goals as goal

pub returns-then-not-plain_at : goal.variant::variant-returns-then-not-plain_at
returns-then-not-plain_at t c =
    (value_variant_not _ _ _ (few_variants c.requires.0) _ _ _ _ _ _ (c.plain_at.ensures.not (not-true _ c.if-not-plain_at.true-raw)))

pub returns-in_err-text : goal.variant::variant-returns-in_err-text
returns-in_err-text t c =
    refused_on _ _ c.from_residual.ensures (value_variant_text _ _ _ (few_variants c.requires.0) _ _ _ _ _ _ (c.plain_at.ensures.here (not-false _ c.if-not-plain_at.false-raw)) _ c.in_err-text.ensures)
