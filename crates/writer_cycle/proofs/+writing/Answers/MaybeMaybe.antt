-- The needs of `maybe::maybe`, and what answers each.
use Rattle.container_depths.proofs.Levels.{level_falls}
use Rattle.signature.proofs.Letters.{cut}
use Rattle.signature.proofs.TreeLaws.{described_as, described_fixed, maybe_described}
use Rattle.signature.specs.declared.Letter.TheVariants.{Maybe}
use Rattle.signature.specs.declared.shapes.Shape.{Shape}
use Rattle.meaning.proofs.RefusalLaws.{number_not_0}
use Rattle.writer_basic.proofs.Answers.{refused_on}
use Rattle.writer_basic.proofs.Rounds.{present_stop}
use Rattle.writer_basic.proofs.Openings.{raised_in}
use Rattle.writer_cycle.proofs.Values.{value_maybe_deep, value_neither, value_nothing, value_present}
use borrow.Author.Tests.{not-false, not-true}
use mathlib.Core.Path.{ap, refl}
use native.Mathlib.Omega.{arith}
use Rattle.meaning.specs.Depths as Depth
use Rattle.writer_cycle.proofs.+writing.Goals as goal

pub returns-then-plain_at : goal.maybe::maybe-returns-then-plain_at
returns-then-plain_at t c =
    (value_nothing _ _ c.requires.0.typed c.requires.1 _ _ _ _ _ _ _ _ _ (c.plain_at.ensures.here c.if-plain_at.true))

pub returns-then-not-plain_at : goal.maybe::maybe-returns-then-not-plain_at
returns-then-not-plain_at t c =
    (value_neither _ _ c.requires.0.typed c.requires.1 _ _ _ _ _ _ _ _ _ (c.plain_at.ensures.not c.if-plain_at.false) (c.plain_at-2.ensures.not (not-true _ c.if-not-plain_at.true-raw)))

pub returns-in_err-inc_maybe : goal.maybe::maybe-returns-in_err-inc_maybe
returns-in_err-inc_maybe t c =
    refused_on _ _ c.from_residual.ensures (value_maybe_deep _ _ c.requires.0.typed c.requires.1 _ _ _ _ _ _ _ _ _ (c.plain_at-2.ensures.here (not-false _ c.if-not-plain_at.false-raw)) _ c.in_err-inc_maybe.ensures (number_not_0 _))

pub overflow_add-shape : goal.maybe::maybe-overflow_add-shape
overflow_add-shape t c =
    omega (arith, (cut c.args.text.now c.args.shape.at Maybe 109 c.requires.1 refl).within, c.requires.0.typed.short)

pub value-requires : goal.maybe::maybe-value-requires
value-requires t c = (
  omega (arith, level_falls Depth.maybe c.args.context.depths _ c.in_ok-inc_maybe.ensures refl, c.decreases),
  (
    (described_as c.shape_in-held.ensures (maybe_described _ _ c.requires.0.typed c.requires.1 _ c.requires.0.table)),
    raised_in Depth.maybe _ _ c.in_ok-inc_maybe.ensures _
        refl,
    record { within = (c.plain_at-2.ensures.here (not-false _ c.if-not-plain_at.false-raw)).whole; near = c.requires.3.near; few = c.requires.3.few },
  ),
)

pub returns-in_err-child : goal.maybe::maybe-returns-in_err-child
returns-in_err-child t c =
    refused_on _ _ c.from_residual-in_err-child.ensures
    (value_present _ _ c.requires.0.typed c.requires.1 _ _ _ _ _ _ _ _ _ (c.plain_at-2.ensures.here (not-false _ c.if-not-plain_at.false-raw)) _ c.in_ok-inc_maybe.ensures _ c.shape_in-held.result _
    _ _ refl refl (ap (λ (s : Shape). s.at) c.shape_in-held.ensures)
    (described_fixed (described_as c.shape_in-held.ensures (maybe_described _ _ c.requires.0.typed c.requires.1 _ c.requires.0.table)))
    (present_stop _ _ _ _ _ c.in_err-child.ensures (number_not_0 _)))

pub returns : goal.maybe::maybe-returns
returns t c =
    value_present _ _ c.requires.0.typed c.requires.1 _ _ _ _ _ _ _ _ _ (c.plain_at-2.ensures.here (not-false _ c.if-not-plain_at.false-raw)) _ c.in_ok-inc_maybe.ensures _ c.shape_in-held.result _
    _ _ refl refl (ap (λ (s : Shape). s.at) c.shape_in-held.ensures)
    (described_fixed (described_as c.shape_in-held.ensures (maybe_described _ _ c.requires.0.typed c.requires.1 _ c.requires.0.table)))
    (c.present.ensures _ _ _ _ _ _ _ _ (omega (arith, c.value.auto.out, c.value.auto.ends)) c.in_ok-child.ensures)
