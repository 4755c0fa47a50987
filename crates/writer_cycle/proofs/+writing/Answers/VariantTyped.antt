-- The needs of `variant::typed`, and what answers each.
use Rattle.container_depths.proofs.Levels.{level_falls}
use Rattle.signature.proofs.ShapeLaws.{table_filled, table_refused, table_type}
use Rattle.signature.proofs.TreeLaws.{described_as, front, front_described}
use Rattle.signature.specs.declared.shapes.Shape.{Shape}
use Rattle.meaning.proofs.RefusalLaws.{number_not_0}
use Rattle.writer_basic.proofs.Answers.{refused_on}
use Rattle.writer_basic.proofs.Rounds.{value_stop}
use Rattle.writer_basic.proofs.Openings.{few_variants, raised_in}
use Rattle.writer_cycle.proofs.Values.{front_spells, value_variant_deep, value_variant_on, value_variant_type}
use borrow.Author.Tests.{not-false, not-true}
use mathlib.Core.Path.{ap, refl}
use native.Mathlib.Omega.{arith}
use Rattle.meaning.specs.Depths as Depth
use Rattle.writer_cycle.proofs.+writing.Goals as goal

pub returns-then-not-shapes_of : goal.variant::typed-returns-then-not-shapes_of
returns-then-not-shapes_of t c =
    (value_variant_type _ _ _ (few_variants c.requires.2) _ _ _ _ _ _ c.requires.0 _ c.requires.1 (table_refused _ _ _ _ refl c.shapes_of.ensures (not-true _ c.if-not-shapes_of.true-raw)))

pub returns-in_err-inc_variant : goal.variant::typed-returns-in_err-inc_variant
returns-in_err-inc_variant t c =
    refused_on _ _ c.from_residual.ensures
    (value_variant_deep _ _ _ (few_variants c.requires.2) _ _ _ _ _ _ c.requires.0 _ c.requires.1 (table_type _ _ _ _ refl c.shapes_of.ensures (not-false _ c.if-not-shapes_of.false-raw)) _ c.in_err-inc_variant.ensures (number_not_0 _))

pub value-requires : goal.variant::typed-value-requires
value-requires t c = (
  omega (arith, level_falls Depth.variant c.args.context.depths _ c.in_ok-inc_variant.ensures refl, c.decreases),
  (
    described_as c.shape_in-shape.ensures
        (front_described _ _ (table_filled _ _ _ _ refl c.shapes_of.ensures c.shapes_of.auto.shapes (not-false _ c.if-not-shapes_of.false-raw)) (front _ (table_type _ _ _ _ refl c.shapes_of.ensures (not-false _ c.if-not-shapes_of.false-raw)))),
    raised_in Depth.variant _ _ c.in_ok-inc_variant.ensures _ refl,
    record { within = omega (arith, c.requires.1.at.whole); near = c.requires.3.near; few = c.requires.3.few },
  ),
)

pub returns-in_err-held : goal.variant::typed-returns-in_err-held
returns-in_err-held t c =
    refused_on _ _ c.from_residual-in_err-held.ensures
    (value_variant_on _ _ _ (few_variants c.requires.2) _ _ _ _ _ _ c.requires.0 _ c.requires.1 (table_type _ _ _ _ refl c.shapes_of.ensures (not-false _ c.if-not-shapes_of.false-raw)) _
    c.in_ok-inc_variant.ensures _ _ _ _ _ refl (ap (λ (s : Shape). s.at) c.shape_in-shape.ensures) refl
    (value_stop _ _ _ _ _ _ _ _ _ _ _ c.in_err-held.ensures (number_not_0 _)))

pub returns : goal.variant::typed-returns
returns t c =
    value_variant_on _ _ _ (few_variants c.requires.2) _ _ _ _ _ _ c.requires.0 _ c.requires.1 (table_type _ _ _ _ refl c.shapes_of.ensures (not-false _ c.if-not-shapes_of.false-raw)) _
    c.in_ok-inc_variant.ensures _ _ _ _ _ refl (ap (λ (s : Shape). s.at) c.shape_in-shape.ensures) refl
    (c.variant_end.ensures _ _ _ _ _ _ _ (front_spells _ (table_type _ _ _ _ refl c.shapes_of.ensures (not-false _ c.if-not-shapes_of.false-raw)) _ (ap (λ (s : Shape). s.at) c.shape_in-shape.ensures)) (omega (arith, c.value.auto.out, c.value.auto.ends)) c.in_ok-held.ensures)
