-- The needs of `variant::variant`, and what answers each.
use Prim.Native.Nat.{◌-◌}
use Rattle.container_depths.proofs.Levels.{level_falls}
use Rattle.meaning.proofs.Lists.{tail}
use Rattle.meaning.proofs.RefusalLaws.{number_not_0}
use Rattle.signature.proofs.TreeLaws.{front}
use Rattle.signature.specs.declared.shapes.Shape.{Shape}
use Rattle.strict_basic.proofs.BasicLaws.{lone_variant_lem}
use Rattle.strict_cycle.proofs.Values.{inside_deeper, inside_take}
use Rattle.strict_cycle.proofs.Variants.{variant_deep, variant_lone, variant_nested, variant_none, variant_on, variant_untyped}
use Rattle.strict_sizes.proofs.TableLaws.{front_placed}
use mathlib.Core.Path.{ap, refl, sym, ◌∙◌}
use native.Mathlib.Omega.{arith}
use Rattle.meaning.specs.Depths as Depth
use Rattle.strict_cycle.proofs.+testing.Goals as goal

pub returns-in_default : goal.variant::variant-returns-in_default
returns-in_default t c =
    variant_none c.args.d c.args.part.now c.requires _ refl c.in_default.ensures

pub returns-in_default-inc_variant : goal.variant::variant-returns-in_default-inc_variant
returns-in_default-inc_variant t c =
    variant_deep c.args.d c.args.part.now c.requires c.in-Some.s c.in-Some.ensures.0 (λ y. omega (arith, c.in-Some.ensures.1)) _ c.in_default-inc_variant.ensures (number_not_0
    c.in_default-inc_variant.field-0)

pub returns-in-Some-lone_basic : goal.variant::variant-returns-in-Some-lone_basic
returns-in-Some-lone_basic t c =
    variant_lone c.args.d c.args.part.now c.requires c.in-Some.s c.in-Some.ensures.0 (λ y. omega (arith, c.in-Some.ensures.1)) _ c.in-Ok.ensures refl _ (tail c.in-Some.s c.args.part.now) _ refl _
    c.in-Some-lone_basic.ensures _ c.letter_written.ensures

pub variant-requires : goal.variant::variant-variant-requires
variant-requires t c = (
  omega (arith, level_falls Depth.variant c.args.d _ c.in-Ok.ensures refl, c.decreases),
  inside_take (c.in-Some.s - 1) c.args.part.now (inside_deeper Depth.variant c.args.d _ c.requires
      c.in-Ok.ensures refl),
)

pub returns-then-lone_variant : goal.variant::variant-returns-then-lone_variant
returns-then-lone_variant t c =
    variant_nested c.args.d c.args.part.now c.requires c.in-Some.s c.in-Some.ensures.0 (λ y. omega (arith, c.in-Some.ensures.1)) _ c.in-Ok.ensures refl _ (tail c.in-Some.s c.args.part.now) _ refl
    (lone_variant_lem _ (sym c.lone_variant.ensures ∙ c.if-lone_variant.true)) _ c.variant.ensures

pub returns-then-not-tables_of : goal.variant::variant-returns-then-not-tables_of
returns-then-not-tables_of t c =
    variant_untyped c.args.d c.args.part.now c.requires c.in-Some.s c.in-Some.ensures.0 (λ y. omega (arith, c.in-Some.ensures.1)) _ c.in-Ok.ensures refl _ (tail c.in-Some.s c.args.part.now) _ refl
    (sym c.tables_of.ensures.judged ∙ c.if-not-tables_of.true)

pub value-requires : goal.variant::variant-value-requires
value-requires t c = (
  omega (arith, level_falls Depth.variant c.args.d _ c.in-Ok.ensures refl, c.decreases),
  (
    front_placed _ _ (c.tables_of.ensures.filled c.if-not-tables_of.false) (front _ (sym c.tables_of.ensures.judged ∙ c.if-not-tables_of.false)) _ c.shape_in-shape.ensures,
    inside_take (c.in-Some.s - 1) c.args.part.now (inside_deeper Depth.variant c.args.d _ c.requires c.in-Ok.ensures refl),
  ),
)

pub returns : goal.variant::variant-returns
returns t c =
    variant_on c.args.d c.args.part.now c.requires c.in-Some.s c.in-Some.ensures.0 (λ y. omega (arith, c.in-Some.ensures.1)) _ c.in-Ok.ensures refl _ (tail c.in-Some.s c.args.part.now) _ refl (front
    _ (sym c.tables_of.ensures.judged ∙ c.if-not-tables_of.false)) _ (ap (λ (x : Shape). x.at) c.shape_in-shape.ensures) _ c.value.ensures
