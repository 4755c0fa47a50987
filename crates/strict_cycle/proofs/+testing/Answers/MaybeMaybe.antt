-- The needs of `maybe::maybe`, and what answers each.
use Prim.Native.Nat.{◌-◌}
use Rattle.container_depths.proofs.Levels.{level_falls}
use Rattle.meaning.proofs.RefusalLaws.{number_not_0}
use Rattle.strict_cycle.proofs.Values.{held_placed, inside_deeper, inside_take, maybe_deep, maybe_fixed, maybe_none, maybe_open, maybe_other}
use Rattle.strict_sizes.proofs.TableLaws.{placed_at}
use borrow.Author.Tests.{ne_eqb}
use lib.ListN.{length}
use mathlib.Core.Path.{refl, ◌∙◌}
use native.Mathlib.Omega.{arith}
use Rattle.meaning.specs.Depths as Depth
use Rattle.strict_cycle.proofs.+testing.Goals as goal

pub returns-then-part-eq0 : goal.maybe::maybe-returns-then-part-eq0
returns-then-part-eq0 t c =
    maybe_none c.requires.0 c.requires.1 c.args.d c.args.part.now c.if-part-eq0.true

pub returns-in_default : goal.maybe::maybe-returns-in_default
returns-in_default t c =
    maybe_deep c.requires.0 c.requires.1 c.args.d c.args.part.now c.if-part-eq0.false _ c.in_default.ensures (number_not_0 c.in_default.field-0)

pub overflow_add-shape : goal.maybe::maybe-overflow_add-shape
overflow_add-shape t c =
    omega (arith, placed_at c.requires.0)

pub child-requires : goal.maybe::maybe-child-requires
child-requires t c = (
  omega (arith, level_falls Depth.maybe c.args.d _ c.in-Ok.ensures refl, c.decreases),
  (
    held_placed c.requires.0 c.requires.1 _ c.shape_in-held.ensures,
    inside_deeper Depth.maybe c.args.d _
        c.requires.2 c.in-Ok.ensures refl,
  ),
)

pub returns-then-held : goal.maybe::maybe-returns-then-held
returns-then-held t c =
    maybe_fixed c.requires.0 c.requires.1 c.args.d c.args.part.now c.if-part-eq0.false _ c.in-Ok.ensures refl _ c.shape_in-held.ensures _ c.if-held.true c.child.ensures

pub value-requires : goal.maybe::maybe-value-requires
value-requires t c = (
  omega (arith, level_falls Depth.maybe c.args.d _ c.in-Ok.ensures refl, c.decreases),
  (held_placed c.requires.0 c.requires.1 _ c.shape_in-held.ensures, inside_take (length c.args.part.now - 1) c.args.part.now (inside_deeper Depth.maybe c.args.d _ c.requires.2 c.in-Ok.ensures refl)),
)

pub returns-then-part-end-eq0 : goal.maybe::maybe-returns-then-part-end-eq0
returns-then-part-end-eq0 t c =
    maybe_other c.requires.0 c.requires.1 c.args.d c.args.part.now c.if-part-eq0.false _ c.in-Ok.ensures refl _ c.shape_in-held.ensures _ c.if-held.false c.if-part-end-eq0.true c.value.ensures

pub returns-else-part-end-eq0 : goal.maybe::maybe-returns-else-part-end-eq0
returns-else-part-end-eq0 t c =
    ne_eqb _ _ c.if-part-end-eq0.false ∙ maybe_open c.requires.0 c.requires.1 c.args.d c.args.part.now c.if-part-eq0.false _ c.in-Ok.ensures refl _ c.shape_in-held.ensures c.if-held.false
    c.if-part-end-eq0.false
