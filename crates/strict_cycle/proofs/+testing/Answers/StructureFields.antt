-- The needs of `structure::fields`, and what answers each.
use Rattle.container_depths.specs.Opening.{depths_of}
use Rattle.signature.proofs.TreeLaws.{last_field_of, next_field_of}
use Rattle.strict_basic.proofs.BasicLaws.{laid_as}
use Rattle.strict_cycle.proofs.Structures.{fields_last, fields_next, fields_room, fields_stop, last_placed, next_placed}
use Rattle.strict_cycle.proofs.Values.{child_not, child_on, inside_cut, known_as}
use Rattle.strict_sizes.proofs.TableLaws.{placed_at, placed_known}
use Rattle.strict_sizes.specs.Items.{tree_test}
use mathlib.Core.Path.{refl}
use native.Mathlib.Omega.{arith}
use Rattle.strict_cycle.proofs.+testing.Goals as goal

pub last_field-requires : goal.structure::fields-last_field-requires
last_field-requires t c = (
  omega (arith, c.decreases),
  (
    last_placed c.requires.1 (last_field_of _ _ _ c.loop-whole.invariant.rowed c.requires.1.shapes _ c.shape_in-field.ensures _ refl (c.closes_at.ensures.there c.if-closes_at.true)),
    c.requires.2,
    c.loop-whole.invariant.place,
    c.requires.3,
    c.requires.4,
  ),
)

pub returns-then-closes_at : goal.structure::fields-returns-then-closes_at
returns-then-closes_at t c =
    fields_last c.requires.1 c.loop-whole.invariant _ (last_field_of _ _ _ c.loop-whole.invariant.rowed c.requires.1.shapes _ c.shape_in-field.ensures _ refl (c.closes_at.ensures.there
    c.if-closes_at.true)) _ c.last_field.ensures

pub extent_in-extent-requires : goal.structure::fields-extent_in-extent-requires
extent_in-extent-requires t c = (
  c.requires.1.room,
  placed_at (next_placed c.requires.1 (next_field_of _ _ _ c.loop-whole.invariant.rowed c.requires.1.shapes _ c.shape_in-field.ensures _ refl (c.closes_at.ensures.missing
      c.if-closes_at.false))),
)

pub field_end-stop-requires : goal.structure::fields-field_end-stop-requires
field_end-stop-requires t c = (
  omega (arith, c.loop-whole.invariant.place, c.requires.3, c.requires.2.in_frame),
  laid_as c.extent_in-extent.ensures (placed_known (next_placed c.requires.1 (next_field_of _ _ _ c.loop-whole.invariant.rowed c.requires.1.shapes _ c.shape_in-field.ensures _ refl
      (c.closes_at.ensures.missing c.if-closes_at.false)))).laid,
  c.loop-whole.invariant.inside,
  c.requires.5,
  fields_room c.requires.1 c.loop-whole.invariant _ (next_field_of _ _ _ c.loop-whole.invariant.rowed c.requires.1.shapes _ c.shape_in-field.ensures _ refl (c.closes_at.ensures.missing
      c.if-closes_at.false)) _ c.extent_in-extent.ensures,
)

pub start_of-requires : goal.structure::fields-start_of-requires
start_of-requires t c = (
  c.loop-whole.invariant.place,
  c.requires.3,
  c.requires.2.in_frame,
  (laid_as c.extent_in-extent.ensures (placed_known (next_placed c.requires.1 (next_field_of _ _ _ c.loop-whole.invariant.rowed
      c.requires.1.shapes _ c.shape_in-field.ensures _ refl (c.closes_at.ensures.missing c.if-closes_at.false)))).laid).aligned,
)

pub returns-in_default : goal.structure::fields-returns-in_default
returns-in_default t c =
    fields_stop c.requires.1 c.loop-whole.invariant _ (next_field_of _ _ _ c.loop-whole.invariant.rowed c.requires.1.shapes _ c.shape_in-field.ensures _ refl (c.closes_at.ensures.missing
    c.if-closes_at.false)) _ c.extent_in-extent.ensures _ c.field_end-stop.ensures _
    (child_not (tree_test c.args.d.variant c.args.text.now c.shape_in-field.result.at) (depths_of c.args.d) c.args.part.now _ _ _ _
    ((known_as c.extent_in-extent.ensures (placed_known (next_placed c.requires.1 (next_field_of _ _ _ c.loop-whole.invariant.rowed c.requires.1.shapes _ c.shape_in-field.ensures _ refl
    (c.closes_at.ensures.missing c.if-closes_at.false))))).same_alignment c.args.d.variant) c.in_default.ensures) refl

pub child-requires : goal.structure::fields-child-requires
child-requires t c = (
  omega (arith, c.decreases),
  (
    (next_placed c.requires.1 (next_field_of _ _ _ c.loop-whole.invariant.rowed c.requires.1.shapes _ c.shape_in-field.ensures _ refl (c.closes_at.ensures.missing
        c.if-closes_at.false))),
    inside_cut c.in-Some.from c.field_end-stop.result c.args.part.now c.requires.2,
  ),
)

pub returns-then-not-child : goal.structure::fields-returns-then-not-child
returns-then-not-child t c =
    fields_stop c.requires.1 c.loop-whole.invariant _ (next_field_of _ _ _ c.loop-whole.invariant.rowed c.requires.1.shapes _ c.shape_in-field.ensures _ refl (c.closes_at.ensures.missing
    c.if-closes_at.false)) _ c.extent_in-extent.ensures _ c.field_end-stop.ensures _
    (child_on (tree_test c.args.d.variant c.args.text.now c.shape_in-field.result.at) (depths_of c.args.d) c.args.part.now _ _ _ _
    ((known_as c.extent_in-extent.ensures (placed_known (next_placed c.requires.1 (next_field_of _ _ _ c.loop-whole.invariant.rowed c.requires.1.shapes _ c.shape_in-field.ensures _ refl
    (c.closes_at.ensures.missing c.if-closes_at.false))))).same_alignment c.args.d.variant) _ c.in-Some.ensures _ c.child.ensures) c.if-not-child.true

pub offsets_left-end-requires : goal.structure::fields-offsets_left-end-requires
offsets_left-end-requires t c =
    fields_room c.requires.1 c.loop-whole.invariant _ (next_field_of _ _ _ c.loop-whole.invariant.rowed c.requires.1.shapes _ c.shape_in-field.ensures _ refl (c.closes_at.ensures.missing
    c.if-closes_at.false)) _ c.extent_in-extent.ensures

pub loop-whole-smaller : goal.structure::fields-loop-whole-smaller
loop-whole-smaller t c = let g = (next_field_of _ _ _ c.loop-whole.invariant.rowed c.requires.1.shapes _ c.shape_in-field.ensures _ refl (c.closes_at.ensures.missing c.if-closes_at.false)) in
    omega (arith, g.onward, g.within)

pub loop-whole-preserved : goal.structure::fields-loop-whole-preserved
loop-whole-preserved t c =
    fields_next c.requires.1 c.loop-whole.invariant _ (next_field_of _ _ _ c.loop-whole.invariant.rowed c.requires.1.shapes _ c.shape_in-field.ensures _ refl (c.closes_at.ensures.missing
    c.if-closes_at.false)) _ c.extent_in-extent.ensures _ c.field_end-stop.ensures _
    (child_on (tree_test c.args.d.variant c.args.text.now c.shape_in-field.result.at) (depths_of c.args.d) c.args.part.now _ _ _ _
    ((known_as c.extent_in-extent.ensures (placed_known (next_placed c.requires.1 (next_field_of _ _ _ c.loop-whole.invariant.rowed c.requires.1.shapes _ c.shape_in-field.ensures _ refl
    (c.closes_at.ensures.missing c.if-closes_at.false))))).same_alignment c.args.d.variant) _ c.in-Some.ensures _ c.child.ensures) _ c.if-not-child.false c.offsets_left-end.ensures
