-- The needs of `structure::fields`, and what answers each.
use Prim.Native.Nat.{◌+◌, ◌-◌}
use Rattle.container_depths.specs.Opening.{depths_of}
use Rattle.editor_steps.proofs.Structures.{field_asked, field_at, field_behind, field_fits, field_placed, fields_begin, fields_counted, fields_found, fields_turn, row_written}
use Rattle.editor_steps.proofs.Values.{most_small}
use Rattle.editor_steps.specs.Starts.{row_tests}
use Rattle.editor_steps.specs.Walks.{container_most, most, new_of}
use mathlib.Core.Path.{refl}
use native.Mathlib.Omega.{arith}
use Rattle.std.proofs.lemmas.Result.{err_from_is_err_and}
use Rattle.editor_steps.proofs.ClosingLaws.{closes_refused}
use Rattle.editor_steps.proofs.WalkLaws.{walk_found}
use Rattle.editor_cycle.proofs.+editing.Goals as goal

pub loop-count-init : goal.structure::fields-loop-count-init
loop-count-init t c =
    (fields_begin c.args.aim.big (65 - c.args.d.variant) (depths_of c.args.d) _ c.requires.0 (omega (arith, c.requires.1.near)) (row_written 1 (row_tests c.args.d.variant c.args.text.now c.args.all.at) c.requires.1), refl)

pub value-requires : goal.structure::fields-value-requires
value-requires t c = (
  omega (arith, c.decreases),
  (
    field_placed c.args.aim.big c.args.d c.loop-count.invariant.0 c.first_field-field.ensures
        c.shape_in-inner.result c.shape_in-inner.ensures,
    field_asked c.args.aim.big c.args.d c.loop-count.invariant.0
        c.first_field-field.ensures c.shape_in-inner.result c.shape_in-inner.ensures c.args.place c.requires.1.shallow
        c.requires.1.near,
  ),
)

pub returns-in_err-walk : goal.structure::fields-returns-in_err-walk
returns-in_err-walk t c =
    let p = err_from_is_err_and c.from_residual.result c.from_residual.ensures.1 in
    rw (p.1, p.2) (fields_found c.args.d.variant c.args.aim.big c.requires.0 c.loop-count.invariant.0 c.first_field-field.ensures c.args.place (new_of
    c.args.aim.new) (most c.args.d + container_most) _ (field_at c.args.aim.big c.args.d c.loop-count.invariant.0
    c.first_field-field.ensures c.shape_in-inner.result c.shape_in-inner.ensures) (most c.args.d) _ _ _ c.loop-count.invariant.1 _
    c.in_err-walk.ensures refl _ _ (closes_refused _ _ _ _ _ _) (omega (
      arith,
      most_small
          c.args.d,
      c.first_field-field.ensures.order,
      c.first_field-field.ensures.inside,
      c.requires.1.near,
    )))

pub close_field-requires : goal.structure::fields-close_field-requires
close_field-requires t c = (
  field_fits c.args.d.variant c.args.aim.big c.requires.0 c.loop-count.invariant.0 c.first_field-field.ensures c.args.place (new_of
      c.args.aim.new) (most c.args.d + container_most) _ (field_at c.args.aim.big c.args.d c.loop-count.invariant.0
      c.first_field-field.ensures c.shape_in-inner.result c.shape_in-inner.ensures) (most c.args.d) _ _ _ c.loop-count.invariant.1 _
      c.in_ok-walk.ensures (omega (
        arith,
        most_small
            c.args.d,
        c.first_field-field.ensures.order,
        c.first_field-field.ensures.inside,
        c.requires.1.near,
      )),
  field_behind
      c.args.d.variant c.args.aim.big c.requires.0 c.loop-count.invariant.0 c.first_field-field.ensures c.args.place (new_of
      c.args.aim.new) (most c.args.d + container_most) _ (field_at c.args.aim.big c.args.d c.loop-count.invariant.0
      c.first_field-field.ensures c.shape_in-inner.result c.shape_in-inner.ensures) (most c.args.d) _ _ _ c.loop-count.invariant.1 _
      c.in_ok-walk.ensures (walk_found _ c.in_default.not-Counted),
)

pub returns-in_default : goal.structure::fields-returns-in_default
returns-in_default t c =
    fields_found c.args.d.variant c.args.aim.big c.requires.0 c.loop-count.invariant.0 c.first_field-field.ensures c.args.place (new_of
    c.args.aim.new) (most c.args.d + container_most) _ (field_at c.args.aim.big c.args.d c.loop-count.invariant.0
    c.first_field-field.ensures c.shape_in-inner.result c.shape_in-inner.ensures) (most c.args.d) _ _ _ c.loop-count.invariant.1 _
    c.in_ok-walk.ensures (walk_found _ c.in_default.not-Counted) _ _ c.close_field.ensures (omega (
      arith,
      most_small
          c.args.d,
      c.first_field-field.ensures.order,
      c.first_field-field.ensures.inside,
      c.requires.1.near,
    ))

pub returns-then-field : goal.structure::fields-returns-then-field
returns-then-field t c =
    fields_counted c.args.d.variant c.args.aim.big c.requires.0 c.loop-count.invariant.0 c.first_field-field.ensures c.args.place (new_of
    c.args.aim.new) (most c.args.d + container_most) _ (field_at c.args.aim.big c.args.d c.loop-count.invariant.0
    c.first_field-field.ensures c.shape_in-inner.result c.shape_in-inner.ensures) (most c.args.d) _ _ _ c.loop-count.invariant.1 _
    (rw c.in-Counted.is at c.in_ok-walk.ensures) refl c.if-field.true _ refl

pub loop-count-preserved : goal.structure::fields-loop-count-preserved
loop-count-preserved t c =
    fields_turn c.args.d.variant c.args.aim.big c.requires.0 c.loop-count.invariant.0 c.first_field-field.ensures c.args.place (new_of
    c.args.aim.new) (most c.args.d + container_most) _ (field_at c.args.aim.big c.args.d c.loop-count.invariant.0
    c.first_field-field.ensures c.shape_in-inner.result c.shape_in-inner.ensures) (most c.args.d) _ _ _ c.loop-count.invariant.1 _
    (rw c.in-Counted.is at c.in_ok-walk.ensures) refl c.if-field.false _ c.behind_field-row.ensures
