-- `move_fields` meets its contract.
use native.Mathlib.Omega.{arith}
use Rattle.editor_basic.proofs.RowLaws.{row_most, row_last, row_next}
use Rattle.editor_basic.proofs.rewriter.move_fields.Goals as goal

pub move_part-requires : goal.move_part-requires
move_part-requires c =
    let w = c.loop-rest.invariant in
    let h = row_most w c.first_field-field.ensures _ c.due-padding.ensures.0 in
    omega (arith, h, w.even, c.first_field-field.ensures.order, c.requires.1)

pub overflow_add-next : goal.overflow_add-next
overflow_add-next c =
    let w = c.loop-rest.invariant in
    let h = row_most w c.first_field-field.ensures _ c.due-padding.ensures.0 in
    omega (arith, h, w.even, c.first_field-field.ensures.order, c.requires.1)

pub overflow_add-place : goal.overflow_add-place
overflow_add-place c =
    let w = c.loop-rest.invariant in
    let h = row_most w c.first_field-field.ensures _ c.due-padding.ensures.0 in
    omega (arith, h, w.even, c.first_field-field.ensures.order, c.requires.1)

pub returns-then-last : goal.returns-then-last
returns-then-last c =
    let t = row_last c.loop-rest.invariant c.first_field-field.ensures _ c.due-padding.ensures.0 _ c.move_part.ensures c.if-last.true in
    record { bytes = t.0; end = t.1; near = t.2 }

pub loop-rest-preserved : goal.loop-rest-preserved
loop-rest-preserved c =
    row_next c.loop-rest.invariant c.first_field-field.ensures _ c.due-padding.ensures.0 _ c.move_part.ensures _ c.if-last.false c.behind_field-rest.ensures c.move_part.auto.out
