-- `framing_offsets::stands` judges a table as `table_stands` does. The loop passes one offset a turn. Assumes nothing.
use Rattle.std.proofs.Common.{◌+◌, ◌≤◌, length, refl, sym, ◌∙◌, arith}
use Rattle.meaning.proofs.OffsetSteps.{rest_end, table_past, table_rest}
use Rattle.meaning.proofs.RefusalLaws.{number_not_0}
use Rattle.framing_offset_size.specs.Widths.{width_of}
use Rattle.framing_offset_size.proofs.WidthLaws.{width_positive}
use Rattle.framing_offsets.proofs.TableLaws.{entry_missing, entry_inside, entry_above, entry_next}
use Rattle.framing_offsets.proofs.stands.Goals as goal

pub returns-then-container-start : goal.returns-then-container-start
returns-then-container-start c = sym (table_past (width_of c.args.size) _ c.args.container.now c.if-container-start.true)

pub loop-i-init : goal.loop-i-init
loop-i-init c = (omega arith, table_rest (width_of c.args.size) _ c.args.container.now c.if-container-start.false)

pub returns-else-container-start : goal.returns-else-container-start
returns-else-container-start c =
    sym (c.loop-i.invariant.1 ∙ rest_end (width_of c.args.size) c.args.start c.args.container.now c.loop-i.i (width_positive c.args.size) c.loop-i-test.false)

pub returns-then-start-entry : goal.returns-then-start-entry
returns-then-start-entry c =
    sym (c.loop-i.invariant.1 ∙ entry_above (width_of c.args.size) c.args.start c.args.container.now c.loop-i.i (width_positive c.args.size) c.in-Ok.ensures refl c.if-start-entry.true)

pub returns-in-Err : goal.returns-in-Err
returns-in-Err c =
    sym (c.loop-i.invariant.1 ∙ entry_missing (width_of c.args.size) c.args.start c.args.container.now c.loop-i.i (width_positive c.args.size) c.in-Err.ensures c.loop-i-test.true (number_not_0 c.in-Err.field-0))

pub loop-i-preserved : goal.loop-i-preserved
loop-i-preserved c =
    let inside = entry_inside (width_of c.args.size) c.args.start c.args.container.now c.loop-i.i (width_positive c.args.size) c.in-Ok.ensures refl in
    let next = c.loop-i.invariant.1 ∙ entry_next (width_of c.args.size) c.args.start c.args.container.now c.loop-i.i (width_positive c.args.size) c.in-Ok.ensures refl c.if-start-entry.false in
    (omega (arith, c.width-i-step.ensures), rw c.width-i-step.ensures next)

pub returns-else-start-entry : goal.returns-else-start-entry
returns-else-start-entry c =
    let next = c.loop-i.invariant.1 ∙ entry_next (width_of c.args.size) c.args.start c.args.container.now c.loop-i.i (width_positive c.args.size) c.in-Ok.ensures refl c.if-start-entry.false in
    let past : length c.args.container.now ≤ c.loop-i.i + width_of c.args.size = omega (arith, c.width-i-step.ensures) in
    sym (next ∙ rest_end (width_of c.args.size) c.args.start c.args.container.now (c.loop-i.i + width_of c.args.size) (width_positive c.args.size) past)
