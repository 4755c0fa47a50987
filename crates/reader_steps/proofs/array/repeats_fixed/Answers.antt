-- `reader_steps::array::repeats_fixed` meets its contract. Assumes nothing.
use Rattle.std.proofs.Common.{sym, ◌∙◌, arith}
use Rattle.reader_steps.proofs.Repeats.{item_within, entry_there, fixed_entry, fixed_text_entry, fixed_element}
use Rattle.reader_steps.proofs.array.repeats_fixed.Goals as goal

pub overflow_add-at : goal.overflow_add-at
overflow_add-at c = omega (arith, item_within _ _ _ _ c.requires, c.requires.child.typed.short)

pub bounds-text-at : goal.bounds-text-at
bounds-text-at c = omega (arith, item_within _ _ _ _ c.requires)

pub overflow_add-at-then-text-at-eq123 : goal.overflow_add-at-then-text-at-eq123
overflow_add-at-then-text-at-eq123 c = omega (arith, entry_there _ _ _ c.requires c.if-text-at-eq123.true, c.requires.child.typed.short)

pub bounds-text-at-then-text-at-eq123 : goal.bounds-text-at-then-text-at-eq123
bounds-text-at-then-text-at-eq123 c = omega (arith, entry_there _ _ _ c.requires c.if-text-at-eq123.true)

pub overflow_add-at-then-is_fixed : goal.overflow_add-at-then-is_fixed
overflow_add-at-then-is_fixed c = omega (arith, entry_there _ _ _ c.requires c.if-text-at-eq123.true, c.requires.child.typed.short)

pub offset_bounds-shapes-at : goal.offset_bounds-shapes-at
offset_bounds-shapes-at c = omega (arith, entry_there _ _ _ c.requires c.if-text-at-eq123.true, c.requires.child.typed.short)

pub bounds-shapes-at : goal.bounds-shapes-at
bounds-shapes-at c = omega (arith, entry_there _ _ _ c.requires c.if-text-at-eq123.true, c.requires.child.typed.short)

pub returns-then-is_fixed : goal.returns-then-is_fixed
returns-then-is_fixed c =
    fixed_entry _ _ _ c.requires c.if-text-at-eq123.true (sym c.if-is_fixed.true ∙ c.is_fixed.ensures) c.fixed_of.ensures

pub returns-else-is_fixed : goal.returns-else-is_fixed
returns-else-is_fixed c =
    c.if-is_fixed.false ∙ fixed_text_entry _ _ _ c.requires c.if-text-at-eq123.true (sym c.if-is_fixed.false ∙ c.is_fixed.ensures)

pub overflow_add-at-else-text-at-eq123 : goal.overflow_add-at-else-text-at-eq123
overflow_add-at-else-text-at-eq123 c = omega (arith, item_within _ _ _ _ c.requires, c.requires.child.typed.short)

pub offset_bounds-shapes-at-else-text-at-eq123 : goal.offset_bounds-shapes-at-else-text-at-eq123
offset_bounds-shapes-at-else-text-at-eq123 c = omega (arith, item_within _ _ _ _ c.requires, c.requires.child.typed.short)

pub bounds-shapes-at-else-text-at-eq123 : goal.bounds-shapes-at-else-text-at-eq123
bounds-shapes-at-else-text-at-eq123 c = omega (arith, item_within _ _ _ _ c.requires, c.requires.child.typed.short)

pub returns-else-text-at-eq123 : goal.returns-else-text-at-eq123
returns-else-text-at-eq123 c = fixed_element c.args.text.now c.args.shapes.now c.args.at c.if-text-at-eq123.false c.fixed_of-else-text-at-eq123.ensures
