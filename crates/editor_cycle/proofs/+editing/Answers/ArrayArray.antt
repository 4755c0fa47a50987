-- The needs of `array::array`, and what answers each.
use Rattle.editor_steps.proofs.Items.{array_deeper, array_fixed, array_walks, elements_ready, item_is, repeats}
use Rattle.editor_steps.proofs.ReadingsLaws.{each_ready, each_slot, each_walks}
use Rattle.editor_steps.proofs.WalkLaws.{counts}
use mathlib.Core.Path.{◌∙◌, refl, sym}
use native.Mathlib.Omega.{arith}
use Rattle.editor_cycle.proofs.+editing.Goals as goal

pub returns-then-item : goal.array::array-returns-then-item
returns-then-item t c =
    counts _ _ _ _ _ _ _ _ _ 0 _ refl (array_fixed (item_is c.args.text.now c.args.tables.now c.args.shape c.requires.0
    c.requires.1 c.item_of-item.result c.item_of-item.ensures) c.args.d c.args.aim.big c.args.part.now c.if-item.true)
    (omega arith) refl

pub returns-in_err-deeper : goal.array::array-returns-in_err-deeper
returns-in_err-deeper t c =
    let item = item_is c.args.text.now c.args.tables.now c.args.shape c.requires.0 c.requires.1 c.item_of-item.result c.item_of-item.ensures in
    absurd (omega (arith, (array_deeper item c.args.d c.if-item.false _ c.in_err-deeper.ensures c.args.place c.args.part.now c.requires.2).falls))

pub readings-requires : goal.array::array-readings-requires
readings-requires t c =
    let item = item_is c.args.text.now c.args.tables.now c.args.shape c.requires.0 c.requires.1 c.item_of-item.result c.item_of-item.ensures in
    each_ready item
    (each_slot c.args.text.now c.args.tables.now c.args.shape c.requires.0 c.requires.1 c.item_of-item.result c.item_of-item.ensures c.if-item.false
    (sym c.is_slot.ensures ∙ c.if-is_slot.true)) _ _ _
    (elements_ready item c.args.d c.if-item.false _ c.in_ok-deeper.ensures c.args.place c.args.part.now c.requires.2)

pub returns-then-is_slot : goal.array::array-returns-then-is_slot
returns-then-is_slot t c =
    let item = item_is c.args.text.now c.args.tables.now c.args.shape c.requires.0 c.requires.1 c.item_of-item.result c.item_of-item.ensures in
    array_walks item c.args.d c.if-item.false _ c.in_ok-deeper.ensures c.args.place c.args.part.now c.requires.2
    c.args.aim.big _ _ _ _ _
    (each_walks item
    (each_slot c.args.text.now c.args.tables.now c.args.shape c.requires.0 c.requires.1 c.item_of-item.result c.item_of-item.ensures c.if-item.false
    (sym c.is_slot.ensures ∙ c.if-is_slot.true)) _ _ _ c.args.aim _ _ _ _ c.readings.ensures)

pub elements-requires : goal.array::array-elements-requires
elements-requires t c = (
  omega (
    arith,
    (array_deeper (item_is c.args.text.now c.args.tables.now c.args.shape c.requires.0 c.requires.1
        c.item_of-item.result c.item_of-item.ensures) c.args.d c.if-item.false _ c.in_ok-deeper.ensures
        c.args.place c.args.part.now c.requires.2).falls,
    c.decreases,
  ),
  (
    repeats (item_is c.args.text.now c.args.tables.now
        c.args.shape c.requires.0 c.requires.1 c.item_of-item.result c.item_of-item.ensures) c.args.d
        c.if-item.false,
    elements_ready (item_is c.args.text.now c.args.tables.now c.args.shape c.requires.0 c.requires.1
        c.item_of-item.result c.item_of-item.ensures) c.args.d c.if-item.false _ c.in_ok-deeper.ensures
        c.args.place c.args.part.now c.requires.2,
  ),
)

pub returns : goal.array::array-returns
returns t c =
    array_walks (item_is c.args.text.now c.args.tables.now c.args.shape c.requires.0 c.requires.1 c.item_of-item.result
    c.item_of-item.ensures) c.args.d c.if-item.false _ c.in_ok-deeper.ensures c.args.place
    c.args.part.now c.requires.2 c.args.aim.big _ _ _ _ _ c.elements.ensures
