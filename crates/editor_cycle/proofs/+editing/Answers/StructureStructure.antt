-- The needs of `structure::structure`, and what answers each.
use Rattle.editor_steps.proofs.Structures.{all_row, fields_ready, row_room, structure_deeper, structure_none, structure_walks}
use Rattle.editor_steps.proofs.WalkLaws.{counts}
use Rattle.strict_sizes.proofs.TableLaws.{placed_at}
use mathlib.Core.Path.{refl}
use native.Mathlib.Omega.{arith}
use Rattle.editor_cycle.proofs.+editing.Goals as goal

pub returns-then-shape : goal.structure::structure-returns-then-shape
returns-then-shape t c =
    counts _ _ _ _ _ _ _ _ _ 0 _ refl (structure_none c.requires.0 c.requires.1 c.args.d c.args.aim.big c.args.part.now c.if-shape.true) (omega arith) refl

pub returns-in_err-deeper : goal.structure::structure-returns-in_err-deeper
returns-in_err-deeper t c =
    absurd (omega (arith, (structure_deeper c.requires.0 c.requires.1 c.args.d c.if-shape.false _ c.in_err-deeper.ensures c.args.place c.args.part.now c.requires.2).falls))

pub overflow_add-shape : goal.structure::structure-overflow_add-shape
overflow_add-shape t c =
    omega (arith, placed_at c.requires.0)

pub offsets_in-requires : goal.structure::structure-offsets_in-requires
offsets_in-requires t c =
    (c.requires.0.table.room, placed_at c.requires.0)

pub row_of-row-requires : goal.structure::structure-row_of-row-requires
row_of-row-requires t c =
    row_room c.requires.0 c.requires.1 c.args.d c.if-shape.false _ c.in_ok-deeper.ensures c.args.place c.args.part.now c.requires.2 _ c.offsets_in.ensures

pub fields-requires : goal.structure::structure-fields-requires
fields-requires t c = (
  omega (
    arith,
    (structure_deeper c.requires.0 c.requires.1 c.args.d c.if-shape.false _ c.in_ok-deeper.ensures c.args.place c.args.part.now c.requires.2).falls,
    c.decreases,
  ),
  (
    all_row c.requires.0
        c.requires.1 c.args.d c.if-shape.false _ c.in_ok-deeper.ensures c.args.place
        c.args.part.now c.requires.2 _ c.offsets_in.ensures _ c.row_of-row.ensures,
    fields_ready c.requires.0 c.requires.1
        c.args.d c.if-shape.false _ c.in_ok-deeper.ensures c.args.place c.args.part.now
        c.requires.2 _ c.offsets_in.ensures _ c.row_of-row.ensures,
  ),
)

pub returns : goal.structure::structure-returns
returns t c =
    structure_walks c.requires.0 c.requires.1 c.args.d c.if-shape.false _ c.in_ok-deeper.ensures
    c.args.place c.args.part.now c.requires.2 _ c.offsets_in.ensures _ c.row_of-row.ensures c.args.aim.big _ _ _ _ _
    c.fields.ensures
