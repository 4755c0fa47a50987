-- The needs of `structure::structure`, and what answers each.
use Rattle.container_depths.proofs.Levels.{level_falls}
use Rattle.meaning.proofs.RefusalLaws.{number_not_0}
use Rattle.signature.proofs.TreeLaws.{structure_rowed}
use Rattle.strict_basic.proofs.BasicLaws.{laid_as}
use Rattle.strict_cycle.proofs.Structures.{structure_deep, structure_not, structure_on, structure_room}
use Rattle.strict_cycle.proofs.Values.{inside_deeper}
use Rattle.strict_sizes.proofs.TableLaws.{offsets_most, placed_at, placed_known}
use mathlib.Core.Path.{refl}
use native.Mathlib.Omega.{arith}
use Rattle.meaning.specs.Depths as Depth
use Rattle.strict_cycle.proofs.+testing.Goals as goal

pub returns-in_default : goal.structure::structure-returns-in_default
returns-in_default t c =
    structure_deep c.requires.0 c.requires.1 c.args.d c.args.part.now _ c.in_default.ensures (number_not_0 c.in_default.field-0)

pub extent_in-whole-requires : goal.structure::structure-extent_in-whole-requires
extent_in-whole-requires t c =
    (c.requires.0.table.room, placed_at c.requires.0)

pub offsets_in-requires : goal.structure::structure-offsets_in-requires
offsets_in-requires t c =
    (c.requires.0.table.room, placed_at c.requires.0)

pub rows_behind-requires : goal.structure::structure-rows_behind-requires
rows_behind-requires t c =
    (c.requires.2.in_frame, omega (arith, c.offsets_in.ensures, offsets_most c.requires.0 c.requires.1))

pub returns-in_default-rows_behind : goal.structure::structure-returns-in_default-rows_behind
returns-in_default-rows_behind t c =
    structure_not c.requires.0 c.requires.1 c.args.d c.args.part.now _ c.in-Ok.ensures refl _ c.extent_in-whole.ensures _ c.offsets_in.ensures c.in_default-rows_behind.ensures

pub overflow_add-shape : goal.structure::structure-overflow_add-shape
overflow_add-shape t c =
    omega (arith, placed_at c.requires.0)

pub fields-requires : goal.structure::structure-fields-requires
fields-requires t c = (
  omega (arith, level_falls Depth.structure c.args.d _ c.in-Ok.ensures refl, c.decreases),
  (
    structure_rowed c.requires.0.shape c.requires.1,
    c.requires.0.table,
    inside_deeper Depth.structure c.args.d _ c.requires.2 c.in-Ok.ensures refl,
    c.in-Some.ensures.within,
    (laid_as c.extent_in-whole.ensures (placed_known c.requires.0).laid).aligned,
    c.in-Some.ensures.wide,
    structure_room c.requires.0 c.requires.1 c.args.d c.args.part.now _ c.in-Ok.ensures refl _ c.extent_in-whole.ensures _ c.offsets_in.ensures _ c.in-Some.ensures _,
  ),
)

pub returns : goal.structure::structure-returns
returns t c =
    structure_on c.requires.0 c.requires.1 c.args.d c.args.part.now _ c.in-Ok.ensures refl _ c.extent_in-whole.ensures _ c.offsets_in.ensures _ c.in-Some.ensures _ c.fields.ensures
