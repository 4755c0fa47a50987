-- The needs of `array::array`, and what answers each.
use Rattle.container_depths.proofs.Levels.{level_falls}
use Rattle.meaning.proofs.RefusalLaws.{number_not_0}
use Rattle.strict_cycle.proofs.Arrays.{array_any, array_deep, array_not, array_on, array_readings, array_texts, reads_aligned, reads_stand, texts_stand}
use Rattle.strict_cycle.proofs.Values.{inside_deeper}
use mathlib.Core.Path.{refl, ◌∙◌}
use native.Mathlib.Omega.{arith}
use Rattle.meaning.specs.Depths as Depth
use Rattle.strict_cycle.proofs.+testing.Goals as goal

pub returns-in_default : goal.array::array-returns-in_default
returns-in_default t c =
    array_deep c.repeated-item.result c.repeated-item.ensures c.args.d c.args.part.now _ c.in_default.ensures (number_not_0 c.in_default.field-0)

pub first-requires : goal.array::array-first-requires
first-requires t c = (
  omega (arith, level_falls Depth.array c.args.d _ c.in-Ok.ensures refl, c.decreases),
  (
    c.repeated-item.ensures.repeated,
    c.in-AnyBytes.is,
    inside_deeper Depth.array c.args.d _ c.requires.2
        c.in-Ok.ensures refl,
  ),
)

pub returns-in-AnyBytes : goal.array::array-returns-in-AnyBytes
returns-in-AnyBytes t c =
    array_any c.repeated-item.result c.repeated-item.ensures c.args.d c.args.part.now _ c.in-Ok.ensures refl _ c.first.ensures

pub returns-in_default-rows_of : goal.array::array-returns-in_default-rows_of
returns-in_default-rows_of t c =
    array_not c.repeated-item.result c.repeated-item.ensures c.args.d c.args.part.now _ c.in-Ok.ensures refl c.in_default-rows_of.ensures

pub texts_written-requires : goal.array::array-texts_written-requires
texts_written-requires t c =
    (c.requires.2.in_frame, texts_stand c.repeated-item.result c.repeated-item.ensures c.args.d c.args.part.now _ c.in-Ok.ensures refl _ c.in-Some.ensures c.in-Texts.is)

pub readings_written-requires : goal.array::array-readings_written-requires
readings_written-requires t c = (
  c.requires.2.in_frame,
  reads_stand c.repeated-item.result c.repeated-item.ensures c.args.d c.args.part.now _ c.in-Ok.ensures refl _ c.in-Some.ensures _ c.in-Readings.is,
  reads_aligned
      c.repeated-item.result c.repeated-item.ensures c.args.d c.args.part.now _ c.in-Ok.ensures refl _ c.in-Some.ensures _ c.in-Readings.is,
)

pub entries-requires : goal.array::array-entries-requires
entries-requires t c = (
  omega (arith, level_falls Depth.array c.args.d _ c.in-Ok.ensures refl, c.decreases),
  (
    c.repeated-item.ensures.repeated,
    c.in-Entries.is,
    inside_deeper Depth.array c.args.d _ c.requires.2 c.in-Ok.ensures refl,
    c.in-Some.ensures.standing,
  ),
)

pub elements-requires : goal.array::array-elements-requires
elements-requires t c = (
  omega (arith, level_falls Depth.array c.args.d _ c.in-Ok.ensures refl, c.decreases),
  (
    c.repeated-item.ensures.repeated,
    c.in_default-repeats-2.not-Entries,
    inside_deeper Depth.array c.args.d _ c.requires.2 c.in-Ok.ensures refl,
    c.in-Some.ensures.standing,
  ),
)

pub returns-in-Texts : goal.array::array-returns-in-Texts
returns-in-Texts t c =
    array_texts c.repeated-item.result c.repeated-item.ensures c.args.d c.args.part.now _ c.in-Ok.ensures refl _ c.in-Some.ensures c.in-Texts.is _ c.texts_written.ensures

pub returns-in-Readings : goal.array::array-returns-in-Readings
returns-in-Readings t c =
    array_readings c.repeated-item.result c.repeated-item.ensures c.args.d c.args.part.now _ c.in-Ok.ensures refl _ c.in-Some.ensures _ c.in-Readings.is _ _ c.inc_maybe.ensures (λ e q.
    c.readings_written.ensures e (c.is_ok-room.ensures.value ∙ q))

pub returns-in-Entries : goal.array::array-returns-in-Entries
returns-in-Entries t c =
    array_on c.repeated-item.result c.repeated-item.ensures c.args.d c.args.part.now _ c.in-Ok.ensures refl _ c.in-Some.ensures _ c.entries.ensures

pub returns-in_default-repeats-2 : goal.array::array-returns-in_default-repeats-2
returns-in_default-repeats-2 t c =
    array_on c.repeated-item.result c.repeated-item.ensures c.args.d c.args.part.now _ c.in-Ok.ensures refl _ c.in-Some.ensures _ c.elements.ensures
