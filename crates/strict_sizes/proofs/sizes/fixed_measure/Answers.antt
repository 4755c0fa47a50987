-- `fixed_measure` meets its contract: the loop keeps what is left of the size. Assumes nothing.
use mathlib.Core.Path.{refl}
use native.Mathlib.Omega.{arith}
use Rattle.signature.proofs.TreeLaws.{described_aligned}
use Rattle.meaning.proofs.TypeLaws.{aligns_most}
use Prim.Native.Nat.{◌+◌, ◌/◌}
use Rattle.meaning.proofs.PaddingLaws.{padding_below}
use Rattle.strict_sizes.proofs.TableLaws.{size_last, size_next, field_small, field_described, field_place, aligned_by}
use Rattle.signature.proofs.TreeLaws.{last_field_of, next_field_of}
use Rattle.strict_sizes.proofs.sizes.fixed_measure.Goals as goal

pub measure_at-measure-requires : goal.measure_at-measure-requires
measure_at-measure-requires c =
    (c.requires.1.room, field_place _ _ _ c.loop-field.invariant.rowed c.requires.1.shapes)

pub aligned-start-requires : goal.aligned-start-requires
aligned-start-requires c = (
  omega (arith, c.loop-field.invariant.small, field_place _ _ _ c.loop-field.invariant.rowed c.requires.1.shapes),
  described_aligned (field_described _ _ _ c.loop-field.invariant.rowed c.requires.1.shapes _ c.shape_in-field.ensures),
)

pub overflow_add-end : goal.overflow_add-end
overflow_add-end c =
    omega (
      arith,
      field_small c.requires.1 c.loop-field.invariant _ c.shape_in-field.ensures _
          c.measure_at-measure.ensures _ c.aligned-start.ensures,
    )

pub aligned-size-requires : goal.aligned-size-requires
aligned-size-requires c = (
  omega (
    arith,
    field_small c.requires.1 c.loop-field.invariant _
        c.shape_in-field.ensures _ c.measure_at-measure.ensures _ c.aligned-start.ensures,
  ),
  aligned_by _ c.requires.3,
)

pub pack-requires : goal.pack-requires
pack-requires c =
    let a = aligned_by _ c.requires.3 in omega (
      arith,
      field_small c.requires.1
          c.loop-field.invariant _ c.shape_in-field.ensures _
          c.measure_at-measure.ensures _ c.aligned-start.ensures,
      c.aligned-size.ensures,
      padding_below a (c.aligned-start.result + c.measure_at-measure.result / 2),
      aligns_most a,
    )

pub returns-then-closes_at : goal.returns-then-closes_at
returns-then-closes_at c =
    size_last c.requires.1 c.loop-field.invariant _
    c.shape_in-field.ensures _ c.measure_at-measure.ensures _
    c.aligned-start.ensures _ _ refl refl
    (last_field_of _ _ _ c.loop-field.invariant.rowed c.requires.1.shapes _
    c.shape_in-field.ensures _ refl
    (c.closes_at.ensures.there c.if-closes_at.true)) c.requires.2 _ _ _ _
    c.requires.3 c.aligned-size.ensures refl
    c.pack.ensures

pub loop-field-smaller : goal.loop-field-smaller
loop-field-smaller c =
    let g = (next_field_of _ _ _ c.loop-field.invariant.rowed c.requires.1.shapes _
    c.shape_in-field.ensures _ refl (c.closes_at.ensures.missing c.if-closes_at.false)) in omega
    (arith, g.onward, g.within)

pub loop-field-preserved : goal.loop-field-preserved
loop-field-preserved c =
    size_next c.requires.1 c.loop-field.invariant _
    c.shape_in-field.ensures _ c.measure_at-measure.ensures _ c.aligned-start.ensures _ _
    refl refl (next_field_of _ _ _ c.loop-field.invariant.rowed
    c.requires.1.shapes _ c.shape_in-field.ensures _
    refl (c.closes_at.ensures.missing c.if-closes_at.false))
