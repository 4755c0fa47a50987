-- `offsets_of` meets its contract: the loop keeps what is left to count. Assumes nothing.
use mathlib.Core.Path.{refl}
use native.Mathlib.Omega.{arith}
use Rattle.strict_sizes.proofs.TableLaws.{count_last, count_next}
use Rattle.signature.proofs.TreeLaws.{last_field_of, next_field_of}
use Rattle.strict_sizes.proofs.sizes.offsets_of.Goals as goal

pub returns-then-closes_at : goal.returns-then-closes_at
returns-then-closes_at c = (
  count_last c.loop-field.invariant _ (last_field_of _ _ _ c.loop-field.invariant.rowed c.requires.1.shapes _
      c.shape_in-field.ensures _ refl (c.closes_at.ensures.there c.if-closes_at.true)),
  omega (
    arith,
    c.loop-field.invariant.most,
    c.loop-field.invariant.rowed.short,
  ),
)

pub loop-field-smaller : goal.loop-field-smaller
loop-field-smaller c =
    let g = (next_field_of _ _ _ c.loop-field.invariant.rowed c.requires.1.shapes _ c.shape_in-field.ensures _
    refl (c.closes_at.ensures.missing c.if-closes_at.false)) in omega (arith, g.onward, g.within)

pub loop-field-preserved : goal.loop-field-preserved
loop-field-preserved c =
    count_next c.loop-field.invariant _ (next_field_of _ _ _ c.loop-field.invariant.rowed c.requires.1.shapes _
    c.shape_in-field.ensures _ refl (c.closes_at.ensures.missing c.if-closes_at.false)) _
    c.one_more-count.ensures
