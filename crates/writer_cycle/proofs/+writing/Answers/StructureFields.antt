-- The needs of `structure::fields`, and what answers each.
use Rattle.signature.proofs.Letters.{apart_from}
use Rattle.signature.proofs.TreeLaws.{described_aligned, described_alignment, last_field_of, next_field_of}
use Rattle.signature.specs.declared.Letter.TheVariants.{CloseStructure}
use Rattle.meaning.proofs.RefusalLaws.{number_not_0}
use Rattle.writer_basic.proofs.Rows.{stopped_on}
use Rattle.writer_basic.proofs.Openings.{few_variants}
use Rattle.writer_cycle.proofs.FieldRows.{field_here, fields_last, fields_next, fields_stop}
use Rattle.writer_cycle.proofs.Spots.{placed_as, value_as}
use mathlib.Core.Path.{refl}
use native.Mathlib.Omega.{arith}
use borrow.Enum.Refused.{opened}
use Rattle.writer_cycle.proofs.+writing.Goals as goal

pub pad-padding-requires : goal.structure::fields-pad-padding-requires
pad-padding-requires t c =
    (omega (arith, c.loop-one.invariant.small, c.requires.3.near), described_aligned (field_here _ _ _ c.loop-one.invariant.rowed c.requires.1 _ c.shape_in-field.ensures _ c.letter_at-behind.ensures).shape)

pub value-requires : goal.structure::fields-value-requires
value-requires t c = (
  omega (arith, c.decreases),
  ((field_here _ _ _ c.loop-one.invariant.rowed c.requires.1 _ c.shape_in-field.ensures _ c.letter_at-behind.ensures).shape, c.requires.2, placed_as c.child_spot-here.ensures c.loop-one.invariant.within (omega arith) (omega arith)),
)

pub returns-in_err-one : goal.structure::fields-returns-in_err-one
returns-in_err-one t c =
    stopped_on _ _ c.from_residual.ensures
    (fields_stop _ _ _ (few_variants c.requires.2) _ _ _ _ _ _ _ _ _ _ _ _ _ _ _ _ c.loop-one.invariant _ _ _ _ _ _ _ (value_as c.child_spot-here.ensures _ _ _ _ _ c.in_err-one.ensures) _
    (last_field_of _ _ _ c.loop-one.invariant.rowed c.requires.1 _ c.shape_in-field.ensures _ c.letter_at-behind.ensures)
    (next_field_of _ _ _ c.loop-one.invariant.rowed c.requires.1 _ c.shape_in-field.ensures _ c.letter_at-behind.ensures) (number_not_0 _))

pub returns-in-CloseStructure : goal.structure::fields-returns-in-CloseStructure
returns-in-CloseStructure t c =
    (fields_last _ _ _ (few_variants c.requires.2) _ _ _ _ _ _ _ _ _ _ _ _ _ _ _ _ c.loop-one.invariant _ _ _ _ _ _ _ (value_as c.child_spot-here.ensures _ _ _ _ _ c.in_ok-one.ensures) _ _
    refl (described_alignment (field_here _ _ _ c.loop-one.invariant.rowed c.requires.1 _ c.shape_in-field.ensures _ c.letter_at-behind.ensures).shape) c.pad-padding.ensures.count.0
    c.pad-padding.ensures.bytes refl refl c.add.ensures (omega (arith, c.loop-one.invariant.same, c.value.auto.out, c.value.auto.ends, c.pad-padding.auto.out)) (omega (arith, c.loop-one.invariant.sames, c.value.auto.out, c.value.auto.ends))
    (last_field_of _ _ _ c.loop-one.invariant.rowed c.requires.1 _ c.shape_in-field.ensures _ c.letter_at-behind.ensures c.in-CloseStructure.is))

pub loop-one-smaller : goal.structure::fields-loop-one-smaller
loop-one-smaller t c =
    let q = (next_field_of _ _ _ c.loop-one.invariant.rowed c.requires.1 _ c.shape_in-field.ensures _ c.letter_at-behind.ensures (apart_from CloseStructure _ (opened c.in_default.in_default-own.keys2))) in omega (arith, q.onward, q.within)

pub loop-one-preserved : goal.structure::fields-loop-one-preserved
loop-one-preserved t c =
    fields_next _ _ _ (few_variants c.requires.2) _ _ _ _ _ _ _ _ _ _ _ _ _ _ _ _ c.loop-one.invariant _ _ _ _ _ _ _ (value_as c.child_spot-here.ensures _ _ _ _ _ c.in_ok-one.ensures) _ _
    refl (described_alignment (field_here _ _ _ c.loop-one.invariant.rowed c.requires.1 _ c.shape_in-field.ensures _ c.letter_at-behind.ensures).shape) c.pad-padding.ensures.count.0
    c.pad-padding.ensures.bytes refl refl c.add.ensures (omega (arith, c.loop-one.invariant.same, c.value.auto.out, c.value.auto.ends, c.pad-padding.auto.out)) (omega (arith, c.loop-one.invariant.sames, c.value.auto.out, c.value.auto.ends)) _ _ _
    (next_field_of _ _ _ c.loop-one.invariant.rowed c.requires.1 _ c.shape_in-field.ensures _ c.letter_at-behind.ensures (apart_from CloseStructure _ (opened c.in_default.in_default-own.keys2))) c.keep.ensures
    (omega (arith, c.loop-one.invariant.same, c.value.auto.out, c.value.auto.ends, c.pad-padding.auto.out, c.keep.auto.out, c.keep.auto.ends)) (omega (arith, c.loop-one.invariant.sames, c.value.auto.out, c.value.auto.ends, c.keep.auto.out, c.keep.auto.ends))
