-- `reader_steps::structure::field_ends` meets its contract. Assumes nothing.
use Rattle.reader_steps.proofs.Structures.{ends_fixed, ends_missing_lem, ends_there, offset_small, offset_there, width_small}
use Rattle.std.proofs.Common.{◌-◌, length, sym, refl, ◌∙◌, arith}
use Rattle.meaning.proofs.RefusalLaws.{number_not_0}
use Rattle.reader_basic.proofs.Answers.{handed}
use Rattle.reader_steps.proofs.structure.field_ends.Goals as goal

pub returns-then-fixed_of : goal.returns-then-fixed_of
returns-then-fixed_of c =
    ends_fixed _ _ _ _ _ (sym c.fixed_of.ensures ∙ c.if-fixed_of.true)

pub returns-in_err-offset : goal.returns-in_err-offset
returns-in_err-offset c =
    rw (handed _ _ c.from_residual.ensures) (ends_missing_lem _ _ _ _ _ _ c.for_encoded_container-size.ensures _ c.in_err-offset.ensures (sym c.fixed_of.ensures ∙ c.if-fixed_of.false) (number_not_0 _))

pub overflow_add-result : goal.overflow_add-result
overflow_add-result c =
    omega (
      arith,
      offset_small _ _ _ c.args.part.now _ (λ i. omega (arith, c.shared_slice_known-1.given i))
          (omega (
            arith,
            c.for_encoded_container-size.ensures,
            width_small (length c.args.part.now - c.args.lead)
                (omega (arith, c.requires.2)),
          )) (offset_there _ _ _ _ _ c.in_ok-offset.ensures refl),
      c.requires.0,
      c.requires.2,
    )

pub returns : goal.returns
returns c =
    rw c.width.ensures (ends_there _ _ _ _ _ _ c.for_encoded_container-size.ensures _
    c.in_ok-offset.ensures (sym c.fixed_of.ensures ∙ c.if-fixed_of.false) refl)
