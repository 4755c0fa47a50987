-- The needs of `structure::structure`, and what answers each.
use Rattle.container_depths.proofs.Levels.{level_falls}
use Rattle.signature.proofs.Letters.{cut}
use Rattle.signature.proofs.TreeLaws.{described_aligned, structure_fixed, structure_rowed}
use Rattle.signature.specs.declared.Letter.TheVariants.{OpenStructure}
use Rattle.writer_basic.proofs.Openings.{few_variants, raised_in}
use Rattle.meaning.proofs.RefusalLaws.{number_not_0}
use Rattle.writer_basic.proofs.Answers.{refused_on}
use Rattle.writer_basic.proofs.Rows.{row_bounds}
use Rattle.writer_basic.proofs.Rounds.{structure_stop, ended_stop}
use Rattle.writer_cycle.proofs.FieldRows.{sealed_no_ends}
use Rattle.writer_cycle.proofs.Values.{structure_structured, value_structure, value_structure_deep, value_structure_not}
use borrow.Author.Tests.{not-false, not-true}
use mathlib.Core.Bool.{false}
use mathlib.Core.Path.{◌∙◌, refl, sym}
use native.Mathlib.Omega.{arith}
use Rattle.meaning.specs.Depths as Depth
use Rattle.writer_cycle.proofs.+writing.Goals as goal

pub returns-then-not-plain_at : goal.structure::structure-returns-then-not-plain_at
returns-then-not-plain_at t c =
    (value_structure_not c.requires.0 c.requires.1 _ _ _ (few_variants c.requires.2) _ _ _ _ _ _ (c.plain_at.ensures.not (not-true _ c.if-not-plain_at.true-raw)))

pub returns-in_err-inc_structure : goal.structure::structure-returns-in_err-inc_structure
returns-in_err-inc_structure t c =
    refused_on _ _ c.from_residual.ensures (value_structure_deep c.requires.0 c.requires.1 _ _ _ (few_variants c.requires.2) _ _ _ _ _ _ (c.plain_at.ensures.here (not-false _ c.if-not-plain_at.false-raw)) _ c.in_err-inc_structure.ensures (number_not_0 _))

pub overflow_add-at : goal.structure::structure-overflow_add-at
overflow_add-at t c =
    omega (arith, (cut c.args.text.now c.args.shape.at OpenStructure 40 c.requires.1 refl).within, c.requires.0.typed.short)

pub fields-requires : goal.structure::structure-fields-requires
fields-requires t c = (
  omega (arith, level_falls Depth.structure c.args.context.depths _ c.in_ok-inc_structure.ensures refl, c.decreases),
  (
    structure_rowed c.requires.0 c.requires.1,
    c.requires.0.table,
    raised_in Depth.structure _ _ c.in_ok-inc_structure.ensures _ refl,
    record
        { within = (c.plain_at.ensures.here (not-false _ c.if-not-plain_at.false-raw)).whole; near = c.requires.3.near; few = c.requires.3.few },
  ),
)

pub returns-in_err-row : goal.structure::structure-returns-in_err-row
returns-in_err-row t c =
    refused_on _ _ c.from_residual-in_err-row.ensures
    (value_structure c.requires.0 c.requires.1 _ _ _ (few_variants c.requires.2) _ _ _ _ _ _ (c.plain_at.ensures.here (not-false _ c.if-not-plain_at.false-raw)) _ c.in_ok-inc_structure.ensures _
    _ _ _ refl refl
    (structure_stop _ _ _ c.args.shape.alignment _ _ _ _ _ _ _ _ _ (ended_stop _ _ _ _ _ _ _ _ _ _ _ _ _ c.in_err-row.ensures (number_not_0 _)) (number_not_0 _)))

pub returns-in_err-closed : goal.structure::structure-returns-in_err-closed
returns-in_err-closed t c =
    refused_on _ _ c.from_residual-in_err-closed.ensures
    (value_structure c.requires.0 c.requires.1 _ _ _ (few_variants c.requires.2) _ _ _ _ _ _ (c.plain_at.ensures.here (not-false _ c.if-not-plain_at.false-raw)) _ c.in_ok-inc_structure.ensures _
    _ _ _ refl refl
    (structure_stop _ _ _ c.args.shape.alignment _ _ _ _ _ _ _ _ _ (c.in_err-closed.ensures _ _ _ _ _ _ _ _ _ _ _ c.in_ok-row.ensures) (number_not_0 _)))

pub structure_end-requires : goal.structure::structure-structure_end-requires
structure_end-requires t c =
    (c.requires.3.near, c.requires.3.few, described_aligned c.requires.0, (row_bounds refl (c.in_ok-closed.ensures _ _ _ _ _ _ _ _ _ _ _ c.in_ok-row.ensures)).small, (row_bounds refl (c.in_ok-closed.ensures _ _ _ _ _ _ _ _ _ _ _ c.in_ok-row.ensures)).few)

pub returns : goal.structure::structure-returns
returns t c =
    value_structure c.requires.0 c.requires.1 _ _ _ (few_variants c.requires.2) _ _ _ _ _ _ (c.plain_at.ensures.here (not-false _ c.if-not-plain_at.false-raw)) _ c.in_ok-inc_structure.ensures _
    _ _ _ refl refl
    (c.structure_end.ensures _ _ _ _ _ _ _ (structure_structured _ _)
    (λ f. sealed_no_ends _ _ _ (few_variants (raised_in Depth.structure _ _ c.in_ok-inc_structure.ensures false refl)) _ _ (sym (structure_fixed c.requires.0 c.requires.1) ∙ f) _)
    (λ z. omega (arith, (row_bounds z (c.in_ok-closed.ensures _ _ _ _ _ _ _ _ _ _ _ c.in_ok-row.ensures)).forward)) (omega (arith, c.fields.auto.out, c.fields.auto.ends)) (omega (arith, c.fields.auto.out, c.fields.auto.ends))
    (c.in_ok-closed.ensures _ _ _ _ _ _ _ _ _ _ _ c.in_ok-row.ensures))
