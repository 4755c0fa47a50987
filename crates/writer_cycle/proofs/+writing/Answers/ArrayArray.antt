-- The needs of `array::array`, and what answers each.
use Rattle.container_depths.proofs.Levels.{level_falls}
use Rattle.writer_basic.proofs.Openings.{few_variants, raised_in}
use Rattle.meaning.proofs.RefusalLaws.{number_not_0}
use Rattle.writer_basic.proofs.Answers.{refused_on}
use Rattle.writer_basic.proofs.Rounds.{array_stop, ended_stop}
use mathlib.Core.Path.{refl}
use Rattle.writer_cycle.proofs.EntryRows.{item_shorter}
use Rattle.writer_cycle.proofs.ItemLaws.{item_at}
use Rattle.writer_cycle.proofs.Values.{value_array, value_array_deep, value_array_not}
use borrow.Author.Tests.{not-false, not-true}
use native.Mathlib.Omega.{arith}
use Rattle.meaning.specs.Depths as Depth
use Rattle.writer_cycle.proofs.+writing.Goals as goal

pub returns-then-not-plain_at : goal.array::array-returns-then-not-plain_at
returns-then-not-plain_at t c =
    value_array_not _ _ _ _ (item_at _ _ _ c.requires.0 c.requires.1 _ c.item_of-item.ensures) _ _ _ (few_variants c.requires.2) _ _ _ _ _ _ _ c.item_kind.ensures (c.plain_at.ensures.not (not-true _ c.if-not-plain_at.true-raw))

pub returns-in_err-inc_array : goal.array::array-returns-in_err-inc_array
returns-in_err-inc_array t c =
    refused_on _ _ c.from_residual.ensures
    (value_array_deep _ _ _ _ (item_at _ _ _ c.requires.0 c.requires.1 _ c.item_of-item.ensures) _ _ _ (few_variants c.requires.2) _ _ _ _ _ _ _ c.item_kind.ensures
    (c.plain_at.ensures.here (not-false _ c.if-not-plain_at.false-raw)) _ c.in_err-inc_array.ensures (number_not_0 _))

pub elements-requires : goal.array::array-elements-requires
elements-requires t c = (
  omega (arith, level_falls Depth.array c.args.context.depths _ c.in_ok-inc_array.ensures refl, c.decreases),
  (
    (item_at _ _ _ c.requires.0 c.requires.1 _ c.item_of-item.ensures).repeated,
    raised_in Depth.array _ _ c.in_ok-inc_array.ensures _ refl,
    record
        { within = (c.plain_at.ensures.here (not-false _ c.if-not-plain_at.false-raw)).whole; near = c.requires.3.near; few = c.requires.3.few },
  ),
)

pub returns-in_err-row : goal.array::array-returns-in_err-row
returns-in_err-row t c =
    refused_on _ _ c.from_residual-in_err-row.ensures
    (value_array _ _ _ _ (item_at _ _ _ c.requires.0 c.requires.1 _ c.item_of-item.ensures) _ _ _ (few_variants c.requires.2) _ _ _ _ _ _ _ c.item_kind.ensures
    (c.plain_at.ensures.here (not-false _ c.if-not-plain_at.false-raw)) _ c.in_ok-inc_array.ensures _ _ _ _ refl refl (item_shorter _ _ _ _ _ _)
    (array_stop _ _ _ _ _ _ _ _ _ _ _ _ _ (ended_stop _ _ _ _ _ _ _ _ _ _ _ _ _ c.in_err-row.ensures (number_not_0 _)) (number_not_0 _)))

pub returns-in_err-closed : goal.array::array-returns-in_err-closed
returns-in_err-closed t c =
    refused_on _ _ c.from_residual-in_err-closed.ensures
    (value_array _ _ _ _ (item_at _ _ _ c.requires.0 c.requires.1 _ c.item_of-item.ensures) _ _ _ (few_variants c.requires.2) _ _ _ _ _ _ _ c.item_kind.ensures
    (c.plain_at.ensures.here (not-false _ c.if-not-plain_at.false-raw)) _ c.in_ok-inc_array.ensures _ _ _ _ refl refl (item_shorter _ _ _ _ _ _)
    (array_stop _ _ _ _ _ _ _ _ _ _ _ _ _ (c.in_err-closed.ensures _ _ _ _ _ _ _ _ _ _ _ c.in_ok-row.ensures) (number_not_0 _)))

pub returns : goal.array::array-returns
returns t c =
    value_array _ _ _ _ (item_at _ _ _ c.requires.0 c.requires.1 _ c.item_of-item.ensures) _ _ _ (few_variants c.requires.2) _ _ _ _ _ _ _ c.item_kind.ensures
    (c.plain_at.ensures.here (not-false _ c.if-not-plain_at.false-raw)) _ c.in_ok-inc_array.ensures _ _ _ _ refl refl (item_shorter _ _ _ _ _ _)
    (c.array_end.ensures _ _ _ _ _ _ _ (omega (arith, c.elements.auto.out, c.elements.auto.ends)) (omega (arith, c.elements.auto.out, c.elements.auto.ends)) (c.in_ok-closed.ensures _ _ _ _ _ _ _ _ _ _ _ c.in_ok-row.ensures))
