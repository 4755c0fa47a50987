-- The needs of `dictionary::step`, and what answers each.
use Rattle.editor_steps.proofs.Entries.{entry_closed, entry_fits, entry_fixed_lem, entry_order, entry_ready, entry_wide, key_fits, plain_ready, plain_walks}
use Rattle.editor_steps.proofs.WalkLaws.{counts}
use Rattle.signature.proofs.TreeLaws.{described_aligned}
use mathlib.Core.Path.{refl}
use native.Mathlib.Omega.{arith}
use borrow.Author.Tests.{not-true, not-false}
use Rattle.std.proofs.lemmas.Result.{err_from_is_err_and}
use Rattle.editor_steps.proofs.ClosingLaws.{closes_refused}
use Rattle.editor_cycle.proofs.+editing.Goals as goal

pub value-requires : goal.dictionary::step-value-requires
value-requires t c =
    (omega (arith, c.decreases), (c.requires.0.child, plain_ready c.requires.0 c.args.d c.args.place c.args.part.now c.requires.1 (not-true _ c.if-not-item.true)))

pub returns-then-not-item : goal.dictionary::step-returns-then-not-item
returns-then-not-item t c =
    plain_walks c.requires.0 c.args.d c.args.place c.args.part.now c.requires.1 c.args.aim.big _ _ _ _ _ (not-true _ c.if-not-item.true) c.value.ensures

pub returns-then-inner : goal.dictionary::step-returns-then-inner
returns-then-inner t c =
    counts _ _ _ _ _ _ _ _ _ 0 _ refl (entry_fixed_lem c.requires.0 c.args.d c.args.place c.args.part.now c.requires.1 (not-false _ c.if-not-item.false) c.args.aim.big c.if-inner.true) (omega arith) refl

pub entry_of-start-requires : goal.dictionary::step-entry_of-start-requires
entry_of-start-requires t c =
    (key_fits c.requires.0 c.args.d c.args.place c.args.part.now c.requires.1 (not-false _ c.if-not-item.false), c.requires.0.key, described_aligned c.requires.0.child.shape)

pub slice_bounds-value-count : goal.dictionary::step-slice_bounds-value-count
slice_bounds-value-count t c =
    omega (
      arith,
      (entry_order c.requires.0 c.args.d c.args.place c.args.part.now c.requires.1 (not-false _ c.if-not-item.false) c.if-inner.false
          c.entry_of-start.result c.entry_of-start.ensures).0,
      (entry_order c.requires.0 c.args.d c.args.place c.args.part.now c.requires.1 (not-false _ c.if-not-item.false) c.if-inner.false c.entry_of-start.result c.entry_of-start.ensures).1,
      c.requires.1.near,
    )

pub slice_bounds-value-start : goal.dictionary::step-slice_bounds-value-start
slice_bounds-value-start t c =
    omega (
      arith,
      (entry_order c.requires.0 c.args.d c.args.place c.args.part.now c.requires.1 (not-false _ c.if-not-item.false) c.if-inner.false
          c.entry_of-start.result c.entry_of-start.ensures).0,
      (entry_order c.requires.0 c.args.d c.args.place c.args.part.now c.requires.1 (not-false _ c.if-not-item.false) c.if-inner.false c.entry_of-start.result c.entry_of-start.ensures).1,
      c.requires.1.near,
    )

pub overflow_add-place : goal.dictionary::step-overflow_add-place
overflow_add-place t c =
    omega (
      arith,
      (entry_order c.requires.0 c.args.d c.args.place c.args.part.now c.requires.1 (not-false _ c.if-not-item.false) c.if-inner.false
          c.entry_of-start.result c.entry_of-start.ensures).0,
      (entry_order c.requires.0 c.args.d c.args.place c.args.part.now
          c.requires.1 (not-false _ c.if-not-item.false) c.if-inner.false c.entry_of-start.result c.entry_of-start.ensures).1,
      c.requires.1.near,
    )

pub value-requires-2 : goal.dictionary::step-value-requires-2
value-requires-2 t c =
    (omega (arith, c.decreases), (c.requires.0.child, entry_ready c.requires.0 c.args.d c.args.place c.args.part.now c.requires.1 (not-false _ c.if-not-item.false) c.if-inner.false c.entry_of-start.result c.entry_of-start.ensures))

pub returns-in_err-walk : goal.dictionary::step-returns-in_err-walk
returns-in_err-walk t c =
    let p = err_from_is_err_and c.from_residual.result c.from_residual.ensures.1 in
    rw (p.1, p.2) (entry_closed c.requires.0 c.args.d c.args.place c.args.part.now c.requires.1 (not-false _ c.if-not-item.false) c.if-inner.false
    c.entry_of-start.result c.entry_of-start.ensures c.args.aim.big _ _ _ _ _ c.in_err-walk.ensures _ _ (closes_refused _ _ _ _ _ _))

pub close_last-requires : goal.dictionary::step-close_last-requires
close_last-requires t c = (
  entry_fits c.requires.0 c.args.d c.args.place c.args.part.now c.requires.1 (not-false _ c.if-not-item.false) c.if-inner.false
      c.entry_of-start.result c.entry_of-start.ensures c.args.aim.big _ _ _ _ _ c.in_ok-walk.ensures,
  (entry_order c.requires.0
      c.args.d c.args.place c.args.part.now c.requires.1 (not-false _ c.if-not-item.false) c.if-inner.false c.entry_of-start.result
      c.entry_of-start.ensures).1,
  omega (arith, c.requires.1.near),
  entry_wide c.requires.0 c.args.d c.args.place c.args.part.now
      c.requires.1 (not-false _ c.if-not-item.false) c.if-inner.false c.entry_of-start.result c.entry_of-start.ensures,
)

pub returns : goal.dictionary::step-returns
returns t c =
    entry_closed c.requires.0 c.args.d c.args.place c.args.part.now c.requires.1 (not-false _ c.if-not-item.false) c.if-inner.false
    c.entry_of-start.result c.entry_of-start.ensures c.args.aim.big _ _ _ _ _ c.in_ok-walk.ensures _ _ c.close_last.ensures
