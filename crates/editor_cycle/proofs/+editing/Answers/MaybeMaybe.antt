-- The needs of `maybe::maybe`, and what answers each.
use Rattle.editor_steps.proofs.Values.{held_placed, held_ready, maybe_closed, maybe_deeper, maybe_empty, maybe_fixed, maybe_reading, slot_laid}
use Rattle.editor_steps.proofs.WalkLaws.{counts}
use Rattle.strict_sizes.proofs.TableLaws.{placed_at}
use mathlib.Core.Path.{◌∙◌, refl, sym}
use native.Mathlib.Omega.{arith}
use Rattle.std.proofs.lemmas.Result.{err_from_is_err_and}
use Rattle.editor_steps.proofs.ClosingLaws.{closes_refused}
use Rattle.editor_cycle.proofs.+editing.Goals as goal
use Rattle.editor_cycle.proofs.+editing.Goals.{maybe::maybe-then-len-eq0-via-then-len-eq0, maybe::maybe-then-len-eq0-via-else-len-eq0+then-held}

pub overflow_add-shape : goal.maybe::maybe-overflow_add-shape
overflow_add-shape t c =
    omega (arith, placed_at c.requires.0)

pub reading-requires : goal.maybe::maybe-reading-requires
reading-requires t c =
    slot_laid c.requires.0 c.requires.1 _ c.shape_in-held.ensures (sym c.is_slot.ensures ∙ c.if-is_slot.true)

pub returns-then-is_slot : goal.maybe::maybe-returns-then-is_slot
returns-then-is_slot t c =
    maybe_reading c.requires.0 c.requires.1 _ c.shape_in-held.ensures c.args.aim c.args.d _ c.args.part.now _ _ _ _ (sym c.is_slot.ensures ∙ c.if-is_slot.true) c.reading.ensures

pub returns-then-len-eq0 : goal.maybe::maybe-returns-then-len-eq0
returns-then-len-eq0 t c =
    elim c.then-len-eq0.branch [
      | maybe::maybe-then-len-eq0-via-then-len-eq0 w ↦ counts _ _ _ _ _ _ _ _ _ 0 _ refl (maybe_empty c.requires.0 c.requires.1 _ c.shape_in-held.ensures (sym c.is_slot.ensures ∙ c.if-is_slot.false) c.args.d c.args.part.now c.args.aim.big w.if-len-eq0.true) (omega arith) refl
      | maybe::maybe-then-len-eq0-via-else-len-eq0+then-held w ↦ counts _ _ _ _ _ _ _ _ _ 0 _ refl (maybe_fixed c.requires.0 c.requires.1 _ c.shape_in-held.ensures (sym c.is_slot.ensures ∙ c.if-is_slot.false) c.args.d c.args.part.now c.args.aim.big w.if-held.true) (omega arith) refl
    ]

pub returns-in_err-deeper : goal.maybe::maybe-returns-in_err-deeper
returns-in_err-deeper t c =
    absurd (omega (
      arith,
      (maybe_deeper c.requires.0 c.requires.1 _ c.shape_in-held.ensures (sym c.is_slot.ensures ∙ c.if-is_slot.false) c.args.d
          c.args.part.now c.if-len-eq0.false c.if-held.false _ c.in_err-deeper.ensures c.args.place c.requires.2).falls,
    ))

pub value-requires : goal.maybe::maybe-value-requires
value-requires t c = (
  omega (
    arith,
    (maybe_deeper c.requires.0 c.requires.1 _ c.shape_in-held.ensures (sym c.is_slot.ensures ∙ c.if-is_slot.false) c.args.d
        c.args.part.now c.if-len-eq0.false c.if-held.false _ c.in_ok-deeper.ensures c.args.place
        c.requires.2).falls,
    c.decreases,
  ),
  (
    held_placed c.requires.0 c.requires.1 _ c.shape_in-held.ensures,
    held_ready c.requires.0
        c.requires.1 _ c.shape_in-held.ensures (sym c.is_slot.ensures ∙ c.if-is_slot.false) c.args.d c.args.part.now c.if-len-eq0.false
        c.if-held.false _ c.in_ok-deeper.ensures c.args.place c.requires.2,
  ),
)

pub returns-in_err-walk : goal.maybe::maybe-returns-in_err-walk
returns-in_err-walk t c =
    let p = err_from_is_err_and c.from_residual-in_err-walk.result c.from_residual-in_err-walk.ensures.1 in
    rw (p.1, p.2) (maybe_closed c.requires.0 c.requires.1 _ c.shape_in-held.ensures (sym c.is_slot.ensures ∙ c.if-is_slot.false) c.args.d
    c.args.part.now c.if-len-eq0.false c.if-held.false _ c.in_ok-deeper.ensures c.args.place
    c.requires.2 c.args.aim.big _ _ _ _ _ c.in_err-walk.ensures _ _ (closes_refused _ _ _ _ _ _))

pub returns : goal.maybe::maybe-returns
returns t c =
    maybe_closed c.requires.0 c.requires.1 _ c.shape_in-held.ensures (sym c.is_slot.ensures ∙ c.if-is_slot.false) c.args.d
    c.args.part.now c.if-len-eq0.false c.if-held.false _ c.in_ok-deeper.ensures c.args.place
    c.requires.2 c.args.aim.big _ _ _ _ _ c.in_ok-walk.ensures _ _ c.close_maybe.ensures
