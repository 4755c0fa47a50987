-- `edit_written` meets its contract. Assumes nothing.
use mathlib.Core.Path.{refl, sym}
use native.Mathlib.Omega.{arith}
use lib.Seq.{length-take-le}
use Rattle.std.proofs.lemmas.Result.{err_from_is_err_and}
use Rattle.meaning.proofs.RefusalLaws.{number_not_0}
use Rattle.editor_steps.proofs.WalkLaws.{walk_counted}
use Rattle.editor_change.proofs.Edits.{edit_16, edit_barred, found_so}
use Rattle.editor_change.proofs.edit_written.Goals as goal

pub slice_bounds-whole-end : goal.slice_bounds-whole-end
slice_bounds-whole-end c = c.requires.roomy

pub slice_bounds-whole-end-2 : goal.slice_bounds-whole-end-2
slice_bounds-whole-end-2 c = sym (length-take-le _ _ c.requires.roomy)

pub whole-requires : goal.whole-requires
whole-requires c = c.requires.frame

pub returns-in_err-walk : goal.returns-in_err-walk
returns-in_err-walk c =
    let p = err_from_is_err_and c.from_residual.result c.from_residual.ensures.1 in
    rw (p.1, p.2) (edit_barred c.requires (λ j. omega (arith, c.slice_known-1.given j)) c.args.aim _ c.in_err-walk.ensures refl (number_not_0 _))

pub returns-in_default : goal.returns-in_default
returns-in_default c =
    edit_16 c.requires (λ j. omega (arith, c.slice_known-1.given j)) c.args.aim _ c.in_ok-walk.ensures (walk_counted _ c.in_default.not-Edited)

pub change-requires : goal.change-requires
change-requires c =
    found_so c.requires (λ j. omega (arith, c.slice_known-1.given j)) c.args.aim _ (rw c.in-Edited.is at c.in_ok-walk.ensures) refl refl
