-- `close_last` meets its contract. Assumes nothing.
use mathlib.Core.Path.{refl, sym, ◌∙◌}
use native.Mathlib.Omega.{arith}
use Rattle.editor_basic.proofs.FinishLaws.{last_rest_length}
use Rattle.editor_steps.specs.Walked.{edited_as}
use Rattle.editor_steps.proofs.ClosingLaws.{closes_joined}
use Rattle.editor_steps.proofs.closing.close_last.Goals as goal

pub returns : goal.returns
returns c =
    let n = c.finish_last-length.ensures in
    rw c.in-Edited.is (closes_joined _ _ _ _ (edited_as c.in-Edited.place c.in-Edited.length) _ _ _ _ _ refl refl
    (last_rest_length c.args.end c.args.width c.args.part.now _ ∙ sym n.length) refl n.bytes (omega (arith, n.near)))
