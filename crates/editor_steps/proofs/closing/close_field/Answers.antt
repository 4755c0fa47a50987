-- `close_field` meets its contract. Assumes nothing.
use mathlib.Core.Path.{refl}
use Rattle.editor_steps.specs.Walked.{edited_as}
use Rattle.editor_steps.proofs.ClosingLaws.{field_closed}
use Rattle.editor_steps.proofs.closing.close_field.Goals as goal

pub returns : goal.returns
returns c =
    let n = c.finish_structure-length.ensures in
    rw c.in-Edited.is (field_closed c.args.text.now c.args.row c.args.field c.args.part.now _ (edited_as c.in-Edited.place c.in-Edited.length) _ _ _ _ _ _
    refl c.if-field.false refl c.behind_field-rest.ensures n.length n.near refl n.bytes)
