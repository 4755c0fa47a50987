-- `close_element` meets its contract. Assumes nothing.
use mathlib.Core.Path.{refl}
use native.Mathlib.Omega.{arith}
use Rattle.editor_steps.specs.Walked.{edited_as}
use Rattle.editor_steps.proofs.ClosingLaws.{front_is, rest_is, element_closed}
use Rattle.editor_steps.proofs.closing.close_element.Goals as goal

pub finish_array-length-requires : goal.finish_array-length-requires
finish_array-length-requires c =
    let f = (rw c.in-Edited.is at c.requires.0) refl in
    let b = c.requires.1 in (
      front_is c.args.all _ _ _ c.first_of-front.ensures (omega arith) b.whole,
      rest_is _ _ c.behind.ensures b.behind,
      omega (arith, f.after, f.inside, f.short),
    )

pub returns : goal.returns
returns c =
    let n = c.finish_array-length.ensures in
    rw c.in-Edited.is (element_closed c.args.all c.args.rest c.args.end c.args.part.now _ _ (edited_as c.in-Edited.place c.in-Edited.length) _ _ _ _ _ _ _
    refl refl c.first_of-front.ensures c.behind.ensures n.length n.near refl n.bytes)
