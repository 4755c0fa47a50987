-- A call of `list` on a part that has bytes passes one of them, since there is room for a line.
use Rattle.std.proofs.Common.{arith, sym, ◌∙◌, length-take, length-drop}
use borrow.Author.Tests.{eqb-false}
use Rattle.listing.proofs.Blocks.{lists_moves}
use Rattle.lister.proofs.list_block.Goals as goal

pub loop-rest-smaller : goal.loop-rest-smaller
loop-rest-smaller g c =
    let some = eqb-false _ _ (sym c.is_empty.ensures ∙ c.loop-rest-test.true) in
    let w = c.list-progress.ensures.within in
    let h = lists_moves _ _ _ _ _ _ c.list-progress.ensures (omega arith) (omega arith) in
    simp (length-take, length-drop) (omega arith)
