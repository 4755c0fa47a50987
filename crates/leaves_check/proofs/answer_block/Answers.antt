-- A gathered part of a block that has bytes passes one of them, whether a line ends there or not.
use Rattle.std.proofs.Common.{arith, sym, ◌∙◌, length-take, length-drop}
use borrow.Author.Tests.{eqb-false}
use Rattle.lines.proofs.GatherLaws.{gathers_moves}
use Rattle.leaves_check.proofs.answer_block.Goals as goal

pub loop-rest-smaller-then-gathered : goal.loop-rest-smaller-then-gathered
loop-rest-smaller-then-gathered g c =
    let some = eqb-false _ _ (sym c.is_empty.ensures ∙ c.loop-rest-test.true) in
    let w = c.gather-gathered.ensures.within in
    let h = gathers_moves _ _ _ _ _ c.gather-gathered.ensures (omega arith) in
    simp (length-take, length-drop) (omega arith)

pub loop-rest-smaller : goal.loop-rest-smaller
loop-rest-smaller g c =
    let some = eqb-false _ _ (sym c.is_empty.ensures ∙ c.loop-rest-test.true) in
    let w = c.gather-gathered.ensures.within in
    let h = gathers_moves _ _ _ _ _ c.gather-gathered.ensures (omega arith) in
    simp (length-take, length-drop) (omega arith)
