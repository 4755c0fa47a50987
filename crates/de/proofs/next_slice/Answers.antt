-- `de::next_slice` gives the part that `part_at` says, empty where the place is refused. Assumes nothing.
use Rattle.utils.proofs.Places.{within}
use Rattle.de.proofs.PartAnswers.{part_passed, part_failed}
use native.Mathlib.Omega.{arith}
use Rattle.de.proofs.next_slice.Goals as goal

pub overflow_add-end : goal.overflow_add-end
overflow_add-end c = let inside = within c.args.part.now c.args.place c.args.len c.reaches.ensures c.if-reaches.true in omega arith

pub slice_bounds-result-end : goal.slice_bounds-result-end
slice_bounds-result-end c = let inside = within c.args.part.now c.args.place c.args.len c.reaches.ensures c.if-reaches.true in omega arith

pub returns-then-reaches : goal.returns-then-reaches
returns-then-reaches c = part_passed c.args.part.now _ _ c.reaches.ensures c.if-reaches.true

pub returns : goal.returns
returns c = part_failed c.args.part.now _ _ c.reaches.ensures c.if-reaches.false
