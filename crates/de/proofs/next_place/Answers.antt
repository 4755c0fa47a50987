-- `de::next_place` gives the place after so many bytes, or refuses, as `place_after` says. Assumes nothing.
use Rattle.utils.proofs.Places.{within}
use Rattle.de.proofs.PartAnswers.{place_passed, place_failed}
use native.Mathlib.Omega.{arith}
use Rattle.de.proofs.next_place.Goals as goal

pub overflow_add-result : goal.overflow_add-result
overflow_add-result c = let inside = within c.args.part.now c.args.place c.args.len c.reaches.ensures c.if-not-reaches.false in omega arith

pub returns-then-not-reaches : goal.returns-then-not-reaches
returns-then-not-reaches c = place_failed c.args.part.now _ _ c.reaches.ensures c.if-not-reaches.true

pub returns : goal.returns
returns c = place_passed c.args.part.now _ _ c.reaches.ensures c.if-not-reaches.false
