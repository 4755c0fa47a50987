-- `de::read_bool` gives what `bool_at` says: any byte but 0 is true. Assumes nothing.
use Rattle.utils.proofs.Places.{within}
use Rattle.de.proofs.PartAnswers.{bool_there, bool_failed}
use native.Mathlib.Omega.{arith}
use Rattle.de.proofs.read_bool.Goals as goal

pub bounds-part-place : goal.bounds-part-place
bounds-part-place c = omega (arith, within c.args.part.now c.args.place 1 c.reaches.ensures c.if-not-reaches.false)

pub returns-then-not-reaches : goal.returns-then-not-reaches
returns-then-not-reaches c = bool_failed c.args.part.now _ c.reaches.ensures c.if-not-reaches.true

pub returns : goal.returns
returns c = bool_there c.args.part.now c.args.place c.reaches.ensures c.if-not-reaches.false
