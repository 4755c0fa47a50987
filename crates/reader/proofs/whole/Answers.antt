-- `reader::whole` meets its contract. Assumes nothing.
use Rattle.reader_basic.proofs.Answers.{told_by}
use Rattle.reader_steps.proofs.Rides.{begun}
use Rattle.signature.specs.Trees.{tree_at}
use Rattle.reader.proofs.Frames.{child_all}
use native.Mathlib.Omega.{arith}
use mathlib.Core.Path.{refl}
use Rattle.signature.proofs.TreeLaws.{front, front_described}
use Rattle.reader.proofs.Frames.{whole_long, whole_far, within_frame, whole_read}
use Rattle.reader.proofs.whole.Goals as goal
use Rattle.reader.proofs.whole.Goals.{then-frame-gt-LARGEST_FRAME-via-then-frame-gt-LARGEST_FRAME, then-frame-gt-LARGEST_FRAME-via-else-frame-gt-LARGEST_FRAME+then-position-gt-LARGEST_FRAME}

pub returns-then-frame-gt-LARGEST_FRAME : goal.returns-then-frame-gt-LARGEST_FRAME
returns-then-frame-gt-LARGEST_FRAME c = told_by c.refused.ensures (elim c.then-frame-gt-LARGEST_FRAME.branch [
  | then-frame-gt-LARGEST_FRAME-via-then-frame-gt-LARGEST_FRAME w ↦ whole_long _ _ _ _ _ (front _ c.requires.0) w.if-frame-gt-LARGEST_FRAME.true
  | then-frame-gt-LARGEST_FRAME-via-else-frame-gt-LARGEST_FRAME+then-position-gt-LARGEST_FRAME w ↦
      whole_far _ _ _ _ _ (front _ c.requires.0) w.if-frame-gt-LARGEST_FRAME.false w.if-position-gt-LARGEST_FRAME.true
])

pub ride_of-ride-requires : goal.ride_of-ride-requires
ride_of-ride-requires c = c.if-position-gt-LARGEST_FRAME.false

pub value-requires : goal.value-requires
value-requires c = (
  front_described _ _ c.requires.1 (front _ c.requires.0),
  within_frame c.if-frame-gt-LARGEST_FRAME.false
      (omega (arith, c.ride_of-ride.ensures.at, c.if-position-gt-LARGEST_FRAME.false)) c.ride_of-ride.ensures.none,
  omega arith,
)

pub returns : goal.returns
returns c =
    whole_read _ _ _ _ _ (front _ c.requires.0) c.if-frame-gt-LARGEST_FRAME.false c.if-position-gt-LARGEST_FRAME.false _ c.ride_of-ride.ensures.none _ refl _ _
    (begun c.ride_of-ride.ensures (tree_at c.args.signature.now 0) 0 c.args.frame.now
    (child_all _ c.args.frame.now 0 _ _ _ c.value.ensures))
