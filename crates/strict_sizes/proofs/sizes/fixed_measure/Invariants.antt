-- `fixed_measure` meets its contract: the loop keeps what is left of the size. Assumes nothing.
use Prim.Native.Nat.{◌-◌}
use lib.ListN.{length}
use Rattle.strict_sizes.proofs.TableLaws.{SizeLeft}
use Rattle.strict_sizes.proofs.sizes.fixed_measure.Given as goal

abbrev pub invariant-loop-field : goal.invariant-loop-field
invariant-loop-field l =
    SizeLeft l.text l.at l.i l.end l.any

abbrev pub decreases-loop-field : goal.decreases-loop-field
decreases-loop-field l =
    length l.text - l.i
