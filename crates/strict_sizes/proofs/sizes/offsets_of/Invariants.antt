-- `offsets_of` meets its contract: the loop keeps what is left to count. Assumes nothing.
use Prim.Native.Nat.{◌-◌}
use lib.ListN.{length}
use Rattle.strict_sizes.proofs.TableLaws.{CountLeft}
use Rattle.strict_sizes.proofs.sizes.offsets_of.Given as goal

abbrev pub invariant-loop-field : goal.invariant-loop-field
invariant-loop-field l =
    CountLeft l.text l.at l.i l.count

abbrev pub decreases-loop-field : goal.decreases-loop-field
decreases-loop-field l =
    length l.text - l.i
