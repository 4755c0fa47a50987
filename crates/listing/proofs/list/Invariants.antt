-- `listing::list` meets its contract. The invariant: what is left of the block answers the whole of it, with what was printed in
-- front. Assumes nothing.
use Rattle.listing.specs.States.{machine}
use Rattle.listing.proofs.Blocks.{Going}
use Rattle.listing.proofs.list.Given as goal

abbrev pub invariant-loop-passed : goal.invariant-loop-passed
invariant-loop-passed l = Going (machine l.initial.s l.initial.text l.initial.frame) (machine l.s l.text l.frame) l.block l.initial.out l.out l.passed l.written
