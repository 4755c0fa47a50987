-- Each turn passes a byte, since there is room for a line. The measure is what is left of the block.
use Rattle.std.proofs.Common.{length, ◌≡◌}
use Rattle.lister.proofs.list_block.Given as goal

abbrev pub invariant-loop-rest : goal.invariant-loop-rest
invariant-loop-rest g l = length l.lines ≡ 8192

abbrev pub decreases-loop-rest : goal.decreases-loop-rest
decreases-loop-rest g l = length l.rest
