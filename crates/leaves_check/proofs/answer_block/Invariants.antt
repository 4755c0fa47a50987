-- Each turn passes a byte. The measure is what is left of the block.
use Rattle.std.proofs.Common.{length}
use Rattle.leaves_check.proofs.answer_block.Given as goal

abbrev pub decreases-loop-rest : goal.decreases-loop-rest
decreases-loop-rest g l = length l.rest
