-- A line's answer takes two bytes of the memory, and the line's end one of the block. The measure is what is left of the block.
use Rattle.std.proofs.Common.{length, ◌+◌, ◌*◌, ◌≤◌}
use Rattle.signature_check.proofs.judge_block.Given as goal

abbrev pub invariant-loop-rest : goal.invariant-loop-rest
invariant-loop-rest l = l.written + 2 * length l.rest ≤ 8192

abbrev pub decreases-loop-rest : goal.decreases-loop-rest
decreases-loop-rest l = length l.rest
