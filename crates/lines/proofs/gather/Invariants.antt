-- `lines::gather` meets its contract. The invariant: what is left of the block answers the whole of it. Assumes nothing.
use Rattle.lines.proofs.GatherLaws.{Going}
use Rattle.lines.proofs.gather.Given as goal

abbrev pub invariant-loop-i : goal.invariant-loop-i
invariant-loop-i l = Going l.initial.line l.line l.kept l.count l.block l.i
