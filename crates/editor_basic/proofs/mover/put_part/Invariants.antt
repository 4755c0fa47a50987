-- `put_part` meets its contract.
use lib.ListN.{drop}
use Rattle.editor_basic.proofs.PutLaws.{Putting}
use Rattle.editor_basic.proofs.mover.put_part.Given as goal

abbrev pub invariant-loop-i : goal.invariant-loop-i
invariant-loop-i l = Putting l.initial.out l.at l.part l.out l.i (drop l.i l.part)
