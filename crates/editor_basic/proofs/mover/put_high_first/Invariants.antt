-- `put_high_first` meets its contract.
use Rattle.editor_basic.proofs.PutLaws.{Falling}
use Rattle.editor_basic.proofs.mover.put_high_first.Given as goal

abbrev pub invariant-loop-i : goal.invariant-loop-i
invariant-loop-i l = Falling l.initial.out l.at l.width l.number l.out l.i l.rest
