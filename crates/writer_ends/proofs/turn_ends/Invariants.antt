-- `writer_ends::turn_ends` meets its contract. Assumes nothing.
use Rattle.writer_ends.proofs.TableLaws.{TurnLeft}
use Rattle.writer_ends.proofs.turn_ends.Given as goal

abbrev pub invariant-loop-i : goal.invariant-loop-i
invariant-loop-i l = TurnLeft l.top l.count l.initial.out l.initial.ends l.i l.out l.ends
