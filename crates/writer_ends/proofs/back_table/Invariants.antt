-- `writer_ends::back_table` meets its contract. Assumes nothing.
use Rattle.writer_ends.proofs.TableLaws.{BackLeft}
use Rattle.writer_ends.proofs.back_table.Given as goal

abbrev pub invariant-loop-j : goal.invariant-loop-j
invariant-loop-j l = BackLeft l.width l.at l.top l.count l.initial.out l.ends l.j l.place l.out
