-- `writer_ends::front_table` meets its contract. Assumes nothing.
use Rattle.writer_ends.proofs.TableLaws.{FrontLeft}
use Rattle.writer_ends.proofs.front_table.Given as goal

abbrev pub invariant-loop-end : goal.invariant-loop-end
invariant-loop-end l = FrontLeft l.width l.at l.top l.count l.initial.out l.ends l.end-index l.place l.out
