-- `writer_basic::numbers::run` meets its contract. Assumes nothing.
use Prim.Native.Nat.{◌-◌}
use lib.ListN.{length}
use Rattle.writer_basic.proofs.NumberRows.{NumbersLeft}
use Rattle.writer_basic.proofs.numbers.run.Given as goal

abbrev pub invariant-loop-all : goal.invariant-loop-all
invariant-loop-all g l = NumbersLeft l.code g.row.WIDTH l.big l.events l.initial.all.next l.spot.start l.initial.out l.all.next l.all.size l.out

abbrev pub decreases-loop-all : goal.decreases-loop-all
decreases-loop-all g l = length l.events - l.all.next
