-- `reader_runs::numbers::run` meets its contract. Assumes nothing.
use Prim.Native.Nat.{◌-◌}
use lib.ListN.{length}
use Rattle.reader_runs.proofs.NumberLaws.{RunLeft}
use Rattle.reader_runs.proofs.numbers.run.Given as goal

abbrev pub invariant-loop-count : goal.invariant-loop-count
invariant-loop-count g l =
    RunLeft l.big l.code g.row.WIDTH l.place l.part l.j l.n l.initial.out l.at l.count l.out

abbrev pub decreases-loop-count : goal.decreases-loop-count
decreases-loop-count g l =
    length l.part - l.at
