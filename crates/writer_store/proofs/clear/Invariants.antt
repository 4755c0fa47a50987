-- `writer_store::clear` meets its contract. Assumes nothing.
use Prim.Native.Nat.{◌+◌, ◌-◌}
use mathlib.Core.Path.{◌≡◌}
use Rattle.meaning.specs.Padding.{zeros}
use Rattle.writer_store.specs.Stores.{puts}
use Rattle.writer_store.proofs.clear.Given as goal

abbrev pub invariant-loop-i : goal.invariant-loop-i
invariant-loop-i l = puts l.out (l.at + l.i) (zeros (l.count - l.i)) ≡ puts l.initial.out l.at (zeros l.count)
