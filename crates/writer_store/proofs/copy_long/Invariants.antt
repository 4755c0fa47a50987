-- `writer_store::copy_long` meets its contract. Assumes nothing.
use Prim.Native.Nat.{◌+◌}
use mathlib.Core.Path.{◌≡◌}
use lib.ListN.{length, drop}
use Rattle.writer_store.specs.Stores.{puts}
use Rattle.writer_store.proofs.copy_long.Given as goal

abbrev pub invariant-loop-i : goal.invariant-loop-i
invariant-loop-i l = (length l.out ≡ length l.initial.out) × (puts l.out (l.at + l.i) (drop l.i l.part) ≡ puts l.initial.out l.at l.part)
