-- `writer_store::digits` meets its contract. Assumes nothing.
use Prim.Native.Nat.{◌+◌, ◌-◌}
use mathlib.Core.Path.{◌≡◌}
use Rattle.meaning.specs.Numbers.{bytes}
use Rattle.writer_store.specs.Stores.{puts}
use Rattle.writer_store.proofs.digits.Given as goal

abbrev pub invariant-loop-i : goal.invariant-loop-i
invariant-loop-i l = puts l.out (l.at + l.i) (bytes (l.width - l.i) l.y) ≡ puts l.initial.out l.at (bytes l.width l.x)
