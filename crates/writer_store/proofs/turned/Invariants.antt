-- `writer_store::turned` meets its contract. Assumes nothing.
use mathlib.Core.Path.{◌≡◌}
use mathlib.Core.List.{reverse}
use Rattle.meaning.specs.Numbers.{bytes}
use Rattle.writer_store.specs.Stores.{puts}
use Rattle.writer_store.proofs.turned.Given as goal

abbrev pub invariant-loop-i : goal.invariant-loop-i
invariant-loop-i l = puts l.out l.at (reverse (bytes l.i l.y)) ≡ puts l.initial.out l.at (reverse (bytes l.width l.x))
