-- `widen` meets its contract.
use mathlib.Core.Path.{◌≡◌}
use Prim.Native.Nat.{◌+◌, ◌-◌, ◌*◌, ◌≤◌}
use lib.ListN.{length, drop}
use Rattle.meaning.specs.Offsets.{table, entries}
use Rattle.editor_basic.specs.Puts.{over}
use Rattle.editor_basic.proofs.finisher.widen.Given as goal

abbrev pub invariant-loop : goal.invariant-loop
invariant-loop l =
    (over l.out l.next (table l.width (entries (l.count - l.counter) l.narrow (drop l.place l.old))) ≡ over l.initial.out l.at (table l.width (entries l.count l.narrow (drop l.from l.old))))
    × (l.place + (l.count - l.counter) * l.narrow ≤ length l.old)
    × (l.next + 8 * (l.count - l.counter) ≤ l.at + 8 * l.count)
    × (length l.out ≡ length l.initial.out)
