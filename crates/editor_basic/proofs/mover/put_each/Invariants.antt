-- `put_each` meets its contract.
use Prim.Native.Nat.{◌-◌}
use Rattle.meaning.specs.Numbers.{bytes}
use Rattle.editor_basic.proofs.PutLaws.{Putting}
use Rattle.editor_basic.proofs.mover.put_each.Given as goal

abbrev pub invariant-loop-i : goal.invariant-loop-i
invariant-loop-i l = Putting l.initial.out l.at (bytes l.width l.number) l.out l.i (bytes (l.width - l.i) l.rest)
