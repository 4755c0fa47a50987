-- `move_fields` meets its contract.
use Prim.Native.Nat.{◌-◌}
use Rattle.editor_basic.proofs.RowLaws.{RowLeft}
use Rattle.editor_basic.proofs.rewriter.move_fields.Given as goal

abbrev pub invariant-loop-rest : goal.invariant-loop-rest
invariant-loop-rest l = RowLeft l.text l.tables l.initial.rest l.old l.initial.out l.at l.to l.out l.rest l.next l.place

abbrev pub decreases-loop-rest : goal.decreases-loop-rest
decreases-loop-rest l = 256 - l.rest.at
