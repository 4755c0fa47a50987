-- `put_high_first` meets its contract.
use Prim.Native.Nat.{◌-◌}
use native.Mathlib.Omega.{arith}
use Rattle.editor_basic.proofs.PutLaws.{falling_begin, falling_next, falling_past, falling_end}
use Rattle.editor_basic.proofs.mover.put_high_first.Goals as goal
use Rattle.editor_basic.proofs.mover.put_high_first.Goals.{then-at-i, else-at-i}

pub loop-i-init : goal.loop-i-init
loop-i-init c = falling_begin _ _ _ _

pub loop-i-preserved : goal.loop-i-preserved
loop-i-preserved c =
    let l = c.loop-i in
    elim c.if-at-i.branch [
      | then-at-i w ↦ rw w.out-is (falling_next _ _ _ _ _ l.i (l.i - 1) l.rest (omega arith) l.invariant)
      | else-at-i w ↦ rw w.out-is (falling_past _ _ _ _ _ l.i (l.i - 1) l.rest (omega arith) w.if-at-i.false l.invariant)
    ]

pub returns : goal.returns
returns c = falling_end _ _ _ _ _ _ _ c.loop-i-test.false c.loop-i.invariant
