-- `put_each` meets its contract.
use native.Mathlib.Omega.{arith}
use Rattle.editor_basic.proofs.PutLaws.{putting_next, putting_end, bytes_next, bytes_done}
use Rattle.editor_basic.proofs.mover.put_each.Goals as goal

pub loop-i-preserved : goal.loop-i-preserved
loop-i-preserved c = putting_next _ _ _ _ _ _ _ _ c.loop-i.invariant (bytes_next c.args.width c.loop-i.i c.loop-i.rest (omega (arith, c.room-most.ensures)))

pub returns : goal.returns
returns c =
    putting_end _ _ _ _ _ _ _ c.args.width c.loop-i.invariant c.room-most.ensures c.loop-i-test.false (λ h. bytes_done c.args.width c.loop-i.i c.loop-i.rest h)
