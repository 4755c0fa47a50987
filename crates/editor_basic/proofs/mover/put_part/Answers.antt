-- `put_part` meets its contract.
use native.Mathlib.Omega.{arith}
use lib.ListN.{length, drop_of_length-le}
use Rattle.editor_basic.proofs.PutLaws.{putting_next, putting_end, part_next}
use Rattle.editor_basic.proofs.mover.put_part.Goals as goal

pub loop-i-preserved : goal.loop-i-preserved
loop-i-preserved c = putting_next _ _ _ _ _ _ _ _ c.loop-i.invariant (part_next c.args.part.now c.loop-i.i (omega (arith, c.room-most.ensures)))

pub returns : goal.returns
returns c =
    putting_end _ _ _ _ _ _ _ (length c.args.part.now) c.loop-i.invariant c.room-most.ensures c.loop-i-test.false (λ h. drop_of_length-le c.args.part.now h)
