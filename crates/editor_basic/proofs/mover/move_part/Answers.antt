-- `move_part` meets its contract.
use Prim.Native.Nat.{ℕ}
use native.Mathlib.Omega.{arith}
use mathlib.Core.Path.{sym}
use Rattle.editor_basic.proofs.PutLaws.{over_both, over_beyond}
use lib.ListN.{length-replicate}
use Rattle.editor_basic.proofs.mover.move_part.Goals as goal

pub returns-then-out-at : goal.returns-then-out-at
returns-then-out-at c = sym (over_beyond _ _ _ c.if-out-at.true)

pub returns : goal.returns
returns c =
    over_both _ _ _ _ _ _ _ c.put_zeros.ensures c.put_part.ensures (let e = length-replicate {A = ℕ} c.args.padding 0 in omega arith)
