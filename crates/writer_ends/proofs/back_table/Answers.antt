-- `writer_ends::back_table` meets its contract. Assumes nothing.
use Rattle.writer_ends.proofs.TableLaws.{back_begin, back_next, back_done}
use native.Mathlib.Omega.{arith}
use mathlib.Core.Path.{refl}
use Rattle.writer_ends.proofs.back_table.Goals as goal

pub loop-j-init : goal.loop-j-init
loop-j-init c = back_begin _ _ _ _ _ _

pub loop-j-preserved : goal.loop-j-preserved
loop-j-preserved c =
    back_next c.loop-j.invariant _ _ _ (omega arith) refl c.end_at-end.ensures c.digits.ensures c.requires.1

pub returns : goal.returns
returns c = back_done c.loop-j.invariant (λ h. omega arith)
