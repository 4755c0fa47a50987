-- `writer_ends::end_at` meets its contract. Assumes nothing.
use Rattle.writer_ends.proofs.EndLaws.{look_near, look_far}
use native.Mathlib.Omega.{arith}
use mathlib.Core.Path.{refl}
use Rattle.writer_ends.proofs.end_at.Goals as goal

pub returns-then-i-ends : goal.returns-then-i-ends
returns-then-i-ends c = look_near _ _ _ _ c.if-i-lt128.true c.from.ensures (omega arith)

pub returns : goal.returns
returns c = look_far _ _ _ _ _ _ (omega arith) refl c.from-2.ensures c.from-3.ensures (omega arith) (omega arith)
