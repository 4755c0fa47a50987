-- `writer_ends::put_end` meets its contract. Assumes nothing.
use Rattle.writer_ends.proofs.EndLaws.{put_near, put_far}
use native.Mathlib.Omega.{arith}
use mathlib.Core.Path.{refl}
use Rattle.writer_ends.proofs.put_end.Goals as goal

pub returns-then-i-ends : goal.returns-then-i-ends
returns-then-i-ends c = put_near _ _ _ _ _ c.if-i-lt128.true refl

pub returns : goal.returns
returns c = put_far _ _ _ _ _ _ _ (omega arith) (omega arith) refl c.low.ensures c.low-2.ensures _ refl
