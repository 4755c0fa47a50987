-- `reader_basic::basic::close` meets its contract. Assumes nothing.
use native.Mathlib.Omega.{arith}
use mathlib.Core.Path.{refl}
use Rattle.meaning.proofs.RefusalLaws.{number_not_0}
use Rattle.reader_basic.proofs.Leaves.{closed}
use Rattle.reader_basic.proofs.Answers.{stopped}
use Rattle.reader_basic.proofs.basic.close.Goals as goal

pub returns-in-Ok : goal.returns-in-Ok
returns-in-Ok c =
    λ o end len n l d. closed end len n _ _ l _ _ o _ refl c.emit-read.ensures.counted c.emit-read.ensures.written (rw c.in-Ok.is at d)

pub returns-in_default : goal.returns-in_default
returns-in_default c =
    λ o end len n l d. rw c.in_default.is (stopped end end len len n l _ o _ _ (number_not_0 _) (omega arith) (rw c.in_default.is at d))
