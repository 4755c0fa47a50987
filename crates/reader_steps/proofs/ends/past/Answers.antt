-- `reader_steps::ends::past` meets its contract. Assumes nothing.
use Rattle.meaning.proofs.RefusalLaws.{number_not_0}
use Rattle.reader_basic.proofs.Answers.{stopped, ended}
use Rattle.std.proofs.Common.{refl, arith}
use Rattle.reader_steps.proofs.ends.past.Goals as goal

pub returns-in-Ok : goal.returns-in-Ok
returns-in-Ok c =
    λ o end end' len n l l' x y d. let z = (rw c.in-Ok.is at x) refl in
    ended end end' len len n _ _ l l' o _ _ refl refl refl z (omega (arith, z)) (rw c.in-Ok.is at d)

pub returns-in_default : goal.returns-in_default
returns-in_default c =
    λ o end end' len n l l' x y d. rw c.in_default.is (stopped end end' len len n l l' o _ _ (number_not_0 _) (omega arith) (rw c.in_default.is at d))
