-- `reader_steps::opening::is_full` meets its contract. Assumes nothing.
use Rattle.reader_steps.proofs.Rides.{shallow, full_by}
use Rattle.std.proofs.Common.{ℕ, leb, ap, arith}
use Rattle.reader_steps.proofs.opening.is_full.Goals as goal

pub overflow_mul-result : goal.overflow_mul-result
overflow_mul-result c = omega arith

pub returns : goal.returns
returns c = ap (λ (x : ℕ). leb 64 x) (full_by c.args.ride (omega arith) (shallow _ c.requires))
