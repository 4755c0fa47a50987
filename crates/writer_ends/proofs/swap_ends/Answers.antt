-- `writer_ends::swap_ends` meets its contract. Assumes nothing.
use native.Mathlib.Omega.{arith}
use mathlib.Core.Path.{refl}
use Rattle.writer_ends.proofs.TableLaws.{swapped_far}
use Rattle.writer_ends.proofs.swap_ends.Goals as goal

pub returns-then-i-ge128 : goal.returns-then-i-ge128
returns-then-i-ge128 c =
    swapped_far _ _ _ _ _ _ (omega arith) (omega arith) (omega arith) refl refl _ _ c.swap.ensures.len c.swap-then-i-ge128.ensures.len c.swap.ensures.by_index c.swap-then-i-ge128.ensures.by_index
