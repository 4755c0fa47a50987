-- `smallest` meets its contract. Assumes nothing.
use native.Mathlib.Omega.{arith}
use Rattle.strict_ends.proofs.EndLaws.{smallest_one, smallest_two, smallest_four, pair_small}
use Rattle.strict_ends.proofs.smallest.Goals as goal

pub returns-in-1 : goal.returns-in-1
returns-in-1 c = smallest_one _ _ _ c.requires.0 c.requires.1 c.in-1.is

pub returns-in-2 : goal.returns-in-2
returns-in-2 c = smallest_two _ _ _ c.requires.0 c.requires.1 c.in-2.is

pub overflow_mul-result : goal.overflow_mul-result
overflow_mul-result c =
    omega (arith, pair_small _ _ _ c.requires.0 c.requires.1)

pub overflow_add-result-in_default : goal.overflow_add-result-in_default
overflow_add-result-in_default c =
    omega (arith, pair_small _ _ _ c.requires.0 c.requires.1)

pub returns-in_default : goal.returns-in_default
returns-in_default c =
    smallest_four _ _ _ c.requires.0 c.requires.1 (λ z. omega arith) (λ z. omega arith)
