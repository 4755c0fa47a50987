-- `aligned` meets its contract. Assumes nothing.
use mathlib.Core.Path.{refl}
use native.Mathlib.Omega.{arith}
use Rattle.meaning.proofs.PaddingLaws.{aligns_positive}
use Rattle.meaning.proofs.TypeLaws.{aligns_most}
use Rattle.strict_ends.proofs.EndLaws.{rounded}
use Rattle.strict_ends.proofs.aligned.Goals as goal

pub overflow_sub-low : goal.overflow_sub-low
overflow_sub-low c = omega (arith, aligns_positive c.requires.1)

pub overflow_add-result : goal.overflow_add-result
overflow_add-result c = omega (arith, aligns_most c.requires.1)

pub returns : goal.returns
returns c = rounded c.requires.1 _ _ c.requires.0 refl
