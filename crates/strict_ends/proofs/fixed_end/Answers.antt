-- `fixed_end` meets its contract. Assumes nothing.
use native.Mathlib.Omega.{arith}
use Rattle.meaning.proofs.PaddingLaws.{padding_below}
use Rattle.meaning.proofs.TypeLaws.{aligns_most}
use Rattle.strict_ends.proofs.fixed_end.Goals as goal

pub overflow_add-result : goal.overflow_add-result
overflow_add-result c =
    omega (arith, padding_below c.requires.1.aligned c.args.place, aligns_most c.requires.1.aligned, c.requires.1.small)
