-- `writer_basic::basic::suits` meets its contract. Assumes nothing.
use native.Mathlib.Omega.{arith}
use Rattle.meaning.proofs.PaddingLaws.{eight_left}
use Rattle.meaning.proofs.NumberLaws.{eight_fits}
use Rattle.writer_basic.proofs.basic.suits.Goals as goal

pub returns-in_default : goal.returns-in_default
returns-in_default c = eight_fits _ _ (eight_left c.requires c.in_default.in_default-own.rest.0.0.1 c.in_default.in_default-own.rest.0.1 c.in_default.in_default-own.rest.1) (omega arith)
