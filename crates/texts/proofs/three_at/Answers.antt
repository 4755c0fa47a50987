-- `three_at` meets its contract. Assumes nothing.
use Rattle.std.proofs.Common.{arith}
use Rattle.texts.proofs.Runs.{plain_three_bytes}
use Rattle.texts.proofs.three_at.Goals as goal

pub returns : goal.returns
returns c t = plain_three_bytes _ _ (omega arith) (c.letter_of_three.ensures t)
