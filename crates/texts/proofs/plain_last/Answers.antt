-- `plain_last` meets its contract. Assumes nothing.
use Rattle.std.proofs.Common.{arith}
use Rattle.texts.proofs.Runs.{bytes_last}
use Rattle.texts.proofs.plain_last.Goals as goal

pub returns-then-text-i-lt16 : goal.returns-then-text-i-lt16
returns-then-text-i-lt16 c t = bytes_last _ _ 16 (omega arith) (omega arith) (omega arith) (c.plain_bytes.ensures t)
