-- The bytes that are spelt are in the buffer.
use Rattle.std.proofs.Common.{sym, length-take-le}
use Rattle.numerals.proofs.ByteLaws.{spells_fits}
use Rattle.leaves_check.proofs.words.bytes.Goals as goal

pub returns : goal.returns
returns c = rw c.unwrap_or.ensures (let h = spells_fits c.bytes.ensures in (h, sym (length-take-le _ _ h)))
