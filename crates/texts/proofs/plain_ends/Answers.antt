-- `plain_ends` meets its contract. Assumes nothing.
use Rattle.std.proofs.Common.{rules}
use Rattle.texts.proofs.Runs.{bytes_ends}
use Rattle.texts.proofs.plain_ends.Goals as goal

pub returns : goal.returns
returns g c t = bytes_ends _ _ c.requires.0 c.requires.1 (c.plain_bytes.ensures (search rules)) (c.plain_bytes-2.ensures (search rules))
