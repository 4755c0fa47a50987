-- `plain_short` meets its contract. Assumes nothing.
use Rattle.std.proofs.Common.{◌≡◌, ◌+◌, length, arith}
use Rattle.texts.proofs.Runs.{plain_begin, plain_next}
use Rattle.texts.proofs.plain_short.Goals as goal

pub returns-else-is_empty : goal.returns-else-is_empty
returns-else-is_empty c t =
    let one : length c.args.text.now ≡ 0 + 1 = grind arith in
    let p = c.plain.ensures t in
    rw one (plain_next _ 0 0 (plain_begin _ 0 (omega arith)) (omega arith) p.0 p.1)
