-- `wanted_end` meets its contract. Assumes nothing.
use Rattle.std.proofs.Common.{arith, rules}
use Rattle.texts.proofs.Runs.{wanted_three, wanted_four}
use Rattle.texts.specs.Letters.{wanted_of}
use Rattle.texts.proofs.wanted_end.Goals as goal

pub returns-in-2 : goal.returns-in-2
returns-in-2 c =
    wanted_three _ _ (wanted_of c.first_byte-wanted.result) (omega arith)
    (record { wants = c.first_byte-wanted.ensures; first = omega arith; second = omega arith; from = omega arith; to = omega arith })
    c.in-2.is (c.inside.ensures c.if-not-inside.false)

pub returns-in-3 : goal.returns-in-3
returns-in-3 c =
    wanted_four _ _ (wanted_of c.first_byte-wanted.result) (omega arith)
    (record { wants = c.first_byte-wanted.ensures; first = omega arith; second = omega arith; from = omega arith; to = omega arith })
    c.in-3.is (c.inside.ensures c.if-not-inside.false) (search rules)
