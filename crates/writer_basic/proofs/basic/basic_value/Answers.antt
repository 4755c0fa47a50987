-- `writer_basic::basic::basic_value` meets its contract. Assumes nothing.
use Rattle.writer_basic.proofs.Answers.{key_aligned, key_as}
use Rattle.writer_basic.proofs.basic.basic_value.Goals as goal

pub number-requires : goal.number-requires
number-requires c = (c.requires.0, c.requires.1, key_aligned _ _ (key_as _ _ c.in-Number.is c.requires.2))
