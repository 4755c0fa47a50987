-- `reader_steps::array::empty` meets its contract. Assumes nothing.
use Rattle.reader_basic.proofs.Answers.{told_by}
use Rattle.reader_steps.proofs.Arrays.{empty_done}
use Rattle.reader_steps.proofs.array.empty.Goals as goal

pub returns : goal.returns
returns c =
    λ end len. told_by c.done.ensures (empty_done _ _ end len _ _ _ _ _ _ c.emit-m.ensures.counted c.emit-m.ensures.written c.emit-count.ensures.counted c.emit-count.ensures.written)
