-- The needs of `array::one`, and what answers each.
use Rattle.writer_cycle.proofs.EntryRows.{item_as_value}
use Rattle.writer_cycle.proofs.+writing.Goals as goal

pub returns : goal.array::one-returns
returns t c =
    item_as_value _ _ _ _ _ _ _ _ _ _ _ _ _ _ _ c.if-item.false c.value.ensures
