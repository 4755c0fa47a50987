-- `writer_store::gap` meets its contract. Assumes nothing.
use Rattle.writer_store.proofs.Puts.{gap_1, gap_2, gap_4, gap_8}
use Rattle.meaning.proofs.PaddingLaws.{eight_left}
use Rattle.writer_store.proofs.gap.Goals as goal

pub returns-in-1 : goal.returns-in-1
returns-in-1 c = gap_1 _ _ c.in-1.is

pub returns-in-2 : goal.returns-in-2
returns-in-2 c = gap_2 _ _ c.in-2.is

pub returns-in-4 : goal.returns-in-4
returns-in-4 c = gap_4 _ _ c.in-4.is

pub returns-in_default : goal.returns-in_default
returns-in_default c = gap_8 _ _ (eight_left c.requires c.in_default.in_default-own.rest.0.0.1 c.in_default.in_default-own.rest.0.1 c.in_default.in_default-own.rest.1)
