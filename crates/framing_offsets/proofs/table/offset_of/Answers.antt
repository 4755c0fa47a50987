-- `offset_of` gives what a table's own bytes say of a number, by the width. Assumes nothing.
use Rattle.framing_offsets.proofs.table.offset_of.Goals as goal

pub returns-in-U8 : goal.returns-in-U8
returns-in-U8 c = rw c.in-U8.is c.entry.ensures

pub returns-in-U16 : goal.returns-in-U16
returns-in-U16 c = rw c.in-U16.is c.entry-in-U16.ensures

pub returns-in-U32 : goal.returns-in-U32
returns-in-U32 c = rw c.in-U32.is c.entry-in-U32.ensures

pub returns-in-U64 : goal.returns-in-U64
returns-in-U64 c = rw c.in-U64.is c.entry-in-U64.ensures
