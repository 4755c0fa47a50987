-- `framing_offset_size::FramingOffsetSize::bump_up` meets its contract. Assumes nothing.
use Rattle.framing_offset_size.proofs.FramingOffsetSize.bump_up.Goals as goal

pub returns-in-U8 : goal.returns-in-U8
returns-in-U8 c = rw c.in-U8.is

pub returns-in-U16 : goal.returns-in-U16
returns-in-U16 c = rw c.in-U16.is

pub returns-in-U32 : goal.returns-in-U32
returns-in-U32 c = rw c.in-U32.is
