-- `check_length` meets its contract. Assumes nothing.
use Rattle.editor_change.proofs.Changes.{new_long, new_full, new_roomy}
use Rattle.editor_change.proofs.check_length.Goals as goal

pub returns-then-length-gt-LARGEST_FRAME : goal.returns-then-length-gt-LARGEST_FRAME
returns-then-length-gt-LARGEST_FRAME c = new_long _ _ c.if-length-gt-LARGEST_FRAME.true

pub returns-then-room-length : goal.returns-then-room-length
returns-then-room-length c = new_full _ _ c.if-length-gt-LARGEST_FRAME.false c.if-room-length.true

pub returns : goal.returns
returns c = new_roomy _ _ c.if-length-gt-LARGEST_FRAME.false c.if-room-length.false
