-- `reader_basic::basic::offset_before` meets its contract. Assumes nothing.
use mathlib.Core.Path.{◌∙◌}
use Rattle.reader_basic.proofs.Leaves.{offset_below, offset_narrow, offset_read}
use Rattle.reader_basic.proofs.basic.offset_before.Goals as goal
use Rattle.reader_basic.proofs.basic.offset_before.Goals.{then-end-lead-via-then-end-lead, then-end-lead-via-else-end-lead+then-end-width}

pub returns-then-end-lead : goal.returns-then-end-lead
returns-then-end-lead c = elim c.then-end-lead.branch [
  | then-end-lead-via-then-end-lead w ↦ offset_below _ _ _ _ w.if-end-lead.true
  | then-end-lead-via-else-end-lead+then-end-width w ↦ offset_narrow _ _ _ _ w.if-end-lead.false (rw w.width.ensures at w.if-end-width.true)
]

pub returns : goal.returns
returns c =
    c.last_in.ensures ∙ offset_read _ _ _ _ c.if-end-lead.false (rw c.width.ensures at c.if-end-width.false) c.requires
