-- `framing_offset_size::FramingOffsetSize::write_offset` meets its contract. Assumes nothing.
use Rattle.framing_offset_size.proofs.WidthLaws.{written_short, written_there}
use Rattle.meaning.proofs.OffsetSteps.{writing_begin, writing_next, writing_end}
use Rattle.framing_offset_size.specs.Widths.{width_of}
use native.Mathlib.Omega.{arith}
use Rattle.framing_offset_size.proofs.FramingOffsetSize.write_offset.Goals as goal

pub returns-then-buffer-width : goal.returns-then-buffer-width
returns-then-buffer-width c =
    let whole = written_short (width_of c.args.self) _ c.args.buffer.now (rw c.width-width.ensures at c.if-buffer-width.true) in
    record { refusal = whole.0; bytes = whole.1 }

pub loop-i-init : goal.loop-i-init
loop-i-init c = writing_begin _ _ _

pub overflow_cast-buffer : goal.overflow_cast-buffer
overflow_cast-buffer c = omega arith

pub bounds-buffer-i : goal.bounds-buffer-i
bounds-buffer-i c = omega arith

pub loop-i-preserved : goal.loop-i-preserved
loop-i-preserved c = writing_next _ _ _ _ _ _ c.loop-i.invariant c.loop-i-test.true c.if-buffer-width.false

pub returns : goal.returns
returns c =
    let whole = rw c.width-width.ensures at
    (written_there c.width-width.result _ _ _ c.if-buffer-width.false (writing_end _ _ _ _ _ _ c.loop-i.invariant c.loop-i-test.false)) in
    record { refusal = whole.0; bytes = whole.1 }
