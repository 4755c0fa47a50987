-- `framing_offset_size::FramingOffsetSize::write_offset` meets its contract. Assumes nothing.
use Rattle.meaning.proofs.OffsetSteps.{Writing}
use Rattle.framing_offset_size.proofs.FramingOffsetSize.write_offset.Given as goal

abbrev pub invariant-loop-i : goal.invariant-loop-i
invariant-loop-i l = Writing l.width l.offset l.initial.buffer l.buffer l.rest l.i
