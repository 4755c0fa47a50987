-- `framing_offset_size::FramingOffsetSize::for_bare_container` meets its contract. Assumes nothing.
use Rattle.framing_offset_size.specs.Widths.{width_of}
use Rattle.framing_offset_size.proofs.WidthLaws.{Trying}
use Prim.Native.Nat.{◌-◌}
use Rattle.framing_offset_size.proofs.FramingOffsetSize.for_bare_container.Given as goal

abbrev pub invariant-loop-size : goal.invariant-loop-size
invariant-loop-size l = Trying l.size l.len l.count

abbrev pub decreases-loop-size : goal.decreases-loop-size
decreases-loop-size l = 8 - width_of l.size
