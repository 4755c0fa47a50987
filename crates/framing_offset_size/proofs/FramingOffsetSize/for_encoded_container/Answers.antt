-- `framing_offset_size::FramingOffsetSize::for_encoded_container` meets its contract. Assumes nothing.
use mathlib.Core.Path.{sym}
use native.Mathlib.Omega.{arith}
use Rattle.meaning.proofs.OffsetLaws.{encoded_width_1, encoded_width_2, encoded_width_4, encoded_width_8}
use Rattle.framing_offset_size.proofs.FramingOffsetSize.for_encoded_container.Goals as goal

pub returns-then-len-max : goal.returns-then-len-max
returns-then-len-max c = sym (encoded_width_1 c.args.len (omega (arith, c.if-len-max.true, c.max.ensures)))

pub returns-then-len-max-2 : goal.returns-then-len-max-2
returns-then-len-max-2 c = sym (encoded_width_2 c.args.len (omega (arith, c.if-len-max.false, c.max.ensures)) (omega (arith, c.if-len-max-2.true, c.max-2.ensures)))

pub returns-then-len-max-3 : goal.returns-then-len-max-3
returns-then-len-max-3 c = sym (encoded_width_4 c.args.len (omega (arith, c.if-len-max-2.false, c.max-2.ensures)) (omega (arith, c.if-len-max-3.true, c.max-3.ensures)))

pub returns : goal.returns
returns c = sym (encoded_width_8 c.args.len (omega (arith, c.if-len-max-3.false, c.max-3.ensures)))
