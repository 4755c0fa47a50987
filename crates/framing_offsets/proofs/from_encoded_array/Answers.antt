-- `from_encoded_array` tells the width of a container. Assumes nothing.
use mathlib.Core.Path.{sym}
use native.Mathlib.Omega.{arith}
use Rattle.meaning.proofs.OffsetLaws.{encoded_width_1}
use Rattle.framing_offsets.proofs.from_encoded_array.Goals as goal

pub table_by-requires : goal.table_by-requires
table_by-requires c = sym (encoded_width_1 _ (omega (arith, c.if-container-max.true, c.max.ensures)))
