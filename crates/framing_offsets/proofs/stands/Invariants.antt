-- `framing_offsets::stands` judges a table as `table_stands` does. The loop passes one offset a turn. Assumes nothing.
use mathlib.Core.Path.{◌≡◌}
use Prim.Native.Nat.{◌≤◌}
use lib.ListN.{length}
use Rattle.meaning.specs.Offsets.{table_from, table_stands}
use Rattle.meaning.proofs.OffsetSteps.{rest_stands}
use Rattle.framing_offset_size.specs.Widths.{width_of}
use Rattle.framing_offsets.proofs.stands.Given as goal

abbrev pub invariant-loop-i : goal.invariant-loop-i
invariant-loop-i l =
    (l.i ≤ length l.container)
    × (table_stands (table_from (width_of l.size) l.start l.container) l.container ≡ rest_stands (width_of l.size) l.start l.container l.i)
