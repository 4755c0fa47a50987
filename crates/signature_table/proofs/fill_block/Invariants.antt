-- `signature_table::fill_block` meets its contract. The loop's invariant: the shapes from the present place on are in the table. Assumes nothing.
use Prim.Native.Nat.{◌≤◌}
use lib.ListN.{length}
use Rattle.signature.specs.Shapes.{Filled}
use Rattle.signature_table.proofs.fill_block.Given as goal

abbrev pub invariant-loop-i : goal.invariant-loop-i
invariant-loop-i l = (l.at ≤ l.i) × (l.i ≤ length l.text) × Filled l.i l.text l.initial.shapes l.shapes
