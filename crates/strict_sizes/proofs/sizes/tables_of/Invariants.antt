-- `tables_of` meets its contract: the loop keeps a table that has what stands behind a place. Assumes nothing.
use Prim.Native.Nat.{◌≤◌}
use Prim.Native.Nat.{◌≤◌}
use lib.ListN.{length}
use Rattle.strict_sizes.specs.Sizes.{Behind}
use Rattle.strict_sizes.proofs.sizes.tables_of.Given as goal

abbrev pub invariant-loop-i : goal.invariant-loop-i
invariant-loop-i l =
    (l.i ≤ length l.text) × Behind l.text l.i l.tables
