-- `signature_table::fill_from`, which calls itself, meets its contract. The measure is what is left of the text. Assumes nothing.
use lib.ListN.{length}
use Prim.Native.Nat.{◌-◌}
use Rattle.signature_table.proofs.+fill_from.Given as goal

abbrev pub decreases-fill_from : goal.decreases-fill_from
decreases-fill_from l = length l.text.now - l.at
