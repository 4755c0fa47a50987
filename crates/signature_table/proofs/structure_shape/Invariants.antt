-- `structure_shape` meets its contract. The loop keeps `Fielded`, that what is left answers the whole; the measure is what is left of the text. Assumes nothing.
use Prim.Native.Nat.{◌-◌}
use lib.ListN.{length}
use Rattle.signature.proofs.ShapeLaws.{Fielded}
use Rattle.signature_table.proofs.structure_shape.Given as goal

abbrev pub invariant-loop-at : goal.invariant-loop-at
invariant-loop-at l = Fielded l.text l.at l.place l.alignment l.fixed

abbrev pub decreases-loop-at : goal.decreases-loop-at
decreases-loop-at l = length l.text - l.place
