-- `reader_steps::opening::in_structure` meets its contract. Assumes nothing.
use Rattle.reader_steps.proofs.Rides.{shallow, opens_by, structure_over, structure_full, structure_more, fits_more}
use Rattle.std.proofs.Common.{arith}
use Rattle.reader_steps.proofs.opening.in_structure.Goals as goal

pub returns-then-ride-ge-MAX_STRUCTURE : goal.returns-then-ride-ge-MAX_STRUCTURE
returns-then-ride-ge-MAX_STRUCTURE c = structure_over _ (shallow _ c.requires) c.if-ride-ge-MAX_STRUCTURE.true

pub inside-requires : goal.inside-requires
inside-requires c = (c.requires, fits_more _ 4294967296 (omega arith) (omega arith) (shallow _ c.requires))

pub returns : goal.returns
returns c = rw c.inside.ensures (opens_by _ _ (structure_full _ (shallow _ c.requires) c.if-ride-ge-MAX_STRUCTURE.false) (structure_more _ (shallow _ c.requires) c.if-ride-ge-MAX_STRUCTURE.false))
