-- `reader_steps::opening::in_array` meets its contract. Assumes nothing.
use Rattle.reader_steps.proofs.Rides.{shallow, opens_by, array_over, array_full, array_more, fits_more}
use Rattle.std.proofs.Common.{arith}
use Rattle.reader_steps.proofs.opening.in_array.Goals as goal

pub returns-then-ride-ge-MAX_ARRAY : goal.returns-then-ride-ge-MAX_ARRAY
returns-then-ride-ge-MAX_ARRAY c = array_over _ (shallow _ c.requires) c.if-ride-ge-MAX_ARRAY.true

pub inside-requires : goal.inside-requires
inside-requires c = (c.requires, fits_more _ 1099511627776 (omega arith) (omega arith) (shallow _ c.requires))

pub returns : goal.returns
returns c = rw c.inside.ensures (opens_by _ _ (array_full _ (shallow _ c.requires) c.if-ride-ge-MAX_ARRAY.false) (array_more _ (shallow _ c.requires) c.if-ride-ge-MAX_ARRAY.false))
