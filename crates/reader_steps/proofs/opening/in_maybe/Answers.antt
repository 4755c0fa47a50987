-- `reader_steps::opening::in_maybe` meets its contract. Assumes nothing.
use Rattle.reader_steps.proofs.Rides.{shallow, opens_by, maybe_full, maybe_more, fits_more}
use Rattle.std.proofs.Common.{arith}
use Rattle.reader_steps.proofs.opening.in_maybe.Goals as goal

pub inside-requires : goal.inside-requires
inside-requires c = (c.requires, fits_more _ 72057594037927936 (omega arith) (omega arith) (shallow _ c.requires))

pub returns : goal.returns
returns c = rw c.inside.ensures (opens_by _ _ (maybe_full _ (shallow _ c.requires)) (maybe_more _ (shallow _ c.requires)))
