-- `reader_steps::opening::in_variant` meets its contract. Assumes nothing.
use Rattle.reader_steps.proofs.Rides.{shallow, opens_by, variant_full, variant_more, fits_more}
use Rattle.std.proofs.Common.{arith}
use Rattle.reader_steps.proofs.opening.in_variant.Goals as goal

pub inside-requires : goal.inside-requires
inside-requires c = (c.requires, fits_more _ 281474976710656 (omega arith) (omega arith) (shallow _ c.requires))

pub returns : goal.returns
returns c = rw c.inside.ensures (opens_by _ _ (variant_full _ (shallow _ c.requires)) (variant_more _ (shallow _ c.requires)))
