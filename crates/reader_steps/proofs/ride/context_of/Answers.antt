-- `reader_steps::ride::context_of` meets its contract. Assumes nothing.
use Rattle.reader_steps.specs.Rides.{context_of}
use Rattle.reader_steps.proofs.ride.context_of.Goals as goal

pub returns : goal.returns
unfolding context_of
returns c = rw c.depths_of-depths.ensures
