-- `reader_steps::ride::ride_of` meets its contract. Assumes nothing.
use Rattle.reader_steps.proofs.Rides.{begins_big, begins_little}
use Rattle.reader_steps.proofs.ride.ride_of.Goals as goal

pub returns-then-big : goal.returns-then-big
returns-then-big c = begins_big _ c.requires _ c.if-big.true

pub returns-else-big : goal.returns-else-big
returns-else-big c = begins_little _ c.requires _ c.if-big.false
