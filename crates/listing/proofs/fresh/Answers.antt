-- `listing::fresh` meets its contract. Assumes nothing.
use mathlib.Core.Path.{refl}
use Rattle.listing.specs.States.{fresh_state}
use Rattle.listing.proofs.fresh.Goals as goal

pub returns : goal.returns
unfolding fresh_state
returns c = refl
