-- `listing::next_number` meets its contract. Assumes nothing.
use mathlib.Core.Path.{◌∙◌}
use native.Mathlib.Omega.{arith}
use Rattle.listing.proofs.Steps.{next_by}
use Rattle.listing.proofs.next_number.Goals as goal

pub returns : goal.returns
returns c = c.saturating_add.ensures ∙ next_by _ (omega arith)
