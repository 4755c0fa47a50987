-- `signature_table::judge` meets its contract. Assumes nothing.
use mathlib.Core.Path.{refl}
use Rattle.signature.proofs.ShapeLaws.{table_judges}
use Rattle.signature_table.proofs.judge.Goals as goal

pub returns : goal.returns
returns c = table_judges _ _ _ _ refl c.shapes_of.ensures
