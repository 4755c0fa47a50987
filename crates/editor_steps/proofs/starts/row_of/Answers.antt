-- `row_of` meets its contract. Assumes nothing.
use Rattle.editor_steps.proofs.starts.row_of.Goals as goal

pub returns : goal.returns
returns c = rw c.table_of-table.ensures
