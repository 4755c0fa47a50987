-- `rows_behind` meets its contract. Assumes nothing.
use mathlib.Core.Path.{sym, ◌∙◌}
use native.Mathlib.Omega.{arith}
use Rattle.strict_ends.proofs.EndLaws.{table_small, offsets_many, offsets_wide, offsets_stand}
use Rattle.strict_ends.proofs.rows_behind.Goals as goal
use Rattle.strict_ends.proofs.rows_behind.Goals.{then-len-table-via-then-len-table, then-len-table-via-else-len-table+then-not-smallest}

pub overflow_mul-table : goal.overflow_mul-table
overflow_mul-table c =
    let h = table_small c.args.count c.width_of-width.result c.args.len c.requires.1 c.width_of-width.ensures in omega arith

pub returns-then-len-table : goal.returns-then-len-table
returns-then-len-table c =
    elim c.then-len-table.branch [
      | then-len-table-via-then-len-table w ↦ offsets_many _ _ _ c.width_of-width.ensures w.if-len-table.true
      | then-len-table-via-else-len-table+then-not-smallest w ↦ offsets_wide _ _ _ c.width_of-width.ensures w.if-len-table.false (sym w.if-not-smallest.true ∙ w.smallest.ensures)
    ]

pub returns : goal.returns
returns c =
    offsets_stand _ _ _ c.width_of-width.ensures c.if-len-table.false (sym c.if-not-smallest.false ∙ c.smallest.ensures)
