-- `writer_ends::table` meets its contract. Assumes nothing.
use Rattle.writer_ends.proofs.TableLaws.{table_turned}
use native.Mathlib.Omega.{arith}
use Rattle.writer_ends.proofs.table.Goals as goal

pub returns-then-top-count : goal.returns-then-top-count
returns-then-top-count c = c.front_table.ensures

pub returns : goal.returns
returns c = table_turned c.turn_ends.ensures (omega arith) (omega arith) c.back_table.ensures
