-- `writer_store::copy_long` meets its contract. Assumes nothing.
use native.Mathlib.Omega.{arith}
use mathlib.Core.Path.{sym, ◌∙◌}
use lib.ListN.{length-set}
use Rattle.writer_store.proofs.Puts.{part_step, part_end}
use Rattle.writer_store.proofs.copy_long.Goals as goal

pub loop-i-preserved : goal.loop-i-preserved
loop-i-preserved c = (simp length-set c.loop-i.invariant.0, sym (part_step _ _ _ _ (omega arith)) ∙ c.loop-i.invariant.1)

pub returns : goal.returns
returns c = sym (part_end _ _ _ _ (omega arith)) ∙ c.loop-i.invariant.1
