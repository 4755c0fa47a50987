-- `writer_store::clear` meets its contract. Assumes nothing.
use native.Mathlib.Omega.{arith}
use mathlib.Core.Path.{sym, ◌∙◌}
use Rattle.writer_store.proofs.Puts.{zeros_step, zeros_end}
use Rattle.writer_store.proofs.clear.Goals as goal

pub loop-i-preserved : goal.loop-i-preserved
loop-i-preserved c = simp c.put.ensures (sym (zeros_step _ _ _ _ (omega arith)) ∙ c.loop-i.invariant)

pub returns : goal.returns
returns c = sym (zeros_end _ _ _ _ (omega arith)) ∙ c.loop-i.invariant
