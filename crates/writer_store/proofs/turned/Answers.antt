-- `writer_store::turned` meets its contract. Assumes nothing.
use native.Mathlib.Omega.{arith}
use mathlib.Core.Path.{sym, ◌∙◌}
use Rattle.writer_store.proofs.Puts.{turned_step, turned_end}
use Rattle.writer_store.proofs.turned.Goals as goal

pub loop-i-preserved : goal.loop-i-preserved
loop-i-preserved c =
    simp (c.put.ensures, c.low.ensures) (sym (turned_step _ _ _ _ (omega arith)) ∙ c.loop-i.invariant)

pub returns : goal.returns
returns c = sym (turned_end _ _ _ _ (omega arith)) ∙ c.loop-i.invariant
