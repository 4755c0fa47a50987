-- `writer_store::digits` meets its contract. Assumes nothing.
use native.Mathlib.Omega.{arith}
use mathlib.Core.Path.{sym, ◌∙◌}
use Rattle.writer_store.proofs.Puts.{bytes_step, bytes_end, bytes_two}
use Rattle.writer_store.proofs.digits.Goals as goal

pub loop-i-preserved : goal.loop-i-preserved
loop-i-preserved c =
    simp (c.put.ensures, c.low-in-loop-i.ensures) (sym (bytes_step _ _ _ _ _ (omega arith)) ∙ c.loop-i.invariant)

pub returns : goal.returns
returns c = sym (bytes_end _ _ _ _ _ (omega arith)) ∙ c.loop-i.invariant

pub returns-then-at-out : goal.returns-then-at-out
returns-then-at-out c = rw (c.if-width-eq2.true, c.low.ensures, c.low-then-at-out.ensures) (sym (bytes_two _ _ _))
