-- `reader_basic::basic::separator` meets its contract. Assumes nothing.
use native.Mathlib.Omega.{arith}
use mathlib.Core.Path.{sym, ◌∙◌}
use borrow.Author.Tests.{eq-eqb, ne_eqb}
use Rattle.reader_basic.proofs.Leaves.{last_nul_none, last_nul_before}
use Rattle.reader_basic.proofs.basic.separator.Goals as goal

pub returns-then-part-i-eq0 : goal.returns-then-part-i-eq0
returns-then-part-i-eq0 c = (sym (c.loop-i.invariant ∙ last_nul_before _ _ (omega arith) (omega arith) ∙ simp (eq-eqb _ _ c.if-part-i-eq0.true)), omega arith, omega arith)

pub loop-i-preserved : goal.loop-i-preserved
loop-i-preserved c = c.loop-i.invariant ∙ last_nul_before _ _ (omega arith) (omega arith) ∙ simp (ne_eqb _ _ c.if-part-i-eq0.false)

pub returns : goal.returns
returns c = c.loop-i.invariant ∙ last_nul_none _ _ (omega arith)
