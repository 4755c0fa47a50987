-- `put_low_first` meets its contract. Assumes nothing.
use lib.Seq.{set_out}
use mathlib.Core.Path.{sym, ◌∙◌}
use Rattle.editor_basic.proofs.PutLaws.{over_one}
use Rattle.editor_basic.proofs.mover.put_low_first.Goals as goal

pub returns-then-width-eq2 : goal.returns-then-width-eq2
returns-then-width-eq2 c = rw c.if-width-eq2.true c.put_two.ensures

pub returns-then-at-out : goal.returns-then-at-out
returns-then-at-out c = sym (over_one _ _ _ _ c.if-width-ne1.false)

pub returns-else-at-out : goal.returns-else-at-out
returns-else-at-out c = sym (over_one _ _ _ _ c.if-width-ne1.false ∙ set_out _ _ _ c.if-at-out.false)
