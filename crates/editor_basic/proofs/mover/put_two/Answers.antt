-- `put_two` meets its contract. Assumes nothing.
use lib.Seq.{set_out}
use mathlib.Core.Path.{sym, ◌∙◌}
use Rattle.editor_basic.proofs.PutLaws.{over_beyond, over_two}
use Rattle.editor_basic.proofs.mover.put_two.Goals as goal

pub returns-then-out-at : goal.returns-then-out-at
returns-then-out-at c = sym (over_beyond _ _ _ c.if-out-at.true)

pub returns-then-at-out : goal.returns-then-at-out
returns-then-at-out c = sym (over_two _ _ _)

pub returns-else-at-out : goal.returns-else-at-out
returns-else-at-out c = sym (over_two _ _ _ ∙ set_out _ _ _ c.if-at-out.false)
