-- `lone_basic` meets its contract. Assumes nothing.
use mathlib.Core.Path.{sym, ◌∙◌}
use Rattle.strict_basic.proofs.BasicLaws.{lone_by}
use Rattle.strict_basic.proofs.basic.lone_basic.Goals as goal

pub returns-then-is_basic : goal.returns-then-is_basic
returns-then-is_basic c = lone_by _ c.if-text-eq1.true _ c.letter_at-kind.ensures (sym c.is_basic.ensures ∙ c.if-is_basic.true)
