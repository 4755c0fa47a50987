-- `writer_basic::closing::array_end` meets its contract. Assumes nothing.
use mathlib.Core.Path.{refl}
use Rattle.writer_basic.proofs.Rounds.{array_fixed, array_table}
use Rattle.writer_basic.proofs.closing.array_end.Goals as goal

pub returns-then-fixed : goal.returns-then-fixed
returns-then-fixed c = λ x ns kind a i l s n m d. array_fixed x ns kind a i _ _ l _ s _ _ _ d refl c.if-fixed.true

pub returns : goal.returns
returns c = λ x ns kind a i l s n m d. array_table x ns kind a i _ _ l _ s _ _ _ d _ _ _ _ refl c.if-fixed.false c.width-w.ensures.0 c.add.ensures c.table.ensures n m
