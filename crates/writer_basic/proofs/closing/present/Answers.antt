-- `writer_basic::closing::present` meets its contract. Assumes nothing.
use mathlib.Core.Path.{refl}
use Rattle.writer_basic.proofs.Rounds.{present_fixed, present_other}
use Rattle.writer_basic.proofs.closing.present.Goals as goal

pub returns-then-fixed : goal.returns-then-fixed
returns-then-fixed c = λ x ns a i top l s s' n d. present_fixed a i _ top _ d refl c.if-fixed.true

pub returns : goal.returns
returns c = λ x ns a i top l s s' n d. present_other a i _ top _ d _ _ refl c.if-fixed.false c.put.ensures c.add.ensures n
