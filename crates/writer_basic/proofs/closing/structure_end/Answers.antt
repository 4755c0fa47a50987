-- `writer_basic::closing::structure_end` meets its contract. Assumes nothing.
use mathlib.Core.Path.{refl}
use Rattle.writer_basic.proofs.Rounds.{structure_padded, structure_table}
use Rattle.writer_basic.proofs.closing.structure_end.Goals as goal

pub returns-then-fixed : goal.returns-then-fixed
returns-then-fixed c =
    λ P x ns i k l s st no fw n m d. structure_padded P x ns _ i k _ _ l _ s _ _ d refl (fw refl) n (rw c.if-fixed.true at st) (no c.if-fixed.true) _ _ _ c.pad-more.ensures.count.0 c.add.ensures c.pad-more.ensures.bytes

pub returns : goal.returns
returns c =
    λ P x ns i k l s st no fw n m d. structure_table P x ns _ i k _ _ l _ s _ _ d refl (fw refl) n (rw c.if-fixed.false at st) _ _ _ c.width-w.ensures.0 c.add-2.ensures c.back_table.ensures m
