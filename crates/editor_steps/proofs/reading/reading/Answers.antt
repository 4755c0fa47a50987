-- `reading` meets its contract. Assumes nothing.
use mathlib.Core.Path.{refl}
use Rattle.editor_steps.proofs.ReadingLaws.{slot_past, nothing_put, number_put}
use Rattle.editor_steps.proofs.reading.reading.Goals as goal

pub returns-then-number-gt0 : goal.returns-then-number-gt0
returns-then-number-gt0 c =
    record { is = λ u s q l a fx t. slot_past c.args.aim.big s a fx t _ _ l _ _ _ _ _ refl c.if-number-gt0.true }

pub returns-in-None : goal.returns-in-None
returns-in-None c =
    record { is = λ u s q l a fx t. nothing_put c.args.aim s a fx t _ _ l _ _ _ _ _ c.if-number-gt0.false refl c.in-None.is refl }

pub returns-in-Some : goal.returns-in-Some
returns-in-Some c =
    record { is = λ u s q l a fx t. number_put c.args.aim s a fx t _ _ l _ _ _ _ _ _ c.if-number-gt0.false c.in-Some.is (c.put.ensures.is u s q l a fx t) }
