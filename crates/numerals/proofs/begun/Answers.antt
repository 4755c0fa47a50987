-- `numerals::begun` meets its contract. Assumes nothing.
use mathlib.Core.Path.{◌∙◌, sym}
use Rattle.std.proofs.lemmas.Bool.{false≢true}
use Rattle.numerals.proofs.DigitLaws.{has_spoilt, has_half, has_pair}
use Rattle.numerals.proofs.begun.Goals as goal
use Rattle.numerals.proofs.begun.Goals.{then-spoilt, else-spoilt}

pub returns-then-is_some : goal.returns-then-is_some
returns-then-is_some c = elim c.if-spoilt.branch [
  | then-spoilt w ↦ c.if-is_some.true ∙ has_spoilt _ _ _ w.if-spoilt.true
  | else-spoilt w ↦ c.if-is_some.true ∙ has_half _ _ _ (sym w.is_some.ensures ∙ sym w.value-is ∙ c.if-is_some.true)
]

pub returns-else-is_some : goal.returns-else-is_some
returns-else-is_some c = elim c.if-spoilt.branch [
  | then-spoilt w ↦ absurd (false≢true (sym c.if-is_some.false ∙ w.value-is ∙ w.if-spoilt.true))
  | else-spoilt w ↦ has_pair _ _ _ w.if-spoilt.false (sym w.is_some.ensures ∙ sym w.value-is ∙ c.if-is_some.false)
]
