-- `plain_end` meets its contract. Assumes nothing.
use Rattle.texts.specs.Letters.{Plain}
use Rattle.texts.proofs.plain_end.Given as goal

abbrev pub invariant-loop-i : goal.invariant-loop-i
invariant-loop-i l = Plain l.text l.start l.i
