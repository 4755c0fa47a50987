-- `numerals::put_digits` meets its contract. The invariant: i digits are left to store, those of the number rest. Assumes nothing.
use native.Mathlib.Omega.{arith}
use Rattle.numerals.proofs.DecimalLaws.{storing_begin, storing_next, storing_end}
use Rattle.numerals.proofs.put_digits.Goals as goal

pub loop-i-init : goal.loop-i-init
loop-i-init c = storing_begin _ _ c.requires

pub loop-i-preserved : goal.loop-i-preserved
loop-i-preserved c = storing_next _ _ _ _ (omega arith) (omega arith) c.loop-i.invariant

pub returns : goal.returns
returns c = storing_end _ _ _ _ c.loop-i-test.false c.loop-i.invariant
