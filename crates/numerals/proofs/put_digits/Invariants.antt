-- `numerals::put_digits` meets its contract. The invariant: i digits are left to store, those of the number rest. Assumes nothing.
use Rattle.numerals.proofs.DecimalLaws.{Storing}
use Rattle.numerals.proofs.put_digits.Given as goal

abbrev pub invariant-loop-i : goal.invariant-loop-i
invariant-loop-i l = Storing l.n l.i l.rest l.out
