-- `numerals::places` meets its contract. The invariant: the digits of what is left of the number are to be counted. Assumes nothing.
use Rattle.numerals.proofs.DecimalLaws.{Counting}
use Rattle.numerals.proofs.places.Given as goal

abbrev pub invariant-loop-count : goal.invariant-loop-count
invariant-loop-count l = Counting l.n l.count l.rest
