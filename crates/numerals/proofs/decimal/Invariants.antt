-- `numerals::decimal` meets its contract. The invariant: the digits from an index on are left, behind those that spell the value. Assumes nothing.
use Rattle.numerals.proofs.NumberLaws.{Spelling}
use Rattle.numerals.proofs.decimal.Given as goal

abbrev pub invariant-loop-byte : goal.invariant-loop-byte
invariant-loop-byte l = Spelling l.text l.byte-index l.value
