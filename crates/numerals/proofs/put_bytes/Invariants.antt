-- `numerals::put_bytes` meets its contract. The invariant: the pairs from n on are left, behind the bytes at the front of the slice. Assumes nothing.
use Rattle.numerals.proofs.ByteLaws.{Pairing}
use Rattle.numerals.proofs.put_bytes.Given as goal

abbrev pub invariant-loop-n : goal.invariant-loop-n
invariant-loop-n l = Pairing l.text l.out l.n
