-- What is left answers the whole. Assumes nothing.
use Rattle.meaning.specs.Padding.{leading_zeros}
use Rattle.std.proofs.Common.{◌≡◌, ◌+◌, ◌-◌, leb, drop}
use Rattle.de.proofs.zeros.Given as goal

abbrev pub invariant-loop-byte : goal.invariant-loop-byte
invariant-loop-byte l =
    leb l.count (leading_zeros (drop l.place l.part)) ≡ leb (l.count - l.byte-index) (leading_zeros (drop (l.place + l.byte-index) l.part))
