-- `reader_basic::basic::separator` meets its contract. The loop's invariant: what is left to look at has the same last nul as the whole. Assumes nothing.
use mathlib.Core.Path.{◌≡◌}
use Prim.Native.Nat.{◌-◌}
use lib.ListN.{length}
use Rattle.meaning.specs.Reading.{last_nul}
use Rattle.reader_basic.proofs.basic.separator.Given as goal

abbrev pub invariant-loop-i : goal.invariant-loop-i
invariant-loop-i l = last_nul (length l.part - 1) l.part ≡ last_nul (l.i - 1) l.part
