-- `numerals::bytes` meets its contract: a law for each way out. Assumes nothing.
use mathlib.Core.Path.{refl, sym, ◌∙◌}
use Prim.Native.Nat.{◌/◌}
use native.Mathlib.Omega.{arith}
use lib.ListN.{length}
use lib.Seq.{length-take-le}
use Rattle.numerals.proofs.ByteLaws.{bytes_odd, bytes_long, bytes_other, none_within, answers_none, answers_some}
use Rattle.numerals.proofs.bytes.Goals as goal
use Rattle.numerals.proofs.bytes.Goals.{then-text-count-via-then-text-count, then-text-count-via-else-text-count+then-out-count, then-text-count-via-else-text-count+else-out-count+then-not-all_digits}

pub returns-then-text-count : goal.returns-then-text-count
returns-then-text-count c = elim c.then-text-count.branch [
  | then-text-count-via-then-text-count w ↦ answers_none _ _ (none_within _ _ (bytes_odd _ _ refl w.if-text-count.true))
  | then-text-count-via-else-text-count+then-out-count w ↦ answers_none _ _ (bytes_long _ _ _ w.if-text-count.false w.if-out-count.true)
  | then-text-count-via-else-text-count+else-out-count+then-not-all_digits w ↦ answers_none _ _ (none_within _ _ (bytes_other _ (sym w.all_digits.ensures ∙ w.if-not-all_digits.true)))
]

pub returns : goal.returns
returns c = answers_some _ _ _ _ c.put_bytes.ensures (omega (arith, length-take-le (length c.args.text.now / 2) c.args.out.now c.if-out-count.false)) c.if-out-count.false
