-- The row has room for the numbers that are counted.
use Rattle.std.proofs.Common.{◌≤◌}
use Rattle.replay_text.proofs.words.numbers.Given as goal

abbrev pub invariant-loop-word : goal.invariant-loop-word
invariant-loop-word l = l.count ≤ 221184
