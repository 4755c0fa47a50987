-- So far the number has its highest bytes. Assumes nothing.
use Rattle.std.proofs.Common.{◌≡◌, ◌<◌, ◌^◌}
use Rattle.meaning.specs.Numbers.{spelled}
use Rattle.meaning.proofs.NumberSteps.{highest_from}
use Rattle.byte_order.proofs.number.Given as goal

abbrev pub invariant-loop-i : goal.invariant-loop-i
invariant-loop-i g l = record {
  spelled : l.number ≡ spelled l.big l.i (highest_from l.big g.row.WIDTH l.i l.place) l.part;
  below : l.number < 256 ^ l.i;
}
