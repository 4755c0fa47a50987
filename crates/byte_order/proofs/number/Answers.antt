-- `byte_order::number` gives what `number_at` says for a width, in either byte order. Assumes nothing.
use Rattle.std.proofs.Common.{◌+◌, ◌≤◌, ◌∙◌, sym, length, arith}
use Rattle.utils.proofs.Places.{within}
use Rattle.meaning.proofs.NumberSteps.{spelled_next}
use Rattle.byte_order.proofs.Bytes.{one_more_below, one_more_fits, none_spelled, all_spelled}
use Rattle.byte_order.proofs.Standings.{number_failed, number_passed, number_known}
use Rattle.byte_order.proofs.number.Goals as goal

pub returns-then-not-reaches : goal.returns-then-not-reaches
returns-then-not-reaches g c =
    number_failed g.row.WIDTH _ c.args.part.now _ c.reaches.ensures c.if-not-reaches.true ∙ sym (number_known g.row.WIDTH c.args.big _ _ (omega arith))

pub loop-i-init : goal.loop-i-init
loop-i-init g c = record { spelled = none_spelled c.args.big g.row.WIDTH c.args.place c.args.part.now; below = omega arith }

pub overflow_mul-number : goal.overflow_mul-number
overflow_mul-number g c = record { fits = omega (arith, one_more_fits g.row.WIDTH c.loop-i.i c.loop-i.number 0 (omega arith) c.loop-i-test.true c.loop-i.invariant.below (omega arith)) }

pub overflow_add-number-in-loop-i : goal.overflow_add-number-in-loop-i
overflow_add-number-in-loop-i g c = record {
  fits = one_more_fits g.row.WIDTH c.loop-i.i c.loop-i.number _ (omega arith) c.loop-i-test.true c.loop-i.invariant.below (c.type_inv.part (c.args.place + c.next_byte-next.result)).fits;
}

pub loop-i-preserved : goal.loop-i-preserved
loop-i-preserved g c =
    let inside : c.args.place + g.row.WIDTH ≤ length c.args.part.now = within c.args.part.now c.args.place g.row.WIDTH c.reaches.ensures c.if-not-reaches.false in
    record {
      spelled = rw (c.next_byte-next.ensures, c.loop-i.invariant.spelled) (spelled_next c.args.big g.row.WIDTH c.loop-i.i c.args.place c.args.part.now c.loop-i-test.true inside);
      below = one_more_below c.loop-i.i c.loop-i.number _ c.loop-i.invariant.below (c.type_inv.part (c.args.place + c.next_byte-next.result)).fits;
    }

pub returns : goal.returns
returns g c =
    number_passed g.row.WIDTH _ c.args.part.now _ c.reaches.ensures c.if-not-reaches.false
    (all_spelled c.args.big g.row.WIDTH c.args.place c.args.part.now (omega (arith, c.loop-i-test.false, c.loop-i.auto.i-end)) c.loop-i.invariant.spelled)
    ∙ sym (number_known g.row.WIDTH c.args.big _ _ (omega arith))
