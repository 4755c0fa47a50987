-- `widen` meets its contract.
use mathlib.Core.Path.{◌≡◌, sym, ◌∙◌}
use Prim.Native.Nat.{◌+◌, ◌-◌, ◌<◌}
use native.Mathlib.Omega.{arith}
use lib.ListN.{length}
use Rattle.editor_basic.proofs.PutLaws.{over_beyond}
use Rattle.editor_basic.proofs.FinishLaws.{offsets_room, offsets_few, widen_turn, widen_end}
use Rattle.editor_basic.proofs.finisher.widen.Goals as goal

pub returns-then-out-at : goal.returns-then-out-at
returns-then-out-at c = sym (over_beyond _ _ _ c.if-out-at.true)

pub overflow_add-next : goal.overflow_add-next
overflow_add-next c =
    let a = c.args in
    let p = c.requires in
    omega (arith, c.loop.invariant.2, p.1, p.3, p.4, offsets_few p.2 a.count (length a.old.now) (omega (arith, p.0)))

pub loop-preserved : goal.loop-preserved
loop-preserved c =
    let i = c.loop.invariant in
    let t : 0 < c.args.count - c.loop.counter = omega (arith, c.loop-test.true) in
    let n : c.args.count - (c.loop.counter + 1) ≡ c.args.count - c.loop.counter - 1 = omega arith in
    rw n (
      widen_turn _ _ _ _ _ _ _ _ i.0 _ _ t c.offset_at-end.ensures c.put_low_first.ensures,
      (offsets_room _ _ _ _ t i.1).1,
      omega (arith, i.2, c.requires.3, t),
      c.put_low_first.auto.out ∙ i.3,
    )

pub returns : goal.returns
returns c = widen_end c.args.old.now _ _ c.loop.place _ _ _ _ c.loop.invariant.0 (omega (arith, c.loop-test.false))
