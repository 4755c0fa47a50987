-- `put_end` meets its contract.
use Prim.Native.Nat.{◌-◌}
use native.Mathlib.Omega.{arith}
use Rattle.editor_basic.proofs.BackLaws.{end_none, end_one, end_room}
use Rattle.editor_basic.proofs.rewriter.put_end.Goals as goal

pub returns-then-fixed : goal.returns-then-fixed
returns-then-fixed c =
    let whole = (end_none c.args.fixed c.args.out.now c.args.below c.args.width c.args.end c.if-fixed.true) in
    record { bytes = whole.0; place = whole.1 }

pub returns : goal.returns
returns c =
    let whole = (let r = end_room c.args.fixed c.args.below c.args.width c.args.end c.if-fixed.false c.requires in
    end_one c.args.fixed c.args.out.now _ c.args.below (c.args.below - c.args.width) c.args.width c.args.end c.if-fixed.false (omega (arith, r)) c.put_low_first.ensures) in
    record { bytes = whole.0; place = whole.1 }
