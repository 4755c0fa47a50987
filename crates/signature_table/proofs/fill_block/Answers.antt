-- `signature_table::fill_block` meets its contract. The loop's invariant: the shapes from the present place on are in the table. Assumes nothing.
use native.Mathlib.Omega.{arith}
use Rattle.signature.proofs.ShapeLaws.{filled_same, filled_step, filled_at}
use Rattle.signature_table.proofs.fill_block.Goals as goal

pub loop-i-init : goal.loop-i-init
loop-i-init c = (c.requires.2, c.requires.3, filled_same _ _ _ c.requires.4)

pub put_at-requires : goal.put_at-requires
put_at-requires c =
    record {
      few = c.requires.0;
      room = omega (arith, c.requires.1, c.loop-i.invariant.2.kept);
      inside = omega (arith, c.loop-i.invariant.1);
      table = λ k p q. c.loop-i.invariant.2.each k (omega arith) q;
    }

pub loop-i-preserved : goal.loop-i-preserved
loop-i-preserved c =
    (omega arith, omega (arith, c.loop-i.invariant.1), filled_step _ _ c.loop-i.shapes _ _ (omega arith) c.loop-i.invariant.1 c.requires.1 c.loop-i.invariant.2 c.put_at.ensures)

pub returns : goal.returns
returns c = filled_at _ _ _ _ _ (omega (arith, c.loop-i.invariant.0)) c.loop-i.invariant.2
