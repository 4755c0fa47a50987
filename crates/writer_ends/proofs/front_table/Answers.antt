-- `writer_ends::front_table` meets its contract. Assumes nothing.
use Prim.Native.Nat.{◌+◌}
use native.Mathlib.Omega.{arith}
use mathlib.Core.Path.{◌∙◌}
use Rattle.std.proofs.lemmas.List.Edits.{get_or-between}
use Rattle.writer_ends.proofs.TableLaws.{front_begin, front_next, front_done}
use Rattle.writer_ends.proofs.front_table.Goals as goal

pub loop-end-init : goal.loop-end-init
loop-end-init c = front_begin _ _ _ _ _ _

pub loop-end-preserved : goal.loop-end-preserved
loop-end-preserved c =
    front_next c.loop-end.invariant (omega arith) _ _ (omega arith) (c.from.ensures ∙ get_or-between c.args.ends.now c.args.top (c.args.top + c.args.count) c.loop-end.end-index 0 (omega arith)) c.digits.ensures (omega arith)

pub returns : goal.returns
returns c = front_done c.loop-end.invariant (omega arith) (λ h. omega arith)
