-- `rewrite_field_ends` meets its contract.
use Prim.Native.Nat.{◌-◌}
use Rattle.editor_basic.proofs.BackLaws.{EndsLeft}
use Rattle.editor_basic.proofs.rewriter.rewrite_field_ends.Given as goal

abbrev pub invariant-loop-rest : goal.invariant-loop-rest
invariant-loop-rest l = EndsLeft l.text l.tables l.initial.rest l.old l.initial.out l.width l.below l.to l.out l.rest l.first l.place

abbrev pub decreases-loop-rest : goal.decreases-loop-rest
decreases-loop-rest l = 256 - l.rest.at
