-- `rewrite_ends` meets its contract.
use mathlib.Core.Path.{◌≡◌}
use Prim.Native.Nat.{◌+◌, ◌*◌, ◌≤◌}
use lib.ListN.{length}
use Rattle.meaning.specs.Offsets.{table}
use Rattle.meaning.specs.Written.{layout, ends}
use Rattle.editor_basic.specs.Puts.{over}
use Rattle.editor_basic.specs.Elements.{elements_in}
use Rattle.editor_basic.proofs.RewriteLaws.{Reaching}
use Rattle.editor_basic.proofs.rewriter.rewrite_ends.Given as goal

abbrev pub invariant-loop : goal.invariant-loop
invariant-loop l =
    Reaching l.rest l.old l.place (l.to + length (layout l.to (elements_in l.initial.rest l.old)))
    × (over l.out l.next (table l.width (ends l.place (elements_in l.rest l.old))) ≡ over l.initial.out l.at (table l.width (ends l.to (elements_in l.initial.rest l.old))))
    × (l.next + 8 * l.rest.count ≤ l.at + 8 * l.initial.rest.count)
    × (length l.out ≡ length l.initial.out)
    × (l.rest.count + l.counter ≡ l.initial.rest.count)
