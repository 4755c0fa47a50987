-- `move_elements` meets its contract.
use mathlib.Core.Path.{◌≡◌}
use Prim.Native.Nat.{◌+◌, ◌-◌}
use lib.ListN.{length}
use Rattle.meaning.specs.Written.{layout}
use Rattle.editor_basic.specs.Puts.{over}
use Rattle.editor_basic.specs.Elements.{elements_in}
use Rattle.editor_basic.proofs.RunLaws.{Running}
use Rattle.editor_basic.proofs.rewriter.move_elements.Given as goal

abbrev pub invariant-loop : goal.invariant-loop
invariant-loop l =
    Running l.rest l.old l.place (l.to + length (layout l.to (elements_in l.initial.rest l.old))) l.out (over l.initial.out l.at (layout l.to (elements_in l.initial.rest l.old))) l.next l.gap l.from
    × (l.next + l.gap + (l.rest.place - l.from) + l.to ≡ l.at + l.place)
    × (length l.out ≡ length l.initial.out)
    × (l.rest.count + l.counter ≡ l.initial.rest.count)
