-- `writer_basic::numbers::readings` meets its contract. Assumes nothing.
use Prim.Native.Nat.{◌-◌, ℕ}
use lib.ListN.{length}
use mathlib.Core.List.{List}
use mathlib.Core.Bool.{true, false}
use Rattle.meaning.specs.Types.{basic_alignment}
use Rattle.meaning_writing.specs.Emitting.{emit_basic, emit_maybe}
use Rattle.container_depths.specs.Opening.{depths_of}
use Rattle.signature.specs.declared.Letter.TheVariants.{Number}
use Rattle.writer_basic.specs.Wrote.{key_basic}
use Rattle.writer_basic.proofs.Rows.{Left}
use Rattle.writer_basic.proofs.numbers.readings.Given as goal

abbrev pub invariant-loop-row : goal.invariant-loop-row
invariant-loop-row l =
    (texts : List ℕ) → Left false (emit_maybe (basic_alignment (key_basic (Number l.code l.width))) true (emit_basic texts l.context.big (key_basic (Number l.code l.width))) (depths_of l.context.depths)) l.events l.initial.row.next l.spot.start l.spot.top l.initial.out l.initial.ends l.row.next l.row.size l.row.count l.out l.ends

abbrev pub decreases-loop-row : goal.decreases-loop-row
decreases-loop-row l = length l.events - l.row.next
