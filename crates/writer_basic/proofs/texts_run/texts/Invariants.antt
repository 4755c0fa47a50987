-- `writer_basic::texts_run::texts` meets its contract. Assumes nothing.
use Prim.Native.Nat.{◌-◌}
use lib.ListN.{length}
use mathlib.Core.Bool.{Bool, false}
use Rattle.meaning.specs.Depths.{Depths}
use Rattle.meaning_writing.specs.Emitting.{emit_basic}
use Rattle.signature.specs.declared.Letter.TheVariants.{Text}
use Rattle.writer_basic.specs.Wrote.{key_basic}
use Rattle.writer_basic.proofs.Rows.{Left}
use Rattle.writer_basic.proofs.texts_run.texts.Given as goal

abbrev pub invariant-loop-row : goal.invariant-loop-row
invariant-loop-row l = (big : Bool) (d : Depths) → Left false (emit_basic l.texts big (key_basic (Text l.code)) d) l.events l.initial.row.next l.spot.start l.spot.top l.initial.out l.initial.ends l.row.next l.row.size l.row.count l.out l.ends

abbrev pub decreases-loop-row : goal.decreases-loop-row
decreases-loop-row l = length l.events - l.row.next
