-- The writers, which call each other as containers nest, meet their contracts. What falls: the containers that may still be opened,
-- and then the writers in order. Assumes nothing.
use Prim.Native.Nat.{◌-◌}
use Rattle.writer_basic.proofs.Rows.{Left}
use Rattle.writer_cycle.specs.Places.{item_in}
use lib.ListN.{length}
use Prim.Native.Nat.{◌*◌, ◌+◌}
use Rattle.container_depths.specs.Opening.{level}
use Rattle.container_depths.specs.Opening.{depths_of}
use Rattle.writer_cycle.proofs.FieldRows.{FieldsLeft}
use Rattle.writer_cycle.proofs.+writing.Given as goal

abbrev pub invariant-array::items-loop-row : goal.invariant-array::items-loop-row
invariant-array::items-loop-row l = Left l.item.fixed (item_in l.context l.texts l.text l.item) l.events l.initial.row.next l.spot.start l.spot.top l.initial.out l.initial.ends l.row.next l.row.size l.row.count l.out l.ends

abbrev pub decreases-array::items-loop-row : goal.decreases-array::items-loop-row
decreases-array::items-loop-row l = length l.events - l.row.next

abbrev pub decreases-array::array : goal.decreases-array::array
decreases-array::array l = level l.context.depths * 16 + 2

abbrev pub decreases-array::elements : goal.decreases-array::elements
decreases-array::elements l = level l.context.depths * 16 + 9

abbrev pub decreases-array::items : goal.decreases-array::items
decreases-array::items l = level l.context.depths * 16 + 8

abbrev pub decreases-array::one : goal.decreases-array::one
decreases-array::one l = level l.context.depths * 16 + 7

abbrev pub decreases-dictionary::entry : goal.decreases-dictionary::entry
decreases-dictionary::entry l = level l.context.depths * 16 + 6

abbrev pub decreases-maybe::maybe : goal.decreases-maybe::maybe
decreases-maybe::maybe l = level l.context.depths * 16 + 2

abbrev pub decreases-structure::fields : goal.decreases-structure::fields
decreases-structure::fields l = level l.context.depths * 16 + 6

abbrev pub decreases-structure::structure : goal.decreases-structure::structure
decreases-structure::structure l = level l.context.depths * 16 + 2

abbrev pub decreases-value : goal.decreases-value
decreases-value l = level l.context.depths * 16 + 5

abbrev pub decreases-variant::typed : goal.decreases-variant::typed
decreases-variant::typed l = level l.context.depths * 16 + 1

abbrev pub decreases-variant::variant : goal.decreases-variant::variant
decreases-variant::variant l = level l.context.depths * 16 + 2

abbrev pub invariant-structure::fields-loop-one : goal.invariant-structure::fields-loop-one
invariant-structure::fields-loop-one l = FieldsLeft l.texts l.context.big l.context.depths.variant (depths_of l.context.depths) l.text l.at l.events l.initial.row.next l.spot.start l.spot.top l.initial.out l.initial.ends l.i l.row.next l.row.size l.row.count l.out l.ends

abbrev pub decreases-structure::fields-loop-one : goal.decreases-structure::fields-loop-one
decreases-structure::fields-loop-one l = length l.text - l.i
