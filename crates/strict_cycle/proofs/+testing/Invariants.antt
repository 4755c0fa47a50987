-- The walk meets its contracts: its functions call each other as containers nest. What falls: the containers that may still be opened,
-- and then the functions in order. Assumes nothing.
use Rattle.container_depths.specs.Opening.{depths_of}
use Rattle.strict_basic.proofs.ElementLaws.{ElementsLeft}
use Rattle.strict_sizes.specs.Items.{item_test}
use lib.ListN.{length}
use Prim.Native.Nat.{◌-◌, ◌*◌, ◌+◌}
use Rattle.container_depths.specs.Opening.{level}
use Rattle.strict_cycle.proofs.Structures.{FieldsLeft}
use Rattle.strict_cycle.proofs.+testing.Given as goal

abbrev pub invariant-array::elements-loop-i : goal.invariant-array::elements-loop-i
invariant-array::elements-loop-i l =
    ElementsLeft l.item.extent.fixed (item_test l.d.variant l.text l.item) (depths_of l.d) l.part l.rows.width l.rows.body l.rows.count l.rows.from l.i l.place

abbrev pub invariant-dictionary::entries-loop-i : goal.invariant-dictionary::entries-loop-i
invariant-dictionary::entries-loop-i l =
    ElementsLeft l.item.extent.fixed (item_test l.d.variant l.text l.item) (depths_of l.d) l.part l.rows.width l.rows.body l.rows.count l.rows.from l.i l.place

abbrev pub decreases-array::array : goal.decreases-array::array
decreases-array::array l =
    level l.d * 16 + 2

abbrev pub decreases-array::elements : goal.decreases-array::elements
decreases-array::elements l =
    level l.d * 16 + 8

abbrev pub decreases-array::first : goal.decreases-array::first
decreases-array::first l =
    level l.d * 16 + 8

abbrev pub decreases-child : goal.decreases-child
decreases-child l =
    level l.d * 16 + 4

abbrev pub decreases-dictionary::entries : goal.decreases-dictionary::entries
decreases-dictionary::entries l =
    level l.d * 16 + 8

abbrev pub decreases-dictionary::pair : goal.decreases-dictionary::pair
decreases-dictionary::pair l =
    level l.d * 16 + 6

abbrev pub decreases-maybe::maybe : goal.decreases-maybe::maybe
decreases-maybe::maybe l =
    level l.d * 16 + 2

abbrev pub decreases-structure::fields : goal.decreases-structure::fields
decreases-structure::fields l =
    level l.d * 16 + 8

abbrev pub decreases-structure::last_field : goal.decreases-structure::last_field
decreases-structure::last_field l =
    level l.d * 16 + 5

abbrev pub decreases-structure::structure : goal.decreases-structure::structure
decreases-structure::structure l =
    level l.d * 16 + 2

abbrev pub decreases-value : goal.decreases-value
decreases-value l =
    level l.d * 16 + 3

abbrev pub decreases-variant::variant : goal.decreases-variant::variant
decreases-variant::variant l =
    level l.d * 16 + 2

abbrev pub invariant-structure::fields-loop-whole : goal.invariant-structure::fields-loop-whole
invariant-structure::fields-loop-whole l =
    FieldsLeft l.whole.fixed l.whole.alignment l.d.variant (depths_of l.d) l.text l.at l.part l.body l.width l.i l.place l.end

abbrev pub decreases-structure::fields-loop-whole : goal.decreases-structure::fields-loop-whole
decreases-structure::fields-loop-whole l =
    length l.text - l.i
