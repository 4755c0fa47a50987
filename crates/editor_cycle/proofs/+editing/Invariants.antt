-- The walk meets its contracts: its functions call each other as containers nest. What falls: the containers that may still be opened,
-- and then the functions in order. Assumes nothing.
use Prim.Native.Nat.{◌+◌}
use Rattle.container_depths.specs.Opening.{depths_of}
use Rattle.editor_steps.proofs.Arrays.{ElementsLeft}
use Rattle.editor_steps.specs.Walks.{item_editor, item_test}
use lib.ListN.{length}
use mathlib.Core.Path.{◌≡◌}
use Prim.Native.Nat.{◌*◌, ◌+◌}
use Rattle.container_depths.specs.Opening.{level}
use Prim.Native.Nat.{◌+◌, ◌-◌}
use Rattle.editor_steps.proofs.Structures.{FieldsLeft}
use Prim.Native.Nat.{◌-◌}
use Rattle.editor_cycle.proofs.+editing.Given as goal

abbrev pub invariant-array::elements-loop : goal.invariant-array::elements-loop
invariant-array::elements-loop l =
    ElementsLeft (item_test l.d.variant l.text l.item) (item_editor l.aim.big l.d.variant l.text l.item) (depths_of l.d) l.part l.all l.rest l.number l.left × (l.out ≡ l.initial.out) × (l.rest.count + l.counter ≡ l.all.count)

abbrev pub decreases-array::array : goal.decreases-array::array
decreases-array::array l = level l.d * 8 + 2

abbrev pub decreases-array::elements : goal.decreases-array::elements
decreases-array::elements l = level l.d * 8 + 5

abbrev pub decreases-dictionary::step : goal.decreases-dictionary::step
decreases-dictionary::step l = level l.d * 8 + 4

abbrev pub decreases-maybe::maybe : goal.decreases-maybe::maybe
decreases-maybe::maybe l = level l.d * 8 + 2

abbrev pub decreases-structure::fields : goal.decreases-structure::fields
decreases-structure::fields l = level l.d * 8 + 4

abbrev pub decreases-structure::structure : goal.decreases-structure::structure
decreases-structure::structure l = level l.d * 8 + 2

abbrev pub decreases-value : goal.decreases-value
decreases-value l = level l.d * 8 + 3

abbrev pub decreases-variant::held_value : goal.decreases-variant::held_value
decreases-variant::held_value l = level l.d * 8 + 4

abbrev pub decreases-variant::variant : goal.decreases-variant::variant
decreases-variant::variant l = level l.d * 8 + 2

abbrev pub invariant-structure::fields-loop-count : goal.invariant-structure::fields-loop-count
invariant-structure::fields-loop-count l =
    FieldsLeft l.aim.big (65 - l.d.variant) (depths_of l.d) l.text l.tables l.part l.initial.row l.row l.number l.left × (l.out ≡ l.initial.out)

abbrev pub decreases-structure::fields-loop-count : goal.decreases-structure::fields-loop-count
decreases-structure::fields-loop-count l =
    length l.text - l.row.at
