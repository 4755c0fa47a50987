-- The readers, which call each other as containers nest, meet their contracts. What falls: the containers that may still be opened,
-- and then the readers in order. Assumes nothing.
use Prim.Native.Nat.{◌+◌, ◌-◌}
use Rattle.container_depths.specs.Opening.{depths_of}
use Rattle.reader_basic.proofs.Loops.{ElementsLeft}
use Rattle.reader_steps.specs.Places.{item_of, step_in}
use Rattle.reader_steps.specs.Rides.{context_of}
use lib.ListN.{length}
use Rattle.framing_offsets.specs.Tables.{table_in}
use Rattle.meaning.specs.Offsets.{ends_of}
use Rattle.reader_basic.proofs.Loops.{FramedLeft}
use lib.ListN.{drop}
use Prim.Native.Nat.{◌+◌}
use Prim.Native.Nat.{◌*◌, ◌+◌}
use Rattle.container_depths.specs.Opening.{level}
use Rattle.meaning.specs.Offsets.{encoded_width}
use Rattle.reader_steps.proofs.Structures.{FieldsLeft}
use Rattle.signature.specs.Shapes.{shape_in}
use lib.ListN.{drop, length}
use Rattle.reader_cycle.proofs.+reading.Given as goal

abbrev pub invariant-array::elements-loop-read : goal.invariant-array::elements-loop-read
invariant-array::elements-loop-read l =
    ElementsLeft (step_in (context_of l.ride) l.text (item_of l.text l.shapes l.at) l.place l.part (length l.part)) l.part l.lead l.n l.initial.out l.read.used l.read.count l.out

abbrev pub decreases-array::elements-loop-read : goal.decreases-array::elements-loop-read
decreases-array::elements-loop-read l =
    length l.part - (l.lead + l.read.used)

abbrev pub invariant-array::framed-loop-i : goal.invariant-array::framed-loop-i
invariant-array::framed-loop-i l =
    FramedLeft (step_in (context_of l.ride) l.text (item_of l.text l.shapes l.at) l.place l.part (l.lead + l.offsets.start)) l.part l.lead (l.lead + l.offsets.start) l.n l.initial.out (ends_of (table_in l.offsets) (drop l.lead l.part)) l.i l.so_far.used l.so_far.count l.out

abbrev pub decreases-array::array : goal.decreases-array::array
decreases-array::array l =
    level (context_of l.ride).depths * 16 + 2

abbrev pub decreases-array::elements : goal.decreases-array::elements
decreases-array::elements l =
    level (context_of l.ride).depths * 16 + 9

abbrev pub decreases-array::framed : goal.decreases-array::framed
decreases-array::framed l =
    level (context_of l.ride).depths * 16 + 9

abbrev pub decreases-body : goal.decreases-body
decreases-body l =
    level (context_of l.ride).depths * 16 + 3

abbrev pub decreases-container : goal.decreases-container
decreases-container l =
    level (context_of l.ride).depths * 16 + 4

abbrev pub decreases-dictionary::entry : goal.decreases-dictionary::entry
decreases-dictionary::entry l =
    level (context_of l.ride).depths * 16 + 7

abbrev pub decreases-dictionary::fixed_key : goal.decreases-dictionary::fixed_key
decreases-dictionary::fixed_key l =
    level (context_of l.ride).depths * 16 + 6

abbrev pub decreases-dictionary::text_key : goal.decreases-dictionary::text_key
decreases-dictionary::text_key l =
    level (context_of l.ride).depths * 16 + 6

abbrev pub decreases-maybe::maybe : goal.decreases-maybe::maybe
decreases-maybe::maybe l =
    level (context_of l.ride).depths * 16 + 2

abbrev pub decreases-structure::structure : goal.decreases-structure::structure
decreases-structure::structure l =
    level (context_of l.ride).depths * 16 + 2

abbrev pub decreases-value : goal.decreases-value
decreases-value l =
    level (context_of l.ride).depths * 16 + 5

abbrev pub decreases-variant::variant : goal.decreases-variant::variant
decreases-variant::variant l =
    level (context_of l.ride).depths * 16 + 2

abbrev pub invariant-structure::structure-loop-field : goal.invariant-structure::structure-loop-field
invariant-structure::structure-loop-field l =
    FieldsLeft (context_of l.deeper).position (context_of l.deeper).big (context_of l.deeper).depths.variant l.text (l.at + 1) (shape_in l.text l.shapes l.at).fixed (shape_in l.text l.shapes l.at).alignment
    l.place l.part l.lead (encoded_width (length l.part - l.lead)) (depths_of (context_of l.deeper).depths) l.initial.read.count l.initial.out l.i l.end l.read.used l.read.count l.out

abbrev pub decreases-structure::structure-loop-field : goal.decreases-structure::structure-loop-field
decreases-structure::structure-loop-field l =
    length l.text - l.i
