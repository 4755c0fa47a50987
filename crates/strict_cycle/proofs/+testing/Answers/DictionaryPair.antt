-- The needs of `dictionary::pair`, and what answers each.
use Rattle.container_depths.specs.Opening.{depths_of}
use Rattle.strict_basic.proofs.BasicLaws.{laid_as}
use Rattle.strict_cycle.proofs.Arrays.{entry_last, entry_not, entry_stop, entry_within}
use Rattle.strict_cycle.proofs.Structures.{last_done, last_stop_lem}
use Rattle.strict_cycle.proofs.Values.{child_not, child_on, known_as}
use Rattle.strict_sizes.proofs.TableLaws.{placed_at, placed_known}
use Rattle.strict_sizes.specs.Items.{tree_test}
use mathlib.Core.Path.{refl, ◌∙◌}
use native.Mathlib.Omega.{arith}
use Rattle.strict_cycle.proofs.+testing.Goals as goal

pub returns-in_default : goal.dictionary::pair-returns-in_default
returns-in_default t c =
    entry_not c.args.d.variant c.args.text.now c.args.item c.args.key c.requires.1 (depths_of c.args.d) c.args.part.now _ c.extent_of-lies.ensures _ c.one_more.ensures c.in_default.ensures

pub returns-then-not-key_written : goal.dictionary::pair-returns-then-not-key_written
returns-then-not-key_written t c =
    entry_stop c.args.d.variant c.args.text.now c.args.item c.args.key c.requires.1 (depths_of c.args.d) c.args.part.now _ c.extent_of-lies.ensures _ c.one_more.ensures _ c.in-Some.ensures _
    c.field_end-stop.ensures _ c.key_written.ensures c.if-not-key_written.true

pub extent_in-extent-requires : goal.dictionary::pair-extent_in-extent-requires
extent_in-extent-requires t c =
    (c.requires.0.child.table.room, placed_at c.requires.0.child)

pub last_end-end-requires : goal.dictionary::pair-last_end-end-requires
last_end-end-requires t c = (
  omega (
    arith,
    entry_within c.args.d.variant c.args.text.now c.args.item c.args.key c.requires.1 (depths_of c.args.d) c.args.part.now _ c.extent_of-lies.ensures _ c.one_more.ensures _
        c.in-Some.ensures _ c.field_end-stop.ensures _ c.key_written.ensures c.if-not-key_written.false,
    c.in-Some.ensures.within,
    c.requires.2.in_frame,
  ),
  laid_as c.extent_in-extent.ensures (placed_known c.requires.0.child).laid,
)

pub start_of-requires : goal.dictionary::pair-start_of-requires
start_of-requires t c = (
  entry_within c.args.d.variant c.args.text.now c.args.item c.args.key c.requires.1 (depths_of c.args.d) c.args.part.now _ c.extent_of-lies.ensures _ c.one_more.ensures _ c.in-Some.ensures _
      c.field_end-stop.ensures _ c.key_written.ensures c.if-not-key_written.false,
  c.in-Some.ensures.within,
  c.requires.2.in_frame,
  (laid_as c.extent_in-extent.ensures (placed_known c.requires.0.child).laid).aligned,
)

pub returns-in_default-start_of : goal.dictionary::pair-returns-in_default-start_of
returns-in_default-start_of t c =
    entry_last c.args.d.variant c.args.text.now c.args.item c.args.key c.requires.1 (depths_of c.args.d) c.args.part.now _ c.extent_of-lies.ensures _ c.one_more.ensures _ c.in-Some.ensures _
    c.field_end-stop.ensures _ c.key_written.ensures _ c.if-not-key_written.false
    (last_stop_lem c.args.item.extent.fixed c.args.item.extent.alignment c.extent_in-extent.result (λ n. tree_test n c.args.text.now c.args.item.child.at)
    (known_as c.extent_in-extent.ensures (placed_known c.requires.0.child)) c.args.d.variant (depths_of c.args.d) c.args.part.now _ _ _ c.last_end-end.ensures _
    (child_not (tree_test c.args.d.variant c.args.text.now c.args.item.child.at) (depths_of c.args.d) c.args.part.now _ _ _ _ ((known_as c.extent_in-extent.ensures (placed_known
    c.requires.0.child)).same_alignment c.args.d.variant) c.in_default-start_of.ensures) refl)

pub returns-then-child : goal.dictionary::pair-returns-then-child
returns-then-child t c =
    entry_last c.args.d.variant c.args.text.now c.args.item c.args.key c.requires.1 (depths_of c.args.d) c.args.part.now _ c.extent_of-lies.ensures _ c.one_more.ensures _ c.in-Some.ensures _
    c.field_end-stop.ensures _ c.key_written.ensures _ c.if-not-key_written.false
    (last_done c.args.item.extent.fixed c.args.item.extent.alignment c.extent_in-extent.result (λ n. tree_test n c.args.text.now c.args.item.child.at)
    (known_as c.extent_in-extent.ensures (placed_known c.requires.0.child)) c.args.d.variant (depths_of c.args.d) c.args.part.now _ _ _ c.last_end-end.ensures _
    (child_on (tree_test c.args.d.variant c.args.text.now c.args.item.child.at) (depths_of c.args.d) c.args.part.now _ _ _ _ ((known_as c.extent_in-extent.ensures (placed_known
    c.requires.0.child)).same_alignment c.args.d.variant) _ c.in-Some-start_of.ensures _ c.child.ensures) _ c.if-child.true c.finished.ensures)

pub returns-else-child : goal.dictionary::pair-returns-else-child
returns-else-child t c =
    c.if-child.false ∙ entry_last c.args.d.variant c.args.text.now c.args.item c.args.key c.requires.1 (depths_of c.args.d) c.args.part.now _ c.extent_of-lies.ensures _ c.one_more.ensures _
    c.in-Some.ensures _ c.field_end-stop.ensures _ c.key_written.ensures _ c.if-not-key_written.false
    (last_stop_lem c.args.item.extent.fixed c.args.item.extent.alignment c.extent_in-extent.result (λ n. tree_test n c.args.text.now c.args.item.child.at)
    (known_as c.extent_in-extent.ensures (placed_known c.requires.0.child)) c.args.d.variant (depths_of c.args.d) c.args.part.now _ _ _ c.last_end-end.ensures _
    (child_on (tree_test c.args.d.variant c.args.text.now c.args.item.child.at) (depths_of c.args.d) c.args.part.now _ _ _ _ ((known_as c.extent_in-extent.ensures (placed_known
    c.requires.0.child)).same_alignment c.args.d.variant) _ c.in-Some-start_of.ensures _ c.child.ensures) c.if-child.false)
