-- The needs of `structure::last-field`, and what answers each.
use Rattle.container_depths.specs.Opening.{depths_of}
use Rattle.strict_basic.proofs.BasicLaws.{laid_as}
use Rattle.strict_cycle.proofs.Structures.{last_done, last_stop_lem}
use Rattle.strict_cycle.proofs.Values.{child_not, child_on, known_as}
use Rattle.strict_sizes.proofs.TableLaws.{placed_at, placed_known}
use Rattle.strict_sizes.specs.Items.{tree_test}
use mathlib.Core.Path.{refl, ◌∙◌}
use native.Mathlib.Omega.{arith}
use Rattle.strict_cycle.proofs.+testing.Goals as goal

pub extent_in-extent-requires : goal.structure::last_field-extent_in-extent-requires
extent_in-extent-requires t c =
    (c.requires.0.table.room, placed_at c.requires.0)

pub last_end-stop-requires : goal.structure::last_field-last_end-stop-requires
last_end-stop-requires t c =
    (omega (arith, c.requires.2, c.requires.3, c.requires.1.in_frame), laid_as c.extent_in-extent.ensures (placed_known c.requires.0).laid)

pub start_of-requires : goal.structure::last_field-start_of-requires
start_of-requires t c =
    (c.requires.2, c.requires.3, c.requires.1.in_frame, (laid_as c.extent_in-extent.ensures (placed_known c.requires.0).laid).aligned)

pub returns-in_default : goal.structure::last_field-returns-in_default
returns-in_default t c =
    last_stop_lem c.args.whole.fixed c.args.whole.alignment c.extent_in-extent.result (λ n. tree_test n c.args.text.now c.args.shape.at)
    (known_as c.extent_in-extent.ensures (placed_known c.requires.0)) c.args.d.variant (depths_of c.args.d) c.args.part.now _ _ _ c.last_end-stop.ensures _
    (child_not (tree_test c.args.d.variant c.args.text.now c.args.shape.at) (depths_of c.args.d) c.args.part.now _ _ _ _ ((known_as c.extent_in-extent.ensures (placed_known
    c.requires.0)).same_alignment c.args.d.variant) c.in_default.ensures) refl

pub returns-then-child : goal.structure::last_field-returns-then-child
returns-then-child t c =
    last_done c.args.whole.fixed c.args.whole.alignment c.extent_in-extent.result (λ n. tree_test n c.args.text.now c.args.shape.at)
    (known_as c.extent_in-extent.ensures (placed_known c.requires.0)) c.args.d.variant (depths_of c.args.d) c.args.part.now _ _ _ c.last_end-stop.ensures _
    (child_on (tree_test c.args.d.variant c.args.text.now c.args.shape.at) (depths_of c.args.d) c.args.part.now _ _ _ _ ((known_as c.extent_in-extent.ensures (placed_known
    c.requires.0)).same_alignment c.args.d.variant) _ c.in-Some.ensures _ c.child.ensures) _ c.if-child.true c.finished.ensures

pub returns-else-child : goal.structure::last_field-returns-else-child
returns-else-child t c =
    c.if-child.false ∙ last_stop_lem c.args.whole.fixed c.args.whole.alignment c.extent_in-extent.result (λ n. tree_test n c.args.text.now c.args.shape.at)
    (known_as c.extent_in-extent.ensures (placed_known c.requires.0)) c.args.d.variant (depths_of c.args.d) c.args.part.now _ _ _ c.last_end-stop.ensures _
    (child_on (tree_test c.args.d.variant c.args.text.now c.args.shape.at) (depths_of c.args.d) c.args.part.now _ _ _ _ ((known_as c.extent_in-extent.ensures (placed_known
    c.requires.0)).same_alignment c.args.d.variant) _ c.in-Some.ensures _ c.child.ensures) c.if-child.false
