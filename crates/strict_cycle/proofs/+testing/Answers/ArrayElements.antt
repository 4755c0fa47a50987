-- The needs of `array::elements`, and what answers each.
use Rattle.container_depths.specs.Opening.{depths_of}
use Rattle.strict_basic.proofs.ElementLaws.{elements_end, elements_next, elements_stop}
use Rattle.strict_cycle.proofs.Arrays.{plain_accepts}
use Rattle.strict_cycle.proofs.Values.{child_not, child_on}
use Rattle.strict_sizes.specs.Items.{item_test}
use mathlib.Core.Path.{refl, ◌∙◌}
use native.Mathlib.Omega.{arith}
use Rattle.strict_cycle.proofs.+testing.Goals as goal

pub returns-in_default : goal.array::elements-returns-in_default
returns-in_default t c =
    elements_stop _ (item_test c.args.d.variant c.args.text.now c.args.item) _ _ _ _ _ _ c.args.item.extent refl (c.requires.0.known.same_alignment c.args.d.variant) (c.requires.0.known.same_size
    c.args.d.variant) c.loop-i.invariant (omega arith) _ c.element_end-stop.ensures
    (child_not (item_test c.args.d.variant c.args.text.now c.args.item) (depths_of c.args.d) c.args.part.now _ _ _ _ (c.requires.0.known.same_alignment c.args.d.variant) c.in_default.ensures)

pub returns-then-not-child : goal.array::elements-returns-then-not-child
returns-then-not-child t c =
    elements_stop _ (item_test c.args.d.variant c.args.text.now c.args.item) _ _ _ _ _ _ c.args.item.extent refl (c.requires.0.known.same_alignment c.args.d.variant) (c.requires.0.known.same_size
    c.args.d.variant) c.loop-i.invariant (omega arith) _ c.element_end-stop.ensures
    (child_on (item_test c.args.d.variant c.args.text.now c.args.item) (depths_of c.args.d) c.args.part.now _ _ _ _ (c.requires.0.known.same_alignment c.args.d.variant) _ c.in-Some.ensures _
    (plain_accepts c.args.d.variant c.args.text.now c.args.item (depths_of c.args.d) _ c.requires.1 _ c.child.ensures) ∙ c.if-not-child.true)

pub loop-i-preserved : goal.array::elements-loop-i-preserved
loop-i-preserved t c =
    elements_next _ (item_test c.args.d.variant c.args.text.now c.args.item) _ _ _ _ _ _ c.args.item.extent refl (c.requires.0.known.same_alignment c.args.d.variant) (c.requires.0.known.same_size
    c.args.d.variant) c.loop-i.invariant (omega arith) _ c.element_end-stop.ensures
    (child_on (item_test c.args.d.variant c.args.text.now c.args.item) (depths_of c.args.d) c.args.part.now _ _ _ _ (c.requires.0.known.same_alignment c.args.d.variant) _ c.in-Some.ensures _
    (plain_accepts c.args.d.variant c.args.text.now c.args.item (depths_of c.args.d) _ c.requires.1 _ c.child.ensures) ∙ c.if-not-child.false)

pub returns : goal.array::elements-returns
returns t c =
    elements_end _ (item_test c.args.d.variant c.args.text.now c.args.item) _ _ _ _ _ _ c.loop-i.invariant (omega arith)
