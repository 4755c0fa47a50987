-- The needs of `array::elements`, and what answers each.
use Prim.Native.Nat.{◌+◌}
use Rattle.container_depths.specs.Opening.{depths_of}
use Rattle.editor_basic.specs.declared.elements.Elements.{Elements}
use Rattle.editor_steps.proofs.Arrays.{body_inside, element_ready, elements_begin, elements_counted, elements_found, elements_turn}
use Rattle.editor_steps.proofs.Values.{most_small}
use Rattle.editor_steps.specs.Walks.{container_most, entry_most, item_editor, item_test, most, new_of}
use mathlib.Core.Path.{ap, refl}
use native.Mathlib.Omega.{arith}
use Rattle.std.proofs.lemmas.Result.{err_from_is_err_and}
use Rattle.editor_basic.proofs.ElementLaws.{left}
use Rattle.editor_steps.proofs.ClosingLaws.{closes_refused}
use Rattle.editor_steps.proofs.WalkLaws.{walk_found}
use Rattle.editor_cycle.proofs.+editing.Goals as goal

pub elements_of-all-requires : goal.array::elements-elements_of-all-requires
elements_of-all-requires t c =
    body_inside (item_test c.args.d.variant c.args.text.now c.args.item) (depths_of c.args.d) c.args.part.now c.requires.1.written

pub loop-init : goal.array::elements-loop-init
loop-init t c = (
  elements_begin (item_test c.args.d.variant c.args.text.now c.args.item) (item_editor c.args.aim.big c.args.d.variant
      c.args.text.now c.args.item) (depths_of c.args.d) c.args.part.now c.args.item.alignment _ _ c.elements_of-all.ensures
      c.requires.0.aligned (c.requires.0.test_alignment c.args.d.variant) (omega (arith, c.requires.1.near)) c.requires.1.written,
  refl,
  omega arith,
)

pub step-requires : goal.array::elements-step-requires
step-requires t c =
    (omega (arith, c.decreases), (c.requires.0, element_ready c.args.d c.loop.invariant.0 (left c.loop.invariant.2 c.loop-test.true) c.first_element-start.ensures c.args.place c.requires.1.shallow c.requires.1.near))

pub returns-in_err-walk : goal.array::elements-returns-in_err-walk
returns-in_err-walk t c =
    let p = err_from_is_err_and c.from_residual.result c.from_residual.ensures.1 in
    rw (p.1, p.2) (elements_found c.elements_of-all.ensures (c.requires.0.editor_alignment c.args.aim.big c.args.d.variant) (c.requires.0.editor_fixed
    c.args.aim.big c.args.d.variant) c.loop.invariant.0 c.args.place (new_of c.args.aim.new) (most c.args.d + container_most)
    (left c.loop.invariant.2 c.loop-test.true) c.first_element-start.ensures (most c.args.d + entry_most) _ _ _ c.loop.invariant.1 _ c.in_err-walk.ensures
    refl _ _ (closes_refused _ _ _ _ _ _) (omega (
      arith,
      most_small
          c.args.d,
      c.first_element-start.ensures.order,
      c.first_element-start.ensures.inside,
      c.requires.1.near,
    )))

pub returns-in_default : goal.array::elements-returns-in_default
returns-in_default t c =
    elements_found c.elements_of-all.ensures (c.requires.0.editor_alignment c.args.aim.big c.args.d.variant) (c.requires.0.editor_fixed
    c.args.aim.big c.args.d.variant) c.loop.invariant.0 c.args.place (new_of c.args.aim.new) (most c.args.d + container_most)
    (left c.loop.invariant.2 c.loop-test.true) c.first_element-start.ensures (most c.args.d + entry_most) _ _ _ c.loop.invariant.1 _ c.in_ok-walk.ensures
    (walk_found _ c.in_default.not-Counted) _ _ c.close_element.ensures (omega (
      arith,
      most_small
          c.args.d,
      c.first_element-start.ensures.order,
      c.first_element-start.ensures.inside,
      c.requires.1.near,
    ))

pub loop-preserved : goal.array::elements-loop-preserved
loop-preserved t c =
    let turn = elements_turn c.elements_of-all.ensures (c.requires.0.editor_alignment c.args.aim.big c.args.d.variant) (c.requires.0.editor_fixed
    c.args.aim.big c.args.d.variant) c.loop.invariant.0 c.args.place (new_of c.args.aim.new) (most c.args.d + container_most)
    (left c.loop.invariant.2 c.loop-test.true) c.first_element-start.ensures (most c.args.d + entry_most) _ _ _ c.loop.invariant.1 _ (rw c.in-Counted.is at c.in_ok-walk.ensures)
    refl _ c.behind-rest.ensures in
    (turn.0, turn.1, omega (arith, ap (λ (e : Elements). e.count) c.behind-rest.ensures, c.loop.invariant.2, c.loop-test.true))

pub returns : goal.array::elements-returns
returns t c =
    elements_counted c.elements_of-all.ensures (c.requires.0.editor_alignment c.args.aim.big c.args.d.variant) (c.requires.0.editor_fixed
    c.args.aim.big c.args.d.variant) c.loop.invariant.0 c.args.place (new_of c.args.aim.new) (most
    c.args.d + container_most) _ _ _ (omega (arith, c.loop.invariant.2, c.loop-test.false)) refl c.loop.invariant.1
