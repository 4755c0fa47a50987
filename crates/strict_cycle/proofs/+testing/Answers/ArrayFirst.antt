-- The needs of `array::first`, and what answers each.
use Rattle.container_depths.specs.Opening.{depths_of}
use Rattle.strict_cycle.proofs.Arrays.{alike, any_plain, first_tells, plain_accepts}
use Rattle.strict_sizes.proofs.AlikeLaws.{any_none, any_odd}
use Rattle.strict_sizes.specs.Items.{item_test}
use borrow.Author.Tests.{eq-eqb}
use mathlib.Core.Path.{refl, ◌∙◌}
use Rattle.strict_cycle.proofs.+testing.Goals as goal

pub returns-then-many-size : goal.array::first-returns-then-many-size
returns-then-many-size t c =
    any_odd c.args.item.extent (λ n. item_test n c.args.text.now c.args.item) c.requires.0.known (alike c.requires.0 c.requires.1) c.args.d.variant (depths_of c.args.d) c.args.part.now _ refl
    c.if-many-size.true

pub returns-then-many-eq0 : goal.array::first-returns-then-many-eq0
returns-then-many-eq0 t c =
    eq-eqb _ _ c.if-many-eq0.true ∙ any_none c.args.item.extent (λ n. item_test n c.args.text.now c.args.item) c.requires.0.known (alike c.requires.0 c.requires.1) c.args.d.variant (depths_of
    c.args.d) c.args.part.now _ refl c.if-many-size.false c.if-many-eq0.true

pub returns-else-many-eq0 : goal.array::first-returns-else-many-eq0
returns-else-many-eq0 t c =
    first_tells c.args.item.extent (λ n. item_test n c.args.text.now c.args.item) c.requires.0.known (alike c.requires.0 c.requires.1) c.args.d.variant (depths_of c.args.d) c.args.part.now _ refl
    c.if-many-size.false c.if-many-eq0.false _
    (plain_accepts c.args.d.variant c.args.text.now c.args.item (depths_of c.args.d) _ (any_plain c.args.item c.requires.1) _ c.child.ensures)
