-- The needs of `child`, and what answers each.
use Rattle.container_depths.specs.Opening.{depths_of}
use Rattle.signature.proofs.TreeLaws.{described_kind}
use Rattle.strict_cycle.proofs.Values.{basic_is}
use mathlib.Core.Path.{sym, ◌∙◌}
use Rattle.strict_cycle.proofs.+testing.Goals as goal

pub returns-then-is_basic : goal.child-returns-then-is_basic
returns-then-is_basic t c =
    basic_is c.args.text.now c.args.shape.at c.args.shape.kind c.args.d.variant (depths_of c.args.d) _ _ c.requires.0.shape.typed (described_kind c.requires.0.shape)
    (sym c.is_basic.ensures ∙ c.if-is_basic.true) c.letter_written.ensures
