-- The needs of `variant::held_value`, and what answers each.
use Rattle.editor_steps.proofs.Values.{value_variant, variant_ready}
use Rattle.signature.proofs.TreeLaws.{described_kind}
use mathlib.Core.Path.{◌∙◌, sym}
use native.Mathlib.Omega.{arith}
use Rattle.editor_cycle.proofs.+editing.Goals as goal

pub variant-requires : goal.variant::held_value-variant-requires
variant-requires t c =
    (omega (arith, c.decreases), variant_ready c.args.text.now c.args.shape.at c.args.d c.requires.0.shape.typed (sym (described_kind c.requires.0.shape) ∙ c.in-Variant.is) c.requires.1)

pub returns-in-Variant : goal.variant::held_value-returns-in-Variant
returns-in-Variant t c =
    value_variant c.args.text.now c.args.shape.at c.args.d c.requires.0.shape.typed (sym (described_kind c.requires.0.shape) ∙ c.in-Variant.is) _ _ _ _ _ _ _ _ _ c.variant.ensures
