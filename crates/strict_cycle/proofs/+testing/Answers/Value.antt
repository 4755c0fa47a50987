-- The needs of `value`, and what answers each.
use Rattle.container_depths.specs.Opening.{depths_of}
use Rattle.signature.proofs.TreeLaws.{described_kind}
use Rattle.strict_cycle.proofs.Values.{basic_by, value_variant}
use mathlib.Core.Path.{sym, ◌∙◌}
use native.Mathlib.Omega.{arith}
use Rattle.strict_cycle.proofs.+testing.Goals as goal

pub maybe-requires : goal.value-maybe-requires
maybe-requires t c =
    (omega (arith, c.decreases), (c.requires.0, sym (described_kind c.requires.0.shape) ∙ c.in-Maybe.is, c.requires.1))

pub array-requires : goal.value-array-requires
array-requires t c =
    (omega (arith, c.decreases), (c.requires.0, sym (described_kind c.requires.0.shape) ∙ c.in-Array.is, c.requires.1))

pub structure-requires : goal.value-structure-requires
structure-requires t c =
    (omega (arith, c.decreases), (c.requires.0, sym (described_kind c.requires.0.shape) ∙ c.in-OpenStructure.is, c.requires.1))

pub returns-in-Variant : goal.value-returns-in-Variant
returns-in-Variant t c =
    value_variant c.args.text.now c.args.shape.at c.args.d c.args.part.now _ c.requires.0.shape.typed (sym (described_kind c.requires.0.shape) ∙ c.in-Variant.is) c.variant.ensures

pub returns-in_default : goal.value-returns-in_default
returns-in_default t c =
    basic_by c.args.text.now c.args.shape.at c.args.shape.kind c.args.d.variant (depths_of c.args.d) _ _ c.requires.0.shape.typed (described_kind c.requires.0.shape)
    c.in_default.not-Maybe c.in_default.not-Array c.in_default.not-OpenStructure c.in_default.not-Variant c.letter_written.ensures
