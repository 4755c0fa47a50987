-- The needs of `value`, and what answers each.
use Prim.Native.Nat.{◌-◌}
use Rattle.editor_steps.proofs.Values.{basic_none, value_variant, variant_ready}
use Rattle.editor_steps.proofs.WalkLaws.{counts}
use Rattle.signature.proofs.TreeLaws.{described_kind}
use mathlib.Core.Path.{◌∙◌, refl, sym}
use native.Mathlib.Omega.{arith}
use borrow.Enum.Refused.{opened}
use Rattle.editor_cycle.proofs.+editing.Goals as goal

pub maybe-requires : goal.value-maybe-requires
maybe-requires t c =
    (omega (arith, c.decreases), (c.requires.0, (sym (described_kind c.requires.0.shape) ∙ c.in-Maybe.is), c.requires.1))

pub array-requires : goal.value-array-requires
array-requires t c =
    (omega (arith, c.decreases), (c.requires.0, (sym (described_kind c.requires.0.shape) ∙ c.in-Array.is), c.requires.1))

pub structure-requires : goal.value-structure-requires
structure-requires t c =
    (omega (arith, c.decreases), (c.requires.0, (sym (described_kind c.requires.0.shape) ∙ c.in-OpenStructure.is), c.requires.1))

pub variant-requires : goal.value-variant-requires
variant-requires t c =
    (omega (arith, c.decreases), variant_ready c.args.text.now c.args.shape.at c.args.d c.requires.0.shape.typed (sym (described_kind c.requires.0.shape) ∙ c.in-Variant.is) c.requires.1)

pub returns-in-Variant : goal.value-returns-in-Variant
returns-in-Variant t c =
    value_variant c.args.text.now c.args.shape.at c.args.d c.requires.0.shape.typed (sym (described_kind c.requires.0.shape) ∙ c.in-Variant.is) _ _ _ _ _ _ _ _ _ c.variant.ensures

pub returns-in_default : goal.value-returns-in_default
returns-in_default t c =
    counts _ _ _ _ _ _ _ _ _ 0 _ refl (basic_none c.args.text.now c.args.shape.at c.args.shape.kind c.args.aim.big
    (65 - c.args.d.variant) c.args.part.now c.requires.0.shape.typed (described_kind c.requires.0.shape) (opened c.in_default.in_default-own.keys5))
    (omega arith) refl
