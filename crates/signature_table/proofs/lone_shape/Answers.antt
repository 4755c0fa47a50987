-- `lone_shape` meets its contract: the laws of letters that are types by themselves, and one for all others. Assumes nothing.
use mathlib.Core.Path.{refl, sym, ◌∙◌}
use native.Mathlib.Omega.{arith}
use Rattle.signature.specs.Shapes.{shape_of}
use Rattle.signature.specs.declared.Letter.TheVariants.{Boolean, Number, Text, Variant}
use Rattle.signature.proofs.ShapeLaws.{shape_lone, number_most, lone_none}
use borrow.Enum.Refused.{opened}
use Rattle.signature_table.proofs.lone_shape.Goals as goal

pub pack-requires-in-Number : goal.pack-requires-in-Number
pack-requires-in-Number c = omega (arith, number_most c.args.text.now 0 c.in-Number.code c.in-Number.width (omega arith) (sym c.letter_inside-kind.ensures ∙ c.in-Number.is))

pub returns-in-Boolean : goal.returns-in-Boolean
unfolding shape_of
returns-in-Boolean c = c.pack.ensures ∙ shape_lone c.args.text.now 0 Boolean (omega arith) (sym c.letter_inside-kind.ensures ∙ c.in-Boolean.is) refl

pub returns-in-Number : goal.returns-in-Number
unfolding shape_of
returns-in-Number c =
    c.pack-in-Number.ensures ∙ shape_lone c.args.text.now 0 (Number c.in-Number.code c.in-Number.width) (omega arith)
    (sym c.letter_inside-kind.ensures ∙ c.in-Number.is) refl

pub returns-in-Text : goal.returns-in-Text
unfolding shape_of
returns-in-Text c = c.pack-in-Text.ensures ∙ shape_lone c.args.text.now 0 (Text c.in-Text.code) (omega arith) (sym c.letter_inside-kind.ensures ∙ c.in-Text.is) refl

pub returns-in-Variant : goal.returns-in-Variant
unfolding shape_of
returns-in-Variant c = c.pack-in-Variant.ensures ∙ shape_lone c.args.text.now 0 Variant (omega arith) (sym c.letter_inside-kind.ensures ∙ c.in-Variant.is) refl

pub returns-in_default : goal.returns-in_default
returns-in_default c = lone_none c.args.text.now c.letter_inside-kind.result c.requires (sym c.letter_inside-kind.ensures) (opened c.in_default.in_default-own.keys5)
