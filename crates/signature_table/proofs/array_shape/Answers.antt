-- `array_shape` meets its contract. Assumes nothing.
use mathlib.Core.Path.{refl, ◌∙◌}
use Prim.Native.Nat.{◌+◌}
use native.Mathlib.Omega.{arith}
use Rattle.signature.specs.declared.Letter.TheVariants.{OpenEntry}
use Rattle.signature.proofs.Letters.{not_cut, opens_entry_lem}
use Rattle.signature.proofs.ShapeLaws.{shape_array}
use Rattle.signature_table.proofs.array_shape.Goals as goal

pub overflow_add-at : goal.overflow_add-at
overflow_add-at c =
    omega (arith, c.requires.0.inside, c.requires.0.few)

pub dictionary_shape-requires : goal.dictionary_shape-requires
dictionary_shape-requires c =
    (c.requires.0, c.requires.1, opens_entry_lem _ _ (c.stands.ensures.here c.if-stands.true))

pub overflow_add-at-2 : goal.overflow_add-at-2
overflow_add-at-2 c =
    omega (arith, c.requires.0.inside, c.requires.0.few)

pub seen-element-requires : goal.seen-element-requires
seen-element-requires c =
    (c.requires.0.few, c.requires.0.room)

pub returns : goal.returns
returns c =
    c.loosened.ensures ∙ shape_array c.args.text.now c.args.at c.seen-element.result c.requires.0.few c.requires.1
    (not_cut _ _ OpenEntry 123 refl (c.stands.ensures.not c.if-stands.false))
    (c.seen-element.ensures (c.args.at + 1) (omega arith) c.requires.0.table)
