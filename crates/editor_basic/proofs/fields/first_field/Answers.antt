-- `first_field` meets its contract.
use Rattle.signature.proofs.Letters.{apart_from}
use Rattle.signature.specs.declared.Letter.TheVariants.{CloseStructure}
use mathlib.Core.Path.{ap}
use native.Mathlib.Omega.{arith}
use Rattle.signature.proofs.TreeLaws.{last_field_of, next_field_of}
use Rattle.strict_sizes.proofs.TableLaws.{placed_at}
use Rattle.editor_basic.proofs.RowLaws.{here_placed, placed_lies, offset_room, field_last, field_next}
use borrow.Enum.Refused.{opened}
use Rattle.editor_basic.proofs.fields.first_field.Goals as goal

pub extent_in-extent-requires : goal.extent_in-extent-requires
extent_in-extent-requires c = (c.requires.table.room, placed_at (here_placed _ _ _ _ c.requires _ c.shape_in-shape.ensures))

pub aligned-start-requires : goal.aligned-start-requires
aligned-start-requires c =
    let h = placed_lies (here_placed _ _ _ _ c.requires _ c.shape_in-shape.ensures) _ c.extent_in-extent.ensures in
    (omega (arith, c.requires.inside, c.requires.short), h.laid.aligned)

pub last_end-stop-requires : goal.last_end-stop-requires
last_end-stop-requires c =
    let h = placed_lies (here_placed _ _ _ _ c.requires _ c.shape_in-shape.ensures) _ c.extent_in-extent.ensures in
    (omega (arith, c.requires.inside, c.requires.short), h.laid)

pub returns-in-CloseStructure : goal.returns-in-CloseStructure
returns-in-CloseStructure c =
    let h = placed_lies (here_placed _ _ _ _ c.requires _ c.shape_in-shape.ensures) _ c.extent_in-extent.ensures in
    let f = last_field_of _ _ _ c.requires.rowed c.requires.table.shapes _ c.shape_in-shape.ensures _ c.letter_at-behind.ensures c.in-CloseStructure.is in
    rw c.field_as.ensures (field_last _ _ _ _ c.requires _ (ap (λ s. s.at) c.shape_in-shape.ensures) _ h _ c.aligned-start.ensures _ _ f c.last_end-stop.ensures)

pub field_end-stop-requires : goal.field_end-stop-requires
field_end-stop-requires c =
    let h = placed_lies (here_placed _ _ _ _ c.requires _ c.shape_in-shape.ensures) _ c.extent_in-extent.ensures in
    let f = next_field_of _ _ _ c.requires.rowed c.requires.table.shapes _ c.shape_in-shape.ensures _ c.letter_at-behind.ensures (apart_from CloseStructure _ (opened c.in_default.in_default-own.keys2)) in
    let z = c.requires in
    (omega (arith, z.inside, z.short), h.laid, z.end_inside, z.wide, λ q. offset_room _ _ _ _ _ _ f.fields h.same_fixed z.room q)

pub offsets_left-left-requires : goal.offsets_left-left-requires
offsets_left-left-requires c =
    let h = placed_lies (here_placed _ _ _ _ c.requires _ c.shape_in-shape.ensures) _ c.extent_in-extent.ensures in
    let f = next_field_of _ _ _ c.requires.rowed c.requires.table.shapes _ c.shape_in-shape.ensures _ c.letter_at-behind.ensures (apart_from CloseStructure _ (opened c.in_default.in_default-own.keys2)) in
    λ q. offset_room _ _ _ _ _ _ f.fields h.same_fixed c.requires.room q

pub returns : goal.returns
returns c =
    let h = placed_lies (here_placed _ _ _ _ c.requires _ c.shape_in-shape.ensures) _ c.extent_in-extent.ensures in
    let f = next_field_of _ _ _ c.requires.rowed c.requires.table.shapes _ c.shape_in-shape.ensures _ c.letter_at-behind.ensures (apart_from CloseStructure _ (opened c.in_default.in_default-own.keys2)) in
    rw c.field_as-2.ensures (field_next _ _ _ _ c.requires _ (ap (λ s. s.at) c.shape_in-shape.ensures) _ h _ c.aligned-start.ensures _ _ f c.field_end-stop.ensures c.offsets_left-left.ensures)
