-- The writers, which call each other as containers nest, meet their contracts. What falls: the containers that may still be opened,
-- and then the writers in order. Assumes nothing.
mod ArrayArray
mod ArrayElements
mod ArrayItems
mod ArrayOne
mod DictionaryEntry
mod MaybeMaybe
mod StructureFields
mod StructureStructure
mod Value
mod VariantTyped
mod VariantVariant
use Rattle.writer_cycle.proofs.+writing.Goals as goal

pub array::array-returns-then-not-plain_at : goal.array::array-returns-then-not-plain_at
array::array-returns-then-not-plain_at = ArrayArray.returns-then-not-plain_at

pub array::array-returns-in_err-inc_array : goal.array::array-returns-in_err-inc_array
array::array-returns-in_err-inc_array = ArrayArray.returns-in_err-inc_array

pub array::array-elements-requires : goal.array::array-elements-requires
array::array-elements-requires = ArrayArray.elements-requires

pub array::array-returns-in_err-row : goal.array::array-returns-in_err-row
array::array-returns-in_err-row = ArrayArray.returns-in_err-row

pub array::array-returns-in_err-closed : goal.array::array-returns-in_err-closed
array::array-returns-in_err-closed = ArrayArray.returns-in_err-closed

pub array::array-returns : goal.array::array-returns
array::array-returns = ArrayArray.returns

pub array::elements-returns-then-item-2 : goal.array::elements-returns-then-item-2
array::elements-returns-then-item-2 = ArrayElements.returns-then-item-2

pub array::elements-returns-in-Number : goal.array::elements-returns-in-Number
array::elements-returns-in-Number = ArrayElements.returns-in-Number

pub array::elements-texts-requires : goal.array::elements-texts-requires
array::elements-texts-requires = ArrayElements.texts-requires

pub array::elements-returns-in-Text : goal.array::elements-returns-in-Text
array::elements-returns-in-Text = ArrayElements.returns-in-Text

pub array::items-returns-then-events-row-eq-CONTAINER_END : goal.array::items-returns-then-events-row-eq-CONTAINER_END
array::items-returns-then-events-row-eq-CONTAINER_END = ArrayItems.returns-then-events-row-eq-CONTAINER_END

pub array::items-returns-in_err-r : goal.array::items-returns-in_err-r
array::items-returns-in_err-r = ArrayItems.returns-in_err-r

pub array::items-loop-row-preserved : goal.array::items-loop-row-preserved
array::items-loop-row-preserved = ArrayItems.loop-row-preserved

pub array::items-returns : goal.array::items-returns
array::items-returns = ArrayItems.returns

pub array::one-returns : goal.array::one-returns
array::one-returns = ArrayOne.returns

pub dictionary::entry-returns-in_err-key : goal.dictionary::entry-returns-in_err-key
dictionary::entry-returns-in_err-key = DictionaryEntry.returns-in_err-key

pub dictionary::entry-overflow_add-start : goal.dictionary::entry-overflow_add-start
dictionary::entry-overflow_add-start = DictionaryEntry.overflow_add-start

pub dictionary::entry-pad-padding-requires : goal.dictionary::entry-pad-padding-requires
dictionary::entry-pad-padding-requires = DictionaryEntry.pad-padding-requires

pub dictionary::entry-overflow_add-first : goal.dictionary::entry-overflow_add-first
dictionary::entry-overflow_add-first = DictionaryEntry.overflow_add-first

pub dictionary::entry-child_spot-here-requires : goal.dictionary::entry-child_spot-here-requires
dictionary::entry-child_spot-here-requires = DictionaryEntry.child_spot-here-requires

pub dictionary::entry-value-requires : goal.dictionary::entry-value-requires
dictionary::entry-value-requires = DictionaryEntry.value-requires

pub dictionary::entry-returns-in_err-held : goal.dictionary::entry-returns-in_err-held
dictionary::entry-returns-in_err-held = DictionaryEntry.returns-in_err-held

pub dictionary::entry-overflow_add-first-2 : goal.dictionary::entry-overflow_add-first-2
dictionary::entry-overflow_add-first-2 = DictionaryEntry.overflow_add-first-2

pub dictionary::entry-add-requires : goal.dictionary::entry-add-requires
dictionary::entry-add-requires = DictionaryEntry.add-requires

pub dictionary::entry-returns : goal.dictionary::entry-returns
dictionary::entry-returns = DictionaryEntry.returns

pub maybe::maybe-returns-then-plain_at : goal.maybe::maybe-returns-then-plain_at
maybe::maybe-returns-then-plain_at = MaybeMaybe.returns-then-plain_at

pub maybe::maybe-returns-then-not-plain_at : goal.maybe::maybe-returns-then-not-plain_at
maybe::maybe-returns-then-not-plain_at = MaybeMaybe.returns-then-not-plain_at

pub maybe::maybe-returns-in_err-inc_maybe : goal.maybe::maybe-returns-in_err-inc_maybe
maybe::maybe-returns-in_err-inc_maybe = MaybeMaybe.returns-in_err-inc_maybe

pub maybe::maybe-overflow_add-shape : goal.maybe::maybe-overflow_add-shape
maybe::maybe-overflow_add-shape = MaybeMaybe.overflow_add-shape

pub maybe::maybe-value-requires : goal.maybe::maybe-value-requires
maybe::maybe-value-requires = MaybeMaybe.value-requires

pub maybe::maybe-returns-in_err-child : goal.maybe::maybe-returns-in_err-child
maybe::maybe-returns-in_err-child = MaybeMaybe.returns-in_err-child

pub maybe::maybe-returns : goal.maybe::maybe-returns
maybe::maybe-returns = MaybeMaybe.returns

pub structure::fields-pad-padding-requires : goal.structure::fields-pad-padding-requires
structure::fields-pad-padding-requires = StructureFields.pad-padding-requires

pub structure::fields-value-requires : goal.structure::fields-value-requires
structure::fields-value-requires = StructureFields.value-requires

pub structure::fields-returns-in_err-one : goal.structure::fields-returns-in_err-one
structure::fields-returns-in_err-one = StructureFields.returns-in_err-one

pub structure::fields-returns-in-CloseStructure : goal.structure::fields-returns-in-CloseStructure
structure::fields-returns-in-CloseStructure = StructureFields.returns-in-CloseStructure

pub structure::fields-loop-one-smaller : goal.structure::fields-loop-one-smaller
structure::fields-loop-one-smaller = StructureFields.loop-one-smaller

pub structure::fields-loop-one-preserved : goal.structure::fields-loop-one-preserved
structure::fields-loop-one-preserved = StructureFields.loop-one-preserved

pub structure::structure-returns-then-not-plain_at : goal.structure::structure-returns-then-not-plain_at
structure::structure-returns-then-not-plain_at = StructureStructure.returns-then-not-plain_at

pub structure::structure-returns-in_err-inc_structure : goal.structure::structure-returns-in_err-inc_structure
structure::structure-returns-in_err-inc_structure = StructureStructure.returns-in_err-inc_structure

pub structure::structure-overflow_add-at : goal.structure::structure-overflow_add-at
structure::structure-overflow_add-at = StructureStructure.overflow_add-at

pub structure::structure-fields-requires : goal.structure::structure-fields-requires
structure::structure-fields-requires = StructureStructure.fields-requires

pub structure::structure-returns-in_err-row : goal.structure::structure-returns-in_err-row
structure::structure-returns-in_err-row = StructureStructure.returns-in_err-row

pub structure::structure-returns-in_err-closed : goal.structure::structure-returns-in_err-closed
structure::structure-returns-in_err-closed = StructureStructure.returns-in_err-closed

pub structure::structure-structure_end-requires : goal.structure::structure-structure_end-requires
structure::structure-structure_end-requires = StructureStructure.structure_end-requires

pub structure::structure-returns : goal.structure::structure-returns
structure::structure-returns = StructureStructure.returns

pub value-number-requires : goal.value-number-requires
value-number-requires = Value.number-requires

pub value-maybe-requires : goal.value-maybe-requires
value-maybe-requires = Value.maybe-requires

pub value-array-requires : goal.value-array-requires
value-array-requires = Value.array-requires

pub value-structure-requires : goal.value-structure-requires
value-structure-requires = Value.structure-requires

pub value-returns-in-Boolean : goal.value-returns-in-Boolean
value-returns-in-Boolean = Value.returns-in-Boolean

pub value-returns-in-Number : goal.value-returns-in-Number
value-returns-in-Number = Value.returns-in-Number

pub value-returns-in-Text : goal.value-returns-in-Text
value-returns-in-Text = Value.returns-in-Text

pub value-returns-in_default : goal.value-returns-in_default
value-returns-in_default = Value.returns-in_default

pub variant::typed-returns-then-not-shapes_of : goal.variant::typed-returns-then-not-shapes_of
variant::typed-returns-then-not-shapes_of = VariantTyped.returns-then-not-shapes_of

pub variant::typed-returns-in_err-inc_variant : goal.variant::typed-returns-in_err-inc_variant
variant::typed-returns-in_err-inc_variant = VariantTyped.returns-in_err-inc_variant

pub variant::typed-value-requires : goal.variant::typed-value-requires
variant::typed-value-requires = VariantTyped.value-requires

pub variant::typed-returns-in_err-held : goal.variant::typed-returns-in_err-held
variant::typed-returns-in_err-held = VariantTyped.returns-in_err-held

pub variant::typed-returns : goal.variant::typed-returns
variant::typed-returns = VariantTyped.returns

pub variant::variant-returns-then-not-plain_at : goal.variant::variant-returns-then-not-plain_at
variant::variant-returns-then-not-plain_at = VariantVariant.returns-then-not-plain_at

pub variant::variant-returns-in_err-text : goal.variant::variant-returns-in_err-text
variant::variant-returns-in_err-text = VariantVariant.returns-in_err-text
