-- The walk meets its contracts: its functions call each other as containers nest. What falls: the containers that may still be opened,
-- and then the functions in order. Assumes nothing.
mod ArrayArray
mod ArrayElements
mod DictionaryStep
mod MaybeMaybe
mod StructureFields
mod StructureStructure
mod Value
mod VariantHeldValue
mod VariantVariant
use Rattle.editor_cycle.proofs.+editing.Goals as goal

pub array::array-returns-then-item : goal.array::array-returns-then-item
array::array-returns-then-item = ArrayArray.returns-then-item

pub array::array-returns-in_err-deeper : goal.array::array-returns-in_err-deeper
array::array-returns-in_err-deeper = ArrayArray.returns-in_err-deeper

pub array::array-readings-requires : goal.array::array-readings-requires
array::array-readings-requires = ArrayArray.readings-requires

pub array::array-returns-then-is_slot : goal.array::array-returns-then-is_slot
array::array-returns-then-is_slot = ArrayArray.returns-then-is_slot

pub array::array-elements-requires : goal.array::array-elements-requires
array::array-elements-requires = ArrayArray.elements-requires

pub array::array-returns : goal.array::array-returns
array::array-returns = ArrayArray.returns

pub array::elements-elements_of-all-requires : goal.array::elements-elements_of-all-requires
array::elements-elements_of-all-requires = ArrayElements.elements_of-all-requires

pub array::elements-loop-init : goal.array::elements-loop-init
array::elements-loop-init = ArrayElements.loop-init

pub array::elements-step-requires : goal.array::elements-step-requires
array::elements-step-requires = ArrayElements.step-requires

pub array::elements-returns-in_err-walk : goal.array::elements-returns-in_err-walk
array::elements-returns-in_err-walk = ArrayElements.returns-in_err-walk

pub array::elements-returns-in_default : goal.array::elements-returns-in_default
array::elements-returns-in_default = ArrayElements.returns-in_default

pub array::elements-loop-preserved : goal.array::elements-loop-preserved
array::elements-loop-preserved = ArrayElements.loop-preserved

pub array::elements-returns : goal.array::elements-returns
array::elements-returns = ArrayElements.returns

pub dictionary::step-value-requires : goal.dictionary::step-value-requires
dictionary::step-value-requires = DictionaryStep.value-requires

pub dictionary::step-returns-then-not-item : goal.dictionary::step-returns-then-not-item
dictionary::step-returns-then-not-item = DictionaryStep.returns-then-not-item

pub dictionary::step-returns-then-inner : goal.dictionary::step-returns-then-inner
dictionary::step-returns-then-inner = DictionaryStep.returns-then-inner

pub dictionary::step-entry_of-start-requires : goal.dictionary::step-entry_of-start-requires
dictionary::step-entry_of-start-requires = DictionaryStep.entry_of-start-requires

pub dictionary::step-slice_bounds-value-count : goal.dictionary::step-slice_bounds-value-count
dictionary::step-slice_bounds-value-count = DictionaryStep.slice_bounds-value-count

pub dictionary::step-slice_bounds-value-start : goal.dictionary::step-slice_bounds-value-start
dictionary::step-slice_bounds-value-start = DictionaryStep.slice_bounds-value-start

pub dictionary::step-overflow_add-place : goal.dictionary::step-overflow_add-place
dictionary::step-overflow_add-place = DictionaryStep.overflow_add-place

pub dictionary::step-value-requires-2 : goal.dictionary::step-value-requires-2
dictionary::step-value-requires-2 = DictionaryStep.value-requires-2

pub dictionary::step-returns-in_err-walk : goal.dictionary::step-returns-in_err-walk
dictionary::step-returns-in_err-walk = DictionaryStep.returns-in_err-walk

pub dictionary::step-close_last-requires : goal.dictionary::step-close_last-requires
dictionary::step-close_last-requires = DictionaryStep.close_last-requires

pub dictionary::step-returns : goal.dictionary::step-returns
dictionary::step-returns = DictionaryStep.returns

pub maybe::maybe-overflow_add-shape : goal.maybe::maybe-overflow_add-shape
maybe::maybe-overflow_add-shape = MaybeMaybe.overflow_add-shape

pub maybe::maybe-reading-requires : goal.maybe::maybe-reading-requires
maybe::maybe-reading-requires = MaybeMaybe.reading-requires

pub maybe::maybe-returns-then-is_slot : goal.maybe::maybe-returns-then-is_slot
maybe::maybe-returns-then-is_slot = MaybeMaybe.returns-then-is_slot

pub maybe::maybe-returns-then-len-eq0 : goal.maybe::maybe-returns-then-len-eq0
maybe::maybe-returns-then-len-eq0 = MaybeMaybe.returns-then-len-eq0

pub maybe::maybe-returns-in_err-deeper : goal.maybe::maybe-returns-in_err-deeper
maybe::maybe-returns-in_err-deeper = MaybeMaybe.returns-in_err-deeper

pub maybe::maybe-value-requires : goal.maybe::maybe-value-requires
maybe::maybe-value-requires = MaybeMaybe.value-requires

pub maybe::maybe-returns-in_err-walk : goal.maybe::maybe-returns-in_err-walk
maybe::maybe-returns-in_err-walk = MaybeMaybe.returns-in_err-walk

pub maybe::maybe-returns : goal.maybe::maybe-returns
maybe::maybe-returns = MaybeMaybe.returns

pub structure::fields-loop-count-init : goal.structure::fields-loop-count-init
structure::fields-loop-count-init = StructureFields.loop-count-init

pub structure::fields-value-requires : goal.structure::fields-value-requires
structure::fields-value-requires = StructureFields.value-requires

pub structure::fields-returns-in_err-walk : goal.structure::fields-returns-in_err-walk
structure::fields-returns-in_err-walk = StructureFields.returns-in_err-walk

pub structure::fields-close_field-requires : goal.structure::fields-close_field-requires
structure::fields-close_field-requires = StructureFields.close_field-requires

pub structure::fields-returns-in_default : goal.structure::fields-returns-in_default
structure::fields-returns-in_default = StructureFields.returns-in_default

pub structure::fields-returns-then-field : goal.structure::fields-returns-then-field
structure::fields-returns-then-field = StructureFields.returns-then-field

pub structure::fields-loop-count-preserved : goal.structure::fields-loop-count-preserved
structure::fields-loop-count-preserved = StructureFields.loop-count-preserved

pub structure::structure-returns-then-shape : goal.structure::structure-returns-then-shape
structure::structure-returns-then-shape = StructureStructure.returns-then-shape

pub structure::structure-returns-in_err-deeper : goal.structure::structure-returns-in_err-deeper
structure::structure-returns-in_err-deeper = StructureStructure.returns-in_err-deeper

pub structure::structure-overflow_add-shape : goal.structure::structure-overflow_add-shape
structure::structure-overflow_add-shape = StructureStructure.overflow_add-shape

pub structure::structure-offsets_in-requires : goal.structure::structure-offsets_in-requires
structure::structure-offsets_in-requires = StructureStructure.offsets_in-requires

pub structure::structure-row_of-row-requires : goal.structure::structure-row_of-row-requires
structure::structure-row_of-row-requires = StructureStructure.row_of-row-requires

pub structure::structure-fields-requires : goal.structure::structure-fields-requires
structure::structure-fields-requires = StructureStructure.fields-requires

pub structure::structure-returns : goal.structure::structure-returns
structure::structure-returns = StructureStructure.returns

pub value-maybe-requires : goal.value-maybe-requires
value-maybe-requires = Value.maybe-requires

pub value-array-requires : goal.value-array-requires
value-array-requires = Value.array-requires

pub value-structure-requires : goal.value-structure-requires
value-structure-requires = Value.structure-requires

pub value-variant-requires : goal.value-variant-requires
value-variant-requires = Value.variant-requires

pub value-returns-in-Variant : goal.value-returns-in-Variant
value-returns-in-Variant = Value.returns-in-Variant

pub value-returns-in_default : goal.value-returns-in_default
value-returns-in_default = Value.returns-in_default

pub variant::held_value-variant-requires : goal.variant::held_value-variant-requires
variant::held_value-variant-requires = VariantHeldValue.variant-requires

pub variant::held_value-returns-in-Variant : goal.variant::held_value-returns-in-Variant
variant::held_value-returns-in-Variant = VariantHeldValue.returns-in-Variant

pub variant::variant-returns-in_err-deeper : goal.variant::variant-returns-in_err-deeper
variant::variant-returns-in_err-deeper = VariantVariant.returns-in_err-deeper

pub variant::variant-returns-in_default : goal.variant::variant-returns-in_default
variant::variant-returns-in_default = VariantVariant.returns-in_default

pub variant::variant-returns-then-not-tables_of : goal.variant::variant-returns-then-not-tables_of
variant::variant-returns-then-not-tables_of = VariantVariant.returns-then-not-tables_of

pub variant::variant-held_value-requires : goal.variant::variant-held_value-requires
variant::variant-held_value-requires = VariantVariant.held_value-requires

pub variant::variant-close_variant-requires : goal.variant::variant-close_variant-requires
variant::variant-close_variant-requires = VariantVariant.close_variant-requires

pub variant::variant-returns-in_err-walk : goal.variant::variant-returns-in_err-walk
variant::variant-returns-in_err-walk = VariantVariant.returns-in_err-walk

pub variant::variant-returns : goal.variant::variant-returns
variant::variant-returns = VariantVariant.returns
