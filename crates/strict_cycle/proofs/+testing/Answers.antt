-- The walk meets its contracts: its functions call each other as containers nest. What falls: the containers that may still be opened,
-- and then the functions in order. Assumes nothing.
mod ArrayArray
mod ArrayElements
mod ArrayFirst
mod Child
mod DictionaryEntries
mod DictionaryPair
mod MaybeMaybe
mod StructureFields
mod StructureLastField
mod StructureStructure
mod Value
mod VariantVariant
use Rattle.strict_cycle.proofs.+testing.Goals as goal

pub array::array-returns-in_default : goal.array::array-returns-in_default
array::array-returns-in_default = ArrayArray.returns-in_default

pub array::array-first-requires : goal.array::array-first-requires
array::array-first-requires = ArrayArray.first-requires

pub array::array-returns-in-AnyBytes : goal.array::array-returns-in-AnyBytes
array::array-returns-in-AnyBytes = ArrayArray.returns-in-AnyBytes

pub array::array-returns-in_default-rows_of : goal.array::array-returns-in_default-rows_of
array::array-returns-in_default-rows_of = ArrayArray.returns-in_default-rows_of

pub array::array-texts_written-requires : goal.array::array-texts_written-requires
array::array-texts_written-requires = ArrayArray.texts_written-requires

pub array::array-readings_written-requires : goal.array::array-readings_written-requires
array::array-readings_written-requires = ArrayArray.readings_written-requires

pub array::array-entries-requires : goal.array::array-entries-requires
array::array-entries-requires = ArrayArray.entries-requires

pub array::array-elements-requires : goal.array::array-elements-requires
array::array-elements-requires = ArrayArray.elements-requires

pub array::array-returns-in-Texts : goal.array::array-returns-in-Texts
array::array-returns-in-Texts = ArrayArray.returns-in-Texts

pub array::array-returns-in-Readings : goal.array::array-returns-in-Readings
array::array-returns-in-Readings = ArrayArray.returns-in-Readings

pub array::array-returns-in-Entries : goal.array::array-returns-in-Entries
array::array-returns-in-Entries = ArrayArray.returns-in-Entries

pub array::array-returns-in_default-repeats-2 : goal.array::array-returns-in_default-repeats-2
array::array-returns-in_default-repeats-2 = ArrayArray.returns-in_default-repeats-2

pub array::elements-returns-in_default : goal.array::elements-returns-in_default
array::elements-returns-in_default = ArrayElements.returns-in_default

pub array::elements-returns-then-not-child : goal.array::elements-returns-then-not-child
array::elements-returns-then-not-child = ArrayElements.returns-then-not-child

pub array::elements-loop-i-preserved : goal.array::elements-loop-i-preserved
array::elements-loop-i-preserved = ArrayElements.loop-i-preserved

pub array::elements-returns : goal.array::elements-returns
array::elements-returns = ArrayElements.returns

pub array::first-returns-then-many-size : goal.array::first-returns-then-many-size
array::first-returns-then-many-size = ArrayFirst.returns-then-many-size

pub array::first-returns-then-many-eq0 : goal.array::first-returns-then-many-eq0
array::first-returns-then-many-eq0 = ArrayFirst.returns-then-many-eq0

pub array::first-returns-else-many-eq0 : goal.array::first-returns-else-many-eq0
array::first-returns-else-many-eq0 = ArrayFirst.returns-else-many-eq0

pub child-returns-then-is_basic : goal.child-returns-then-is_basic
child-returns-then-is_basic = Child.returns-then-is_basic

pub dictionary::entries-returns-in_default : goal.dictionary::entries-returns-in_default
dictionary::entries-returns-in_default = DictionaryEntries.returns-in_default

pub dictionary::entries-returns-then-not-pair : goal.dictionary::entries-returns-then-not-pair
dictionary::entries-returns-then-not-pair = DictionaryEntries.returns-then-not-pair

pub dictionary::entries-loop-i-preserved : goal.dictionary::entries-loop-i-preserved
dictionary::entries-loop-i-preserved = DictionaryEntries.loop-i-preserved

pub dictionary::entries-returns : goal.dictionary::entries-returns
dictionary::entries-returns = DictionaryEntries.returns

pub dictionary::pair-returns-in_default : goal.dictionary::pair-returns-in_default
dictionary::pair-returns-in_default = DictionaryPair.returns-in_default

pub dictionary::pair-returns-then-not-key_written : goal.dictionary::pair-returns-then-not-key_written
dictionary::pair-returns-then-not-key_written = DictionaryPair.returns-then-not-key_written

pub dictionary::pair-extent_in-extent-requires : goal.dictionary::pair-extent_in-extent-requires
dictionary::pair-extent_in-extent-requires = DictionaryPair.extent_in-extent-requires

pub dictionary::pair-last_end-end-requires : goal.dictionary::pair-last_end-end-requires
dictionary::pair-last_end-end-requires = DictionaryPair.last_end-end-requires

pub dictionary::pair-start_of-requires : goal.dictionary::pair-start_of-requires
dictionary::pair-start_of-requires = DictionaryPair.start_of-requires

pub dictionary::pair-returns-in_default-start_of : goal.dictionary::pair-returns-in_default-start_of
dictionary::pair-returns-in_default-start_of = DictionaryPair.returns-in_default-start_of

pub dictionary::pair-returns-then-child : goal.dictionary::pair-returns-then-child
dictionary::pair-returns-then-child = DictionaryPair.returns-then-child

pub dictionary::pair-returns-else-child : goal.dictionary::pair-returns-else-child
dictionary::pair-returns-else-child = DictionaryPair.returns-else-child

pub maybe::maybe-returns-then-part-eq0 : goal.maybe::maybe-returns-then-part-eq0
maybe::maybe-returns-then-part-eq0 = MaybeMaybe.returns-then-part-eq0

pub maybe::maybe-returns-in_default : goal.maybe::maybe-returns-in_default
maybe::maybe-returns-in_default = MaybeMaybe.returns-in_default

pub maybe::maybe-overflow_add-shape : goal.maybe::maybe-overflow_add-shape
maybe::maybe-overflow_add-shape = MaybeMaybe.overflow_add-shape

pub maybe::maybe-child-requires : goal.maybe::maybe-child-requires
maybe::maybe-child-requires = MaybeMaybe.child-requires

pub maybe::maybe-returns-then-held : goal.maybe::maybe-returns-then-held
maybe::maybe-returns-then-held = MaybeMaybe.returns-then-held

pub maybe::maybe-value-requires : goal.maybe::maybe-value-requires
maybe::maybe-value-requires = MaybeMaybe.value-requires

pub maybe::maybe-returns-then-part-end-eq0 : goal.maybe::maybe-returns-then-part-end-eq0
maybe::maybe-returns-then-part-end-eq0 = MaybeMaybe.returns-then-part-end-eq0

pub maybe::maybe-returns-else-part-end-eq0 : goal.maybe::maybe-returns-else-part-end-eq0
maybe::maybe-returns-else-part-end-eq0 = MaybeMaybe.returns-else-part-end-eq0

pub structure::fields-last_field-requires : goal.structure::fields-last_field-requires
structure::fields-last_field-requires = StructureFields.last_field-requires

pub structure::fields-returns-then-closes_at : goal.structure::fields-returns-then-closes_at
structure::fields-returns-then-closes_at = StructureFields.returns-then-closes_at

pub structure::fields-extent_in-extent-requires : goal.structure::fields-extent_in-extent-requires
structure::fields-extent_in-extent-requires = StructureFields.extent_in-extent-requires

pub structure::fields-field_end-stop-requires : goal.structure::fields-field_end-stop-requires
structure::fields-field_end-stop-requires = StructureFields.field_end-stop-requires

pub structure::fields-start_of-requires : goal.structure::fields-start_of-requires
structure::fields-start_of-requires = StructureFields.start_of-requires

pub structure::fields-returns-in_default : goal.structure::fields-returns-in_default
structure::fields-returns-in_default = StructureFields.returns-in_default

pub structure::fields-child-requires : goal.structure::fields-child-requires
structure::fields-child-requires = StructureFields.child-requires

pub structure::fields-returns-then-not-child : goal.structure::fields-returns-then-not-child
structure::fields-returns-then-not-child = StructureFields.returns-then-not-child

pub structure::fields-offsets_left-end-requires : goal.structure::fields-offsets_left-end-requires
structure::fields-offsets_left-end-requires = StructureFields.offsets_left-end-requires

pub structure::fields-loop-whole-smaller : goal.structure::fields-loop-whole-smaller
structure::fields-loop-whole-smaller = StructureFields.loop-whole-smaller

pub structure::fields-loop-whole-preserved : goal.structure::fields-loop-whole-preserved
structure::fields-loop-whole-preserved = StructureFields.loop-whole-preserved

pub structure::last_field-extent_in-extent-requires : goal.structure::last_field-extent_in-extent-requires
structure::last_field-extent_in-extent-requires = StructureLastField.extent_in-extent-requires

pub structure::last_field-last_end-stop-requires : goal.structure::last_field-last_end-stop-requires
structure::last_field-last_end-stop-requires = StructureLastField.last_end-stop-requires

pub structure::last_field-start_of-requires : goal.structure::last_field-start_of-requires
structure::last_field-start_of-requires = StructureLastField.start_of-requires

pub structure::last_field-returns-in_default : goal.structure::last_field-returns-in_default
structure::last_field-returns-in_default = StructureLastField.returns-in_default

pub structure::last_field-returns-then-child : goal.structure::last_field-returns-then-child
structure::last_field-returns-then-child = StructureLastField.returns-then-child

pub structure::last_field-returns-else-child : goal.structure::last_field-returns-else-child
structure::last_field-returns-else-child = StructureLastField.returns-else-child

pub structure::structure-returns-in_default : goal.structure::structure-returns-in_default
structure::structure-returns-in_default = StructureStructure.returns-in_default

pub structure::structure-extent_in-whole-requires : goal.structure::structure-extent_in-whole-requires
structure::structure-extent_in-whole-requires = StructureStructure.extent_in-whole-requires

pub structure::structure-offsets_in-requires : goal.structure::structure-offsets_in-requires
structure::structure-offsets_in-requires = StructureStructure.offsets_in-requires

pub structure::structure-rows_behind-requires : goal.structure::structure-rows_behind-requires
structure::structure-rows_behind-requires = StructureStructure.rows_behind-requires

pub structure::structure-returns-in_default-rows_behind : goal.structure::structure-returns-in_default-rows_behind
structure::structure-returns-in_default-rows_behind = StructureStructure.returns-in_default-rows_behind

pub structure::structure-overflow_add-shape : goal.structure::structure-overflow_add-shape
structure::structure-overflow_add-shape = StructureStructure.overflow_add-shape

pub structure::structure-fields-requires : goal.structure::structure-fields-requires
structure::structure-fields-requires = StructureStructure.fields-requires

pub structure::structure-returns : goal.structure::structure-returns
structure::structure-returns = StructureStructure.returns

pub value-maybe-requires : goal.value-maybe-requires
value-maybe-requires = Value.maybe-requires

pub value-array-requires : goal.value-array-requires
value-array-requires = Value.array-requires

pub value-structure-requires : goal.value-structure-requires
value-structure-requires = Value.structure-requires

pub value-returns-in-Variant : goal.value-returns-in-Variant
value-returns-in-Variant = Value.returns-in-Variant

pub value-returns-in_default : goal.value-returns-in_default
value-returns-in_default = Value.returns-in_default

pub variant::variant-returns-in_default : goal.variant::variant-returns-in_default
variant::variant-returns-in_default = VariantVariant.returns-in_default

pub variant::variant-returns-in_default-inc_variant : goal.variant::variant-returns-in_default-inc_variant
variant::variant-returns-in_default-inc_variant = VariantVariant.returns-in_default-inc_variant

pub variant::variant-returns-in-Some-lone_basic : goal.variant::variant-returns-in-Some-lone_basic
variant::variant-returns-in-Some-lone_basic = VariantVariant.returns-in-Some-lone_basic

pub variant::variant-variant-requires : goal.variant::variant-variant-requires
variant::variant-variant-requires = VariantVariant.variant-requires

pub variant::variant-returns-then-lone_variant : goal.variant::variant-returns-then-lone_variant
variant::variant-returns-then-lone_variant = VariantVariant.returns-then-lone_variant

pub variant::variant-returns-then-not-tables_of : goal.variant::variant-returns-then-not-tables_of
variant::variant-returns-then-not-tables_of = VariantVariant.returns-then-not-tables_of

pub variant::variant-value-requires : goal.variant::variant-value-requires
variant::variant-value-requires = VariantVariant.value-requires

pub variant::variant-returns : goal.variant::variant-returns
variant::variant-returns = VariantVariant.returns
