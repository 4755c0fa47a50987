-- The readers, which call each other as containers nest, meet their contracts. What falls: the containers that may still be opened,
-- and then the readers in order. Assumes nothing.
mod ArrayArray
mod ArrayElements
mod ArrayFramed
mod Body
mod Container
mod DictionaryEntry
mod DictionaryFixedKey
mod DictionaryTextKey
mod MaybeMaybe
mod StructureStructure
mod Value
mod VariantVariant
use Rattle.reader_cycle.proofs.+reading.Goals as goal

pub array::array-in_array-requires : goal.array::array-in_array-requires
array::array-in_array-requires = ArrayArray.in_array-requires

pub array::array-returns-in_err-deeper : goal.array::array-returns-in_err-deeper
array::array-returns-in_err-deeper = ArrayArray.returns-in_err-deeper

pub array::array-overflow_add-at : goal.array::array-overflow_add-at
array::array-overflow_add-at = ArrayArray.overflow_add-at

pub array::array-bounds-text-at : goal.array::array-bounds-text-at
array::array-bounds-text-at = ArrayArray.bounds-text-at

pub array::array-returns-then-lead-part : goal.array::array-returns-then-lead-part
array::array-returns-then-lead-part = ArrayArray.returns-then-lead-part

pub array::array-repeats_fixed-requires : goal.array::array-repeats_fixed-requires
array::array-repeats_fixed-requires = ArrayArray.repeats_fixed-requires

pub array::array-elements-r-requires : goal.array::array-elements-r-requires
array::array-elements-r-requires = ArrayArray.elements-r-requires

pub array::array-returns-then-repeats_fixed : goal.array::array-returns-then-repeats_fixed
array::array-returns-then-repeats_fixed = ArrayArray.returns-then-repeats_fixed

pub array::array-returns-in_err-ends : goal.array::array-returns-in_err-ends
array::array-returns-in_err-ends = ArrayArray.returns-in_err-ends

pub array::array-framed-r-requires : goal.array::array-framed-r-requires
array::array-framed-r-requires = ArrayArray.framed-r-requires

pub array::array-returns : goal.array::array-returns
array::array-returns = ArrayArray.returns

pub array::elements-bounds-text-child : goal.array::elements-bounds-text-child
array::elements-bounds-text-child = ArrayElements.bounds-text-child

pub array::elements-numbers-requires : goal.array::elements-numbers-requires
array::elements-numbers-requires = ArrayElements.numbers-requires

pub array::elements-returns-in-Some : goal.array::elements-returns-in-Some
array::elements-returns-in-Some = ArrayElements.returns-in-Some

pub array::elements-loop-read-init : goal.array::elements-loop-read-init
array::elements-loop-read-init = ArrayElements.loop-read-init

pub array::elements-entry-r-requires : goal.array::elements-entry-r-requires
array::elements-entry-r-requires = ArrayElements.entry-r-requires

pub array::elements-value-r-requires : goal.array::elements-value-r-requires
array::elements-value-r-requires = ArrayElements.value-r-requires

pub array::elements-behind-requires : goal.array::elements-behind-requires
array::elements-behind-requires = ArrayElements.behind-requires

pub array::elements-shape_of-out-in_err-read : goal.array::elements-shape_of-out-in_err-read
array::elements-shape_of-out-in_err-read = ArrayElements.shape_of-out-in_err-read

pub array::elements-returns-in_err-read : goal.array::elements-returns-in_err-read
array::elements-returns-in_err-read = ArrayElements.returns-in_err-read

pub array::elements-loop-read-smaller : goal.array::elements-loop-read-smaller
array::elements-loop-read-smaller = ArrayElements.loop-read-smaller

pub array::elements-loop-read-preserved : goal.array::elements-loop-read-preserved
array::elements-loop-read-preserved = ArrayElements.loop-read-preserved

pub array::elements-returns : goal.array::elements-returns
array::elements-returns = ArrayElements.returns

pub array::framed-overflow_add-child : goal.array::framed-overflow_add-child
array::framed-overflow_add-child = ArrayFramed.overflow_add-child

pub array::framed-held_width-requires : goal.array::framed-held_width-requires
array::framed-held_width-requires = ArrayFramed.held_width-requires

pub array::framed-readings-requires : goal.array::framed-readings-requires
array::framed-readings-requires = ArrayFramed.readings-requires

pub array::framed-returns-in-Some : goal.array::framed-returns-in-Some
array::framed-returns-in-Some = ArrayFramed.returns-in-Some

pub array::framed-bounds-text-child : goal.array::framed-bounds-text-child
array::framed-bounds-text-child = ArrayFramed.bounds-text-child

pub array::framed-texts-requires : goal.array::framed-texts-requires
array::framed-texts-requires = ArrayFramed.texts-requires

pub array::framed-returns-then-is_text : goal.array::framed-returns-then-is_text
array::framed-returns-then-is_text = ArrayFramed.returns-then-is_text

pub array::framed-loop-i-init : goal.array::framed-loop-i-init
array::framed-loop-i-init = ArrayFramed.loop-i-init

pub array::framed-overflow_add-e : goal.array::framed-overflow_add-e
array::framed-overflow_add-e = ArrayFramed.overflow_add-e

pub array::framed-entry-r-requires : goal.array::framed-entry-r-requires
array::framed-entry-r-requires = ArrayFramed.entry-r-requires

pub array::framed-value-r-requires : goal.array::framed-value-r-requires
array::framed-value-r-requires = ArrayFramed.value-r-requires

pub array::framed-behind-requires : goal.array::framed-behind-requires
array::framed-behind-requires = ArrayFramed.behind-requires

pub array::framed-shape_of-out-in_err-so_far : goal.array::framed-shape_of-out-in_err-so_far
array::framed-shape_of-out-in_err-so_far = ArrayFramed.shape_of-out-in_err-so_far

pub array::framed-returns-in_err-so_far : goal.array::framed-returns-in_err-so_far
array::framed-returns-in_err-so_far = ArrayFramed.returns-in_err-so_far

pub array::framed-loop-i-preserved : goal.array::framed-loop-i-preserved
array::framed-loop-i-preserved = ArrayFramed.loop-i-preserved

pub array::framed-returns : goal.array::framed-returns
array::framed-returns = ArrayFramed.returns

pub body-bounds-text-at : goal.body-bounds-text-at
body-bounds-text-at = Body.bounds-text-at

pub body-maybe-requires : goal.body-maybe-requires
body-maybe-requires = Body.maybe-requires

pub body-array-requires : goal.body-array-requires
body-array-requires = Body.array-requires

pub body-structure-requires : goal.body-structure-requires
body-structure-requires = Body.structure-requires

pub body-variant-requires : goal.body-variant-requires
body-variant-requires = Body.variant-requires

pub body-variant-requires-in_default : goal.body-variant-requires-in_default
body-variant-requires-in_default = Body.variant-requires-in_default

pub body-returns-in-109 : goal.body-returns-in-109
body-returns-in-109 = Body.returns-in-109

pub body-returns-in-97 : goal.body-returns-in-97
body-returns-in-97 = Body.returns-in-97

pub body-returns-in-40 : goal.body-returns-in-40
body-returns-in-40 = Body.returns-in-40

pub body-returns-in-118 : goal.body-returns-in-118
body-returns-in-118 = Body.returns-in-118

pub body-returns-in_default : goal.body-returns-in_default
body-returns-in_default = Body.returns-in_default

pub container-offset_bounds-shapes-at : goal.container-offset_bounds-shapes-at
container-offset_bounds-shapes-at = Container.offset_bounds-shapes-at

pub container-bounds-shapes-at : goal.container-bounds-shapes-at
container-bounds-shapes-at = Container.bounds-shapes-at

pub container-padded-requires : goal.container-padded-requires
container-padded-requires = Container.padded-requires

pub container-returns-in_err-lead : goal.container-returns-in_err-lead
container-returns-in_err-lead = Container.returns-in_err-lead

pub container-body-r-requires : goal.container-body-r-requires
container-body-r-requires = Container.body-r-requires

pub container-behind-requires : goal.container-behind-requires
container-behind-requires = Container.behind-requires

pub container-returns : goal.container-returns
container-returns = Container.returns

pub dictionary::entry-offset_bounds-shapes-at : goal.dictionary::entry-offset_bounds-shapes-at
dictionary::entry-offset_bounds-shapes-at = DictionaryEntry.offset_bounds-shapes-at

pub dictionary::entry-bounds-shapes-at : goal.dictionary::entry-bounds-shapes-at
dictionary::entry-bounds-shapes-at = DictionaryEntry.bounds-shapes-at

pub dictionary::entry-padded-requires : goal.dictionary::entry-padded-requires
dictionary::entry-padded-requires = DictionaryEntry.padded-requires

pub dictionary::entry-returns-in_err-lead : goal.dictionary::entry-returns-in_err-lead
dictionary::entry-returns-in_err-lead = DictionaryEntry.returns-in_err-lead

pub dictionary::entry-overflow_add-from : goal.dictionary::entry-overflow_add-from
dictionary::entry-overflow_add-from = DictionaryEntry.overflow_add-from

pub dictionary::entry-overflow_add-at : goal.dictionary::entry-overflow_add-at
dictionary::entry-overflow_add-at = DictionaryEntry.overflow_add-at

pub dictionary::entry-bounds-text-at : goal.dictionary::entry-bounds-text-at
dictionary::entry-bounds-text-at = DictionaryEntry.bounds-text-at

pub dictionary::entry-fixed_key-r-requires : goal.dictionary::entry-fixed_key-r-requires
dictionary::entry-fixed_key-r-requires = DictionaryEntry.fixed_key-r-requires

pub dictionary::entry-behind-requires : goal.dictionary::entry-behind-requires
dictionary::entry-behind-requires = DictionaryEntry.behind-requires

pub dictionary::entry-returns-then-is_fixed : goal.dictionary::entry-returns-then-is_fixed
dictionary::entry-returns-then-is_fixed = DictionaryEntry.returns-then-is_fixed

pub dictionary::entry-text_key-r-requires : goal.dictionary::entry-text_key-r-requires
dictionary::entry-text_key-r-requires = DictionaryEntry.text_key-r-requires

pub dictionary::entry-behind-requires-2 : goal.dictionary::entry-behind-requires-2
dictionary::entry-behind-requires-2 = DictionaryEntry.behind-requires-2

pub dictionary::entry-returns : goal.dictionary::entry-returns
dictionary::entry-returns = DictionaryEntry.returns

pub dictionary::fixed_key-returns-then-e-j : goal.dictionary::fixed_key-returns-then-e-j
dictionary::fixed_key-returns-then-e-j = DictionaryFixedKey.returns-then-e-j

pub dictionary::fixed_key-overflow_add-at : goal.dictionary::fixed_key-overflow_add-at
dictionary::fixed_key-overflow_add-at = DictionaryFixedKey.overflow_add-at

pub dictionary::fixed_key-bounds-text-at : goal.dictionary::fixed_key-bounds-text-at
dictionary::fixed_key-bounds-text-at = DictionaryFixedKey.bounds-text-at

pub dictionary::fixed_key-leaf-requires : goal.dictionary::fixed_key-leaf-requires
dictionary::fixed_key-leaf-requires = DictionaryFixedKey.leaf-requires

pub dictionary::fixed_key-returns-in_err-k : goal.dictionary::fixed_key-returns-in_err-k
dictionary::fixed_key-returns-in_err-k = DictionaryFixedKey.returns-in_err-k

pub dictionary::fixed_key-overflow_add-from : goal.dictionary::fixed_key-overflow_add-from
dictionary::fixed_key-overflow_add-from = DictionaryFixedKey.overflow_add-from

pub dictionary::fixed_key-overflow_add-at-2 : goal.dictionary::fixed_key-overflow_add-at-2
dictionary::fixed_key-overflow_add-at-2 = DictionaryFixedKey.overflow_add-at-2

pub dictionary::fixed_key-value-v-requires : goal.dictionary::fixed_key-value-v-requires
dictionary::fixed_key-value-v-requires = DictionaryFixedKey.value-v-requires

pub dictionary::fixed_key-overflow_add-at-3 : goal.dictionary::fixed_key-overflow_add-at-3
dictionary::fixed_key-overflow_add-at-3 = DictionaryFixedKey.overflow_add-at-3

pub dictionary::fixed_key-offset_bounds-shapes-at : goal.dictionary::fixed_key-offset_bounds-shapes-at
dictionary::fixed_key-offset_bounds-shapes-at = DictionaryFixedKey.offset_bounds-shapes-at

pub dictionary::fixed_key-bounds-shapes-at : goal.dictionary::fixed_key-bounds-shapes-at
dictionary::fixed_key-bounds-shapes-at = DictionaryFixedKey.bounds-shapes-at

pub dictionary::fixed_key-end_padded-r-requires : goal.dictionary::fixed_key-end_padded-r-requires
dictionary::fixed_key-end_padded-r-requires = DictionaryFixedKey.end_padded-r-requires

pub dictionary::fixed_key-behind-requires : goal.dictionary::fixed_key-behind-requires
dictionary::fixed_key-behind-requires = DictionaryFixedKey.behind-requires

pub dictionary::fixed_key-returns-then-fixed_of : goal.dictionary::fixed_key-returns-then-fixed_of
dictionary::fixed_key-returns-then-fixed_of = DictionaryFixedKey.returns-then-fixed_of

pub dictionary::fixed_key-behind-requires-2 : goal.dictionary::fixed_key-behind-requires-2
dictionary::fixed_key-behind-requires-2 = DictionaryFixedKey.behind-requires-2

pub dictionary::fixed_key-returns : goal.dictionary::fixed_key-returns
dictionary::fixed_key-returns = DictionaryFixedKey.returns

pub dictionary::text_key-key_ends-requires : goal.dictionary::text_key-key_ends-requires
dictionary::text_key-key_ends-requires = DictionaryTextKey.key_ends-requires

pub dictionary::text_key-returns-in_err-ends : goal.dictionary::text_key-returns-in_err-ends
dictionary::text_key-returns-in_err-ends = DictionaryTextKey.returns-in_err-ends

pub dictionary::text_key-overflow_add-at : goal.dictionary::text_key-overflow_add-at
dictionary::text_key-overflow_add-at = DictionaryTextKey.overflow_add-at

pub dictionary::text_key-bounds-text-at : goal.dictionary::text_key-bounds-text-at
dictionary::text_key-bounds-text-at = DictionaryTextKey.bounds-text-at

pub dictionary::text_key-slice_bounds-leaf-count : goal.dictionary::text_key-slice_bounds-leaf-count
dictionary::text_key-slice_bounds-leaf-count = DictionaryTextKey.slice_bounds-leaf-count

pub dictionary::text_key-slice_bounds-leaf-start : goal.dictionary::text_key-slice_bounds-leaf-start
dictionary::text_key-slice_bounds-leaf-start = DictionaryTextKey.slice_bounds-leaf-start

pub dictionary::text_key-slice_bounds-leaf-end : goal.dictionary::text_key-slice_bounds-leaf-end
dictionary::text_key-slice_bounds-leaf-end = DictionaryTextKey.slice_bounds-leaf-end

pub dictionary::text_key-leaf-requires : goal.dictionary::text_key-leaf-requires
dictionary::text_key-leaf-requires = DictionaryTextKey.leaf-requires

pub dictionary::text_key-returns-in_err-k : goal.dictionary::text_key-returns-in_err-k
dictionary::text_key-returns-in_err-k = DictionaryTextKey.returns-in_err-k

pub dictionary::text_key-overflow_add-from : goal.dictionary::text_key-overflow_add-from
dictionary::text_key-overflow_add-from = DictionaryTextKey.overflow_add-from

pub dictionary::text_key-overflow_add-from-2 : goal.dictionary::text_key-overflow_add-from-2
dictionary::text_key-overflow_add-from-2 = DictionaryTextKey.overflow_add-from-2

pub dictionary::text_key-returns-then-e-from : goal.dictionary::text_key-returns-then-e-from
dictionary::text_key-returns-then-e-from = DictionaryTextKey.returns-then-e-from

pub dictionary::text_key-overflow_add-at-2 : goal.dictionary::text_key-overflow_add-at-2
dictionary::text_key-overflow_add-at-2 = DictionaryTextKey.overflow_add-at-2

pub dictionary::text_key-value-v-requires : goal.dictionary::text_key-value-v-requires
dictionary::text_key-value-v-requires = DictionaryTextKey.value-v-requires

pub dictionary::text_key-past-r-requires : goal.dictionary::text_key-past-r-requires
dictionary::text_key-past-r-requires = DictionaryTextKey.past-r-requires

pub dictionary::text_key-behind-requires : goal.dictionary::text_key-behind-requires
dictionary::text_key-behind-requires = DictionaryTextKey.behind-requires

pub dictionary::text_key-returns : goal.dictionary::text_key-returns
dictionary::text_key-returns = DictionaryTextKey.returns

pub maybe::maybe-returns-then-part-lead : goal.maybe::maybe-returns-then-part-lead
maybe::maybe-returns-then-part-lead = MaybeMaybe.returns-then-part-lead

pub maybe::maybe-in_maybe-requires : goal.maybe::maybe-in_maybe-requires
maybe::maybe-in_maybe-requires = MaybeMaybe.in_maybe-requires

pub maybe::maybe-returns-in_err-deeper : goal.maybe::maybe-returns-in_err-deeper
maybe::maybe-returns-in_err-deeper = MaybeMaybe.returns-in_err-deeper

pub maybe::maybe-overflow_add-held : goal.maybe::maybe-overflow_add-held
maybe::maybe-overflow_add-held = MaybeMaybe.overflow_add-held

pub maybe::maybe-offset_bounds-shapes-held : goal.maybe::maybe-offset_bounds-shapes-held
maybe::maybe-offset_bounds-shapes-held = MaybeMaybe.offset_bounds-shapes-held

pub maybe::maybe-bounds-shapes-held : goal.maybe::maybe-bounds-shapes-held
maybe::maybe-bounds-shapes-held = MaybeMaybe.bounds-shapes-held

pub maybe::maybe-value-requires : goal.maybe::maybe-value-requires
maybe::maybe-value-requires = MaybeMaybe.value-requires

pub maybe::maybe-returns-then-fixed : goal.maybe::maybe-returns-then-fixed
maybe::maybe-returns-then-fixed = MaybeMaybe.returns-then-fixed

pub maybe::maybe-value-r-requires : goal.maybe::maybe-value-r-requires
maybe::maybe-value-r-requires = MaybeMaybe.value-r-requires

pub maybe::maybe-end_byte-requires : goal.maybe::maybe-end_byte-requires
maybe::maybe-end_byte-requires = MaybeMaybe.end_byte-requires

pub maybe::maybe-returns : goal.maybe::maybe-returns
maybe::maybe-returns = MaybeMaybe.returns

pub structure::structure-in_structure-requires : goal.structure::structure-in_structure-requires
structure::structure-in_structure-requires = StructureStructure.in_structure-requires

pub structure::structure-returns-in_err-deeper : goal.structure::structure-returns-in_err-deeper
structure::structure-returns-in_err-deeper = StructureStructure.returns-in_err-deeper

pub structure::structure-overflow_add-i : goal.structure::structure-overflow_add-i
structure::structure-overflow_add-i = StructureStructure.overflow_add-i

pub structure::structure-loop-field-init : goal.structure::structure-loop-field-init
structure::structure-loop-field-init = StructureStructure.loop-field-init

pub structure::structure-offset_bounds-shapes-i : goal.structure::structure-offset_bounds-shapes-i
structure::structure-offset_bounds-shapes-i = StructureStructure.offset_bounds-shapes-i

pub structure::structure-bounds-shapes-i : goal.structure::structure-bounds-shapes-i
structure::structure-bounds-shapes-i = StructureStructure.bounds-shapes-i

pub structure::structure-bounds-text-next_of : goal.structure::structure-bounds-text-next_of
structure::structure-bounds-text-next_of = StructureStructure.bounds-text-next_of

pub structure::structure-offset_bounds-shapes-i-in-loop-field : goal.structure::structure-offset_bounds-shapes-i-in-loop-field
structure::structure-offset_bounds-shapes-i-in-loop-field = StructureStructure.offset_bounds-shapes-i-in-loop-field

pub structure::structure-bounds-shapes-i-in-loop-field : goal.structure::structure-bounds-shapes-i-in-loop-field
structure::structure-bounds-shapes-i-in-loop-field = StructureStructure.bounds-shapes-i-in-loop-field

pub structure::structure-field_ends-found-requires : goal.structure::structure-field_ends-found-requires
structure::structure-field_ends-found-requires = StructureStructure.field_ends-found-requires

pub structure::structure-returns-in_err-ends : goal.structure::structure-returns-in_err-ends
structure::structure-returns-in_err-ends = StructureStructure.returns-in_err-ends

pub structure::structure-overflow_add-j : goal.structure::structure-overflow_add-j
structure::structure-overflow_add-j = StructureStructure.overflow_add-j

pub structure::structure-value-r-requires : goal.structure::structure-value-r-requires
structure::structure-value-r-requires = StructureStructure.value-r-requires

pub structure::structure-behind-requires : goal.structure::structure-behind-requires
structure::structure-behind-requires = StructureStructure.behind-requires

pub structure::structure-returns-in_err-read : goal.structure::structure-returns-in_err-read
structure::structure-returns-in_err-read = StructureStructure.returns-in_err-read

pub structure::structure-overflow_sub-end : goal.structure::structure-overflow_sub-end
structure::structure-overflow_sub-end = StructureStructure.overflow_sub-end

pub structure::structure-loop-field-smaller : goal.structure::structure-loop-field-smaller
structure::structure-loop-field-smaller = StructureStructure.loop-field-smaller

pub structure::structure-loop-field-preserved : goal.structure::structure-loop-field-preserved
structure::structure-loop-field-preserved = StructureStructure.loop-field-preserved

pub structure::structure-overflow_add-j-2 : goal.structure::structure-overflow_add-j-2
structure::structure-overflow_add-j-2 = StructureStructure.overflow_add-j-2

pub structure::structure-value-r-requires-2 : goal.structure::structure-value-r-requires-2
structure::structure-value-r-requires-2 = StructureStructure.value-r-requires-2

pub structure::structure-offset_bounds-shapes-at : goal.structure::structure-offset_bounds-shapes-at
structure::structure-offset_bounds-shapes-at = StructureStructure.offset_bounds-shapes-at

pub structure::structure-bounds-shapes-at : goal.structure::structure-bounds-shapes-at
structure::structure-bounds-shapes-at = StructureStructure.bounds-shapes-at

pub structure::structure-close_fields-s-requires : goal.structure::structure-close_fields-s-requires
structure::structure-close_fields-s-requires = StructureStructure.close_fields-s-requires

pub structure::structure-behind-all-requires : goal.structure::structure-behind-all-requires
structure::structure-behind-all-requires = StructureStructure.behind-all-requires

pub structure::structure-close-requires : goal.structure::structure-close-requires
structure::structure-close-requires = StructureStructure.close-requires

pub structure::structure-shape_of-out : goal.structure::structure-shape_of-out
structure::structure-shape_of-out = StructureStructure.shape_of-out

pub structure::structure-returns : goal.structure::structure-returns
structure::structure-returns = StructureStructure.returns

pub value-returns-then-e-j : goal.value-returns-then-e-j
value-returns-then-e-j = Value.returns-then-e-j

pub value-bounds-text-at : goal.value-bounds-text-at
value-bounds-text-at = Value.bounds-text-at

pub value-container-requires : goal.value-container-requires
value-container-requires = Value.container-requires

pub value-leaf-requires : goal.value-leaf-requires
value-leaf-requires = Value.leaf-requires

pub value-returns-in-97 : goal.value-returns-in-97
value-returns-in-97 = Value.returns-in-97

pub value-returns-in_default : goal.value-returns-in_default
value-returns-in_default = Value.returns-in_default

pub variant::variant-returns-in_default : goal.variant::variant-returns-in_default
variant::variant-returns-in_default = VariantVariant.returns-in_default

pub variant::variant-overflow_add-from : goal.variant::variant-overflow_add-from
variant::variant-overflow_add-from = VariantVariant.overflow_add-from

pub variant::variant-basic_variant-requires : goal.variant::variant-basic_variant-requires
variant::variant-basic_variant-requires = VariantVariant.basic_variant-requires

pub variant::variant-returns-in-Some-only_basic : goal.variant::variant-returns-in-Some-only_basic
variant::variant-returns-in-Some-only_basic = VariantVariant.returns-in-Some-only_basic

pub variant::variant-overflow_add-place-2 : goal.variant::variant-overflow_add-place-2
variant::variant-overflow_add-place-2 = VariantVariant.overflow_add-place-2

pub variant::variant-returns-in_err-head : goal.variant::variant-returns-in_err-head
variant::variant-returns-in_err-head = VariantVariant.returns-in_err-head

pub variant::variant-returns-then-not-shapes_of : goal.variant::variant-returns-then-not-shapes_of
variant::variant-returns-then-not-shapes_of = VariantVariant.returns-then-not-shapes_of

pub variant::variant-in_variant-requires : goal.variant::variant-in_variant-requires
variant::variant-in_variant-requires = VariantVariant.in_variant-requires

pub variant::variant-returns-in_err-deeper : goal.variant::variant-returns-in_err-deeper
variant::variant-returns-in_err-deeper = VariantVariant.returns-in_err-deeper

pub variant::variant-value-r-requires : goal.variant::variant-value-r-requires
variant::variant-value-r-requires = VariantVariant.value-r-requires

pub variant::variant-close_variant-requires : goal.variant::variant-close_variant-requires
variant::variant-close_variant-requires = VariantVariant.close_variant-requires

pub variant::variant-shape_of-out : goal.variant::variant-shape_of-out
variant::variant-shape_of-out = VariantVariant.shape_of-out

pub variant::variant-returns : goal.variant::variant-returns
variant::variant-returns = VariantVariant.returns
