-- Document 01's bold edits, and more worked edits that tell its readings apart: one table, and one computed test. The answers are those of a
-- model that was written from document 01 alone. Assumes nothing.
use mathlib.Core.Path.{◌≡◌, refl}
use mathlib.Core.List.{List, [], ◌∷◌, ◌++◌, map}
use mathlib.Core.Option.{none, some}
use mathlib.Core.Bool.{Bool, true, false}
use Prim.Native.Nat.{ℕ, zero, suc}
use lib.ListN.{replicate}
use Rattle.meaning.specs.Numbers
use Rattle.meaning.specs.Padding
use Rattle.meaning.specs.Offsets
use Rattle.meaning.specs.Texts
use Rattle.meaning.specs.Depths
use Rattle.meaning.specs.Types
use Rattle.meaning.specs.Types.{byte, int16, int64, string, bool, number, text, Tree, basic, variant, maybe, array, dictionary, structure, last, next}
use Rattle.meaning.specs.TypeText
use Rattle.meaning.specs.TypeText.{type_text}
use Rattle.meaning.specs.Written
use Rattle.meaning.specs.Outcome
use Rattle.meaning.specs.Reading
use Rattle.meaning_writing.specs.Shapes.{offset_count, field_end, sizes_from, part}
use Rattle.meaning_writing.specs.Shapes
use Rattle.meaning_writing.specs.Strict
use Rattle.meaning_writing.specs.Readings
use Rattle.meaning_writing.specs.Readings.{MaybeNumber}
use Rattle.meaning_writing.specs.Edited
use Rattle.meaning_writing.specs.Editing
use Rattle.meaning_writing.specs.Editing.{EditAnswer, edit, edit_buffer}

-- the types of the table
abbrev bool_type : Tree
bool_type = basic bool

abbrev byte_type : Tree
byte_type = basic (number byte)

abbrev int16_type : Tree
int16_type = basic (number int16)

abbrev string_type : Tree
string_type = basic (text string)

abbrev strings : Tree
strings = array string_type

abbrev reading_array : Tree
reading_array = array (maybe int16_type)

abbrev byte_and_reading : Tree
byte_and_reading = structure (next byte_type (last (maybe int16_type)))

abbrev bool_and_reading : Tree
bool_and_reading = structure (next (maybe bool_type) (next (maybe int16_type) (last byte_type)))

abbrev string_and_reading : Tree
string_and_reading = structure (next string_type (last (maybe (basic (number int64)))))

abbrev string_to_reading : Tree
string_to_reading = dictionary (text string) (maybe byte_type)

-- so many maybes of a byte
abbrev nested : ℕ → Tree
nested zero = byte_type
nested (suc k) = maybe (nested k)

-- a type's text, big-endian or not, the buffer and its used length, a reading's number, nothing or a number; then the refusal, the new length and
-- the buffer afterwards
pub data Row : Type 0 where
  edits : List ℕ → Bool → List ℕ → ℕ → ℕ → MaybeNumber → ℕ → ℕ → List ℕ → Row

abbrev pub table : List Row
table =
    -- document 01's edits: withdraw 0, then 2
    edits (type_text reading_array) false (0xd7 ∷ 0x00 ∷ 0x00 ∷ 0x00 ∷ 0x02 ∷ 0x02 ∷ 0x04 ∷ []) 7 0 none 0 5 (0x00 ∷ 0x00 ∷ 0x00 ∷ 0x00 ∷ 0x02 ∷ 0x00 ∷ 0x00 ∷ []) ∷
    edits (type_text reading_array) false (0x00 ∷ 0x00 ∷ 0x00 ∷ 0x00 ∷ 0x02 ∷ 0x00 ∷ 0x00 ∷ []) 5 2 none 0 3 (0x00 ∷ 0x00 ∷ 0x00 ∷ 0x00 ∷ 0x00 ∷ 0x00 ∷ 0x00 ∷ []) ∷
    -- from a nothing, in front of another byte of the buffer, which stays
    edits (type_text reading_array) false (0x00 ∷ 0x00 ∷ 0x00 ∷ 0xee ∷ 0xee ∷ 0xee ∷ 0xff ∷ []) 3 1 (some 258) 0 5 (0x02 ∷ 0x01 ∷ 0x00 ∷ 0x02 ∷ 0x02 ∷ 0xee ∷ 0xff ∷ []) ∷
    -- beyond both lengths the buffer stays
    edits (type_text reading_array) false (0xd7 ∷ 0x00 ∷ 0x00 ∷ 0x00 ∷ 0x02 ∷ 0x02 ∷ 0x04 ∷ 0xff ∷ 0xff ∷ []) 7 0 none 0 5 (0x00 ∷ 0x00 ∷ 0x00 ∷ 0x00 ∷ 0x02 ∷ 0x00 ∷ 0x00 ∷ 0xff ∷ 0xff ∷ []) ∷
    -- a buffer without room for the new frame
    edits (type_text reading_array) false (0x00 ∷ 0x00 ∷ 0x00 ∷ 0xee ∷ []) 3 1 (some 258) 13 0 (0x00 ∷ 0x00 ∷ 0x00 ∷ 0xee ∷ []) ∷
    -- a nothing that is withdrawn, and a number that is put as it was
    edits (type_text reading_array) false (0xd7 ∷ 0x00 ∷ 0x00 ∷ 0x00 ∷ 0x02 ∷ 0x02 ∷ 0x04 ∷ []) 7 1 none 0 7 (0xd7 ∷ 0x00 ∷ 0x00 ∷ 0x00 ∷ 0x02 ∷ 0x02 ∷ 0x04 ∷ []) ∷
    edits (type_text reading_array) false (0xd7 ∷ 0x00 ∷ 0x00 ∷ 0x00 ∷ 0x02 ∷ 0x02 ∷ 0x04 ∷ []) 7 0 (some 215) 0 7 (0xd7 ∷ 0x00 ∷ 0x00 ∷ 0x00 ∷ 0x02 ∷ 0x02 ∷ 0x04 ∷ []) ∷
    -- padding in front of a nothing stays
    edits (type_text byte_and_reading) false (0x07 ∷ 0x00 ∷ 0xee ∷ 0xee ∷ []) 2 0 (some 5) 0 4 (0x07 ∷ 0x00 ∷ 0x05 ∷ 0x00 ∷ []) ∷
    edits (type_text byte_and_reading) false (0x07 ∷ 0x00 ∷ 0x05 ∷ 0x00 ∷ []) 4 0 none 0 2 (0x07 ∷ 0x00 ∷ 0x00 ∷ 0x00 ∷ []) ∷
    edits (type_text byte_and_reading) true (0x07 ∷ 0x00 ∷ 0x05 ∷ 0x00 ∷ []) 4 0 (some 258) 0 4 (0x07 ∷ 0x00 ∷ 0x01 ∷ 0x02 ∷ []) ∷
    -- a field in front of others: they move, and so do their offsets
    edits (type_text bool_and_reading) false (0x01 ∷ 0x00 ∷ 0x02 ∷ 0x01 ∷ 0x09 ∷ 0x04 ∷ 0x01 ∷ []) 7 0 none 0 5 (0x02 ∷ 0x01 ∷ 0x09 ∷ 0x02 ∷ 0x00 ∷ 0x00 ∷ 0x00 ∷ []) ∷
    edits (type_text bool_and_reading) false (0x02 ∷ 0x01 ∷ 0x09 ∷ 0x02 ∷ 0x00 ∷ 0x22 ∷ 0x22 ∷ []) 5 0 (some 1) 0 7 (0x01 ∷ 0x00 ∷ 0x02 ∷ 0x01 ∷ 0x09 ∷ 0x04 ∷ 0x01 ∷ []) ∷
    -- in a variant, in a dictionary, in a present maybe, in an array of arrays
    edits (type_text variant) false (0x05 ∷ 0x00 ∷ 0x00 ∷ 0x6d ∷ 0x6e ∷ 0xee ∷ []) 5 0 none 0 3 (0x00 ∷ 0x6d ∷ 0x6e ∷ 0x00 ∷ 0x00 ∷ 0xee ∷ []) ∷
    edits (type_text variant) true (0x00 ∷ 0x6d ∷ 0x6e ∷ 0xee ∷ 0xee ∷ []) 3 0 (some 258) 0 5 (0x01 ∷ 0x02 ∷ 0x00 ∷ 0x6d ∷ 0x6e ∷ []) ∷
    edits (type_text string_to_reading) false (0x6b ∷ 0x00 ∷ 0x09 ∷ 0x02 ∷ 0x04 ∷ []) 5 0 none 0 4 (0x6b ∷ 0x00 ∷ 0x02 ∷ 0x03 ∷ 0x00 ∷ []) ∷
    edits (type_text string_to_reading) false (0x6b ∷ 0x00 ∷ 0x02 ∷ 0x03 ∷ 0xee ∷ []) 4 0 (some 9) 0 5 (0x6b ∷ 0x00 ∷ 0x09 ∷ 0x02 ∷ 0x04 ∷ []) ∷
    edits (type_text (maybe (maybe int16_type))) false (0x05 ∷ 0x00 ∷ 0x00 ∷ []) 3 0 none 0 1 (0x00 ∷ 0x00 ∷ 0x00 ∷ []) ∷
    edits (type_text (maybe (maybe int16_type))) false [] 0 0 none 16 0 [] ∷
    edits (type_text (maybe (structure (last (maybe byte_type))))) false (0x05 ∷ 0x00 ∷ []) 2 0 none 0 1 (0x00 ∷ 0x00 ∷ []) ∷
    edits (type_text (array reading_array)) false (0x01 ∷ 0x00 ∷ 0x02 ∷ 0x02 ∷ 0x02 ∷ 0x00 ∷ 0x00 ∷ 0x02 ∷ 0x04 ∷ 0x08 ∷ 0xee ∷ 0xee ∷ []) 10 2 (some 7) 0 12 (0x01 ∷ 0x00 ∷ 0x02 ∷ 0x02 ∷ 0x07 ∷ 0x00 ∷ 0x02 ∷ 0x00 ∷ 0x02 ∷ 0x04 ∷ 0x04 ∷ 0x0a ∷ []) ∷
    -- an offset that becomes wider
    edits (type_text string_and_reading) false (replicate 245 0x61 ++ (0x00 ∷ 0x00 ∷ 0x00 ∷ 0xf6 ∷ 0x00 ∷ 0x00 ∷ 0x00 ∷ 0x00 ∷ 0x00 ∷ 0x00 ∷ 0x00 ∷ 0x00 ∷ 0x00 ∷ [])) 249 0 (some 3) 0 258 (replicate 245 0x61 ++ (0x00 ∷ 0x00 ∷ 0x00 ∷ 0x03 ∷ 0x00 ∷ 0x00 ∷ 0x00 ∷ 0x00 ∷ 0x00 ∷ 0x00 ∷ 0x00 ∷ 0xf6 ∷ 0x00 ∷ [])) ∷
    -- and narrower
    edits (type_text string_and_reading) false (replicate 245 0x61 ++ (0x00 ∷ 0x00 ∷ 0x00 ∷ 0x03 ∷ 0x00 ∷ 0x00 ∷ 0x00 ∷ 0x00 ∷ 0x00 ∷ 0x00 ∷ 0x00 ∷ 0xf6 ∷ 0x00 ∷ [])) 258 0 none 0 249 (replicate 245 0x61 ++ (0x00 ∷ 0x00 ∷ 0x00 ∷ 0xf6 ∷ 0x00 ∷ 0x00 ∷ 0x00 ∷ 0x00 ∷ 0x00 ∷ 0x00 ∷ 0x00 ∷ 0x00 ∷ 0x00 ∷ [])) ∷
    -- 1: the type; 2: the used length over the buffer
    edits (40 ∷ []) false [] 0 0 none 1 0 [] ∷
    edits (type_text reading_array) false (0x00 ∷ 0x00 ∷ []) 3 0 none 2 0 (0x00 ∷ 0x00 ∷ []) ∷
    -- 3 to 12, where reading meets them
    edits (type_text reading_array) false (0x02 ∷ []) 1 0 none 3 0 (0x02 ∷ []) ∷
    edits (type_text byte_and_reading) false (0x07 ∷ 0x01 ∷ []) 2 0 none 4 0 (0x07 ∷ 0x01 ∷ []) ∷
    edits (type_text variant) false (0x75 ∷ []) 1 0 none 8 0 (0x75 ∷ []) ∷
    -- 15: what reads, and is no written form
    edits (type_text strings) false (0x01 ∷ []) 1 0 none 15 0 (0x01 ∷ []) ∷
    edits (type_text (maybe bool_type)) false (0x02 ∷ []) 1 0 (some 0) 15 0 (0x02 ∷ []) ∷
    edits (type_text (maybe byte_type)) false (0x05 ∷ 0x06 ∷ []) 2 0 (some 0) 15 0 (0x05 ∷ 0x06 ∷ []) ∷
    edits (type_text (array (maybe byte_type))) false (0x02 ∷ 0x00 ∷ 0x00 ∷ 0x02 ∷ 0x01 ∷ 0x03 ∷ []) 6 0 none 15 0 (0x02 ∷ 0x00 ∷ 0x00 ∷ 0x02 ∷ 0x01 ∷ 0x03 ∷ []) ∷
    -- a table of 2-byte offsets, which its length asks for, where 1-byte offsets would do
    edits (type_text strings) false (replicate 248 0x61 ++ (0x00 ∷ 0x00 ∷ 0x00 ∷ 0xf9 ∷ 0x00 ∷ 0xfa ∷ 0x00 ∷ 0xfb ∷ 0x00 ∷ [])) 257 0 none 15 0
    (replicate 248 0x61 ++ (0x00 ∷ 0x00 ∷ 0x00 ∷ 0xf9 ∷ 0x00 ∷ 0xfa ∷ 0x00 ∷ 0xfb ∷ 0x00 ∷ [])) ∷
    -- 16: no such reading; a maybe of a text is none
    edits (type_text reading_array) false (0xd7 ∷ 0x00 ∷ 0x00 ∷ 0x00 ∷ 0x02 ∷ 0x02 ∷ 0x04 ∷ []) 7 3 (some 70000) 16 0 (0xd7 ∷ 0x00 ∷ 0x00 ∷ 0x00 ∷ 0x02 ∷ 0x02 ∷ 0x04 ∷ []) ∷
    edits (type_text strings) false (0x61 ∷ 0x00 ∷ 0x02 ∷ []) 3 0 none 16 0 (0x61 ∷ 0x00 ∷ 0x02 ∷ []) ∷
    edits (type_text (maybe string_type)) false (0x61 ∷ 0x00 ∷ 0x00 ∷ []) 3 0 none 16 0 (0x61 ∷ 0x00 ∷ 0x00 ∷ []) ∷
    edits (type_text (structure (next (maybe string_type) (last (maybe byte_type))))) false (0x61 ∷ 0x00 ∷ 0x00 ∷ 0x05 ∷ 0x03 ∷ []) 5 0 none 0 4 (0x61 ∷ 0x00 ∷ 0x00 ∷ 0x03 ∷ 0x00 ∷ []) ∷
    -- 17: a number that is too wide, a bool above 1
    edits (type_text reading_array) false (0xd7 ∷ 0x00 ∷ 0x00 ∷ 0x00 ∷ 0x02 ∷ 0x02 ∷ 0x04 ∷ []) 7 0 (some 65536) 17 0 (0xd7 ∷ 0x00 ∷ 0x00 ∷ 0x00 ∷ 0x02 ∷ 0x02 ∷ 0x04 ∷ []) ∷
    edits (type_text reading_array) false (0xd7 ∷ 0x00 ∷ 0x00 ∷ 0x00 ∷ 0x02 ∷ 0x02 ∷ 0x04 ∷ []) 7 0 (some 18446744073709551615) 17 0 (0xd7 ∷ 0x00 ∷ 0x00 ∷ 0x00 ∷ 0x02 ∷ 0x02 ∷ 0x04 ∷ []) ∷
    edits (type_text reading_array) false (0xd7 ∷ 0x00 ∷ 0x00 ∷ 0x00 ∷ 0x02 ∷ 0x02 ∷ 0x04 ∷ []) 7 0 (some 65535) 0 7 (0xff ∷ 0xff ∷ 0x00 ∷ 0x00 ∷ 0x02 ∷ 0x02 ∷ 0x04 ∷ []) ∷
    edits (type_text (maybe (basic (number int64)))) false (replicate 8 0) 8 0 (some 18446744073709551615) 0 8 (replicate 8 0xff) ∷
    edits (type_text (maybe bool_type)) false (0x01 ∷ []) 1 0 (some 2) 17 0 (0x01 ∷ []) ∷
    edits (type_text (maybe bool_type)) false (0x01 ∷ []) 1 0 (some 0) 0 1 (0x00 ∷ []) ∷
    -- 12: a nothing inside 64 open containers that would become present; 17 goes before
    edits (type_text (nested 65)) false (replicate 65 0) 64 0 (some 5) 12 0 (replicate 65 0) ∷
    edits (type_text (nested 65)) false (replicate 65 0) 64 0 (some 256) 17 0 (replicate 65 0) ∷
    edits (type_text (nested 65)) false (replicate 65 0) 64 0 none 0 64 (replicate 65 0) ∷
    edits (type_text (nested 64)) false (replicate 64 0) 63 0 (some 5) 0 64 (5 ∷ replicate 63 0) ∷
    []

abbrev answer : EditAnswer → List ℕ → List ℕ
answer e l = e.refusal ∷ e.used ∷ l

abbrev pub got : Row → List ℕ
got (edits t big l used i x r n m) = answer (edit t big l used i x) (edit_buffer t big l used i x)

abbrev pub want : Row → List ℕ
want (edits t big l used i x r n m) = r ∷ n ∷ m

pub edits_hold : map got table ≡ map want table
unfolding Numbers.bytes Numbers.value Padding.padding Padding.leading_zeros Offsets.first_width Offsets.encoded_width Offsets.written_width Offsets.bare_width Offsets.table Offsets.back_table Offsets.entries Offsets.none_above Offsets.table_from Offsets.table_of Offsets.ends_of Offsets.table_stands Texts.without_final_nul Texts.no_nul Texts.following Texts.after_byte Texts.utf8_from Texts.utf8 Texts.text_refusal Depths.depth_refusal Types.alignment Types.fixed Types.fixed_size TypeText.type_text TypeText.basic_among TypeText.made TypeText.ended_by TypeText.basic_tree TypeText.entry_by TypeText.entry_begun TypeText.array_begun TypeText.type_begun TypeText.fields_begun TypeText.type_within TypeText.first_type TypeText.nothing_behind TypeText.type_of Written.stop Written.layout Written.ends Written.field_ends Written.all_valid Written.all_shallow Written.basic_piece Written.maybe_piece Written.array_bytes Written.array_piece Written.structure_bytes Written.structure_piece Written.entry_piece Written.variant_piece Written.piece_over Written.piece Written.written Outcome.chain Outcome.unused Outcome.enclosed Reading.child Reading.within Reading.padding_of Reading.text_as Reading.read_text Reading.read_bool Reading.number_in Reading.end_byte Reading.present_in Reading.maybe_in Reading.elements Reading.elements_to Reading.tabled Reading.array_body Reading.array_in Reading.child_step Reading.offset_stands Reading.field_offset Reading.padded Reading.last_nul Reading.variant_value Reading.variant_type Reading.variant_typed Reading.variant_body Reading.variant_in Reading.pad Reading.read_number Reading.read_basic Reading.read_maybe Reading.read_array Reading.end_padding Reading.fields_in Reading.structure_body Reading.structure_in Reading.read_structure Reading.value_from Reading.fixed_key Reading.value_before Reading.key_to Reading.text_key Reading.entry_from Reading.read_entry Reading.entry_step Reading.read_variant Reading.read_tree Reading.reading Shapes.part Strict.all_zero Strict.basic_written Strict.basic_test Strict.present_written Strict.maybe_written Strict.maybe_test Strict.child_written Strict.element_end Strict.elements_written Strict.table_written Strict.array_written Strict.array_test Shapes.offset_count Shapes.field_end Strict.fields_finished Strict.fields_written Strict.offsets_written Strict.structure_written Shapes.sizes_from Strict.structure_test Strict.entry_test Strict.typed_written Strict.variant_written Strict.variant_test Strict.test_over Strict.test_of Strict.is_written Readings.spells Readings.may_stand Readings.slot_of Edited.slot_bytes Edited.child_bytes Edited.round_child Edited.count_maybe Edited.maybe_editor Edited.elements_from Edited.elements_before Edited.fields_from Edited.count_in Edited.spot_in Edited.pieces_of Edited.edited_in Edited.alike Edited.each Edited.container_editor Edited.array_editor Edited.structure_editor Edited.count_typed Edited.spot_typed Edited.edited_typed Edited.variant_editor Edited.editor_over Edited.editor_of Edited.reading_count Edited.reading_spot Edited.edited_frame Editing.length_refusal Editing.change_refusal Editing.frame_refusal Editing.refusal_of Editing.new_frame Editing.edit_answered Editing.buffer_with Editing.edit Editing.edit_buffer
edits_hold = refl
