-- Frames and what `is_written` answers: one table, and one computed test. Assumes nothing.
use mathlib.Core.Path.{◌≡◌, refl}
use mathlib.Core.List.{List, [], ◌∷◌, map}
use mathlib.Core.Bool.{false}
use Prim.Native.Nat.{ℕ}
use Rattle.meaning.specs.Depths
use Rattle.meaning.specs.Numbers
use Rattle.meaning.specs.Offsets
use Rattle.meaning.specs.Outcome
use Rattle.meaning.specs.Padding
use Rattle.meaning.specs.Reading
use Rattle.meaning.specs.Texts
use Rattle.meaning.specs.TypeText
use Rattle.meaning.specs.Types
use Rattle.meaning.specs.Calls
use Rattle.meaning_writing.specs.Shapes
use Rattle.meaning_writing.specs.Strict
use Rattle.meaning_writing.specs.IsWritten
use Rattle.meaning_writing.specs.IsWritten.{written_refusal}

-- a type's text, a frame, the answer
pub data Row : Type 0 where
  frame : List ℕ → List ℕ → ℕ → Row

abbrev pub table : List Row
table =
    -- a byte; a number short, long, and as it is
    frame (121 ∷ []) (7 ∷ []) 0 ∷
    frame (117 ∷ []) (1 ∷ 0 ∷ 0 ∷ 0 ∷ []) 0 ∷
    frame (117 ∷ []) (1 ∷ 0 ∷ 0 ∷ []) 3 ∷
    frame (117 ∷ []) (1 ∷ 0 ∷ 0 ∷ 0 ∷ 9 ∷ []) 15 ∷
    -- no type
    frame ([]) ([]) 1 ∷
    frame (40 ∷ 41 ∷ []) ([]) 1 ∷
    frame (117 ∷ 117 ∷ []) (0 ∷ 0 ∷ 0 ∷ 0 ∷ 0 ∷ 0 ∷ 0 ∷ 0 ∷ []) 1 ∷
    -- a bool that is read as true
    frame (98 ∷ []) (1 ∷ []) 0 ∷
    frame (98 ∷ []) (2 ∷ []) 15 ∷
    -- texts: with a nul, without, with one in it, and not UTF-8
    frame (115 ∷ []) (104 ∷ 105 ∷ 0 ∷ []) 0 ∷
    frame (115 ∷ []) (104 ∷ 105 ∷ []) 15 ∷
    frame (115 ∷ []) (104 ∷ 0 ∷ 105 ∷ 0 ∷ []) 5 ∷
    frame (115 ∷ []) (255 ∷ 0 ∷ []) 6 ∷
    -- maybes
    frame (109 ∷ 117 ∷ []) ([]) 0 ∷
    frame (109 ∷ 117 ∷ []) (1 ∷ 0 ∷ 0 ∷ 0 ∷ []) 0 ∷
    frame (109 ∷ 115 ∷ []) (97 ∷ 0 ∷ 0 ∷ []) 0 ∷
    frame (109 ∷ 115 ∷ []) (97 ∷ 0 ∷ []) 15 ∷
    -- arrays: fixed, too short, empty, of texts, and with an offset inside one
    frame (97 ∷ 121 ∷ []) (1 ∷ 2 ∷ 3 ∷ []) 0 ∷
    frame (97 ∷ 113 ∷ []) (1 ∷ 2 ∷ 3 ∷ []) 3 ∷
    frame (97 ∷ 115 ∷ []) ([]) 0 ∷
    frame (97 ∷ 115 ∷ []) (104 ∷ 0 ∷ 2 ∷ []) 0 ∷
    frame (97 ∷ 115 ∷ []) (104 ∷ 0 ∷ 105 ∷ 0 ∷ 2 ∷ 4 ∷ []) 0 ∷
    frame (97 ∷ 115 ∷ []) (104 ∷ 0 ∷ 105 ∷ 0 ∷ 3 ∷ 4 ∷ []) 5 ∷
    -- an element that is no written form of its own
    frame (97 ∷ 115 ∷ []) (97 ∷ 0 ∷ 0 ∷ 2 ∷ []) 15 ∷
    -- arrays for whose elements any bytes will do: of structures, with one cut, and with a bool
    frame (97 ∷ 40 ∷ 121 ∷ 121 ∷ 41 ∷ []) (1 ∷ 2 ∷ 3 ∷ 4 ∷ []) 0 ∷
    frame (97 ∷ 40 ∷ 121 ∷ 121 ∷ 41 ∷ []) (1 ∷ 2 ∷ 3 ∷ []) 3 ∷
    frame (97 ∷ 40 ∷ 98 ∷ 41 ∷ []) (1 ∷ 2 ∷ []) 15 ∷
    frame (97 ∷ 40 ∷ 113 ∷ 121 ∷ 41 ∷ []) (1 ∷ 0 ∷ 2 ∷ 0 ∷ 3 ∷ 0 ∷ 4 ∷ 0 ∷ []) 0 ∷
    frame (97 ∷ 40 ∷ 113 ∷ 121 ∷ 41 ∷ []) (1 ∷ 0 ∷ 2 ∷ 0 ∷ 3 ∷ 0 ∷ 4 ∷ 9 ∷ []) 4 ∷
    -- readings
    frame (97 ∷ 109 ∷ 110 ∷ []) (1 ∷ 0 ∷ 2 ∷ 2 ∷ []) 0 ∷
    frame (97 ∷ 109 ∷ 110 ∷ []) (1 ∷ 0 ∷ 9 ∷ 3 ∷ []) 15 ∷
    -- dictionaries: with a key that is fixed, and with a text
    frame (97 ∷ 123 ∷ 121 ∷ 121 ∷ 125 ∷ []) (1 ∷ 2 ∷ 3 ∷ 4 ∷ []) 0 ∷
    frame (97 ∷ 123 ∷ 115 ∷ 121 ∷ 125 ∷ []) (97 ∷ 0 ∷ 5 ∷ 2 ∷ 4 ∷ []) 0 ∷
    frame (97 ∷ 123 ∷ 115 ∷ 121 ∷ 125 ∷ []) (97 ∷ 0 ∷ 5 ∷ 1 ∷ 4 ∷ []) 15 ∷
    -- structures: padding in front of a field, at the end, and offsets
    frame (40 ∷ 121 ∷ 117 ∷ 41 ∷ []) (1 ∷ 0 ∷ 0 ∷ 0 ∷ 2 ∷ 0 ∷ 0 ∷ 0 ∷ []) 0 ∷
    frame (40 ∷ 121 ∷ 117 ∷ 41 ∷ []) (1 ∷ 0 ∷ 0 ∷ 9 ∷ 2 ∷ 0 ∷ 0 ∷ 0 ∷ []) 4 ∷
    frame (40 ∷ 117 ∷ 121 ∷ 41 ∷ []) (2 ∷ 0 ∷ 0 ∷ 0 ∷ 1 ∷ 0 ∷ 0 ∷ 0 ∷ []) 0 ∷
    frame (40 ∷ 115 ∷ 121 ∷ 41 ∷ []) (104 ∷ 0 ∷ 5 ∷ 2 ∷ []) 0 ∷
    frame (40 ∷ 115 ∷ 121 ∷ 41 ∷ []) (104 ∷ 0 ∷ 5 ∷ 1 ∷ []) 15 ∷
    frame (40 ∷ 121 ∷ 115 ∷ 41 ∷ []) (1 ∷ 104 ∷ 0 ∷ []) 0 ∷
    -- a byte between the last field and the offsets, and one between the last field and the end
    frame (40 ∷ 115 ∷ 121 ∷ 41 ∷ []) (104 ∷ 0 ∷ 5 ∷ 9 ∷ 2 ∷ []) 15 ∷
    frame (40 ∷ 121 ∷ 121 ∷ 41 ∷ []) (1 ∷ 2 ∷ 3 ∷ []) 15 ∷
    -- variants: by one letter, by a longer type, and with another inside
    frame (118 ∷ []) (7 ∷ 0 ∷ 121 ∷ []) 0 ∷
    frame (118 ∷ []) (7 ∷ 0 ∷ 120 ∷ []) 3 ∷
    frame (118 ∷ []) (2 ∷ 0 ∷ 98 ∷ []) 15 ∷
    frame (118 ∷ []) (1 ∷ 2 ∷ 0 ∷ 97 ∷ 121 ∷ []) 0 ∷
    frame (118 ∷ []) (7 ∷ 0 ∷ 110 ∷ 110 ∷ []) 9 ∷
    frame (118 ∷ []) ([]) 8 ∷
    frame (118 ∷ []) (7 ∷ 0 ∷ 40 ∷ []) 9 ∷
    frame (118 ∷ []) (1 ∷ 0 ∷ 121 ∷ 0 ∷ 118 ∷ []) 0 ∷
    []

abbrev pub got : Row → ℕ
got (frame t l r) = written_refusal t false l

abbrev pub want : Row → ℕ
want (frame t l r) = r

pub frames_hold : map got table ≡ map want table
unfolding Numbers.value Padding.padding Padding.leading_zeros Offsets.first_width Offsets.encoded_width Offsets.written_width Offsets.entries Offsets.none_above Offsets.table_from Offsets.table_of Offsets.ends_of Offsets.table_stands Texts.without_final_nul Texts.no_nul Texts.following Texts.after_byte Texts.utf8_from Texts.utf8 Texts.text_refusal Depths.depth_refusal Types.alignment Types.fixed Types.fixed_size TypeText.basic_among TypeText.made TypeText.ended_by TypeText.basic_tree TypeText.entry_by TypeText.entry_begun TypeText.array_begun TypeText.type_begun TypeText.fields_begun TypeText.type_within TypeText.first_type TypeText.nothing_behind TypeText.type_of Outcome.chain Outcome.unused Outcome.enclosed Reading.child Reading.within Reading.padding_of Reading.text_as Reading.read_text Reading.read_bool Reading.number_in Reading.end_byte Reading.present_in Reading.maybe_in Reading.elements Reading.elements_to Reading.tabled Reading.array_body Reading.array_in Reading.child_step Reading.offset_stands Reading.field_offset Reading.padded Reading.last_nul Reading.variant_value Reading.variant_type Reading.variant_typed Reading.variant_body Reading.variant_in Reading.pad Reading.read_number Reading.read_basic Reading.read_maybe Reading.read_array Reading.end_padding Reading.fields_in Reading.structure_body Reading.structure_in Reading.read_structure Reading.value_from Reading.fixed_key Reading.value_before Reading.key_to Reading.text_key Reading.entry_from Reading.read_entry Reading.entry_step Reading.read_variant Reading.read_tree Reading.reading Shapes.part Strict.all_zero Strict.basic_written Strict.basic_test Strict.present_written Strict.maybe_written Strict.maybe_test Strict.child_written Strict.element_end Strict.elements_written Strict.table_written Strict.array_written Strict.array_test Shapes.offset_count Shapes.field_end Strict.fields_finished Strict.fields_written Strict.offsets_written Strict.structure_written Shapes.sizes_from Strict.structure_test Strict.entry_test Strict.typed_written Strict.variant_written Strict.variant_test Strict.test_over Strict.test_of Strict.is_written Calls.frame_of Calls.frame_reading IsWritten.unwritten IsWritten.written_as IsWritten.written_refusal
frames_hold = refl
