-- The listing computed: the input of document 01, and inputs that tell the rules apart. Assumes nothing.
use mathlib.Core.Path.{◌≡◌, refl}
use mathlib.Core.List.{List, [], ◌∷◌, map}
use Prim.Native.Nat.{ℕ}
use Rattle.meaning.specs.Numbers
use Rattle.meaning.specs.Padding
use Rattle.meaning.specs.Offsets
use Rattle.meaning.specs.Texts
use Rattle.meaning.specs.Depths
use Rattle.meaning.specs.Types
use Rattle.meaning.specs.TypeText
use Rattle.meaning.specs.Outcome
use Rattle.meaning.specs.Reading
use Rattle.meaning.specs.Calls
use Rattle.numerals.specs.Hexadecimal.{digit, before, bytes_of, bytes_behind}
use Rattle.numerals.specs.Decimals.{digits, numeral}
use Rattle.lines.specs.Lines.{lines_from, last_line, lines}
use Rattle.lines.specs.Frames.{frame_answer}
use Rattle.listing.specs.Listing.{answer, printed, next_number, listed_from, listed_lines, listing}

-- an input and what is printed
pub data Row : Type 0 where
  lists : List ℕ → List ℕ → Row

abbrev pub table : List Row
table =
    -- document 01's input
    lists (97 ∷ 109 ∷ 110 ∷ 10 ∷ 100 ∷ 55 ∷ 48 ∷ 48 ∷ 48 ∷ 48 ∷ 48 ∷ 48 ∷ 48 ∷ 50 ∷ 48 ∷ 50 ∷ 48 ∷ 52 ∷ 10 ∷ 48 ∷ 48 ∷ 10 ∷ 48 ∷ 50 ∷ 10 ∷ 10 ∷ 122 ∷ 122 ∷ 10 ∷ []) (49 ∷ 32 ∷ 48 ∷ 32 ∷ 55 ∷ 32 ∷ 55 ∷ 10 ∷ 50 ∷ 32 ∷ 48 ∷ 32 ∷ 49 ∷ 32 ∷ 51 ∷ 10 ∷ 51 ∷ 32 ∷ 51 ∷ 32 ∷ 48 ∷ 32 ∷ 48 ∷ 10 ∷ 52 ∷ 32 ∷ 48 ∷ 32 ∷ 48 ∷ 32 ∷ 50 ∷ 10 ∷ 53 ∷ 32 ∷ 49 ∷ 56 ∷ 32 ∷ 48 ∷ 32 ∷ 48 ∷ 10 ∷ []) ∷
    -- no input
    lists [] [] ∷
    -- the type alone, with and without its line end
    lists (97 ∷ 109 ∷ 110 ∷ 10 ∷ []) [] ∷
    lists (97 ∷ 109 ∷ 110 ∷ []) [] ∷
    -- a refused type, and a CR in it
    lists (97 ∷ 109 ∷ 10 ∷ 48 ∷ 48 ∷ 10 ∷ 122 ∷ 122 ∷ 10 ∷ 10 ∷ 48 ∷ 10 ∷ []) (49 ∷ 32 ∷ 49 ∷ 32 ∷ 48 ∷ 32 ∷ 48 ∷ 10 ∷ 50 ∷ 32 ∷ 49 ∷ 32 ∷ 48 ∷ 32 ∷ 48 ∷ 10 ∷ 51 ∷ 32 ∷ 49 ∷ 32 ∷ 48 ∷ 32 ∷ 48 ∷ 10 ∷ 52 ∷ 32 ∷ 49 ∷ 32 ∷ 48 ∷ 32 ∷ 48 ∷ 10 ∷ []) ∷
    lists (97 ∷ 109 ∷ 110 ∷ 13 ∷ 10 ∷ 48 ∷ 48 ∷ 10 ∷ []) (49 ∷ 32 ∷ 49 ∷ 32 ∷ 48 ∷ 32 ∷ 48 ∷ 10 ∷ []) ∷
    lists (10 ∷ 48 ∷ 48 ∷ 10 ∷ 10 ∷ []) (49 ∷ 32 ∷ 49 ∷ 32 ∷ 48 ∷ 32 ∷ 48 ∷ 10 ∷ 50 ∷ 32 ∷ 49 ∷ 32 ∷ 48 ∷ 32 ∷ 48 ∷ 10 ∷ []) ∷
    -- empty lines
    lists (115 ∷ 10 ∷ 10 ∷ 10 ∷ []) (49 ∷ 32 ∷ 48 ∷ 32 ∷ 48 ∷ 32 ∷ 49 ∷ 10 ∷ 50 ∷ 32 ∷ 48 ∷ 32 ∷ 48 ∷ 32 ∷ 49 ∷ 10 ∷ []) ∷
    -- odd digits, a CR, blanks
    lists (121 ∷ 10 ∷ 48 ∷ 10 ∷ 48 ∷ 55 ∷ 48 ∷ 10 ∷ 48 ∷ 55 ∷ 13 ∷ 10 ∷ 48 ∷ 55 ∷ 32 ∷ 10 ∷ 48 ∷ 32 ∷ 55 ∷ 10 ∷ 48 ∷ 55 ∷ 10 ∷ []) (49 ∷ 32 ∷ 49 ∷ 56 ∷ 32 ∷ 48 ∷ 32 ∷ 48 ∷ 10 ∷ 50 ∷ 32 ∷ 49 ∷ 56 ∷ 32 ∷ 48 ∷ 32 ∷ 48 ∷ 10 ∷ 51 ∷ 32 ∷ 49 ∷ 56 ∷ 32 ∷ 48 ∷ 32 ∷ 48 ∷ 10 ∷ 52 ∷ 32 ∷ 49 ∷ 56 ∷ 32 ∷ 48 ∷ 32 ∷ 48 ∷ 10 ∷ 53 ∷ 32 ∷ 49 ∷ 56 ∷ 32 ∷ 48 ∷ 32 ∷ 48 ∷ 10 ∷ 54 ∷ 32 ∷ 48 ∷ 32 ∷ 49 ∷ 32 ∷ 49 ∷ 10 ∷ []) ∷
    -- both cases, and the bytes beside the digits
    lists (121 ∷ 10 ∷ 102 ∷ 70 ∷ 10 ∷ 70 ∷ 102 ∷ 10 ∷ 48 ∷ 47 ∷ 10 ∷ 48 ∷ 58 ∷ 10 ∷ 48 ∷ 64 ∷ 10 ∷ 48 ∷ 71 ∷ 10 ∷ 48 ∷ 96 ∷ 10 ∷ 48 ∷ 103 ∷ 10 ∷ []) (49 ∷ 32 ∷ 48 ∷ 32 ∷ 49 ∷ 32 ∷ 49 ∷ 10 ∷ 50 ∷ 32 ∷ 48 ∷ 32 ∷ 49 ∷ 32 ∷ 49 ∷ 10 ∷ 51 ∷ 32 ∷ 49 ∷ 56 ∷ 32 ∷ 48 ∷ 32 ∷ 48 ∷ 10 ∷ 52 ∷ 32 ∷ 49 ∷ 56 ∷ 32 ∷ 48 ∷ 32 ∷ 48 ∷ 10 ∷ 53 ∷ 32 ∷ 49 ∷ 56 ∷ 32 ∷ 48 ∷ 32 ∷ 48 ∷ 10 ∷ 54 ∷ 32 ∷ 49 ∷ 56 ∷ 32 ∷ 48 ∷ 32 ∷ 48 ∷ 10 ∷ 55 ∷ 32 ∷ 49 ∷ 56 ∷ 32 ∷ 48 ∷ 32 ∷ 48 ∷ 10 ∷ 56 ∷ 32 ∷ 49 ∷ 56 ∷ 32 ∷ 48 ∷ 32 ∷ 48 ∷ 10 ∷ []) ∷
    -- a last line without a line end
    lists (121 ∷ 10 ∷ 48 ∷ 55 ∷ 10 ∷ 48 ∷ 56 ∷ []) (49 ∷ 32 ∷ 48 ∷ 32 ∷ 49 ∷ 32 ∷ 49 ∷ 10 ∷ 50 ∷ 32 ∷ 48 ∷ 32 ∷ 49 ∷ 32 ∷ 49 ∷ 10 ∷ []) ∷
    lists (121 ∷ 10 ∷ 48 ∷ 55 ∷ 10 ∷ 56 ∷ []) (49 ∷ 32 ∷ 48 ∷ 32 ∷ 49 ∷ 32 ∷ 49 ∷ 10 ∷ 50 ∷ 32 ∷ 49 ∷ 56 ∷ 32 ∷ 48 ∷ 32 ∷ 48 ∷ 10 ∷ []) ∷
    -- a number of two digits
    lists (121 ∷ 10 ∷ 10 ∷ 10 ∷ 10 ∷ 10 ∷ 10 ∷ 10 ∷ 10 ∷ 10 ∷ 10 ∷ 10 ∷ 10 ∷ []) (49 ∷ 32 ∷ 51 ∷ 32 ∷ 48 ∷ 32 ∷ 48 ∷ 10 ∷ 50 ∷ 32 ∷ 51 ∷ 32 ∷ 48 ∷ 32 ∷ 48 ∷ 10 ∷ 51 ∷ 32 ∷ 51 ∷ 32 ∷ 48 ∷ 32 ∷ 48 ∷ 10 ∷ 52 ∷ 32 ∷ 51 ∷ 32 ∷ 48 ∷ 32 ∷ 48 ∷ 10 ∷ 53 ∷ 32 ∷ 51 ∷ 32 ∷ 48 ∷ 32 ∷ 48 ∷ 10 ∷ 54 ∷ 32 ∷ 51 ∷ 32 ∷ 48 ∷ 32 ∷ 48 ∷ 10 ∷ 55 ∷ 32 ∷ 51 ∷ 32 ∷ 48 ∷ 32 ∷ 48 ∷ 10 ∷ 56 ∷ 32 ∷ 51 ∷ 32 ∷ 48 ∷ 32 ∷ 48 ∷ 10 ∷ 57 ∷ 32 ∷ 51 ∷ 32 ∷ 48 ∷ 32 ∷ 48 ∷ 10 ∷ 49 ∷ 48 ∷ 32 ∷ 51 ∷ 32 ∷ 48 ∷ 32 ∷ 48 ∷ 10 ∷ 49 ∷ 49 ∷ 32 ∷ 51 ∷ 32 ∷ 48 ∷ 32 ∷ 48 ∷ 10 ∷ []) ∷
    []

abbrev pub got : Row → List ℕ
got (lists input text) = listing input

abbrev pub want : Row → List ℕ
want (lists input text) = text

pub listings_hold : map got table ≡ map want table
unfolding lines_from last_line lines digit before bytes_of bytes_behind frame_answer answer digits numeral printed next_number listed_from listed_lines listing Numbers.bytes Numbers.value Padding.padding Padding.leading_zeros Offsets.first_width Offsets.encoded_width Offsets.bare_width Offsets.back_table Offsets.entries Offsets.none_above Offsets.table_from Offsets.table_of Offsets.ends_of Offsets.table_stands Texts.without_final_nul Texts.no_nul Texts.following Texts.after_byte Texts.utf8_from Texts.utf8 Texts.text_refusal Depths.depth_refusal Types.alignment Types.fixed Types.fixed_size TypeText.basic_among TypeText.made TypeText.ended_by TypeText.basic_tree TypeText.entry_by TypeText.entry_begun TypeText.array_begun TypeText.type_begun TypeText.fields_begun TypeText.type_within TypeText.first_type TypeText.nothing_behind TypeText.type_of Outcome.chain Outcome.unused Outcome.enclosed Reading.child Reading.within Reading.padding_of Reading.text_as Reading.read_text Reading.read_bool Reading.number_in Reading.end_byte Reading.present_in Reading.maybe_in Reading.elements Reading.elements_to Reading.tabled Reading.array_body Reading.array_in Reading.child_step Reading.offset_stands Reading.field_offset Reading.padded Reading.last_nul Reading.variant_value Reading.variant_type Reading.variant_typed Reading.variant_body Reading.variant_in Reading.pad Reading.read_number Reading.read_basic Reading.read_maybe Reading.read_array Reading.end_padding Reading.fields_in Reading.structure_body Reading.structure_in Reading.read_structure Reading.value_from Reading.fixed_key Reading.value_before Reading.key_to Reading.text_key Reading.entry_from Reading.read_entry Reading.entry_step Reading.read_variant Reading.read_tree Reading.reading Calls.frame_of Calls.frame_reading Calls.sized Calls.size
listings_hold = refl
