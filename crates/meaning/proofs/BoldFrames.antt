-- Document 01's bold frames, reading and writing, and more worked frames that tell its readings apart: one table, and one computed test.
-- Assumes nothing.
use mathlib.Core.Path.{◌≡◌, refl}
use mathlib.Core.List.{List, [], ◌∷◌, ◌++◌, map}
use mathlib.Core.Option.{none, some}
use mathlib.Core.Bool.{Bool, true, false}
use Prim.Native.Nat.{ℕ, zero, suc, ◌+◌}
use lib.ListN.{length, replicate, drop}
use Rattle.meaning.specs.Numbers
use Rattle.meaning.specs.Padding
use Rattle.meaning.specs.Offsets
use Rattle.meaning.specs.Texts
use Rattle.meaning.specs.Depths
use Rattle.meaning.specs.Depths.{none_open}
use Rattle.meaning.specs.Types
use Rattle.meaning.specs.Types.{byte, int16, uint16, uint32, int64, string, signature, bool, number, text, Tree, Fields, basic, variant, maybe, array, dictionary, structure, last, next}
use Rattle.meaning.specs.TypeText
use Rattle.meaning.specs.TypeText.{type_text}
use Rattle.meaning.specs.Events
use Rattle.meaning.specs.Values.{Value}
use Rattle.meaning.specs.Written
use Rattle.meaning.specs.Written.{fits, bit, piece, written}
use Rattle.meaning.specs.Outcome
use Rattle.meaning.specs.Reading
use Rattle.meaning.specs.Calls
use Rattle.meaning.specs.Calls.{frame_reading, read, read_slice}

-- the types of the table
abbrev bool_type : Tree
bool_type = basic bool

abbrev byte_type : Tree
byte_type = basic (number byte)

abbrev int16_type : Tree
int16_type = basic (number int16)

abbrev uint16_type : Tree
uint16_type = basic (number uint16)

abbrev uint32_type : Tree
uint32_type = basic (number uint32)

abbrev int64_type : Tree
int64_type = basic (number int64)

abbrev string_type : Tree
string_type = basic (text string)

abbrev readings : Tree
readings = array (maybe int16_type)

abbrev byte_and_reading : Tree
byte_and_reading = structure (next byte_type (last (maybe int16_type)))

abbrev strings : Tree
strings = array string_type

abbrev maybe_string : Tree
maybe_string = maybe string_type

abbrev string_to_byte : Tree
string_to_byte = dictionary (text string) byte_type

abbrev nested : (Tree → Tree) → ℕ → Tree → Tree
nested f zero t = t
nested f (suc k) t = f (nested f k t)

-- one string more than this
abbrev many_strings : ℕ → Fields
many_strings zero = last string_type
many_strings (suc k) = next string_type (many_strings k)

abbrev up_to : ℕ → ℕ → List ℕ
up_to a zero = []
up_to a (suc k) = a ∷ up_to (a + 1) k

-- so many maybes that are present, at place 0
abbrev presents : ℕ → List ℕ → List ℕ
presents zero es = es
presents (suc k) es = 109 ∷ 0 ∷ 0 ∷ presents k es

-- a value in so many maybes, arrays or structures
abbrev in_maybes : (k : ℕ) → ℕ → Value 1 (nested maybe k byte_type)
in_maybes zero v = v
in_maybes (suc k) v = some (in_maybes k v)

abbrev in_arrays : (k : ℕ) → ℕ → Value 1 (nested array k byte_type)
in_arrays zero v = v
in_arrays (suc k) v = in_arrays k v ∷ []

abbrev alone : Tree → Tree
alone t = structure (last t)

abbrev in_structures : (k : ℕ) → ℕ → Value 1 (nested alone k byte_type)
in_structures zero v = v
in_structures (suc k) v = in_structures k v

-- A type, a position, a frame, and the answer: refusal, bytes used, number of events, place of the refusal; and the events.
-- Or a type, a value that fits, and its bytes. Both also with numbers big-endian. Or a type, a value, and whether it fits.
pub data Row : Type 0 where
  reads : Tree → ℕ → List ℕ → List ℕ → List ℕ → Row
  reads_big : Tree → List ℕ → List ℕ → List ℕ → Row
  writes : (t : Tree) → Value 1 t → List ℕ → Row
  writes_big : (t : Tree) → Value 1 t → List ℕ → Row
  judges : (t : Tree) → Value 1 t → Bool → Row

abbrev pub table : List Row
table =
    -- document 01's worked frames
    reads string_type 0 [] (0 ∷ 0 ∷ 1 ∷ 0 ∷ []) (115 ∷ 0 ∷ 0 ∷ []) ∷
    reads string_type 0 (0x61 ∷ 0x00 ∷ 0x62 ∷ []) (5 ∷ 0 ∷ 0 ∷ 0 ∷ []) [] ∷
    reads readings 0 (0xd7 ∷ 0x00 ∷ 0x00 ∷ 0x00 ∷ 0x02 ∷ 0x02 ∷ 0x04 ∷ []) (0 ∷ 7 ∷ 7 ∷ 0 ∷ []) (97 ∷ 0 ∷ 0 ∷ 109 ∷ 0 ∷ 0 ∷ 110 ∷ 0 ∷ 215 ∷ 78 ∷ 2 ∷ 0 ∷ 109 ∷ 2 ∷ 0 ∷ 110 ∷ 2 ∷ 0 ∷ 41 ∷ 7 ∷ 0 ∷ []) ∷
    writes readings (some 215 ∷ none ∷ some 0 ∷ []) (0xd7 ∷ 0x00 ∷ 0x00 ∷ 0x00 ∷ 0x02 ∷ 0x02 ∷ 0x04 ∷ []) ∷
    reads readings 0 (0x00 ∷ 0x00 ∷ 0x00 ∷ 0x00 ∷ 0x02 ∷ []) (0 ∷ 5 ∷ 6 ∷ 0 ∷ []) (97 ∷ 0 ∷ 0 ∷ 78 ∷ 0 ∷ 0 ∷ 78 ∷ 0 ∷ 0 ∷ 109 ∷ 0 ∷ 0 ∷ 110 ∷ 0 ∷ 0 ∷ 41 ∷ 5 ∷ 0 ∷ []) ∷
    writes readings (none ∷ none ∷ some 0 ∷ []) (0x00 ∷ 0x00 ∷ 0x00 ∷ 0x00 ∷ 0x02 ∷ []) ∷
    reads readings 0 (0x00 ∷ 0x00 ∷ 0x00 ∷ []) (0 ∷ 3 ∷ 5 ∷ 0 ∷ []) (97 ∷ 0 ∷ 0 ∷ 78 ∷ 0 ∷ 0 ∷ 78 ∷ 0 ∷ 0 ∷ 78 ∷ 0 ∷ 0 ∷ 41 ∷ 3 ∷ 0 ∷ []) ∷
    writes readings (none ∷ none ∷ none ∷ []) (0x00 ∷ 0x00 ∷ 0x00 ∷ []) ∷
    reads byte_and_reading 0 (0x07 ∷ 0x00 ∷ []) (0 ∷ 2 ∷ 4 ∷ 0 ∷ []) (40 ∷ 0 ∷ 0 ∷ 121 ∷ 0 ∷ 7 ∷ 78 ∷ 2 ∷ 0 ∷ 41 ∷ 2 ∷ 0 ∷ []) ∷
    writes byte_and_reading (7, none) (0x07 ∷ 0x00 ∷ []) ∷
    reads byte_and_reading 0 (0x07 ∷ []) (3 ∷ 0 ∷ 0 ∷ 1 ∷ []) [] ∷
    reads byte_and_reading 0 (0x07 ∷ 0x01 ∷ []) (4 ∷ 0 ∷ 0 ∷ 1 ∷ []) [] ∷
    reads byte_and_reading 0 (0x07 ∷ 0x00 ∷ 0x05 ∷ 0x00 ∷ []) (0 ∷ 4 ∷ 5 ∷ 0 ∷ []) (40 ∷ 0 ∷ 0 ∷ 121 ∷ 0 ∷ 7 ∷ 109 ∷ 2 ∷ 0 ∷ 110 ∷ 2 ∷ 5 ∷ 41 ∷ 4 ∷ 0 ∷ []) ∷
    writes byte_and_reading (7, some 5) (0x07 ∷ 0x00 ∷ 0x05 ∷ 0x00 ∷ []) ∷
    reads strings 0 (0x01 ∷ []) (0 ∷ 0 ∷ 2 ∷ 0 ∷ []) (97 ∷ 0 ∷ 0 ∷ 41 ∷ 0 ∷ 0 ∷ []) ∷
    reads strings 0 (0x02 ∷ []) (3 ∷ 0 ∷ 0 ∷ 0 ∷ []) [] ∷
    reads string_to_byte 0 (0x6b ∷ 0x00 ∷ 0x09 ∷ 0x02 ∷ 0x04 ∷ []) (0 ∷ 5 ∷ 4 ∷ 0 ∷ []) (123 ∷ 0 ∷ 0 ∷ 115 ∷ 0 ∷ 1 ∷ 121 ∷ 2 ∷ 9 ∷ 41 ∷ 5 ∷ 0 ∷ []) ∷
    writes string_to_byte ((107 ∷ [], 9) ∷ []) (0x6b ∷ 0x00 ∷ 0x09 ∷ 0x02 ∷ 0x04 ∷ []) ∷
    reads variant 0 (0x07 ∷ 0x00 ∷ 0x00 ∷ 0x00 ∷ 0x00 ∷ 0x75 ∷ []) (0 ∷ 6 ∷ 4 ∷ 0 ∷ []) (118 ∷ 0 ∷ 0 ∷ 103 ∷ 5 ∷ 1 ∷ 117 ∷ 0 ∷ 7 ∷ 41 ∷ 6 ∷ 0 ∷ []) ∷
    writes variant (uint32_type, 7) (0x07 ∷ 0x00 ∷ 0x00 ∷ 0x00 ∷ 0x00 ∷ 0x75 ∷ []) ∷
    reads variant 0 (0x75 ∷ []) (8 ∷ 0 ∷ 0 ∷ 0 ∷ []) [] ∷
    reads maybe_string 0 (0x61 ∷ 0x00 ∷ 0x00 ∷ []) (0 ∷ 3 ∷ 2 ∷ 0 ∷ []) (109 ∷ 0 ∷ 0 ∷ 115 ∷ 0 ∷ 1 ∷ []) ∷
    writes maybe_string (some (0x61 ∷ [])) (0x61 ∷ 0x00 ∷ 0x00 ∷ []) ∷
    reads maybe_string 0 (0x61 ∷ 0x00 ∷ 0x01 ∷ []) (7 ∷ 0 ∷ 0 ∷ 2 ∷ []) [] ∷
    reads (nested array 32 byte_type) 0 (up_to 0 31) (0 ∷ 31 ∷ 64 ∷ 0 ∷ []) (97 ∷ 0 ∷ 0 ∷ 97 ∷ 0 ∷ 0 ∷ 97 ∷ 0 ∷ 0 ∷ 97 ∷ 0 ∷ 0 ∷ 97 ∷ 0 ∷ 0 ∷ 97 ∷ 0 ∷ 0 ∷ 97 ∷ 0 ∷ 0 ∷ 97 ∷ 0 ∷ 0 ∷ 97 ∷ 0 ∷ 0 ∷ 97 ∷ 0 ∷ 0 ∷ 97 ∷ 0 ∷ 0 ∷ 97 ∷ 0 ∷ 0 ∷ 97 ∷ 0 ∷ 0 ∷ 97 ∷ 0 ∷ 0 ∷ 97 ∷ 0 ∷ 0 ∷ 97 ∷ 0 ∷ 0 ∷ 97 ∷ 0 ∷ 0 ∷ 97 ∷ 0 ∷ 0 ∷ 97 ∷ 0 ∷ 0 ∷ 97 ∷ 0 ∷ 0 ∷ 97 ∷ 0 ∷ 0 ∷ 97 ∷ 0 ∷ 0 ∷ 97 ∷ 0 ∷ 0 ∷ 97 ∷ 0 ∷ 0 ∷ 97 ∷ 0 ∷ 0 ∷ 97 ∷ 0 ∷ 0 ∷ 97 ∷ 0 ∷ 0 ∷ 97 ∷ 0 ∷ 0 ∷ 97 ∷ 0 ∷ 0 ∷ 97 ∷ 0 ∷ 0 ∷ 97 ∷ 0 ∷ 0 ∷ 97 ∷ 0 ∷ 0 ∷ 41 ∷ 0 ∷ 0 ∷ 41 ∷ 1 ∷ 0 ∷ 41 ∷ 2 ∷ 0 ∷ 41 ∷ 3 ∷ 0 ∷ 41 ∷ 4 ∷ 0 ∷ 41 ∷ 5 ∷ 0 ∷ 41 ∷ 6 ∷ 0 ∷ 41 ∷ 7 ∷ 0 ∷ 41 ∷ 8 ∷ 0 ∷ 41 ∷ 9 ∷ 0 ∷ 41 ∷ 10 ∷ 0 ∷ 41 ∷ 11 ∷ 0 ∷ 41 ∷ 12 ∷ 0 ∷ 41 ∷ 13 ∷ 0 ∷ 41 ∷ 14 ∷ 0 ∷ 41 ∷ 15 ∷ 0 ∷ 41 ∷ 16 ∷ 0 ∷ 41 ∷ 17 ∷ 0 ∷ 41 ∷ 18 ∷ 0 ∷ 41 ∷ 19 ∷ 0 ∷ 41 ∷ 20 ∷ 0 ∷ 41 ∷ 21 ∷ 0 ∷ 41 ∷ 22 ∷ 0 ∷ 41 ∷ 23 ∷ 0 ∷ 41 ∷ 24 ∷ 0 ∷ 41 ∷ 25 ∷ 0 ∷ 41 ∷ 26 ∷ 0 ∷ 41 ∷ 27 ∷ 0 ∷ 41 ∷ 28 ∷ 0 ∷ 41 ∷ 29 ∷ 0 ∷ 41 ∷ 30 ∷ 0 ∷ 41 ∷ 31 ∷ 0 ∷ []) ∷
    reads (nested array 33 byte_type) 0 (up_to 0 32) (11 ∷ 0 ∷ 0 ∷ 0 ∷ []) [] ∷
    reads (nested maybe 64 byte_type) 0 (5 ∷ replicate 63 0) (0 ∷ 64 ∷ 65 ∷ 0 ∷ []) (109 ∷ 0 ∷ 0 ∷ 109 ∷ 0 ∷ 0 ∷ 109 ∷ 0 ∷ 0 ∷ 109 ∷ 0 ∷ 0 ∷ 109 ∷ 0 ∷ 0 ∷ 109 ∷ 0 ∷ 0 ∷ 109 ∷ 0 ∷ 0 ∷ 109 ∷ 0 ∷ 0 ∷ 109 ∷ 0 ∷ 0 ∷ 109 ∷ 0 ∷ 0 ∷ 109 ∷ 0 ∷ 0 ∷ 109 ∷ 0 ∷ 0 ∷ 109 ∷ 0 ∷ 0 ∷ 109 ∷ 0 ∷ 0 ∷ 109 ∷ 0 ∷ 0 ∷ 109 ∷ 0 ∷ 0 ∷ 109 ∷ 0 ∷ 0 ∷ 109 ∷ 0 ∷ 0 ∷ 109 ∷ 0 ∷ 0 ∷ 109 ∷ 0 ∷ 0 ∷ 109 ∷ 0 ∷ 0 ∷ 109 ∷ 0 ∷ 0 ∷ 109 ∷ 0 ∷ 0 ∷ 109 ∷ 0 ∷ 0 ∷ 109 ∷ 0 ∷ 0 ∷ 109 ∷ 0 ∷ 0 ∷ 109 ∷ 0 ∷ 0 ∷ 109 ∷ 0 ∷ 0 ∷ 109 ∷ 0 ∷ 0 ∷ 109 ∷ 0 ∷ 0 ∷ 109 ∷ 0 ∷ 0 ∷ 109 ∷ 0 ∷ 0 ∷ 109 ∷ 0 ∷ 0 ∷ 109 ∷ 0 ∷ 0 ∷ 109 ∷ 0 ∷ 0 ∷ 109 ∷ 0 ∷ 0 ∷ 109 ∷ 0 ∷ 0 ∷ 109 ∷ 0 ∷ 0 ∷ 109 ∷ 0 ∷ 0 ∷ 109 ∷ 0 ∷ 0 ∷ 109 ∷ 0 ∷ 0 ∷ 109 ∷ 0 ∷ 0 ∷ 109 ∷ 0 ∷ 0 ∷ 109 ∷ 0 ∷ 0 ∷ 109 ∷ 0 ∷ 0 ∷ 109 ∷ 0 ∷ 0 ∷ 109 ∷ 0 ∷ 0 ∷ 109 ∷ 0 ∷ 0 ∷ 109 ∷ 0 ∷ 0 ∷ 109 ∷ 0 ∷ 0 ∷ 109 ∷ 0 ∷ 0 ∷ 109 ∷ 0 ∷ 0 ∷ 109 ∷ 0 ∷ 0 ∷ 109 ∷ 0 ∷ 0 ∷ 109 ∷ 0 ∷ 0 ∷ 109 ∷ 0 ∷ 0 ∷ 109 ∷ 0 ∷ 0 ∷ 109 ∷ 0 ∷ 0 ∷ 109 ∷ 0 ∷ 0 ∷ 109 ∷ 0 ∷ 0 ∷ 109 ∷ 0 ∷ 0 ∷ 109 ∷ 0 ∷ 0 ∷ 109 ∷ 0 ∷ 0 ∷ 109 ∷ 0 ∷ 0 ∷ 121 ∷ 0 ∷ 5 ∷ []) ∷
    reads (nested maybe 65 byte_type) 0 (5 ∷ replicate 64 0) (12 ∷ 0 ∷ 0 ∷ 0 ∷ []) [] ∷
    writes strings (replicate 253 0x61 ∷ []) (replicate 253 0x61 ++ (0 ∷ 254 ∷ [])) ∷
    writes strings (replicate 254 0x61 ∷ []) (replicate 254 0x61 ++ (0 ∷ 255 ∷ 0 ∷ [])) ∷
    -- what a failed child has used, and the end padding that goes first
    reads (structure (next uint16_type (last (structure (next bool_type (last (structure (next byte_type (last bool_type))))))))) 0 (0x05 ∷ 0x00 ∷ 0x00 ∷ 0xe7 ∷ []) (3 ∷ 0 ∷ 0 ∷ 4 ∷ []) [] ∷
    reads (structure (next int64_type (next byte_type (last uint16_type)))) 0 (0x00 ∷ 0x00 ∷ 0x00 ∷ 0x00 ∷ 0x00 ∷ 0x00 ∷ 0x00 ∷ 0x00 ∷ 0x01 ∷ 0x05 ∷ 0x05 ∷ []) (3 ∷ 0 ∷ 0 ∷ 11 ∷ []) [] ∷
    -- a table with some bytes left, fewer than an offset is wide
    reads (structure (many_strings 129)) 0 (replicate 257 0) (3 ∷ 0 ∷ 0 ∷ 0 ∷ []) [] ∷
    -- a dictionary's key: its text is judged unless it ends past the body
    reads string_to_byte 0 (0x00 ∷ 0x02 ∷ 0x02 ∷ []) (5 ∷ 0 ∷ 0 ∷ 0 ∷ []) [] ∷
    reads string_to_byte 0 (0x00 ∷ 0x03 ∷ 0x02 ∷ []) (3 ∷ 0 ∷ 0 ∷ 0 ∷ []) [] ∷
    -- a width above the table's end, leading padding counted
    reads (structure (next variant (last string_type))) 6 (0x00 ∷ 0x00 ∷ []) (8 ∷ 0 ∷ 0 ∷ 2 ∷ []) [] ∷
    reads (structure (next variant (last string_type))) 0 [] (3 ∷ 0 ∷ 0 ∷ 0 ∷ []) [] ∷
    -- offsets need not rise, and the next element starts where reading stopped
    reads (array (maybe byte_type)) 0 (0x02 ∷ 0x00 ∷ 0x00 ∷ 0x02 ∷ 0x01 ∷ 0x03 ∷ []) (0 ∷ 5 ∷ 7 ∷ 0 ∷ []) (97 ∷ 0 ∷ 0 ∷ 109 ∷ 0 ∷ 0 ∷ 121 ∷ 0 ∷ 2 ∷ 78 ∷ 1 ∷ 0 ∷ 109 ∷ 1 ∷ 0 ∷ 121 ∷ 1 ∷ 0 ∷ 41 ∷ 5 ∷ 0 ∷ []) ∷
    reads (array (maybe byte_type)) 0 (0x05 ∷ 0x06 ∷ 0x07 ∷ 0x02 ∷ 0x03 ∷ []) (0 ∷ 4 ∷ 6 ∷ 0 ∷ []) (97 ∷ 0 ∷ 0 ∷ 109 ∷ 0 ∷ 0 ∷ 121 ∷ 0 ∷ 5 ∷ 109 ∷ 1 ∷ 0 ∷ 121 ∷ 1 ∷ 6 ∷ 41 ∷ 4 ∷ 0 ∷ []) ∷
    -- an entry's padding is judged over the dictionary's whole part
    reads (dictionary (number uint16) (basic (text signature))) 0 (0x00 ∷ 0x00 ∷ 0x00 ∷ 0x03 ∷ 0x00 ∷ 0x03 ∷ []) (4 ∷ 0 ∷ 0 ∷ 3 ∷ []) [] ∷
    -- a key's width is of the entry's length as its padding leaves it: 255 bytes behind 1
    reads (dictionary (text string) int16_type) 0 ((0x00 ∷ 0x00 ∷ 0x03 ∷ 0x00 ∷ 0x01 ∷ 0x00 ∷ []) ++ (replicate 251 0x6b ++ (0x00 ∷ 0x05 ∷ 0x00 ∷ 0xfc ∷ 0x05 ∷ 0x00 ∷ 0x05 ∷ 0x01 ∷ []))) (0 ∷ 265 ∷ 6 ∷ 0 ∷ []) (123 ∷ 0 ∷ 0 ∷ 115 ∷ 0 ∷ 0 ∷ 110 ∷ 2 ∷ 3 ∷ 115 ∷ 6 ∷ 251 ∷ 110 ∷ 258 ∷ 5 ∷ 41 ∷ 265 ∷ 0 ∷ []) ∷
    -- a maybe's closing byte is the one where the child stopped; a fixed child may leave bytes
    reads (maybe strings) 0 (0x01 ∷ 0x00 ∷ []) (7 ∷ 0 ∷ 0 ∷ 0 ∷ []) [] ∷
    reads (maybe byte_type) 0 (0x05 ∷ 0x06 ∷ []) (0 ∷ 1 ∷ 2 ∷ 0 ∷ []) (109 ∷ 0 ∷ 0 ∷ 121 ∷ 0 ∷ 5 ∷ []) ∷
    -- 5 comes before 6
    reads string_type 0 (0xff ∷ 0x00 ∷ 0x62 ∷ []) (5 ∷ 0 ∷ 0 ∷ 0 ∷ []) [] ∷
    -- a variant's signature, its type and its depth
    reads variant 0 (0x00 ∷ 0xff ∷ []) (6 ∷ 0 ∷ 0 ∷ 1 ∷ []) [] ∷
    reads variant 0 (0x00 ∷ 0x68 ∷ []) (9 ∷ 0 ∷ 0 ∷ 1 ∷ []) [] ∷
    reads variant 0 (0x05 ∷ 0x00 ∷ 0x79 ∷ 0x00 ∷ []) (9 ∷ 0 ∷ 0 ∷ 2 ∷ []) [] ∷
    -- depth is found when it is reached
    reads (nested array 33 byte_type) 0 [] (0 ∷ 0 ∷ 2 ∷ 0 ∷ []) (97 ∷ 0 ∷ 0 ∷ 41 ∷ 0 ∷ 0 ∷ []) ∷
    -- a nothing opens nothing, also inside 64 open containers
    reads (nested maybe 65 byte_type) 0 (replicate 64 0) (0 ∷ 64 ∷ 65 ∷ 0 ∷ []) (presents 64 (78 ∷ 0 ∷ 0 ∷ [])) ∷
    -- a number that is cut is no number
    reads int16_type 0 (0x05 ∷ []) (3 ∷ 0 ∷ 0 ∷ 0 ∷ []) [] ∷
    reads (structure (next byte_type (last int16_type))) 0 (0x01 ∷ 0x00 ∷ 0x05 ∷ []) (3 ∷ 0 ∷ 0 ∷ 2 ∷ []) [] ∷
    reads bool_type 0 [] (3 ∷ 0 ∷ 0 ∷ 0 ∷ []) [] ∷
    reads bool_type 0 (0x02 ∷ []) (0 ∷ 1 ∷ 1 ∷ 0 ∷ []) (98 ∷ 0 ∷ 1 ∷ []) ∷
    -- the place of a refusal. An array's table that starts past the part, has a leftover piece, or an entry above its start: the array
    reads (structure (next byte_type (last strings))) 0 (0x07 ∷ 0x05 ∷ []) (3 ∷ 0 ∷ 0 ∷ 1 ∷ []) [] ∷
    reads (structure (next byte_type (last readings))) 0 (0x07 ∷ 0x00 ∷ 0x05 ∷ []) (3 ∷ 0 ∷ 0 ∷ 2 ∷ []) [] ∷
    reads (structure (next byte_type (last strings))) 0 (0x07 ∷ (replicate 254 0 ++ (0xff ∷ 0x00 ∷ []))) (3 ∷ 0 ∷ 0 ∷ 1 ∷ []) [] ∷
    reads (structure (next byte_type (last strings))) 0 (0x07 ∷ 0x00 ∷ 0x00 ∷ 0x03 ∷ 0x02 ∷ []) (3 ∷ 0 ∷ 0 ∷ 1 ∷ []) [] ∷
    -- a structure's width above its end, its table's end before its start, its short piece: the structure
    reads (structure (next byte_type (last (structure (next string_type (last string_type)))))) 0 (0x07 ∷ []) (3 ∷ 0 ∷ 0 ∷ 1 ∷ []) [] ∷
    reads (structure (next string_type (next string_type (last int64_type)))) 6 (0x00 ∷ 0x00 ∷ []) (3 ∷ 0 ∷ 0 ∷ 2 ∷ []) [] ∷
    reads (structure (next byte_type (last (structure (many_strings 129))))) 0 (0x07 ∷ replicate 257 0) (3 ∷ 0 ∷ 0 ∷ 1 ∷ []) [] ∷
    -- the end of an element before its place, of a field past the part: where it was to begin
    reads strings 0 (0x61 ∷ 0x00 ∷ 0x62 ∷ 0x00 ∷ 0x02 ∷ 0x01 ∷ 0x04 ∷ []) (3 ∷ 0 ∷ 0 ∷ 2 ∷ []) [] ∷
    reads (structure (next byte_type (next string_type (last string_type)))) 0 (0x07 ∷ 0x61 ∷ 0x00 ∷ 0x09 ∷ []) (3 ∷ 0 ∷ 0 ∷ 1 ∷ []) [] ∷
    -- a key past the body, an entry's end before its padded place: the entry; a value's end before its place: the value
    reads string_to_byte 0 (0x6b ∷ 0x00 ∷ 0x09 ∷ 0x02 ∷ 0x00 ∷ 0x09 ∷ 0x04 ∷ 0x06 ∷ []) (3 ∷ 0 ∷ 0 ∷ 4 ∷ []) [] ∷
    reads (dictionary (text string) int16_type) 0 (0x6b ∷ 0x00 ∷ 0x05 ∷ 0x00 ∷ 0x02 ∷ 0x00 ∷ 0x00 ∷ 0x00 ∷ 0x05 ∷ 0x05 ∷ 0x08 ∷ []) (3 ∷ 0 ∷ 0 ∷ 6 ∷ []) [] ∷
    reads string_to_byte 0 (0x6b ∷ 0x02 ∷ 0x02 ∷ []) (3 ∷ 0 ∷ 0 ∷ 2 ∷ []) [] ∷
    -- a padding byte that is missing: the end of the part over which it is judged; one that is not 0: itself; a text: its first byte
    reads (array byte_and_reading) 0 (0x07 ∷ 0x01 ∷ []) (3 ∷ 0 ∷ 0 ∷ 1 ∷ []) [] ∷
    reads (dictionary (number int64) string_type) 0 (replicate 9 0 ++ (0x09 ∷ 0x09 ∷ [])) (3 ∷ 0 ∷ 0 ∷ 11 ∷ []) [] ∷
    reads (structure (next int16_type (last byte_type))) 0 (0x05 ∷ 0x00 ∷ 0x07 ∷ 0x09 ∷ []) (4 ∷ 0 ∷ 0 ∷ 3 ∷ []) [] ∷
    reads (structure (next byte_type (last string_type))) 0 (0x07 ∷ 0x61 ∷ 0x00 ∷ 0x62 ∷ []) (5 ∷ 0 ∷ 0 ∷ 1 ∷ []) [] ∷
    reads (structure (next byte_type (last string_type))) 0 (0x07 ∷ 0xff ∷ []) (6 ∷ 0 ∷ 0 ∷ 1 ∷ []) [] ∷
    -- depths: the container's first byte after padding
    reads (structure (next byte_type (last (nested alone 32 byte_type)))) 0 (0x07 ∷ 0x05 ∷ []) (10 ∷ 0 ∷ 0 ∷ 1 ∷ []) [] ∷
    reads (structure (next byte_type (last (nested array 33 byte_type)))) 0 (0x07 ∷ up_to 0 32) (11 ∷ 0 ∷ 0 ∷ 1 ∷ []) [] ∷
    reads (nested maybe 64 variant) 4 ((0x00 ∷ 0x00 ∷ 0x00 ∷ 0x00 ∷ 0x05 ∷ 0x00 ∷ 0x79 ∷ []) ++ replicate 64 0) (12 ∷ 0 ∷ 0 ∷ 4 ∷ []) [] ∷
    -- no place
    reads bool_type 65537 (0x01 ∷ []) (2 ∷ 0 ∷ 0 ∷ 0 ∷ []) [] ∷
    -- numbers big-endian, of each width; texts and offsets know no byte order
    reads_big byte_type (0x05 ∷ []) (0 ∷ 1 ∷ 1 ∷ 0 ∷ []) (121 ∷ 0 ∷ 5 ∷ []) ∷
    reads_big int16_type (0x01 ∷ 0x02 ∷ []) (0 ∷ 2 ∷ 1 ∷ 0 ∷ []) (110 ∷ 0 ∷ 258 ∷ []) ∷
    writes_big int16_type 258 (0x01 ∷ 0x02 ∷ []) ∷
    reads_big uint32_type (0x01 ∷ 0x02 ∷ 0x03 ∷ 0x04 ∷ []) (0 ∷ 4 ∷ 1 ∷ 0 ∷ []) (117 ∷ 0 ∷ 16909060 ∷ []) ∷
    writes_big uint32_type 16909060 (0x01 ∷ 0x02 ∷ 0x03 ∷ 0x04 ∷ []) ∷
    reads_big int64_type (0x01 ∷ 0x02 ∷ 0x03 ∷ 0x04 ∷ 0x05 ∷ 0x06 ∷ 0x07 ∷ 0x08 ∷ []) (0 ∷ 8 ∷ 1 ∷ 0 ∷ []) (120 ∷ 0 ∷ 72623859790382856 ∷ []) ∷
    writes_big int64_type 72623859790382856 (0x01 ∷ 0x02 ∷ 0x03 ∷ 0x04 ∷ 0x05 ∷ 0x06 ∷ 0x07 ∷ 0x08 ∷ []) ∷
    reads_big string_type (0x61 ∷ 0x62 ∷ 0x00 ∷ []) (0 ∷ 3 ∷ 1 ∷ 0 ∷ []) (115 ∷ 0 ∷ 2 ∷ []) ∷
    reads_big strings (replicate 254 0x61 ++ (0 ∷ 255 ∷ 0 ∷ [])) (0 ∷ 257 ∷ 3 ∷ 0 ∷ []) (97 ∷ 0 ∷ 0 ∷ 115 ∷ 0 ∷ 254 ∷ 41 ∷ 257 ∷ 0 ∷ []) ∷
    writes_big strings (replicate 254 0x61 ∷ []) (replicate 254 0x61 ++ (0 ∷ 255 ∷ 0 ∷ [])) ∷
    reads_big readings (0x00 ∷ 0xd7 ∷ 0x00 ∷ 0x00 ∷ 0x02 ∷ 0x02 ∷ 0x04 ∷ []) (0 ∷ 7 ∷ 7 ∷ 0 ∷ []) (97 ∷ 0 ∷ 0 ∷ 109 ∷ 0 ∷ 0 ∷ 110 ∷ 0 ∷ 215 ∷ 78 ∷ 2 ∷ 0 ∷ 109 ∷ 2 ∷ 0 ∷ 110 ∷ 2 ∷ 0 ∷ 41 ∷ 7 ∷ 0 ∷ []) ∷
    writes_big readings (some 215 ∷ none ∷ some 0 ∷ []) (0x00 ∷ 0xd7 ∷ 0x00 ∷ 0x00 ∷ 0x02 ∷ 0x02 ∷ 0x04 ∷ []) ∷
    -- what a value must be, and the depth that it may have
    judges bool_type true true ∷
    judges string_type (0x61 ∷ 0x00 ∷ []) false ∷
    judges string_type (0xff ∷ []) false ∷
    judges byte_type 255 true ∷
    judges byte_type 256 false ∷
    judges int16_type 65536 false ∷
    judges (nested maybe 64 byte_type) (in_maybes 64 5) true ∷
    judges (nested maybe 65 byte_type) (in_maybes 65 5) false ∷
    judges (nested array 32 byte_type) (in_arrays 32 5) true ∷
    judges (nested array 33 byte_type) (in_arrays 33 5) false ∷
    judges (nested alone 32 byte_type) (in_structures 32 5) true ∷
    judges (nested alone 33 byte_type) (in_structures 33 5) false ∷
    judges variant (nested array 33 byte_type, []) true ∷
    judges variant (nested maybe 255 byte_type, none) false ∷
    []

-- room for the events of each row
abbrev room : List ℕ
room = replicate 200 0

abbrev answer : Calls.Counts → ℕ → List ℕ
answer c place = c.refusal ∷ c.used ∷ c.count ∷ place ∷ []

-- the answer and the slice: the events, and what was there before
abbrev reading_got : Bool → Tree → ℕ → List ℕ → List ℕ
reading_got big t p l = answer (read (type_text t) big p l room) (frame_reading (type_text t) big p l).place ++ read_slice (type_text t) big p l room

abbrev reading_wanted : List ℕ → List ℕ → List ℕ
reading_wanted a es = a ++ (es ++ drop (length es) room)

-- whether a value fits, and its bytes
abbrev writing_got : Bool → (t : Tree) → Value 1 t → List ℕ
writing_got big t v = bit (fits (piece big 1 t v) none_open) ∷ written big 1 t v

abbrev pub got : Row → List ℕ
got (reads t p l a es) = reading_got false t p l
got (reads_big t l a es) = reading_got true t 0 l
got (writes t v l) = writing_got false t v
got (writes_big t v l) = writing_got true t v
got (judges t v b) = bit (fits (piece false 1 t v) none_open) ∷ []

abbrev pub want : Row → List ℕ
want (reads t p l a es) = reading_wanted a es
want (reads_big t l a es) = reading_wanted a es
want (writes t v l) = 1 ∷ l
want (writes_big t v l) = 1 ∷ l
want (judges t v b) = bit b ∷ []

pub frames_hold : map got table ≡ map want table
unfolding Numbers.bytes Numbers.value Padding.padding Padding.leading_zeros Offsets.first_width Offsets.encoded_width Offsets.written_width Offsets.bare_width Offsets.table Offsets.back_table Offsets.entries Offsets.none_above Offsets.table_from Offsets.table_of Offsets.ends_of Offsets.table_stands Texts.without_final_nul Texts.no_nul Texts.following Texts.after_byte Texts.utf8_from Texts.utf8 Texts.text_refusal Depths.depth_refusal Types.alignment Types.fixed Types.fixed_size TypeText.type_text TypeText.basic_among TypeText.made TypeText.ended_by TypeText.basic_tree TypeText.entry_by TypeText.entry_begun TypeText.array_begun TypeText.type_begun TypeText.fields_begun TypeText.type_within TypeText.first_type TypeText.nothing_behind TypeText.type_of Events.triples Written.stop Written.layout Written.events_from Written.ends Written.field_ends Written.all_valid Written.all_shallow Written.basic_piece Written.maybe_piece Written.array_bytes Written.array_piece Written.structure_bytes Written.structure_piece Written.entry_piece Written.variant_piece Written.piece_over Written.piece Written.written Outcome.chain Outcome.unused Outcome.enclosed Reading.child Reading.within Reading.padding_of Reading.text_as Reading.read_text Reading.read_bool Reading.number_in Reading.end_byte Reading.present_in Reading.maybe_in Reading.elements Reading.elements_to Reading.tabled Reading.array_body Reading.array_in Reading.child_step Reading.offset_stands Reading.field_offset Reading.padded Reading.last_nul Reading.variant_value Reading.variant_type Reading.variant_typed Reading.variant_body Reading.variant_in Reading.pad Reading.read_number Reading.read_basic Reading.read_maybe Reading.read_array Reading.end_padding Reading.fields_in Reading.structure_body Reading.structure_in Reading.read_structure Reading.value_from Reading.fixed_key Reading.value_before Reading.key_to Reading.text_key Reading.entry_from Reading.read_entry Reading.entry_step Reading.read_variant Reading.read_tree Reading.reading Calls.frame_of Calls.frame_reading Calls.sized Calls.fitted Calls.filled Calls.size Calls.read Calls.read_slice
frames_hold = refl
