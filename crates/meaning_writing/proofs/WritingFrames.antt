-- Writing: document 01's worked frames, each refusal, and their order. One table, and one computed test; 2 is by a law, since a frame over
-- the limit is too long to compute. The answers are those of a model of the paper that was written apart. Assumes nothing.
use mathlib.Core.Path.{◌≡◌, refl}
use mathlib.Core.List.{List, [], ◌∷◌, ◌++◌, map}
use mathlib.Core.Bool.{Bool, true, false}
use Prim.Native.Nat.{ℕ, zero, suc, ◌≤◌}
use native.Mathlib.Omega.{arith}
use lib.ListN.{length, replicate, drop, length-append, length-replicate}
use lib.Seq.{take_all}
use Rattle.meaning.specs.Limits.{largest_frame}
use Rattle.meaning.specs.Refusals.{over_limit}
use Rattle.meaning.specs.Numbers
use Rattle.meaning.specs.Padding
use Rattle.meaning.specs.Offsets
use Rattle.meaning.specs.Texts
use Rattle.meaning.specs.Texts.{no_nul, utf8, text_refusal}
use Rattle.meaning.specs.Depths
use Rattle.meaning.specs.Types
use Rattle.meaning.specs.Types.{string, text, basic}
use Rattle.meaning_writing.specs.Writing
use Rattle.meaning.specs.TypeText
use Rattle.meaning.specs.TypeText.{type_of, first_type, type_within, type_begun, basic_tree, basic_among, nothing_behind}
use Rattle.meaning.specs.Events
use Rattle.meaning.specs.Events.{text_event}
use Rattle.meaning.specs.Written
use Rattle.meaning.specs.Written.{written, piece, piece_over, basic_piece}
use Rattle.meaning_writing.specs.Writing.{WriteAnswer, write, write_slice, write_answer}
use Rattle.meaning_writing.specs.Shown.{ShowsOne, ended, more}
use Rattle.meaning_writing.proofs.WriteLaws.{Fitting, write_long}

-- the types' texts: s y n b v as ms amn (ymn) a{sy}
abbrev string_text : List ℕ
string_text = 115 ∷ []

abbrev byte_text : List ℕ
byte_text = 121 ∷ []

abbrev int16_text : List ℕ
int16_text = 110 ∷ []

abbrev bool_text : List ℕ
bool_text = 98 ∷ []

abbrev variant_text : List ℕ
variant_text = 118 ∷ []

abbrev strings_text : List ℕ
strings_text = 97 ∷ 115 ∷ []

abbrev maybe_string_text : List ℕ
maybe_string_text = 109 ∷ 115 ∷ []

abbrev readings_text : List ℕ
readings_text = 97 ∷ 109 ∷ 110 ∷ []

abbrev byte_and_reading_text : List ℕ
byte_and_reading_text = 40 ∷ 121 ∷ 109 ∷ 110 ∷ 41 ∷ []

abbrev string_to_byte_text : List ℕ
string_to_byte_text = 97 ∷ 123 ∷ 115 ∷ 121 ∷ 125 ∷ []

-- so many events of a kind, all 0, in front of others
abbrev times : ℕ → ℕ → List ℕ → List ℕ
times zero kind l = l
times (suc n) kind l = kind ∷ 0 ∷ 0 ∷ times n kind l

-- so many variants that hold a variant, whose type is the text's first character
abbrev held : ℕ → List ℕ
held zero = []
held (suc n) = 118 ∷ 0 ∷ 0 ∷ 103 ∷ 0 ∷ 1 ∷ held n

-- A type's text, whether the byte order is big-endian, the numbers, the texts, the length of the output; the refusal, and the frame.
pub data Row : Type 0 where
  writes : List ℕ → Bool → List ℕ → List ℕ → ℕ → ℕ → List ℕ → Row

abbrev pub table : List Row
table =
    -- document 01's worked frames
    writes readings_text false (97 ∷ 0 ∷ 0 ∷ 109 ∷ 0 ∷ 0 ∷ 110 ∷ 0 ∷ 215 ∷ 78 ∷ 0 ∷ 0 ∷ 109 ∷ 0 ∷ 0 ∷ 110 ∷ 0 ∷ 0 ∷ 41 ∷ 0 ∷ 0 ∷ []) [] 9 0 (0xd7 ∷ 0x00 ∷ 0x00 ∷ 0x00 ∷ 0x02 ∷ 0x02 ∷ 0x04 ∷ []) ∷
    writes readings_text false (97 ∷ 0 ∷ 0 ∷ 78 ∷ 0 ∷ 0 ∷ 78 ∷ 0 ∷ 0 ∷ 109 ∷ 0 ∷ 0 ∷ 110 ∷ 0 ∷ 0 ∷ 41 ∷ 0 ∷ 0 ∷ []) [] 9 0 (0x00 ∷ 0x00 ∷ 0x00 ∷ 0x00 ∷ 0x02 ∷ []) ∷
    writes readings_text false (97 ∷ 0 ∷ 0 ∷ 78 ∷ 0 ∷ 0 ∷ 78 ∷ 0 ∷ 0 ∷ 78 ∷ 0 ∷ 0 ∷ 41 ∷ 0 ∷ 0 ∷ []) [] 9 0 (0x00 ∷ 0x00 ∷ 0x00 ∷ []) ∷
    writes byte_and_reading_text false (40 ∷ 0 ∷ 0 ∷ 121 ∷ 0 ∷ 7 ∷ 78 ∷ 0 ∷ 0 ∷ 41 ∷ 0 ∷ 0 ∷ []) [] 2 0 (0x07 ∷ 0x00 ∷ []) ∷
    writes byte_and_reading_text false (40 ∷ 0 ∷ 0 ∷ 121 ∷ 0 ∷ 7 ∷ 109 ∷ 0 ∷ 0 ∷ 110 ∷ 0 ∷ 5 ∷ 41 ∷ 0 ∷ 0 ∷ []) [] 6 0 (0x07 ∷ 0x00 ∷ 0x05 ∷ 0x00 ∷ []) ∷
    writes string_to_byte_text false (123 ∷ 0 ∷ 0 ∷ 115 ∷ 0 ∷ 1 ∷ 121 ∷ 0 ∷ 9 ∷ 41 ∷ 0 ∷ 0 ∷ []) (0x6b ∷ []) 5 0 (0x6b ∷ 0x00 ∷ 0x09 ∷ 0x02 ∷ 0x04 ∷ []) ∷
    writes variant_text false (118 ∷ 0 ∷ 0 ∷ 103 ∷ 0 ∷ 1 ∷ 117 ∷ 0 ∷ 7 ∷ 41 ∷ 0 ∷ 0 ∷ []) (0x75 ∷ []) 8 0 (0x07 ∷ 0x00 ∷ 0x00 ∷ 0x00 ∷ 0x00 ∷ 0x75 ∷ []) ∷
    writes maybe_string_text false (109 ∷ 0 ∷ 0 ∷ 115 ∷ 0 ∷ 1 ∷ []) (0x61 ∷ []) 3 0 (0x61 ∷ 0x00 ∷ 0x00 ∷ []) ∷
    -- the same numbers in the other byte order; offsets stay little-endian
    writes readings_text true (97 ∷ 0 ∷ 0 ∷ 109 ∷ 0 ∷ 0 ∷ 110 ∷ 0 ∷ 215 ∷ 78 ∷ 0 ∷ 0 ∷ 109 ∷ 0 ∷ 0 ∷ 110 ∷ 0 ∷ 0 ∷ 41 ∷ 0 ∷ 0 ∷ []) [] 7 0 (0x00 ∷ 0xd7 ∷ 0x00 ∷ 0x00 ∷ 0x02 ∷ 0x02 ∷ 0x04 ∷ []) ∷
    -- the place of an event matters only for a text
    writes readings_text false (97 ∷ 99 ∷ 0 ∷ 78 ∷ 9223372036854775808 ∷ 0 ∷ 41 ∷ 7 ∷ 0 ∷ []) [] 1 0 (0x00 ∷ []) ∷
    writes (40 ∷ 115 ∷ 98 ∷ 41 ∷ []) false (40 ∷ 5 ∷ 0 ∷ 115 ∷ 2 ∷ 2 ∷ 98 ∷ 9 ∷ 1 ∷ 41 ∷ 0 ∷ 0 ∷ []) (0x78 ∷ 0x78 ∷ 0x79 ∷ 0x7a ∷ []) 5 0 (0x79 ∷ 0x7a ∷ 0x00 ∷ 0x01 ∷ 0x03 ∷ []) ∷
    -- body 254 and one offset: width 1; body 255: width 2
    writes strings_text false (97 ∷ 0 ∷ 0 ∷ 115 ∷ 0 ∷ 253 ∷ 41 ∷ 0 ∷ 0 ∷ []) (replicate 253 0x61) 255 0 (replicate 253 0x61 ++ (0x00 ∷ 0xfe ∷ [])) ∷
    writes strings_text false (97 ∷ 0 ∷ 0 ∷ 115 ∷ 0 ∷ 254 ∷ 41 ∷ 0 ∷ 0 ∷ []) (replicate 254 0x61) 257 0 (replicate 254 0x61 ++ (0x00 ∷ 0xff ∷ 0x00 ∷ [])) ∷
    -- an entry body of 255 gets 2 bytes, the offset counted
    writes string_to_byte_text false (123 ∷ 0 ∷ 0 ∷ 115 ∷ 0 ∷ 253 ∷ 121 ∷ 0 ∷ 9 ∷ 41 ∷ 0 ∷ 0 ∷ []) (replicate 253 0x6b) 260 0 (replicate 253 0x6b ++ (0x00 ∷ 0x09 ∷ 0xfe ∷ 0x00 ∷ 0x01 ∷ 0x01 ∷ [])) ∷
    -- dictionaries keep order and doubles
    writes (97 ∷ 123 ∷ 121 ∷ 121 ∷ 125 ∷ []) false (123 ∷ 0 ∷ 0 ∷ 121 ∷ 0 ∷ 2 ∷ 121 ∷ 0 ∷ 1 ∷ 121 ∷ 0 ∷ 1 ∷ 121 ∷ 0 ∷ 1 ∷ 121 ∷ 0 ∷ 2 ∷ 121 ∷ 0 ∷ 1 ∷ 41 ∷ 0 ∷ 0 ∷ []) [] 6 0 (0x02 ∷ 0x01 ∷ 0x01 ∷ 0x01 ∷ 0x02 ∷ 0x01 ∷ []) ∷
    -- a fixed structure is padded at its end; a double is its bits; o and g hold any text
    writes (40 ∷ 110 ∷ 121 ∷ 41 ∷ []) false (40 ∷ 0 ∷ 0 ∷ 110 ∷ 0 ∷ 1 ∷ 121 ∷ 0 ∷ 2 ∷ 41 ∷ 0 ∷ 0 ∷ []) [] 4 0 (0x01 ∷ 0x00 ∷ 0x02 ∷ 0x00 ∷ []) ∷
    writes (100 ∷ []) false (100 ∷ 0 ∷ 4607182418800017408 ∷ []) [] 8 0 (0x00 ∷ 0x00 ∷ 0x00 ∷ 0x00 ∷ 0x00 ∷ 0x00 ∷ 0xf0 ∷ 0x3f ∷ []) ∷
    writes (40 ∷ 111 ∷ 103 ∷ 41 ∷ []) false (40 ∷ 0 ∷ 0 ∷ 111 ∷ 0 ∷ 1 ∷ 103 ∷ 1 ∷ 0 ∷ 41 ∷ 0 ∷ 0 ∷ []) (0x2f ∷ []) 4 0 (0x2f ∷ 0x00 ∷ 0x00 ∷ 0x02 ∷ []) ∷
    -- 1: it goes before a fault of the events
    writes (40 ∷ 41 ∷ []) false [] [] 2 1 [] ∷
    writes (104 ∷ 121 ∷ []) false (121 ∷ 0 ∷ 1 ∷ []) [] 2 1 [] ∷
    -- 5, also at the end of a text, before 6; and 6
    writes string_text false (115 ∷ 0 ∷ 2 ∷ []) (0x61 ∷ 0x00 ∷ []) 4 5 [] ∷
    writes string_text false (115 ∷ 0 ∷ 2 ∷ []) (0xff ∷ 0x00 ∷ []) 4 5 [] ∷
    writes string_text false (115 ∷ 0 ∷ 2 ∷ []) (0xff ∷ 0x61 ∷ []) 4 6 [] ∷
    -- a variant: its own 17; the g event's 17, 5, 6; 9
    writes variant_text false (118 ∷ 0 ∷ 1 ∷ 103 ∷ 0 ∷ 1 ∷ []) (0x00 ∷ []) 4 17 [] ∷
    writes variant_text false (118 ∷ 0 ∷ 0 ∷ 115 ∷ 0 ∷ 1 ∷ 121 ∷ 0 ∷ 9 ∷ 41 ∷ 0 ∷ 0 ∷ []) (0x79 ∷ []) 4 17 [] ∷
    writes variant_text false (118 ∷ 0 ∷ 0 ∷ 103 ∷ 0 ∷ 2 ∷ []) (0x79 ∷ 0x00 ∷ []) 4 5 [] ∷
    writes variant_text false (118 ∷ 0 ∷ 0 ∷ 103 ∷ 0 ∷ 1 ∷ []) (0x80 ∷ []) 4 6 [] ∷
    writes variant_text false (118 ∷ 0 ∷ 0 ∷ 103 ∷ 0 ∷ 1 ∷ []) (0x68 ∷ []) 4 9 [] ∷
    -- 10, 11, 12: one more than the limit, judged before the next event is looked at
    writes (replicate 33 40 ++ (121 ∷ replicate 33 41)) false (times 33 40 []) [] 4 10 [] ∷
    writes (replicate 33 97 ++ (121 ∷ [])) false (times 33 97 []) [] 4 11 [] ∷
    writes (replicate 65 109 ++ (121 ∷ [])) false (times 65 109 []) [] 4 12 [] ∷
    writes (replicate 65 109 ++ (121 ∷ [])) false (times 64 109 (78 ∷ 0 ∷ 0 ∷ [])) [] 64 0 (replicate 64 0) ∷
    writes (replicate 32 97 ++ (121 ∷ [])) false (times 32 97 (times 32 41 [])) [] 40 0 (0x00 ∷ 0x01 ∷ 0x02 ∷ 0x03 ∷ 0x04 ∷ 0x05 ∷ 0x06 ∷ 0x07 ∷ 0x08 ∷ 0x09 ∷ 0x0a ∷ 0x0b ∷ 0x0c ∷ 0x0d ∷ 0x0e ∷ 0x0f ∷ 0x10 ∷ 0x11 ∷ 0x12 ∷ 0x13 ∷ 0x14 ∷ 0x15 ∷ 0x16 ∷ 0x17 ∷ 0x18 ∷ 0x19 ∷ 0x1a ∷ 0x1b ∷ 0x1c ∷ 0x1d ∷ 0x1e ∷ []) ∷
    -- a variant's depth after its type: the 65th is 12, and 9 where its type is refused
    writes variant_text false (held 65) (0x76 ∷ []) 4 12 [] ∷
    writes variant_text false (held 64 ++ (118 ∷ 0 ∷ 0 ∷ 103 ∷ 1 ∷ 1 ∷ [])) (0x76 ∷ 0x68 ∷ []) 4 9 [] ∷
    -- 13, and the output as it was
    writes readings_text false (97 ∷ 0 ∷ 0 ∷ 109 ∷ 0 ∷ 0 ∷ 110 ∷ 0 ∷ 215 ∷ 78 ∷ 0 ∷ 0 ∷ 109 ∷ 0 ∷ 0 ∷ 110 ∷ 0 ∷ 0 ∷ 41 ∷ 0 ∷ 0 ∷ []) [] 6 13 [] ∷
    -- 17: no event, a wrong one, one left over, an unfinished one
    writes byte_text false [] [] 2 17 [] ∷
    writes byte_text false (110 ∷ 0 ∷ 1 ∷ []) [] 2 17 [] ∷
    writes string_text false (111 ∷ 0 ∷ 1 ∷ []) (0x2f ∷ []) 4 17 [] ∷
    writes byte_text false (121 ∷ 0 ∷ 1 ∷ 121 ∷ 0 ∷ 1 ∷ []) [] 2 17 [] ∷
    writes byte_text false (121 ∷ 0 ∷ 1 ∷ 121 ∷ []) [] 2 17 [] ∷
    writes byte_text false (121 ∷ 0 ∷ []) [] 2 17 [] ∷
    writes strings_text false (97 ∷ 0 ∷ 0 ∷ 115 ∷ 0 ∷ 1 ∷ []) (0x61 ∷ []) 4 17 [] ∷
    -- a payload too wide, or other than 0 where only 0 is carried; a bool above 1
    writes int16_text false (110 ∷ 0 ∷ 65536 ∷ []) [] 2 17 [] ∷
    writes readings_text false (97 ∷ 0 ∷ 0 ∷ 78 ∷ 0 ∷ 1 ∷ 41 ∷ 0 ∷ 0 ∷ []) [] 2 17 [] ∷
    writes readings_text false (97 ∷ 0 ∷ 0 ∷ 41 ∷ 0 ∷ 3 ∷ []) [] 2 17 [] ∷
    writes bool_text false (98 ∷ 0 ∷ 2 ∷ []) [] 2 17 [] ∷
    -- a text view outside the slice, before 5; the sum is exact
    writes string_text false (115 ∷ 1 ∷ 2 ∷ []) (0x00 ∷ 0x00 ∷ []) 4 17 [] ∷
    writes string_text false (115 ∷ 18446744073709551615 ∷ 1 ∷ []) (0x61 ∷ []) 4 17 [] ∷
    -- an empty text at the slice's end is inside, one behind it is not
    writes string_text false (115 ∷ 1 ∷ 0 ∷ []) (0x61 ∷ []) 4 0 (0x00 ∷ []) ∷
    writes string_text false (115 ∷ 2 ∷ 0 ∷ []) (0x61 ∷ []) 4 17 [] ∷
    -- the first fault in event order: 5 before a later 17
    writes (40 ∷ 115 ∷ 121 ∷ 41 ∷ []) false (40 ∷ 0 ∷ 0 ∷ 115 ∷ 0 ∷ 1 ∷ 110 ∷ 0 ∷ 1 ∷ []) (0x00 ∷ []) 4 5 [] ∷
    []

-- the output before
abbrev output : ℕ → List ℕ
output room = replicate room 0xee

abbrev flat : WriteAnswer → List ℕ → List ℕ
flat a l = a.refusal ∷ a.used ∷ l

-- the answer, and the output afterwards
abbrev pub got : Row → List ℕ
got (writes t big ns ts room n l) = flat (write t big ns ts (output room)) (write_slice t big ns ts (output room))

abbrev pub want : Row → List ℕ
want (writes t big ns ts room n l) = n ∷ length l ∷ (l ++ drop (length l) (output room))

pub writings_hold : map got table ≡ map want table
unfolding Numbers.bytes Numbers.value Padding.padding Padding.leading_zeros Offsets.first_width Offsets.encoded_width Offsets.written_width Offsets.bare_width Offsets.table Offsets.back_table Offsets.entries Offsets.none_above Offsets.table_from Offsets.table_of Offsets.ends_of Offsets.table_stands Texts.without_final_nul Texts.no_nul Texts.following Texts.after_byte Texts.utf8_from Texts.utf8 Texts.text_refusal Depths.depth_refusal Types.alignment Types.fixed Types.fixed_size TypeText.type_text TypeText.basic_among TypeText.made TypeText.ended_by TypeText.basic_tree TypeText.entry_by TypeText.entry_begun TypeText.array_begun TypeText.type_begun TypeText.fields_begun TypeText.type_within TypeText.first_type TypeText.nothing_behind TypeText.type_of Events.triples Written.stop Written.layout Written.events_from Written.ends Written.field_ends Written.all_valid Written.all_shallow Written.basic_piece Written.maybe_piece Written.array_bytes Written.array_piece Written.structure_bytes Written.structure_piece Written.entry_piece Written.variant_piece Written.piece_over Written.piece Written.written Writing.mapped Writing.followed Writing.when Writing.unrefused Writing.when_shallow Writing.on_event Writing.on_plain Writing.sealed Writing.maybe_by Writing.build_maybe Writing.build_many Writing.build_array Writing.build_both Writing.build_structure Writing.variant_by Writing.on_text Writing.build_basic Writing.build_variant Writing.build_over Writing.build Writing.limited Writing.frame_built Writing.frame_typed Writing.frame_writing Writing.roomed Writing.write_answered Writing.output_with Writing.write Writing.write_slice
writings_hold = refl

-- 2: a text of 65,536 bytes or more, whatever the room
letters_plain : (n : ℕ) → no_nul (replicate n 97) ≡ true
unfolding no_nul
letters_plain zero = refl
letters_plain (suc n) = letters_plain n

letters_utf8 : (n : ℕ) → utf8 (replicate n 97) ≡ true
unfolding utf8 Texts.utf8_from Texts.after_byte Texts.following
letters_utf8 zero = refl
letters_utf8 (suc n) = letters_utf8 n

letters_fit : (n : ℕ) → text_refusal (replicate n 97) ≡ 0
unfolding text_refusal
letters_fit n = rw (letters_plain n, letters_utf8 n)

letters_shown : (n : ℕ) → ShowsOne (replicate n 97) (115 ∷ 0 ∷ n ∷ []) (text_event 115 0 (replicate n 97)) []
letters_shown n = record {
  place = 0;
  is = rw length-replicate;
  contained = λ t. omega arith;
  same = λ t. take_all (length (replicate n 97)) (replicate n 97) (omega arith);
}

pub over_limit_lem : (n : ℕ) (out : List ℕ) → largest_frame ≤ n → write string_text false (115 ∷ 0 ∷ n ∷ []) (replicate n 97) out ≡ write_answer over_limit 0
over_limit_lem n out h = write_long letters (115 ∷ 0 ∷ n ∷ []) (replicate n 97) out (unfold piece piece_over basic_piece in more (letters_shown n) ended)
    (unfold written piece piece_over basic_piece in simp (length-append, length-replicate) (omega arith))
  where
    letters : Fitting string_text false
    letters = record {
      tree = basic (text string);
      type_is = unfold type_of first_type type_within type_begun basic_tree basic_among nothing_behind in refl;
      value = replicate n 97;
      fit = unfold piece piece_over basic_piece in rw (letters_fit n) tt;
    }
