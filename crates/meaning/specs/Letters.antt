-- The letters of a type text by their codes, which are also the kinds of events. Assumes nothing: these are definitions.
use Rattle.std.specs.Prelude.{Bool, ◌||◌, ℕ, eqb}
use Rattle.meaning.specs.Types.{Number, byte, int16, uint16, int32, uint32, int64, uint64, double, Text, string, object_path, signature, Basic, bool, number, text}

-- b
abbrev pub bool_letter : ℕ
bool_letter = 98

-- y n q i u x t d
abbrev pub number_letter : Number → ℕ
number_letter byte = 121
number_letter int16 = 110
number_letter uint16 = 113
number_letter int32 = 105
number_letter uint32 = 117
number_letter int64 = 120
number_letter uint64 = 116
number_letter double = 100

-- g, which also stands for the type of a variant
abbrev pub signature_letter : ℕ
signature_letter = 103

-- s o g
abbrev pub text_letter : Text → ℕ
text_letter string = 115
text_letter object_path = 111
text_letter signature = signature_letter

abbrev pub is_text_letter : ℕ → Bool
is_text_letter c = eqb c (text_letter string) || (eqb c (text_letter object_path) || eqb c (text_letter signature))

abbrev pub basic_letter : Basic → ℕ
basic_letter bool = bool_letter
basic_letter (number n) = number_letter n
basic_letter (text c) = text_letter c

-- v
abbrev pub variant_letter : ℕ
variant_letter = 118

-- m, as an event a maybe that is present; and N, which is an event alone: nothing
abbrev pub maybe_letter : ℕ
maybe_letter = 109

abbrev pub nothing_letter : ℕ
nothing_letter = 78

-- a
abbrev pub array_letter : ℕ
array_letter = 97

-- { and }, as an event { alone: a whole dictionary
abbrev pub dictionary_letter : ℕ
dictionary_letter = 123

abbrev pub entry_end : ℕ
entry_end = 125

-- ( and ), as an event ) the end of any container
abbrev pub structure_letter : ℕ
structure_letter = 40

abbrev pub container_end : ℕ
container_end = 41
