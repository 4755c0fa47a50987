-- What the inner functions answer: a key by its letter, a structure from its fields. Assumes nothing: these are definitions.
use Rattle.std.specs.Prelude.{Bool, true, false, ℕ}
use Rattle.meaning.specs.Choice.{pick}
use Rattle.meaning.specs.Types.{rounded}
use Rattle.signature.specs.Places.{child_of}
use Rattle.signature.specs.declared.Letter.{Letter}
use Rattle.signature.specs.declared.Letter.TheVariants.{End, Bad, Boolean, Number, Text, Variant, Maybe, Array, OpenStructure, CloseStructure, OpenEntry, CloseEntry}
use Rattle.signature.specs.Places.{Child}

-- of a key's letter; 0 for what is no key
abbrev pub key_alignment : Letter → ℕ
key_alignment End = 0
key_alignment Bad = 0
key_alignment Boolean = 1
key_alignment (Number c w) = w
key_alignment (Text c) = 1
key_alignment Variant = 0
key_alignment Maybe = 0
key_alignment Array = 0
key_alignment OpenStructure = 0
key_alignment CloseStructure = 0
key_alignment OpenEntry = 0
key_alignment CloseEntry = 0

abbrev pub key_fixed : Letter → Bool
key_fixed End = false
key_fixed Bad = false
key_fixed Boolean = true
key_fixed (Number c w) = true
key_fixed (Text c) = false
key_fixed Variant = false
key_fixed Maybe = false
key_fixed Array = false
key_fixed OpenStructure = false
key_fixed CloseStructure = false
key_fixed OpenEntry = false
key_fixed CloseEntry = false

-- the width of a number, 0 for another letter
abbrev pub width_by : Letter → ℕ
width_by End = 0
width_by Bad = 0
width_by Boolean = 0
width_by (Number c w) = w
width_by (Text c) = 0
width_by Variant = 0
width_by Maybe = 0
width_by Array = 0
width_by OpenStructure = 0
width_by CloseStructure = 0
width_by OpenEntry = 0
width_by CloseEntry = 0

-- whether it is a text's
abbrev pub is_text : Letter → Bool
is_text End = false
is_text Bad = false
is_text Boolean = false
is_text (Number c w) = false
is_text (Text c) = true
is_text Variant = false
is_text Maybe = false
is_text Array = false
is_text OpenStructure = false
is_text CloseStructure = false
is_text OpenEntry = false
is_text CloseEntry = false

-- a structure of a place behind it, its alignment, whether it is fixed, and where its fields end
abbrev pub structure_by : ℕ → ℕ → Bool → ℕ → Child
structure_by next a f end = child_of OpenStructure true next a f (pick f (rounded end a) 0)
