-- The readings, by the letter of what their maybe holds. Assumes nothing: these are definitions.
use Rattle.std.specs.Prelude.{◌≡◌, List, Bool, true, false, ℕ, ◌^◌, leb, ltb}
use Rattle.std.proofs.Math.Option.{some}
use Rattle.meaning.specs.Types.{Tree}
use Rattle.meaning_writing.specs.Readings.{Slot, slot_type}
use Rattle.meaning_writing.specs.Edited.{Editor, maybe_editor}
use Rattle.container_depths.specs.Opening.{depths_of}
use Rattle.container_depths.specs.declared.ContainerDepths.{ContainerDepths}
use Rattle.signature.specs.Places.{basic_kind}
use Rattle.signature.specs.declared.Letter.{Letter}
use Rattle.signature.specs.declared.Letter.TheVariants.{End, Bad, Boolean, Number, Text, Variant, Maybe, Array, OpenStructure, CloseStructure, OpenEntry, CloseEntry}
use Rattle.editor_steps.specs.declared.answers.Aim.{Aim}
use Rattle.editor_steps.specs.Walked.{Walked}
use Rattle.editor_steps.specs.Walks.{Walks, new_of, most}

-- a maybe of it is a reading
abbrev pub is_slot : Letter → Bool
is_slot End = false
is_slot Bad = false
is_slot Boolean = true
is_slot (Number c w) = true
is_slot (Text c) = false
is_slot Variant = false
is_slot Maybe = false
is_slot Array = false
is_slot OpenStructure = false
is_slot CloseStructure = false
is_slot OpenEntry = false
is_slot CloseEntry = false

-- a number spells a value of it; what is no number counts as a bool
abbrev pub letter_spells : Letter → ℕ → Bool
letter_spells End n = leb n 1
letter_spells Bad n = leb n 1
letter_spells Boolean n = leb n 1
letter_spells (Number c w) n = ltb n (256 ^ w)
letter_spells (Text c) n = leb n 1
letter_spells Variant n = leb n 1
letter_spells Maybe n = leb n 1
letter_spells Array n = leb n 1
letter_spells OpenStructure n = leb n 1
letter_spells CloseStructure n = leb n 1
letter_spells OpenEntry n = leb n 1
letter_spells CloseEntry n = leb n 1

-- the walk over a reading, whatever its bytes are
pub record Reads (kind : Letter) (aim : Aim) (d : ContainerDepths) (p i : ℕ) (out out' : List ℕ) (r : Walked) : Type 0 where
  pub is : (u : Tree) (s : Slot u) → kind ≡ basic_kind (slot_type s) → (l : List ℕ) (a : ℕ) (fx : Bool) (t : Editor)
      → Walks (maybe_editor aim.big (some s) a fx t) (depths_of d) p l i (new_of aim.new) (most d) out out' r

-- the same of its number
pub record PutsReading (kind : Letter) (p n : ℕ) (big : Bool) (d : ContainerDepths) (out out' : List ℕ) (r : Walked) : Type 0 where
  pub is : (u : Tree) (s : Slot u) → kind ≡ basic_kind (slot_type s) → (l : List ℕ) (a : ℕ) (fx : Bool) (t : Editor)
      → Walks (maybe_editor big (some s) a fx t) (depths_of d) p l 0 (some n) (most d) out out' r
