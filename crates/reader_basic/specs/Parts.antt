-- What the small readers are asked to read, and what they answer. Assumes nothing: these are definitions.
use Rattle.std.specs.Prelude.{◌≡◌, List, Bool, true, ℕ, ◌+◌, ◌-◌, ◌/◌, ◌≤◌, ◌<◌, length, drop}
use Rattle.meaning.specs.Choice.{pick}
use Rattle.meaning.specs.Depths.{depth_refusal}
use Rattle.meaning.specs.Offsets.{Table, none_above, ends_of}
use Rattle.meaning.specs.Outcome.{Outcome, chain, passing}
use Rattle.meaning.specs.Reading.{Reader, read_bool, read_number, read_text, read_maybe, elements_to, offset_stands, field_offset}
use Rattle.meaning.specs.Padding.{Aligns}
use Rattle.meaning.specs.Limits.{largest_frame}
use Rattle.meaning.specs.Refusals.{out_of_bounds}
use Rattle.utils.specs.Checks.{Checked, passed, failed}
use Rattle.container_depths.specs.Opening.{depths_of}
use Rattle.container_depths.specs.declared.ContainerDepths.{ContainerDepths}
use Rattle.framing_offsets.specs.Tables.{table_in}
use Rattle.framing_offsets.specs.declared.OffsetTable.{OffsetTable}
use Rattle.signature.specs.declared.Letter.{Letter}
use Rattle.reader_basic.specs.declared.Context.{Context}
use Rattle.signature.specs.declared.Letter.TheVariants.{End, Bad, Boolean, Number, Text, Variant, Maybe, Array, OpenStructure, CloseStructure, OpenEntry, CloseEntry}

-- a part of a frame and where it stands, within the limits; so many containers are nested, within theirs
pub record Within (len place position : ℕ) (d : ContainerDepths) : Type 0 where
  pub in_frame : place + len ≤ largest_frame
  pub near : position ≤ largest_frame
  pub shallow : depth_refusal (depths_of d) ≡ 0

abbrev pub Inside : ℕ → ℕ → Context → Type 0
Inside len place c = Within len place c.position c.depths

-- the reader of a number, and of a reading: a number in a maybe
abbrev pub number_by : Context → ℕ → ℕ → Reader
number_by c code w = read_number c.position c.big code w

abbrev pub reading_by : Context → ℕ → ℕ → Reader
reading_by c code w = read_maybe c.position w true (number_by c code w)

-- the reader of a key, by its letter
abbrev pub key_reader : ℕ → Bool → Letter → Reader
key_reader position big End = read_bool
key_reader position big Bad = read_bool
key_reader position big Boolean = read_bool
key_reader position big (Number c w) = read_number position big c w
key_reader position big (Text c) = read_text c
key_reader position big Variant = read_bool
key_reader position big Maybe = read_bool
key_reader position big Array = read_bool
key_reader position big OpenStructure = read_bool
key_reader position big CloseStructure = read_bool
key_reader position big OpenEntry = read_bool
key_reader position big CloseEntry = read_bool

-- a key is a bool, a text, or a number of a width that there is
abbrev pub KeyAligned : Letter → Type 0
KeyAligned End = Unit {0}
KeyAligned Bad = Unit {0}
KeyAligned Boolean = Unit {0}
KeyAligned (Number c w) = Aligns w
KeyAligned (Text c) = Unit {0}
KeyAligned Variant = Unit {0}
KeyAligned Maybe = Unit {0}
KeyAligned Array = Unit {0}
KeyAligned OpenStructure = Unit {0}
KeyAligned CloseStructure = Unit {0}
KeyAligned OpenEntry = Unit {0}
KeyAligned CloseEntry = Unit {0}

-- a table that begins inside its container and has no end behind its start
pub record Stands (t : Table) (l : List ℕ) : Type 0 where
  pub start : t.start ≤ length l
  pub count : t.count ≡ (length l - t.start) / t.width
  pub width : 0 < t.width
  pub below : none_above t.start (ends_of t l) ≡ true

-- an array that begins at lead in a part, and its table
pub record Tabled (t : OffsetTable) (l : List ℕ) (lead : ℕ) : Type 0 where
  pub begins : lead ≤ length l
  pub stands : Stands (table_in t) (drop lead l)

-- its elements, up to the ends of the table, and then the table
abbrev pub elements_by : (ℕ → ℕ → Outcome) → OffsetTable → List ℕ → ℕ → Outcome
elements_by step t l lead = chain (elements_to step lead (ends_of (table_in t) (drop lead l)) lead) (passing (length l - (lead + t.start)))

-- the offset before an end of a structure's table
unfoldable pub offset_answer : ℕ → ℕ → ℕ → List ℕ → Checked
offset_answer n w e l = pick (offset_stands n w e) (passed (field_offset n w e l)) (failed out_of_bounds)
