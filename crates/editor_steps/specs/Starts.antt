-- Where the children of a container begin, by its bytes. Assumes nothing: these are definitions.
use Rattle.std.specs.Prelude.{◌≡◌, List, Bool, ℕ, ◌+◌, ◌-◌, ◌*◌, ◌/◌, ◌≤◌, length}
use Rattle.meaning.specs.Limits.{largest_frame, most_variants}
use Rattle.meaning.specs.Offsets.{encoded_width, last_offset}
use Rattle.meaning.specs.Padding.{padding}
use Rattle.meaning_writing.specs.Shapes.{one_more, field_end}
use Rattle.meaning_writing.specs.Strict.{Test, tests_of}
use Rattle.meaning_writing.specs.Edited.{Editor, editors_of}
use Rattle.framing_offset_size.specs.Widths.{width_of}
use Rattle.framing_offset_size.specs.declared.FramingOffsetSize.{FramingOffsetSize}
use Rattle.signature.specs.Trees.{fields_at, Rowed}
use Rattle.signature.specs.declared.Letter.{Letter}
use Rattle.strict_basic.specs.Basics.{letter_extent}
use Rattle.strict_ends.specs.Ends.{end_of}
use Rattle.strict_sizes.specs.Sizes.{offsets_in, Tabled}
use Rattle.editor_basic.specs.declared.elements.Elements.{Elements}
use Rattle.editor_basic.specs.declared.fields.Row.{Row}
use Rattle.editor_steps.specs.declared.starts.Table.{Table}
use Rattle.editor_steps.specs.declared.starts.Entry.{Entry}

-- all elements of an array that are not fixed
abbrev pub elements_as : ℕ → FramingOffsetSize → ℕ → ℕ → Elements
elements_as a size count from = record { alignment = a; size = size; count = count; from = from; place = 0 }

abbrev pub body_of : List ℕ → ℕ
body_of l = last_offset (encoded_width (length l)) l

pub record AllOf (a : ℕ) (l : List ℕ) (e : Elements) : Type 0 where
  pub alignment : e.alignment ≡ a
  pub size : width_of e.size ≡ encoded_width (length l)
  pub count : e.count ≡ (length l - body_of l) / encoded_width (length l)
  pub from : e.from ≡ body_of l
  pub place : e.place ≡ 0

-- so many offsets behind a body
abbrev pub table_as : ℕ → ℕ → Table
table_as len count = record { body = len - count * encoded_width len; width = encoded_width len }

-- all fields of a structure whose first has its type at a place
abbrev pub row_as : ℕ → ℕ → ℕ → Row
row_as at len count = record { at = at; place = 0; end = len; body = len - count * encoded_width len; width = encoded_width len }

-- a dictionary's entry: where its key ends, and its value begins
abbrev pub key_offsets : Letter → ℕ
key_offsets k = one_more (letter_extent k).fixed 0

abbrev pub key_end : Letter → List ℕ → ℕ
key_end k l = field_end (letter_extent k).fixed l (encoded_width (length l)) (length l) (end_of (letter_extent k) 0)

abbrev pub entry : ℕ → ℕ → ℕ → Entry
entry start body width = record { start = start; body = body; width = width }

abbrev pub entry_as : Letter → ℕ → List ℕ → Entry
entry_as k a l = entry (key_end k l + padding (key_end k l) a) (length l - key_offsets k * encoded_width (length l)) (encoded_width (length l))

pub record KeyFits (k : Letter) (l : List ℕ) : Type 0 where
  pub short : length l ≤ largest_frame
  pub room : key_offsets k * encoded_width (length l) ≤ length l
  pub inside : key_end k l ≤ length l

-- the tests and the editors of the fields whose first has its type at a place
abbrev pub row_tests : ℕ → List ℕ → ℕ → List Test
row_tests nested text at = tests_of (most_variants - nested) (fields_at text at)

abbrev pub row_editors : Bool → ℕ → List ℕ → ℕ → List Editor
row_editors big nested text at = editors_of big (most_variants - nested) (fields_at text at)

-- all fields of a structure
pub record AllRow (text tables : List ℕ) (r : Row) (l : List ℕ) : Type 0 where
  pub rowed : Rowed text r.at
  pub table : Tabled text tables
  pub is : r ≡ row_as r.at (length l) (offsets_in (fields_at text r.at))
