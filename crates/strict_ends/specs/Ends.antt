-- How a child lies among others, where it may begin, and the offsets of a container. Assumes nothing: these are definitions.
use Rattle.std.specs.Prelude.{◌≡◌, List, Bool, true, false, ℕ, ◌+◌, ◌*◌, ◌≤◌, length, Option, Some, None}
use Rattle.meaning.specs.Limits.{largest_frame}
use Rattle.meaning.specs.Padding.{Aligns}
use Rattle.meaning.specs.Depths.{Depths}
use Rattle.meaning_writing.specs.Shapes.{Shape, shape_of, part, fixed_end, offset_count}
use Rattle.meaning_writing.specs.Strict.{Test, test_shapes, child_written, elements_written, array_written, fields_written, structure_written}
use Rattle.strict_ends.specs.declared.Extent.{Extent}
use Rattle.strict_ends.specs.declared.Rows.{Rows}

abbrev pub extent : ℕ → Bool → ℕ → Extent
extent a f n = record { alignment = a; fixed = f; size = n }

-- as the definition of the strict test says it
abbrev pub shaped : Extent → Shape
shaped x = shape_of x.alignment x.fixed x.size

-- a child is laid out at one of the alignments, and is not large
pub record Laid (x : Extent) : Type 0 where
  pub aligned : Aligns x.alignment
  pub small : x.size ≤ largest_frame

-- where one that is fixed ends, from a place on
abbrev pub end_of : Extent → ℕ → ℕ
end_of x k = fixed_end k (shaped x)

abbrev pub rows : ℕ → ℕ → ℕ → ℕ → Rows
rows body count width from = record { body = body; count = count; width = width; from = from }

-- where a child begins whose end is e
pub record Begins (l : List ℕ) (s k e a at : ℕ) : Type 0 where
  pub is : (t : Test) (d : Depths) → t.shape.alignment ≡ a → child_written t d l s k e ≡ t.accepts d (part at e l)
  pub before : at ≤ e
  pub within : e ≤ s

-- and where none may begin
pub record NoStart (l : List ℕ) (s k e a : ℕ) : Type 0 where
  pub is : (t : Test) (d : Depths) → t.shape.alignment ≡ a → child_written t d l s k e ≡ false

abbrev pub StartAt : List ℕ → ℕ → ℕ → ℕ → ℕ → Option ℕ → Type 0
StartAt l s k e a (Some at) = Begins l s k e a at
StartAt l s k e a None = NoStart l s k e a

-- the offsets of an array lie in its bytes, and so do its elements
pub record Standing (l : List ℕ) (fx : Bool) (r : Rows) : Type 0 where
  pub room : r.from + r.count * r.width ≤ length l
  pub within : r.body ≤ length l
  pub wide : fx ≡ false → Aligns r.width

-- the elements of an array, and an array whose offsets cannot stand
pub record RowsAre (l : List ℕ) (fx : Bool) (n : ℕ) (r : Rows) : Type 0 where
  pub is : (t : Test) (d : Depths) → (fx ≡ true → t.shape.size ≡ n)
      → array_written fx t l d ≡ elements_written fx t d l r.width r.body r.count r.from 0
  pub standing : Standing l fx r

pub record NoRows (l : List ℕ) (fx : Bool) (n : ℕ) : Type 0 where
  pub is : (t : Test) (d : Depths) → (fx ≡ true → t.shape.size ≡ n) → array_written fx t l d ≡ false

abbrev pub RowsOf : List ℕ → Bool → ℕ → Option Rows → Type 0
RowsOf l fx n (Some r) = RowsAre l fx n r
RowsOf l fx n None = NoRows l fx n

-- the offsets of a structure, and a structure whose offsets cannot stand
pub record TableIs (len count : ℕ) (r : Rows) : Type 0 where
  pub is : (fx : Bool) (a : ℕ) (ts : List Test) (l : List ℕ) (d : Depths) → length l ≡ len → offset_count (test_shapes ts) ≡ count
      → structure_written fx a ts l d ≡ fields_written fx a d l r.body r.width ts 0 len
  pub room : count * r.width ≤ len
  pub within : r.body ≤ len
  pub wide : Aligns r.width

pub record NoTable (len count : ℕ) : Type 0 where
  pub is : (fx : Bool) (a : ℕ) (ts : List Test) (l : List ℕ) (d : Depths) → length l ≡ len → offset_count (test_shapes ts) ≡ count
      → structure_written fx a ts l d ≡ false

abbrev pub TableOf : ℕ → ℕ → Option Rows → Type 0
TableOf len count (Some r) = TableIs len count r
TableOf len count None = NoTable len count
