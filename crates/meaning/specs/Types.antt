-- The types as trees, their alignment, and their fixed size. Assumes nothing: these are definitions.
use Rattle.std.specs.Prelude.{Bool, true, false, ◌&&◌, ℕ, ◌+◌, max}
use Rattle.meaning.specs.Choice.{pick}
use Rattle.meaning.specs.Padding.{padding}

-- y n q i u x t d
pub data Number : Type 0 where
  byte int16 uint16 int32 uint32 int64 uint64 double : Number

-- s o g
pub data Text : Type 0 where
  string object_path signature : Text

pub data Basic : Type 0 where
  bool : Basic
  number : Number → Basic
  text : Text → Basic

mutual
  pub data Tree : Type 0 where
    basic : Basic → Tree
    variant : Tree
    maybe : Tree → Tree
    array : Tree → Tree
    dictionary : Basic → Tree → Tree
    structure : Fields → Tree

  -- the fields of a structure, one or more
  pub data Fields : Type 0 where
    last : Tree → Fields
    next : Tree → Fields → Fields

-- a number's size, which is its alignment too
abbrev pub number_width : Number → ℕ
number_width byte = 1
number_width int16 = 2
number_width uint16 = 2
number_width int32 = 4
number_width uint32 = 4
number_width int64 = 8
number_width uint64 = 8
number_width double = 8

abbrev pub basic_alignment : Basic → ℕ
basic_alignment bool = 1
basic_alignment (number n) = number_width n
basic_alignment (text c) = 1

abbrev pub basic_fixed : Basic → Bool
basic_fixed bool = true
basic_fixed (number n) = true
basic_fixed (text c) = false

-- arrays and maybes take the child's alignment, a structure or dictionary entry its largest
unfoldable mutual
  pub alignment : Tree → ℕ
  alignment (basic b) = basic_alignment b
  alignment variant = 8
  alignment (maybe t) = alignment t
  alignment (array t) = alignment t
  alignment (dictionary b t) = max (basic_alignment b) (alignment t)
  alignment (structure ts) = largest_alignment ts

  pub largest_alignment : Fields → ℕ
  largest_alignment (last t) = alignment t
  largest_alignment (next t ts) = max (alignment t) (largest_alignment ts)

-- a structure is fixed in size when every field is
unfoldable mutual
  pub fixed : Tree → Bool
  fixed (basic b) = basic_fixed b
  fixed variant = false
  fixed (maybe t) = false
  fixed (array t) = false
  fixed (dictionary b t) = false
  fixed (structure ts) = all_fixed ts

  pub all_fixed : Fields → Bool
  all_fixed (last t) = fixed t
  all_fixed (next t ts) = fixed t && all_fixed ts

-- a dictionary's entry
abbrev pub entry_alignment : Basic → Tree → ℕ
entry_alignment b t = max (basic_alignment b) (alignment t)

abbrev pub entry_fixed : Basic → Tree → Bool
entry_fixed b t = basic_fixed b && fixed t

-- the size of a type that is fixed, 0 for others: fields at their alignment, and padding at the end to the structure's own
abbrev pub rounded : ℕ → ℕ → ℕ
rounded n a = n + padding n a

unfoldable mutual
  pub fixed_size : Tree → ℕ
  fixed_size (basic b) = pick (basic_fixed b) (basic_alignment b) 0
  fixed_size variant = 0
  fixed_size (maybe t) = 0
  fixed_size (array t) = 0
  fixed_size (dictionary b t) = 0
  fixed_size (structure ts) = pick (all_fixed ts) (rounded (fields_end 0 ts) (largest_alignment ts)) 0

  -- where fields end that are laid out from a place on
  pub fields_end : ℕ → Fields → ℕ
  fields_end place (last t) = rounded place (alignment t) + fixed_size t
  fields_end place (next t ts) = fields_end (rounded place (alignment t) + fixed_size t) ts
