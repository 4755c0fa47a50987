-- What is known of a type before bytes are looked at, and where the fields of a structure end by it: the strict test and the edit walk
-- structures by this. Assumes nothing: these are definitions.
use Rattle.std.specs.Prelude.{List, [], ◌∷◌, Bool, true, false, ◌&&◌, ℕ, suc, ◌+◌, ◌-◌, take, drop}
use Rattle.meaning.specs.Numbers.{value}
use Rattle.meaning.specs.Padding.{padding}
use Rattle.meaning.specs.Types.{Basic, bool, number, text, number_width, basic_alignment, basic_fixed}

-- the bytes of l from i up to e, or as many of them as stand there (partAt has none where one is missing)
unfoldable pub part : ℕ → ℕ → List ℕ → List ℕ
part i e l = take (e - i) (drop i l)

-- its alignment, whether it is fixed in size, and then its size
pub record Shape : Type 0 where
  pub alignment : ℕ
  pub fixed : Bool
  pub size : ℕ

abbrev pub shape_of : ℕ → Bool → ℕ → Shape
shape_of a fx n = record { alignment = a; fixed = fx; size = n }

abbrev pub basic_size : Basic → ℕ
basic_size bool = 1
basic_size (number c) = number_width c
basic_size (text c) = 0

abbrev pub basic_shape : Basic → Shape
basic_shape b = shape_of (basic_alignment b) (basic_fixed b) (basic_size b)

abbrev pub all_shapes_fixed : List Shape → Bool
all_shapes_fixed [] = true
all_shapes_fixed (s ∷ ss) = s.fixed && all_shapes_fixed ss

-- where something of a shape begins behind its padding at the place k, and where it ends if it is fixed
abbrev pub behind_padding : ℕ → Shape → ℕ
behind_padding k s = k + padding k s.alignment

abbrev pub fixed_end : ℕ → Shape → ℕ
fixed_end k s = behind_padding k s + s.size

-- how many offsets a structure has: one for each field that is neither fixed nor last
abbrev pub one_more : Bool → ℕ → ℕ
one_more true n = n
one_more false n = suc n

unfoldable pub offset_count : List Shape → ℕ
offset_count [] = 0
offset_count (s ∷ []) = 0
offset_count (s ∷ u ∷ ss) = one_more s.fixed (offset_count (u ∷ ss))

-- where the last field ends, and where another does, whose offset ends at e; where the offsets end that are left then
abbrev pub last_end : Bool → ℕ → ℕ → ℕ
last_end true x b = x
last_end false x b = b

unfoldable pub field_end : Bool → List ℕ → ℕ → ℕ → ℕ → ℕ
field_end true l w e x = x
field_end false l w e x = value (part (e - w) e l)

abbrev pub offsets_left : Bool → ℕ → ℕ → ℕ
offsets_left true w e = e
offsets_left false w e = e - w

-- where fields that are all fixed end, laid out from the place k on
unfoldable pub sizes_from : ℕ → List Shape → ℕ
sizes_from k [] = k
sizes_from k (s ∷ ss) = sizes_from (fixed_end k s) ss

abbrev pub structure_shape : ℕ → Bool → List Shape → Shape
structure_shape a fx ss = shape_of a fx (sizes_from 0 ss + padding (sizes_from 0 ss) a)
