-- What the table of a type text has beside the shapes: sizes, which types any bytes will do for, and how many offsets structures have.
-- Assumes nothing: these are definitions.
use Rattle.std.specs.Prelude.{◌≡◌, List, Bool, true, false, ◌&&◌, ℕ, ◌+◌, ◌*◌, ◌/◌, ◌%◌, ◌≤◌, ◌<◌, eqb, length, get_or}
use Rattle.meaning.specs.Choice.{pick}
use Rattle.meaning.specs.Limits.{longest_type}
use Rattle.meaning.specs.Padding.{padding}
use Rattle.meaning.specs.Types.{bool, number, text, Tree, Fields, basic, variant, maybe, array, dictionary, structure, last, next, alignment, largest_alignment, fixed, fixed_size, fields_end, rounded}
use Rattle.meaning_writing.specs.Shapes.{one_more}
use Rattle.signature.specs.Places.{is_type}
use Rattle.signature.specs.Shapes.{Shaped}
use Rattle.signature.specs.Trees.{tree_at, Typed}
use Rattle.signature.specs.declared.shapes.Shape.{Shape}
use Rattle.strict_ends.specs.Ends.{extent}
use Rattle.strict_ends.specs.declared.Extent.{Extent}

-- any bytes of a type's size are a written form of it: it holds no bool, and no padding
unfoldable mutual
  pub any_bytes : Tree → Bool
  any_bytes (basic bool) = false
  any_bytes (basic (number c)) = true
  any_bytes (basic (text c)) = false
  any_bytes variant = false
  any_bytes (maybe t) = false
  any_bytes (array t) = false
  any_bytes (dictionary b t) = false
  any_bytes (structure ts) = any_fields 0 ts && eqb (padding (fields_end 0 ts) (largest_alignment ts)) 0

  -- fields from a place on
  pub any_fields : ℕ → Fields → Bool
  any_fields k (last t) = eqb (padding k (alignment t)) 0 && any_bytes t
  any_fields k (next t ts) = eqb (padding k (alignment t)) 0 && (any_bytes t && any_fields (rounded k (alignment t) + fixed_size t) ts)

-- how many offsets fields have
unfoldable pub offsets_in : Fields → ℕ
offsets_in (last t) = 0
offsets_in (next t ts) = one_more (fixed t) (offsets_in ts)

unfoldable pub offsets_for : Tree → ℕ
offsets_for (basic b) = 0
offsets_for variant = 0
offsets_for (maybe t) = 0
offsets_for (array t) = 0
offsets_for (dictionary b t) = 0
offsets_for (structure ts) = offsets_in ts

-- a size, and whether any bytes will do, in one number
abbrev pub size_and_any : ℕ → Bool → ℕ
size_and_any n any = 2 * n + pick any 1 0

unfoldable pub measure_of : Tree → ℕ
measure_of t = pick (fixed t) (size_and_any (fixed_size t) (any_bytes t)) (offsets_for t)

-- two numbers for each character of the longest type
abbrev pub table_length : ℕ
table_length = 510

-- the table has this for the types from a place of a text on
abbrev pub MeasuredFrom : ℕ → List ℕ → List ℕ → Type 0
MeasuredFrom from l t = (k : ℕ) → from ≤ k → k < length l → Typed l k → get_or t (longest_type + k) 0 ≡ measure_of (tree_at l k)

-- and the shapes of them all
pub record Behind (l : List ℕ) (from : ℕ) (t : List ℕ) : Type 0 where
  pub shapes : Shaped l t
  pub room : length t ≡ table_length
  pub sizes : MeasuredFrom from l t

abbrev pub Tabled : List ℕ → List ℕ → Type 0
Tabled l t = Behind l 0 t

-- the answer of the call that fills a table
pub record Tabling (l t : List ℕ) (r : Bool) : Type 0 where
  pub judged : r ≡ is_type l
  pub filled : r ≡ true → Tabled l t

-- what a table says of a type, by its shape
abbrev pub extent_in : List ℕ → Shape → Extent
extent_in t s = extent s.alignment s.fixed (get_or t (longest_type + s.at) 0 / 2)

abbrev pub any_in : List ℕ → Shape → Bool
any_in t s = s.fixed && eqb (get_or t (longest_type + s.at) 0 % 2) 1

abbrev pub offsets_by : List ℕ → Shape → ℕ
offsets_by t s = pick s.fixed 0 (get_or t (longest_type + s.at) 0)
