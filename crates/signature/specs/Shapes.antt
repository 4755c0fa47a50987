-- The shapes of a type text: what a table beside the text has at each place. Assumes nothing: these are definitions.
use Rattle.std.specs.Prelude.{◌≡◌, List, Bool, true, false, ◌&&◌, ℕ, ◌+◌, ◌*◌, ◌/◌, ◌%◌, ◌≤◌, ◌<◌, leb, length, get_or}
use Rattle.meaning.specs.Choice.{pick}
use Rattle.meaning.specs.Limits.{longest_type}
use Rattle.signature.specs.Places.{is_type, letter_at, child_at}
use Rattle.signature.specs.declared.Letter.{Letter}
use Rattle.signature.specs.Places.{Child}
use Rattle.signature.specs.declared.shapes.Shape.{Shape}

-- the place behind a type, its alignment and whether it is fixed, in one number
abbrev pub packed : ℕ → ℕ → Bool → ℕ
packed next a f = 32 * next + (a + pick f 16 0)

-- 0 where no type begins
unfoldable pub shape_of : Child → ℕ
shape_of c = pick c.found (packed c.next c.alignment c.fixed) 0

abbrev pub shape_at : List ℕ → ℕ → ℕ
shape_at l at = shape_of (child_at l at)

-- a table has the shapes of a text, from a place on
abbrev pub ShapedFrom : ℕ → List ℕ → List ℕ → Type 0
ShapedFrom from l t = (k : ℕ) → from ≤ k → k < length l → get_or t k 0 ≡ shape_at l k

-- whether a character stands at a place
pub record CharacterAt (l : List ℕ) (at c : ℕ) (r : Bool) : Type 0 where
  pub here : r ≡ true → (at < length l) × (get_or l at 0 ≡ c)
  pub not : r ≡ false → at < length l → get_or l at 0 ≡ c → ⊥

-- a place inside a text of at most 255 characters, and a table with the shapes behind it
pub record Behind (l : List ℕ) (at : ℕ) (t : List ℕ) : Type 0 where
  pub few : length l ≤ longest_type
  pub room : length l ≤ length t
  pub inside : at < length l
  pub table : ShapedFrom (at + 1) l t

-- a table after a text's shapes from a place on were put into it: nothing else changed
pub record Filled (from : ℕ) (l t t' : List ℕ) : Type 0 where
  pub kept : length t' ≡ length t
  pub each : ShapedFrom from l t'
  pub before : (k : ℕ) → k < from → get_or t' k 0 ≡ get_or t k 0
  pub behind : (k : ℕ) → length l ≤ k → get_or t' k 0 ≡ get_or t k 0

-- a table has the shapes of a text of at most 255 characters
pub record Shaped (l t : List ℕ) : Type 0 where
  pub few : length l ≤ longest_type
  pub room : length l ≤ length t
  pub each : ShapedFrom 0 l t

-- the answer of a call that fills a table: is the text one complete type, no longer than the table; and the table afterwards, as it
-- was where the text is longer than 255 characters or than the table
pub record Answered (l t t' : List ℕ) (r : Bool) : Type 0 where
  pub judged : r ≡ (leb (length l) (length t) && is_type l)
  pub filled : length l ≤ longest_type → length l ≤ length t → Filled 0 l t t'
  pub long : longest_type < length l → t' ≡ t
  pub small : length t < length l → t' ≡ t

-- a number of the table taken apart
abbrev pub unpacked : ℕ → Letter → ℕ → Shape
unpacked at k s = record { at = at; kind = k; next = s / 32; alignment = s % 16; fixed = leb 16 (s % 32) }

-- what a table says of the type at a place of its text
abbrev pub shape_in : List ℕ → List ℕ → ℕ → Shape
shape_in l t at = unpacked at (letter_at l at) (get_or t at 0)

-- what there is to say
abbrev pub shape : ℕ → Child → Shape
shape at c = record { at = at; kind = c.kind; next = c.next; alignment = c.alignment; fixed = c.fixed }
