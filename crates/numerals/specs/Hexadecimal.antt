-- Bytes in hexadecimal: the value of a digit, and the bytes that pairs of digits spell. Assumes nothing: these are definitions.
use Rattle.std.specs.Prelude.{◌≡◌, List, [], ◌∷◌, ◌++◌, Bool, true, ◌&&◌, ℕ, ◌+◌, ◌-◌, ◌*◌, ◌%◌, leb, ltb, length, Some, None, Option as Answer}
use Rattle.std.proofs.Math.Option.{Option, none, some}
use Rattle.meaning.specs.Choice.{pick}
use Rattle.numerals.specs.Storing.{over}

abbrev pub among : ℕ → ℕ → ℕ → Bool
among low high b = leb low b && leb b high

-- the value of a hexadecimal digit, 0 to 9, A to F or a to f; 16 for any other byte
unfoldable pub digit : ℕ → ℕ
digit b = pick (among 48 57 b) (b - 48) (pick (among 65 70 b) (b - 55) (pick (among 97 102 b) (b - 87) 16))

-- the value of a digit that is there, 16 where none is; of a number that is no digit's value its last digit counts
abbrev pub digit_in : Answer ℕ → ℕ
digit_in None = 16
digit_in (Some d) = d % 16

unfoldable pub before : List ℕ → Option (List ℕ) → Option (List ℕ)
before front none = none
before front (some l) = some (front ++ l)

-- the bytes that a text spells, a pair of digits each, or none; and those of a text that goes on behind the first digit of a pair
unfoldable mutual
  pub bytes_of : List ℕ → Option (List ℕ)
  bytes_of [] = some []
  bytes_of (b ∷ l) = pick (ltb (digit b) 16) (bytes_behind (digit b) l) none

  pub bytes_behind : ℕ → List ℕ → Option (List ℕ)
  bytes_behind first [] = none
  bytes_behind first (b ∷ l) = pick (ltb (digit b) 16) (before ((16 * first + digit b) ∷ []) (bytes_of l)) none

-- whether a line has a byte, by what is kept of it: a byte that is no digit, a first digit's value, below 16, or a pair
unfoldable pub has_byte : Bool → ℕ → ℕ → Bool
has_byte spoilt half kept = pick spoilt true (pick (ltb half 16) true (ltb 0 kept))

-- bytes that have room
unfoldable pub within : ℕ → Option (List ℕ) → Option (List ℕ)
within room none = none
within room (some l) = pick (leb (length l) room) (some l) none

-- how many, and which they are
unfoldable pub spelt : Option (List ℕ) → Answer ℕ
spelt none = None
spelt (some l) = Some (length l)

unfoldable pub stored_bytes : Option (List ℕ) → List ℕ
stored_bytes none = []
stored_bytes (some l) = l

-- THE ANSWER OF `bytes`: r, where the slice out is then out': the bytes that the text spells stand at its front, if they have room
pub record Spells (text out out' : List ℕ) (r : Answer ℕ) : Type 0 where
  pub answer : r ≡ spelt (within (length out) (bytes_of text))
  pub slice : out' ≡ over (stored_bytes (within (length out) (bytes_of text))) out

-- is a text digits alone?
unfoldable pub all_digits : List ℕ → Bool
all_digits [] = true
all_digits (b ∷ l) = ltb (digit b) 16 && all_digits l
