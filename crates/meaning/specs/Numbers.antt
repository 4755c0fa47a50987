-- Numbers as bytes, once over the width and the byte order. Assumes nothing: these are definitions.
use Rattle.std.specs.Prelude.{List, [], ◌∷◌, reverse, Bool, true, false, ℕ, zero, suc, ◌+◌, ◌-◌, ◌*◌, ◌/◌, ◌%◌, take, drop}

-- the `w` low bytes of a number, the lowest first: a number that is too wide loses its high bytes
unfoldable pub bytes : ℕ → ℕ → List ℕ
bytes zero n = []
bytes (suc w) n = n % 256 ∷ bytes w (n / 256)

-- the number that bytes spell, the lowest first
unfoldable pub value : List ℕ → ℕ
value [] = 0
value (b ∷ l) = b + 256 * value l

-- bytes in a byte order, or back from it; `big` has the highest first
abbrev pub ordered : Bool → List ℕ → List ℕ
ordered true l = reverse l
ordered false l = l

-- the number of a width that stands at a place
abbrev pub spelled : Bool → ℕ → ℕ → List ℕ → ℕ
spelled big w place l = value (ordered big (take w (drop place l)))

-- the byte that comes next of a number of a width, from the highest down
abbrev pub next_byte : Bool → ℕ → ℕ → ℕ
next_byte true w i = i
next_byte false w i = w - 1 - i
