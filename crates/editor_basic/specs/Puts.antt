-- Bytes put into a lent slice. Assumes nothing: these are definitions.
use Rattle.std.specs.Prelude.{List, [], ◌∷◌, ℕ, ◌+◌, set}

-- a slice with bytes put over it from a place on; those that have no room are left out
unfoldable pub over : List ℕ → ℕ → List ℕ → List ℕ
over out at [] = out
over out at (b ∷ bs) = over (set out at b) (at + 1) bs

-- more than what stands behind a changed child can be, and more than the offsets behind a changed last field: crude, so that sums stay small
abbrev pub rest_most : ℕ
rest_most = 3000000

abbrev pub last_most : ℕ
last_most = 600000
