-- What the stores do. Assumes nothing: these are definitions.
use Rattle.std.specs.Prelude.{ℕ, suc, ◌+◌, min, List, [], ◌∷◌, set}

-- where sums of lengths stay
abbrev pub cap : ℕ
cap = 0x10_0000

abbrev pub sum : ℕ → ℕ → ℕ
sum a b = min (a + b) cap

-- bytes stored from a place on, where there is room for them
unfoldable pub puts : List ℕ → ℕ → List ℕ → List ℕ
puts l i [] = l
puts l i (b ∷ bs) = puts (set l i b) (suc i) bs
