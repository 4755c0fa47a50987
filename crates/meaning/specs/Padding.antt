-- Padding: how many bytes, and whether they are all 0. Assumes nothing: these are definitions.
use Rattle.std.specs.Prelude.{◌≡◌, List, [], ◌∷◌, Bool, true, ◌||◌, ℕ, suc, ◌-◌, ◌%◌, eqb, replicate}
use Rattle.meaning.specs.Choice.{pick}

-- an alignment is 1, 2, 4 or 8
unfoldable pub is_alignment : ℕ → Bool
is_alignment a = eqb a 1 || (eqb a 2 || (eqb a 4 || eqb a 8))

pub record Aligns (a : ℕ) : Type 0 where
  pub listed : is_alignment a ≡ true

-- how many bytes lie between a place and the next multiple of the alignment
unfoldable pub padding : ℕ → ℕ → ℕ
padding place a = (a - place % a) % a

abbrev pub zeros : ℕ → List ℕ
zeros n = replicate n 0

-- how many bytes of 0 a list begins with
unfoldable pub leading_zeros : List ℕ → ℕ
leading_zeros [] = 0
leading_zeros (b ∷ l) = pick (eqb b 0) (suc (leading_zeros l)) 0
