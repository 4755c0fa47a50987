-- The words of a line, parted by single blanks. Assumes nothing: these are definitions.
use Rattle.std.specs.Prelude.{List, [], ◌∷◌, ℕ, zero, suc, eqb, take, drop}
use Rattle.meaning.specs.Choice.{pick}

-- where a byte first stands in a text, or the text's end
unfoldable pub place : ℕ → List ℕ → ℕ
place byte [] = 0
place byte (b ∷ l) = pick (eqb b byte) 0 (suc (place byte l))

-- a word by its number from 0, empty behind the last
unfoldable pub word_at : ℕ → List ℕ → List ℕ
word_at zero l = take (place 32 l) l
word_at (suc n) l = word_at n (drop (suc (place 32 l)) l)
