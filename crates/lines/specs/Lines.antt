-- The lines of an input, and how a line is gathered from blocks into a memory. Assumes nothing: these are definitions.
use Rattle.std.specs.Prelude.{◌≡◌, List, [], ◌∷◌, ◌++◌, Bool, true, false, ℕ, ◌+◌, ◌≤◌, ◌<◌, ltb, eqb, length, take, drop, set}
use Rattle.meaning.specs.Choice.{pick}
use Rattle.lines.specs.declared.Gathered.{Gathered}

-- a last line without a line end is a line if it has a byte
unfoldable pub last_line : List ℕ → List (List ℕ)
last_line [] = []
last_line (b ∷ l) = (b ∷ l) ∷ []

-- the lines of an input whose first line has begun with these bytes: byte 10 ends a line, and no line stands after a last line end
unfoldable pub lines_from : List ℕ → List ℕ → List (List ℕ)
lines_from begun [] = last_line begun
lines_from begun (b ∷ l) = pick (eqb b 10) (begun ∷ lines_from [] l) (lines_from (begun ++ (b ∷ [])) l)

unfoldable pub lines : List ℕ → List (List ℕ)
lines input = lines_from [] input

-- bytes are counted to one above what is kept of them
unfoldable pub more : ℕ → ℕ → ℕ
more most n = pick (ltb n most) (n + 1) (most + 1)

-- a memory of so many bytes with a byte stored, where the place is in it
unfoldable pub stored : ℕ → List ℕ → ℕ → ℕ → List ℕ
stored most l n b = pick (ltb n most) (set l n b) l

-- A memory of so many bytes keeps the front of a text, and counts it to one above.
pub record Keeps (most : ℕ) (l : List ℕ) (kept : ℕ) (memory : List ℕ) : Type 0 where
  pub short : length l ≤ most → kept ≡ length l
  pub long : most < length l → kept ≡ most + 1
  pub holds : length l ≤ most → take kept memory ≡ l
  pub room : length memory ≡ most

-- What a block leaves of a line that is gathered: the memory, the count of the line's bytes, how many bytes of the block are passed,
-- and whether the line ended.
pub record Gathering : Type 0 where
  pub memory : List ℕ
  pub kept : ℕ
  pub passed : ℕ
  pub ended : Bool

abbrev pub gathering : List ℕ → ℕ → ℕ → Bool → Gathering
gathering memory kept passed ended = record { memory = memory; kept = kept; passed = passed; ended = ended }

abbrev pub further : ℕ → Gathering → Gathering
further n g = gathering g.memory g.kept (n + g.passed) g.ended

-- a line's bytes are kept up to its end, or the block's
unfoldable pub gathers : List ℕ → ℕ → List ℕ → Gathering
gathers memory kept [] = gathering memory kept 0 false
gathers memory kept (b ∷ l) =
    pick (eqb b 10) (gathering memory kept 1 true)
    (further 1 (gathers (stored (length memory) memory kept b) (more (length memory) kept) l))

-- THE ANSWER OF `gather`: r, where n bytes of the line were kept in the memory line, which is then line'
pub record Gathers (line line' : List ℕ) (n : ℕ) (block : List ℕ) (r : Gathered) : Type 0 where
  pub memory : line' ≡ (gathers line n block).memory
  pub kept : r.kept ≡ (gathers line n block).kept
  pub passed : r.passed ≡ (gathers line n block).passed
  pub within : r.passed ≤ length block
  pub ended : r.ended ≡ (gathers line n block).ended

-- How the lines of an input go on by what a block leaves, where p is passed of the present line, and the block stands in front of the
-- rest: the line ended, and is kept; or all of the block belongs to it.
pub data GoesOn (most : ℕ) (p block rest : List ℕ) (g : Gathering) : Type 0 where
  line_ended : (t : List ℕ) → g.ended ≡ true → Keeps most (p ++ t) g.kept g.memory → lines_from p (block ++ rest) ≡ (p ++ t) ∷ lines_from [] (drop g.passed block ++ rest) → GoesOn most p block rest g
  line_open : g.ended ≡ false → Keeps most (p ++ block) g.kept g.memory → lines_from p (block ++ rest) ≡ lines_from (p ++ block) rest → GoesOn most p block rest g
