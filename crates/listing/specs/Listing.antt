-- What the frame lister prints: a function of its input's bytes. Assumes nothing: these are definitions.
use Rattle.std.specs.Prelude.{List, [], ◌∷◌, ◌++◌, ℕ, ◌+◌, ltb}
use Rattle.meaning.specs.Choice.{pick}
use Rattle.meaning.specs.Limits.{largest_number}
use Rattle.meaning.specs.Refusals.{type_refused}
use Rattle.meaning.specs.Calls.{Counts, counts}
use Rattle.numerals.specs.Hexadecimal.{bytes_of}
use Rattle.numerals.specs.Decimals.{numeral}
use Rattle.lines.specs.Lines.{lines}
use Rattle.lines.specs.Frames.{frame_answer}
use Rattle.signature.specs.Places.{is_type}

-- a refused type gives 1 on each line
unfoldable pub answer : List ℕ → List ℕ → Counts
answer type line = pick (is_type type) (frame_answer type (bytes_of line)) (counts type_refused 0 0)

-- a frame's number, refusal, bytes used and events, with blanks between and a line end
unfoldable pub printed : ℕ → Counts → List ℕ
printed n c = numeral n 32 ++ (numeral c.refusal 32 ++ (numeral c.used 32 ++ numeral c.count 10))

-- frames are numbered from 1, and the number stays at the largest of 64 bits
unfoldable pub next_number : ℕ → ℕ
next_number n = pick (ltb n largest_number) (n + 1) n

unfoldable pub listed_from : List ℕ → ℕ → List (List ℕ) → List ℕ
listed_from type n [] = []
listed_from type n (line ∷ rest) = printed n (answer type line) ++ listed_from type (next_number n) rest

-- the type is the first line, each other line a frame
unfoldable pub listed_lines : List (List ℕ) → List ℕ
listed_lines [] = []
listed_lines (type ∷ frames) = listed_from type 1 frames

-- THE LISTING of an input
unfoldable pub listing : List ℕ → List ℕ
listing input = listed_lines (lines input)
