-- What a line of hexadecimal answers as a frame of a type. Assumes nothing: these are definitions.
use Rattle.std.specs.Prelude.{List, false, ℕ, leb, length}
use Rattle.std.proofs.Math.Option.{Option, none, some}
use Rattle.meaning.specs.Choice.{pick}
use Rattle.meaning.specs.Refusals.{over_limit, not_hexadecimal}
use Rattle.meaning.specs.Calls.{Counts, counts, size}

-- a frame has at most 16,384 bytes
abbrev pub most_bytes : ℕ
most_bytes = 16384

-- 18 where the line is not pairs of digits, before the 2 of a long one; else the answer of `size` at position 0, little-endian
unfoldable pub frame_answer : List ℕ → Option (List ℕ) → Counts
frame_answer type none = counts not_hexadecimal 0 0
frame_answer type (some frame) = pick (leb (length frame) most_bytes) (size type false 0 frame) (counts over_limit 0 0)
