-- What stands at a place of a part: padding, the place behind some bytes, and bools. Assumes nothing: these are definitions.
use Rattle.std.specs.Prelude.{List, Bool, ℕ, ◌+◌, ltb, drop, Result, Ok, Err}
use Rattle.meaning.specs.Choice.{pick}
use Rattle.meaning.specs.Limits.{largest_number}
use Rattle.meaning.specs.Refusals.{out_of_bounds, no_value}
use Rattle.meaning.specs.Refused.{number_of}
use Rattle.meaning.specs.declared.refusals.Refusal.{Refusal}
use Rattle.meaning.specs.Padding.{is_alignment}
use Rattle.meaning.specs.Depths.{none_open}
use Rattle.meaning.specs.Reading.{pad, read_bool}
use Rattle.meaning.specs.Parts.{holds}
use Rattle.utils.specs.Checks.{Checked}
use Rattle.utils.specs.Checks.{passed, failed, used_by, told_by}

-- the padding that is due, where it is there; the sum of position and place is taken first: past 64 bits it is 3; then an alignment that
-- is none is 17
unfoldable pub padding_at : ℕ → ℕ → ℕ → List ℕ → Checked
padding_at position place a l =
    pick (ltb largest_number (position + place)) (failed out_of_bounds)
    (pick (is_alignment a) (used_by (pad position a place (drop place l))) (failed no_value))

-- the place after so many bytes; a part that runs past the end is 3
unfoldable pub place_after : List ℕ → ℕ → ℕ → Checked
place_after l place len = pick (holds l place len) (passed (place + len)) (failed out_of_bounds)

-- what a reading of a bool tells, whatever is open and wherever it stands
unfoldable pub bool_at : List ℕ → ℕ → Checked
bool_at l place = told_by (read_bool none_open 0 (drop place l))

-- what a bool is answered with: 1 where it is true
abbrev pub bool_checked : Result Bool Refusal → Checked
bool_checked (Ok b) = passed (pick b 1 0)
bool_checked (Err r) = failed (number_of r)
