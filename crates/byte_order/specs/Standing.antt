-- The number that stands at a place. Assumes nothing: these are definitions.
use Rattle.std.specs.Prelude.{List, Bool, ℕ}
use lib.Dec.{leb}
use Rattle.meaning.specs.Choice.{pick}
use Rattle.meaning.specs.Refusals.{no_value}
use Rattle.meaning.specs.Padding.{is_alignment}
use Rattle.meaning.specs.Reading.{number_in}
use Rattle.utils.specs.Checks.{Checked}
use Rattle.utils.specs.Checks.{failed, told_by}

-- what a reading of it tells, whatever its kind; numbers need their bytes
unfoldable pub number_at : ℕ → Bool → List ℕ → ℕ → Checked
number_at w big l place = told_by (number_in big 0 w 0 l place)

-- the same for any width: one that is not 1, 2, 4 or 8 is 17, as with alignments
unfoldable pub number_of : ℕ → Bool → List ℕ → ℕ → Checked
number_of w big l place = pick (is_alignment w) (number_at w big l place) (failed no_value)

-- the same for a width that is known where it is asked: one of more than eight bytes is 17
abbrev pub number_by : ℕ → Bool → List ℕ → ℕ → Checked
number_by w big l place = pick (leb w 8) (number_at w big l place) (failed no_value)
