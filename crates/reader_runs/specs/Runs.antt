-- Numbers one behind another, in closed form. Assumes nothing: these are definitions.
use Rattle.std.specs.Prelude.{List, [], ◌∷◌, Bool, ℕ, zero, suc, ◌+◌, ◌-◌, ◌/◌, ◌%◌, min, eqb, length}
use Rattle.meaning.specs.Choice.{pick}
use Rattle.meaning.specs.Numbers.{spelled}
use Rattle.meaning.specs.Events.{Event, event}
use Rattle.meaning.specs.Outcome.{Outcome, outcome}
use Rattle.meaning.specs.Limits.{largest_number}
use Rattle.meaning.specs.Refusals.{out_of_bounds}
use Rattle.meaning.specs.Calls.{Counts}

-- so many numbers from j on of a part that begins at the place k
unfoldable pub number_events : Bool → ℕ → ℕ → ℕ → List ℕ → ℕ → ℕ → List Event
number_events big kind w k l zero j = []
number_events big kind w k l (suc m) j = event kind (k + j) (spelled big w j l) ∷ number_events big kind w k l m (j + w)

-- in so many bytes: what is left over is 3
abbrev pub left_over : ℕ → ℕ → ℕ
left_over left w = pick (eqb (left % w) 0) 0 out_of_bounds

abbrev pub counted_of : ℕ → ℕ → ℕ → Counts
counted_of left w n = record {
  refusal = left_over left w;
  used = left - left % w;
  count = min (n + left / w) largest_number;
}

-- from j to the part's end; the place of a refusal is not told
abbrev pub numbers_from : Bool → ℕ → ℕ → ℕ → List ℕ → ℕ → Outcome
numbers_from big kind w k l j =
    outcome (left_over (length l - j) w) ((length l - j) - (length l - j) % w) 0 (number_events big kind w k l ((length l - j) / w) j)
