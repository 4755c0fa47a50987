-- `size` and `read` as the public calls answer them. Assumes nothing: these are definitions.
use Rattle.std.specs.Prelude.{List, ◌++◌, Bool, ◌&&◌, ℕ, ◌*◌, leb, eqb, length, drop}
use Rattle.std.proofs.Math.Option.{Option, none, some}
use Rattle.meaning.specs.Choice.{pick}
use Rattle.meaning.specs.Limits.{largest_frame, most_variants}
use Rattle.meaning.specs.Refusals.{type_refused, over_limit, room_too_small}
use Rattle.meaning.specs.Depths.{none_open}
use Rattle.meaning.specs.Types.{Tree}
use Rattle.meaning.specs.TypeText.{type_of}
use Rattle.meaning.specs.Events.{Event, triples}
use Rattle.meaning.specs.Outcome.{Outcome, refused}
use Rattle.meaning.specs.Reading.{reading}

unfoldable pub frame_of : Bool → ℕ → List ℕ → Option Tree → Outcome
frame_of big position frame none = refused type_refused 0
frame_of big position frame (some t) =
    pick (leb (length frame) largest_frame && leb position largest_frame) (reading position big most_variants t none_open 0 frame) (refused over_limit 0)

-- the order: 1, 2, then 3 to 12 where reading first meets them
unfoldable pub frame_reading : List ℕ → Bool → ℕ → List ℕ → Outcome
frame_reading type big position frame = frame_of big position frame (type_of type)

-- what a call returns: the refusal, the bytes used, the number of events; every refusal has all counts 0
pub record Counts : Type 0 where
  pub refusal : ℕ
  pub used : ℕ
  pub count : ℕ

abbrev pub counts : ℕ → ℕ → ℕ → Counts
counts r u n = record { refusal = r; used = u; count = n }

unfoldable pub sized : Outcome → Counts
sized o = pick (eqb o.refusal 0) (counts 0 o.used (length o.events)) (counts o.refusal 0 0)

-- then 13, where the events have no room
unfoldable pub fitted : ℕ → Counts → Counts
fitted room c = pick (leb (3 * c.count) room) c (counts room_too_small 0 0)

-- the events at the front, if the call is done; what is left of the slice is unchanged
unfoldable pub filled : List ℕ → Counts → List Event → List ℕ
filled out c es = pick (eqb c.refusal 0) (triples es ++ drop (3 * length es) out) out

-- SIZE: the answer
unfoldable pub size : List ℕ → Bool → ℕ → List ℕ → Counts
size type big position frame = sized (frame_reading type big position frame)

-- READ: the answer, and the slice afterwards
unfoldable pub read : List ℕ → Bool → ℕ → List ℕ → List ℕ → Counts
read type big position frame out = fitted (length out) (size type big position frame)

unfoldable pub read_slice : List ℕ → Bool → ℕ → List ℕ → List ℕ → List ℕ
read_slice type big position frame out =
    filled out (read type big position frame out) (frame_reading type big position frame).events
