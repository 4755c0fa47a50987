-- `is_written` as the public call answers it, for all arguments. Assumes nothing: these are definitions.
use Rattle.std.specs.Prelude.{List, Bool, ℕ, leb, eqb, length}
use Rattle.std.proofs.Math.Option.{Option, none, some}
use Rattle.meaning.specs.Choice.{pick}
use Rattle.meaning.specs.Limits.{largest_frame, most_variants}
use Rattle.meaning.specs.Refusals.{type_refused, over_limit, not_written}
use Rattle.meaning.specs.Depths.{none_open}
use Rattle.meaning.specs.Types.{Tree}
use Rattle.meaning.specs.TypeText.{type_of}
use Rattle.meaning.specs.Calls.{frame_reading}
use Rattle.meaning_writing.specs.Strict.{is_written}

-- the type (1), the frame's length (2), then 0 where the strict test passes, and else another number
unfoldable pub written_as : List ℕ → ℕ → Option Tree → ℕ
written_as frame other none = type_refused
written_as frame other (some t) = pick (leb (length frame) largest_frame) (pick (is_written most_variants t none_open frame) 0 other) over_limit

-- that of a frame that is no written form: what reading it refuses (3 to 12), or else 15
unfoldable pub unwritten : ℕ → ℕ
unwritten refusal = pick (eqb refusal 0) not_written refusal

-- IS IT WRITTEN
unfoldable pub written_refusal : List ℕ → Bool → List ℕ → ℕ
written_refusal type big frame = written_as frame (unwritten (frame_reading type big 0 frame).refusal) (type_of type)

-- by the walk alone
unfoldable pub walked_refusal : List ℕ → List ℕ → ℕ
walked_refusal type frame = written_as frame not_written (type_of type)
