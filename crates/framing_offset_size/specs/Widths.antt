-- The widths of framing offsets as code holds them, and what the leaves over them answer. Assumes nothing: these are definitions.
use Rattle.std.specs.Prelude.{◌≡◌, ◌||◌, List, ◌++◌, ℕ, leb, eqb, length, drop, Option, Some, None}
use Rattle.meaning.specs.Choice.{pick}
use Rattle.meaning.specs.Refusals.{over_limit, out_of_bounds, room_too_small}
use Rattle.meaning.specs.Numbers.{bytes}
use Rattle.meaning.specs.Offsets.{bare_width, last_offset}
use Rattle.utils.specs.Checks.{Checked}
use Rattle.framing_offset_size.specs.declared.FramingOffsetSize.{FramingOffsetSize}
use Rattle.framing_offset_size.specs.declared.FramingOffsetSize.TheVariants.{U8, U16, U32, U64}
use Rattle.utils.specs.Checks.{passed, failed}

abbrev pub width_of : FramingOffsetSize → ℕ
width_of U8 = 1
width_of U16 = 2
width_of U32 = 4
width_of U64 = 8

abbrev pub bumped : FramingOffsetSize → Option FramingOffsetSize
bumped U8 = Some U16
bumped U16 = Some U32
bumped U32 = Some U64
bumped U64 = None

-- the refusal of a body and a count that no width fits is 2, and the width then 0
abbrev pub fitting_refusal : Option FramingOffsetSize → ℕ
fitting_refusal (Some s) = 0
fitting_refusal None = over_limit

abbrev pub fitting_width : Option FramingOffsetSize → ℕ
fitting_width (Some s) = width_of s
fitting_width None = 0

-- the width for a body and its offsets: the smallest that fits, or the refusal
pub record Fitted (len count : ℕ) (r : Option FramingOffsetSize) : Type 0 where
  pub refusal : fitting_refusal r ≡ pick (eqb (bare_width len count) 0) over_limit 0
  pub width : fitting_width r ≡ bare_width len count

-- an offset too wide loses its high bytes; a buffer shorter than the width is 13 and stays
unfoldable pub write_refusal : ℕ → List ℕ → ℕ
write_refusal w l = pick (leb w (length l)) 0 room_too_small

unfoldable pub buffer_after : ℕ → ℕ → List ℕ → List ℕ
buffer_after w n l = pick (leb w (length l)) (bytes w n ++ drop w l) l

-- the last offset, which is 0 where there is no byte; a buffer shorter than the width, not empty, is 3
unfoldable pub last_offset_in : ℕ → List ℕ → Checked
last_offset_in w l = pick (eqb (length l) 0 || leb w (length l)) (passed (last_offset w l)) (failed out_of_bounds)
