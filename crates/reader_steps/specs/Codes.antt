-- What a character of a type text says. Assumes nothing: these are definitions.
use Rattle.std.specs.Prelude.{◌≡◌, ◌≢◌, ℕ, ◌+◌, ◌<◌, List, length, slice_index, Option, MatchOption}
use Rattle.signature.specs.Places.{letter_at}
use Rattle.signature.specs.Steps.{width_by}
use Rattle.signature.specs.declared.Letter.{Letter}
use Rattle.signature.specs.declared.Letter.TheVariants.{Number, Maybe}

-- a maybe at a place holds a number of a width
pub record Held (l : List ℕ) (at w : ℕ) : Type 0 where
  pub maybe : letter_at l at ≡ Maybe
  pub within : at + 1 < length l
  pub number : letter_at l (at + 1) ≡ Number (slice_index l (at + 1)) w

-- a number's width; and no width is 0
abbrev pub WidthBy : Letter → Option ℕ → Type 0
WidthBy k r = MatchOption r (0 ≡ width_by k) (λ w. (w ≡ width_by k) × (w ≢ 0))
