-- What a reading becomes, as the caller says it. Assumes nothing: these are definitions.
use Rattle.std.specs.Prelude.{Bool, true, false, ℕ, Option, None, Some}

-- by a flag and a number
abbrev pub new_by : Bool → ℕ → Option ℕ
new_by true n = Some n
new_by false n = None
