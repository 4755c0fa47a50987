-- What a leaf answers: document 01's number of a refusal with the value 0, or 0 with a value; and what it judges. Assumes nothing: these
-- are definitions.
use Rattle.std.specs.Prelude.{ℕ, List, [], ◌∷◌, Result, Ok, Err}
use Rattle.meaning.specs.Choice.{pick}
use Rattle.meaning.specs.Refusals.{no_value}
use Rattle.meaning.specs.Padding.{is_alignment, padding}
use Rattle.meaning.specs.Events.{Event}
use Rattle.meaning.specs.Outcome.{Outcome}
use Rattle.meaning.specs.declared.refusals.Refusal.{Refusal}
use Rattle.meaning.specs.Refused.{number_of}

-- a refusal's number, 0 where there is none, and a value, 0 where it is refused
pub record Checked : Type 0 where
  pub refusal : ℕ
  pub value : ℕ

abbrev pub passed : ℕ → Checked
passed n = record { refusal = 0; value = n }

abbrev pub failed : ℕ → Checked
failed k = record { refusal = k; value = 0 }

-- what a leaf answers with
abbrev pub checked : Result ℕ Refusal → Checked
checked (Ok n) = passed n
checked (Err r) = failed (number_of r)

-- a reading as a leaf answers it: by the bytes that it used, or by what its event tells
abbrev pub used_by : Outcome → Checked
used_by o = record { refusal = o.refusal; value = o.used }

abbrev pub payload : List Event → ℕ
payload [] = 0
payload (e ∷ es) = e.payload

abbrev pub told_by : Outcome → Checked
told_by o = record { refusal = o.refusal; value = payload o.events }

-- the padding at a value, for an alignment of 1, 2, 4 or 8; any other is 17
unfoldable pub padding_for : ℕ → ℕ → Checked
padding_for value a = pick (is_alignment a) (passed (padding value a)) (failed no_value)
