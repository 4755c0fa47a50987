-- What a walk answers, as the laws have it: a record, whatever variant the code's answer is. Assumes nothing: these are definitions.
use Rattle.std.specs.Prelude.{Bool, true, false, ℕ, Result, Ok, Err}
use Rattle.meaning.specs.Refused.{number_of}
use Rattle.meaning.specs.declared.refusals.Refusal.{Refusal}
use Rattle.editor_steps.specs.declared.answers.Walk.{Walk}
use Rattle.editor_steps.specs.declared.answers.Walk.TheVariants.{Counted, Edited}

-- whether the reading is among those of the bytes: else `length` is how many they have. A refusal's number, or where the reading stands in
-- the frame and how long the bytes are now
pub record Walked : Type 0 where
  pub found : Bool
  pub refusal : ℕ
  pub place : ℕ
  pub length : ℕ

abbrev pub counted_as : ℕ → Walked
counted_as n = record { found = false; refusal = 0; place = 0; length = n }

abbrev pub refused_as : ℕ → Walked
refused_as k = record { found = true; refusal = k; place = 0; length = 0 }

abbrev pub edited_as : ℕ → ℕ → Walked
edited_as p n = record { found = true; refusal = 0; place = p; length = n }

abbrev pub walk_as : Walk → Walked
walk_as (Counted n) = counted_as n
walk_as (Edited p n) = edited_as p n

abbrev pub walked_as : Result Walk Refusal → Walked
walked_as (Ok w) = walk_as w
walked_as (Err r) = refused_as (number_of r)
