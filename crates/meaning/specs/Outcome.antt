-- What a reading answers, success and refusal alike, and how answers are put together. Assumes nothing: these are definitions.
use Rattle.std.specs.Prelude.{List, [], ◌∷◌, ◌++◌, ℕ, ◌+◌, eqb}
use Rattle.meaning.specs.Choice.{pick}
use Rattle.meaning.specs.Events.{Event, opening, closing}

-- The refusal's number, 0 if done; the bytes used, or passed before the refusal; the place in the frame where the refusal was found;
-- the events met up to there.
pub record Outcome : Type 0 where
  pub refusal : ℕ
  pub used : ℕ
  pub place : ℕ
  pub events : List Event

abbrev pub outcome : ℕ → ℕ → ℕ → List Event → Outcome
outcome r u p es = record { refusal = r; used = u; place = p; events = es }

abbrev pub done : ℕ → List Event → Outcome
done u es = outcome 0 u 0 es

abbrev pub refused : ℕ → ℕ → Outcome
refused r p = outcome r 0 p []

-- an outcome with bytes and events in front of it
abbrev pub after : ℕ → List Event → Outcome → Outcome
after u es o = outcome o.refusal (u + o.used) o.place (es ++ o.events)

-- one reading and, if it is done, another from where it stopped
unfoldable pub chain : Outcome → (ℕ → Outcome) → Outcome
chain o f = pick (eqb o.refusal 0) (after o.used o.events (f o.used)) o

-- a failed number has used nothing
unfoldable pub unused : Outcome → Outcome
unused o = pick (eqb o.refusal 0) o (outcome o.refusal 0 o.place o.events)

-- bytes that are passed behind what was read
abbrev pub passing : ℕ → ℕ → Outcome
passing n u = done n []

abbrev pub closing_at : ℕ → ℕ → Outcome
closing_at p u = done 0 (closing (p + u) ∷ [])

-- a container's events round what is read in it
unfoldable pub enclosed : ℕ → ℕ → Outcome → Outcome
enclosed kind p o = after 0 (opening kind p ∷ []) (chain o (closing_at p))
