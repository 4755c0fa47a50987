-- A reader's answer: how it and the lent slice stand to the reading that it is of. Assumes nothing: these are definitions.
use Rattle.std.specs.Prelude.{◌≡◌, List, ℕ, ◌-◌, ◌≤◌, length, Result, Ok, Err}
use Rattle.meaning.specs.Outcome.{Outcome}
use Rattle.meaning.specs.Calls.{Counts, counts}
use Rattle.meaning.specs.Refused.{number_of}
use Rattle.meaning.specs.declared.refusals.Refusal.{Refusal}
use Rattle.reader_basic.specs.declared.Answer.{Answer}
use Rattle.reader_basic.specs.declared.Stop.{Stop}
use Rattle.events.specs.Slices.{advance, put_all}

-- the numbers of an answer, of a stop, and of a reading that came to one of them
abbrev pub counts_in : Answer → Counts
counts_in a = counts 0 a.used a.count

abbrev pub counts_at : Stop → Counts
counts_at s = counts (number_of s.refusal) s.used s.count

abbrev pub counts_of : Result Answer Stop → Counts
counts_of (Ok a) = counts_in a
counts_of (Err s) = counts_at s

-- a stop for what was not found, behind so many bytes and events
pub record StopsAt {A : Type 0} (found : Result A Refusal) (u n : ℕ) (s : Stop) : Type 0 where
  pub refusal : found ≡ Err s.refusal
  pub used : s.used ≡ u
  pub count : s.count ≡ n

-- The answer r, from event n on over a slice that was l and is l', is the reading o. It used at most len bytes, and at most end if it
-- is done.
pub record Done (o : Outcome) (end len n : ℕ) (l l' : List ℕ) (r : Counts) : Type 0 where
  pub refusal : r.refusal ≡ o.refusal
  pub used : r.used ≡ o.used
  pub fits : r.used ≤ len
  pub ends : r.refusal ≡ 0 → r.used ≤ end
  pub count : r.count ≡ advance n o.events
  pub slice : l' ≡ put_all l n o.events

-- of a whole part; of a part from j on; of a part from j to e
abbrev pub Whole : Outcome → List ℕ → ℕ → List ℕ → List ℕ → Counts → Type 0
Whole o part n l l' r = Done o (length part) (length part) n l l' r

abbrev pub From : Outcome → List ℕ → ℕ → ℕ → List ℕ → List ℕ → Counts → Type 0
From o part j n l l' r = Done o (length part - j) (length part - j) n l l' r

abbrev pub Between : Outcome → List ℕ → ℕ → ℕ → ℕ → List ℕ → List ℕ → Counts → Type 0
Between o part j e n l l' r = Done o (e - j) (length part - j) n l l' r
