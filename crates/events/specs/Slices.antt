-- Events in a lent slice, three numbers for each, where there is room. Assumes nothing: these are definitions.
use Rattle.std.specs.Prelude.{List, [], ◌∷◌, ℕ, ◌+◌, ◌*◌, ◌/◌, ltb, length, set}
use Rattle.meaning.specs.Choice.{pick}
use Rattle.meaning.specs.Events.{Event}
use Rattle.meaning.specs.Limits.{largest_number}

-- the number of the next_event event; it stays at the largest number
unfoldable pub next_event : ℕ → ℕ
next_event n = pick (ltb n largest_number) (n + 1) n

-- event n of a slice, which has room for it or is left as it is
unfoldable pub put : List ℕ → ℕ → Event → List ℕ
put l n e = pick (ltb n (length l / 3)) (set (set (set l (3 * n) e.kind) (3 * n + 1) e.place) (3 * n + 2) e.payload) l

unfoldable pub put_all : List ℕ → ℕ → List Event → List ℕ
put_all l n [] = l
put_all l n (e ∷ es) = put_all (put l n e) (next_event n) es

unfoldable pub advance : ℕ → List Event → ℕ
advance n [] = n
advance n (e ∷ es) = advance (next_event n) es
