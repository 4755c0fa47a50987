-- The definitions computed, on inputs that tell their rules apart. Assumes nothing.
use mathlib.Core.Path.{◌≡◌, refl}
use mathlib.Core.List.{[], ◌∷◌}
use mathlib.Core.Bool.{true, false}
use Rattle.lines.specs.Lines.{last_line, lines_from, lines, more, stored, gathering, gathers}
use Rattle.lines.specs.Words.{place, word_at}

-- an empty line between two, a last line end, a last line without one
pub lines_ended : lines (97 ∷ 10 ∷ 10 ∷ 98 ∷ 10 ∷ []) ≡ (97 ∷ []) ∷ [] ∷ (98 ∷ []) ∷ []
unfolding last_line lines_from lines
lines_ended = refl

pub lines_open : lines (97 ∷ 10 ∷ 98 ∷ []) ≡ (97 ∷ []) ∷ (98 ∷ []) ∷ []
unfolding last_line lines_from lines
lines_open = refl

-- a line of three bytes in a memory of two, and the byte behind its end
pub gathered_long : gathers (1 ∷ 2 ∷ []) 0 (97 ∷ 98 ∷ 99 ∷ 10 ∷ 100 ∷ []) ≡ gathering (97 ∷ 98 ∷ []) 3 4 true
unfolding more stored gathers
gathered_long = refl

pub gathered_on : gathers (1 ∷ 2 ∷ []) 1 (97 ∷ []) ≡ gathering (1 ∷ 97 ∷ []) 2 1 false
unfolding more stored gathers
gathered_on = refl

-- the words of `a  bc`: the one between two blanks is empty, and so is one behind the last
pub words : word_at 0 (97 ∷ 32 ∷ 32 ∷ 98 ∷ 99 ∷ []) ∷ word_at 1 (97 ∷ 32 ∷ 32 ∷ 98 ∷ 99 ∷ []) ∷ word_at 2 (97 ∷ 32 ∷ 32 ∷ 98 ∷ 99 ∷ []) ∷ word_at 3 (97 ∷ 32 ∷ 32 ∷ 98 ∷ 99 ∷ []) ∷ [] ≡ (97 ∷ []) ∷ [] ∷ (98 ∷ 99 ∷ []) ∷ [] ∷ []
unfolding place word_at
words = refl
