-- The listing byte by byte, as the code goes: from a state and its two memories, what each byte prints and leaves. The law that
-- this is the listing stands in proofs/Whole. Assumes nothing: these are definitions.
use Rattle.std.specs.Prelude.{◌≡◌, List, [], ◌∷◌, ◌++◌, Bool, true, false, ℕ, ◌+◌, ◌-◌, ◌*◌, ◌≤◌, leb, ltb, eqb, length, take, drop, Some, None, Option as Answer}
use Rattle.meaning.specs.Choice.{pick}
use Rattle.meaning.specs.Refusals.{type_refused, over_limit, not_hexadecimal}
use Rattle.meaning.specs.Calls.{Counts, counts, size}
use Rattle.numerals.specs.Storing.{over}
use Rattle.numerals.specs.Hexadecimal.{digit, digit_in, has_byte}
use Rattle.lines.specs.Lines.{more, stored}
use Rattle.signature.specs.Places.{is_type}
use Rattle.lines.specs.Frames.{most_bytes}
use Rattle.listing.specs.Listing.{printed, next_number}
use Rattle.listing.specs.declared.State.{State}
use Rattle.listing.specs.declared.Progress.{Progress}

-- The state and what the two memories hold: the type's first bytes, and the first bytes of the present frame.
pub record Machine : Type 0 where
  pub state : State
  pub text : List ℕ
  pub frame : List ℕ

abbrev pub machine : State → List ℕ → List ℕ → Machine
machine s t f = record { state = s; text = t; frame = f }

abbrev pub state_of : ℕ → ℕ → ℕ → Answer ℕ → Bool → State
state_of line letters kept half spoilt =
    record { line = line; letters = letters; kept = kept; half = half; spoilt = spoilt }

-- no byte read: in line 0, which is the type, with no letter
unfoldable pub fresh_state : State
fresh_state = state_of 0 0 0 None false

-- 256 bytes of the type are kept: a text of so many is no type, whatever stands in it
abbrev pub most_letters : ℕ
most_letters = 256

-- behind a line end
unfoldable pub ended : Machine → Machine
ended m = machine (state_of (next_number m.state.line) m.state.letters 0 None false) m.text m.frame

unfoldable pub lettered : Machine → ℕ → Machine
lettered m b =
    machine
    (state_of m.state.line (more most_letters m.state.letters) m.state.kept m.state.half m.state.spoilt)
    (stored most_letters m.text m.state.letters b)
    m.frame

unfoldable pub paired : Machine → ℕ → Machine
paired m b =
    machine
    (state_of m.state.line m.state.letters (more most_bytes m.state.kept) None m.state.spoilt)
    m.text
    (stored most_bytes m.frame m.state.kept b)

unfoldable pub halved : Machine → ℕ → Machine
halved m v =
    machine (state_of m.state.line m.state.letters m.state.kept (Some v) m.state.spoilt) m.text m.frame

unfoldable pub spoiled : Machine → Machine
spoiled m =
    machine (state_of m.state.line m.state.letters m.state.kept m.state.half true) m.text m.frame

-- a digit's value: the second of a pair, or the first, or no digit
unfoldable pub valued : Machine → ℕ → Machine
valued m v =
    pick (ltb v 16) (pick (ltb (digit_in m.state.half) 16) (paired m (16 * digit_in m.state.half + v)) (halved m v)) (spoiled m)

-- what a byte leaves
unfoldable pub step : Machine → ℕ → Machine
step m b = pick (eqb b 10) (ended m) (pick (eqb m.state.line 0) (lettered m b) (valued m (digit b)))

-- the answer to the present line, if it ends here: 18 where it is spoilt or a digit waits for its second, then 2, then that of `size`
unfoldable pub frame_by : Bool → Bool → Bool → Counts → Counts
frame_by spoilt odd fits sized = pick spoilt (counts not_hexadecimal 0 0) (pick odd (counts not_hexadecimal 0 0) (pick fits sized (counts over_limit 0 0)))

unfoldable pub frame_of : Machine → Counts
frame_of m =
    frame_by m.state.spoilt (ltb (digit_in m.state.half) 16) (leb m.state.kept most_bytes)
    (size (take m.state.letters m.text) false 0 (take m.state.kept m.frame))

unfoldable pub answer_of : Machine → Counts
answer_of m = pick (is_type (take m.state.letters m.text)) (frame_of m) (counts type_refused 0 0)

-- what the end of the present line prints: nothing behind the type
unfoldable pub line_text : Machine → List ℕ
line_text m = pick (eqb m.state.line 0) [] (printed m.state.line (answer_of m))

-- what a byte prints
unfoldable pub output : Machine → ℕ → List ℕ
output m b = pick (eqb b 10) (line_text m) []

-- whether the present frame's line has a byte
abbrev pub begun : State → Bool
begun s = has_byte s.spoilt (digit_in s.half) s.kept

-- what the end of the input prints: a last line without a line end is a line if it has a byte
unfoldable pub ending : Machine → List ℕ
ending m = pick (begun m.state) (line_text m) []

-- WHAT IS PRINTED FROM A STATE ON, for what is left of the input
unfoldable pub listed : Machine → List ℕ → List ℕ
listed m [] = ending m
listed m (b ∷ l) = output m b ++ listed (step m b) l

-- no printed line is longer
abbrev pub longest_line : ℕ
longest_line = 84

-- What one call makes of a block: the machine behind it, the bytes passed, what was printed.
pub record Ran : Type 0 where
  pub machine : Machine
  pub passed : ℕ
  pub text : List ℕ

abbrev pub ran : Machine → ℕ → List ℕ → Ran
ran m n t = record { machine = m; passed = n; text = t }

abbrev pub further : List ℕ → Ran → Ran
further t r = ran r.machine (r.passed + 1) (t ++ r.text)

-- a block is passed byte by byte, while a longest line has room
unfoldable pub run : ℕ → Machine → List ℕ → Ran
run room m [] = ran m 0 []
run room m (b ∷ l) =
    pick (ltb room longest_line) (ran m 0 []) (further (output m b) (run (room - length (output m b)) (step m b) l))

-- THE ANSWER OF `list`: r, where the machine is m' behind it and the slice out is out'
pub record Lists (m m' : Machine) (block out out' : List ℕ) (r : Progress) : Type 0 where
  pub machine : m' ≡ (run (length out) m block).machine
  pub passed : r.passed ≡ (run (length out) m block).passed
  pub within : r.passed ≤ length block
  pub written : r.written ≡ length (run (length out) m block).text
  pub fits : r.written ≤ length out
  pub slice : out' ≡ over (run (length out) m block).text out

-- what `finish` prints, where there is room
unfoldable pub final_text : ℕ → Machine → List ℕ
final_text room m = pick (ltb room longest_line) [] (ending m)

-- THE ANSWER OF `finish`
pub record Finishes (m : Machine) (out out' : List ℕ) (r : ℕ) : Type 0 where
  pub written : r ≡ length (final_text (length out) m)
  pub fits : r ≤ length out
  pub slice : out' ≡ over (final_text (length out) m) out

-- The calls of `list` on an input, and of `finish` at its end, from a machine on, and all that they print: each call of `list` has some
-- room, and a block with which the input goes on; what it leaves of the block stands in front of the rest.
pub data Turns : Machine → List ℕ → List ℕ → Type 0 where
  finishing : (room : ℕ) (m : Machine) → longest_line ≤ room → Turns m [] (final_text room m)
  listing_block : (room : ℕ) (m : Machine) (block rest text : List ℕ) → Turns (run room m block).machine (drop (run room m block).passed block ++ rest) text → Turns m (block ++ rest) ((run room m block).text ++ text)
