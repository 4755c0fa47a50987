-- What a write answers, and what a walk over a whole frame does. Assumes nothing: these are definitions.
use Rattle.std.specs.Prelude.{◌≡◌, List, Bool, ℕ, ◌≤◌, ◌<◌, min, length, take, drop, Result, Ok, Err}
use Rattle.meaning.specs.Depths.{none_open}
use Rattle.meaning.specs.Limits.{largest_frame, most_variants}
use Rattle.meaning.specs.Refusals.{no_value, over_limit, room_too_small}
use Rattle.meaning.specs.Written.{Piece}
use Rattle.meaning_writing.specs.Writing.{Built, built, fault, WriteAnswer, write_answer}
use Rattle.meaning_writing.specs.Emitting.{emit}
use Rattle.signature.specs.Trees.{tree_at}
use Rattle.writer_store.specs.Stores.{cap}
use Rattle.writer_basic.specs.Wrote.{Faulted}
use Rattle.writer_basic.specs.Wrote.{Answer}
use Rattle.meaning.specs.Refused.{number_of}
use Rattle.meaning.specs.declared.refusals.Refusal.{Refusal}

-- the frame's length, or a refusal, which has length 0
abbrev pub answer_of : Result ℕ Refusal → WriteAnswer
answer_of (Ok n) = write_answer 0 n
answer_of (Err r) = write_answer (number_of r) 0

-- what a whole frame of a type is written as
abbrev pub frame_of : List ℕ → Bool → List ℕ → List ℕ → Built Piece
frame_of type big numbers texts = emit texts big most_variants (tree_at type 0) none_open numbers

-- the answer for a piece that is a whole frame; an output with room for it begins with its bytes then
pub record MadeFrame (c : Piece) (rest ns l l' : List ℕ) (r : Answer) : Type 0 where
  pub refusal : r.refusal ≡ 0
  pub behind : rest ≡ drop r.next ns
  pub size : r.size ≡ min (length c.bytes) cap
  pub stored : length c.bytes ≤ length l → length l ≤ largest_frame → take (length c.bytes) l' ≡ c.bytes

abbrev pub SaysFrame : Built Piece → List ℕ → List ℕ → List ℕ → Answer → Type 0
SaysFrame (built c rest) ns l l' r = MadeFrame c rest ns l l' r
SaysFrame (fault n) ns l l' r = Faulted n r.refusal

pub record WroteFrame (x : Built Piece) (ns l l' : List ℕ) (r : Answer) : Type 0 where
  pub says : SaysFrame x ns l l' r

-- what a walk over so many numbers is refused for, where the output has so much room: its own refusal comes first, then numbers that are
-- left, then a frame that is too long, then the room
pub data Judged (a : Answer) (numbers room n : ℕ) : Type 0 where
  faulty : (a.refusal ≡ 0 → ⊥) → n ≡ a.refusal → Judged a numbers room n
  left : a.refusal ≡ 0 → a.next < numbers → n ≡ no_value → Judged a numbers room n
  long : a.refusal ≡ 0 → numbers ≤ a.next → largest_frame < a.size → n ≡ over_limit → Judged a numbers room n
  full : a.refusal ≡ 0 → numbers ≤ a.next → a.size ≤ largest_frame → room < a.size → n ≡ room_too_small → Judged a numbers room n
  good : a.refusal ≡ 0 → numbers ≤ a.next → a.size ≤ largest_frame → a.size ≤ room → n ≡ 0 → Judged a numbers room n
