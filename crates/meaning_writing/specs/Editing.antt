-- `edit` as the public call answers it, for all arguments. Assumes nothing: these are definitions.
use Rattle.std.specs.Prelude.{List, [], ◌∷◌, ◌++◌, Bool, ◌&&◌, ℕ, ◌-◌, max, leb, ltb, eqb, length, take, drop}
use Rattle.std.proofs.Math.Option.{Option, none, some}
use Rattle.meaning.specs.Choice.{pick}
use Rattle.meaning.specs.Limits.{largest_frame, most_variants}
use Rattle.meaning.specs.Refusals.{type_refused, over_limit, containers_too_deep, room_too_small, not_written, no_such_reading, no_value}
use Rattle.meaning.specs.Padding.{zeros}
use Rattle.meaning.specs.Depths.{none_open}
use Rattle.meaning.specs.Types.{Tree}
use Rattle.meaning.specs.TypeText.{type_of}
use Rattle.meaning.specs.Values.{Value}
use Rattle.meaning.specs.Written.{written}
use Rattle.meaning.specs.Outcome.{Outcome}
use Rattle.meaning.specs.Reading.{reading}
use Rattle.meaning_writing.specs.Strict.{is_written}
use Rattle.meaning_writing.specs.Readings.{MaybeNumber, Spot, spells, may_stand, readings_of, spot_of, changed}
use Rattle.meaning_writing.specs.Edited.{reading_count, reading_spot, edited_frame}

-- a new frame over the limit (2), and then over the buffer (13)
unfoldable pub length_refusal : ℕ → ℕ → ℕ
length_refusal new room = pick (leb new largest_frame) (pick (leb new room) 0 room_too_small) over_limit

-- The change of the i-th of so many readings, which stands at a spot, to x, which gives a frame of `new` bytes in a buffer of `room`:
-- no such reading (16); a number that spells no value of its type (17); a nothing inside 64 open containers that becomes present (12).
unfoldable pub change_refusal : ℕ → ℕ → Spot → MaybeNumber → ℕ → ℕ → ℕ
change_refusal counted i s x new room =
    pick (ltb i counted)
    (pick (spells s.type x)
    (pick (may_stand s.around x)
    (length_refusal new room)
    containers_too_deep) no_value) no_such_reading

-- a frame of a type, at position 0: what reading first meets (3 to 12); that it is no written form (15); then the change
unfoldable pub frame_refusal : Bool → Tree → List ℕ → ℕ → MaybeNumber → ℕ → Outcome → ℕ
frame_refusal big t frame i x room o =
    pick (eqb o.refusal 0)
    (pick (is_written most_variants t none_open frame)
    (change_refusal (reading_count big most_variants t frame) i (reading_spot big most_variants t none_open frame i) x (length (edited_frame big most_variants t frame i x)) room)
    not_written) o.refusal

-- the type (1); the used length, over the limit or over the buffer (2); then the frame, which is the used part of the buffer
unfoldable pub refusal_of : Bool → List ℕ → ℕ → ℕ → MaybeNumber → Option Tree → ℕ
refusal_of big buffer used i x none = type_refused
refusal_of big buffer used i x (some t) =
    pick (leb used largest_frame && leb used (length buffer))
    (frame_refusal big t (take used buffer) i x (length buffer) (reading 0 big most_variants t none_open 0 (take used buffer)))
    over_limit

-- the new frame
unfoldable pub new_frame : Bool → List ℕ → ℕ → MaybeNumber → Option Tree → List ℕ
new_frame big frame i x none = []
new_frame big frame i x (some t) = edited_frame big most_variants t frame i x

-- what the call returns: the refusal and the new length, which is 0 where it refuses
pub record EditAnswer : Type 0 where
  pub refusal : ℕ
  pub used : ℕ

abbrev pub edit_answer : ℕ → ℕ → EditAnswer
edit_answer r n = record { refusal = r; used = n }

unfoldable pub edit_answered : ℕ → ℕ → EditAnswer
edit_answered r n = pick (eqb r 0) (edit_answer 0 n) (edit_answer r 0)

-- the buffer with a new frame in it: zeros from the new length to a larger old one, and beyond both as it was
unfoldable pub buffer_with : List ℕ → ℕ → List ℕ → List ℕ
buffer_with new used buffer = new ++ (zeros (used - length new) ++ drop (max used (length new)) buffer)

-- EDIT: the answer, and the buffer afterwards; a refusal leaves it as it was
unfoldable pub edit : List ℕ → Bool → List ℕ → ℕ → ℕ → MaybeNumber → EditAnswer
edit type big buffer used i x =
    edit_answered (refusal_of big buffer used i x (type_of type)) (length (new_frame big (take used buffer) i x (type_of type)))

unfoldable pub edit_buffer : List ℕ → Bool → List ℕ → ℕ → ℕ → MaybeNumber → List ℕ
edit_buffer type big buffer used i x =
    pick (eqb (edit type big buffer used i x).refusal 0) (buffer_with (new_frame big (take used buffer) i x (type_of type)) used buffer) buffer

-- THE SAME OF A VALUE whose written form the frame is: the refusal of a change, and the value afterwards
unfoldable pub value_refusal : Bool → (t : Tree) → Value most_variants t → ℕ → MaybeNumber → ℕ → ℕ
value_refusal big t v i x room =
    change_refusal (length (readings_of big most_variants t v)) i (spot_of big most_variants t none_open v i) x
    (length (written big most_variants t (changed big most_variants t v i x))) room

-- one edit after another: a reading and what it is put as; the buffer and its used length, which a refused edit leaves as they were
pub record Order : Type 0 where
  pub index : ℕ
  pub to : MaybeNumber

pub record Lent : Type 0 where
  pub buffer : List ℕ
  pub used : ℕ

abbrev pub lent : List ℕ → ℕ → Lent
lent b n = record { buffer = b; used = n }

-- an order's answer
abbrev pub order_answer : List ℕ → Bool → Lent → Order → EditAnswer
order_answer type big l o = edit type big l.buffer l.used o.index o.to

unfoldable pub after_order : List ℕ → Bool → Lent → Order → Lent
after_order type big l o =
    pick (eqb (order_answer type big l o).refusal 0)
    (lent (edit_buffer type big l.buffer l.used o.index o.to) (order_answer type big l o).used) l

unfoldable pub value_after : Bool → (t : Tree) → ℕ → Value most_variants t → Order → Value most_variants t
value_after big t room v o =
    pick (eqb (value_refusal big t v o.index o.to room) 0) (changed big most_variants t v o.index o.to) v

unfoldable pub after_orders : List ℕ → Bool → Lent → List Order → Lent
after_orders type big l [] = l
after_orders type big l (o ∷ os) = after_orders type big (after_order type big l o) os

unfoldable pub value_after_all : Bool → (t : Tree) → ℕ → Value most_variants t → List Order → Value most_variants t
value_after_all big t room v [] = v
value_after_all big t room v (o ∷ os) = value_after_all big t room (value_after big t room v o) os
