-- THE LAWS OF WRITING, over all inputs. A write that is done has written a value whose events were given; the events of every value that
-- fits are written; every frame that is written reads whole, and what is read writes it again. Assumes nothing.
use mathlib.Core.Path.{◌≡◌, refl, sym, ap, ◌∙◌}
use mathlib.Core.List.{List, [], ◌∷◌, ◌++◌}
use mathlib.Core.Option.{Option, none, some}
use mathlib.Core.Bool.{Bool, true, false, ◌||◌}
use Prim.Native.Nat.{ℕ, ◌≤◌, ◌<◌}
use native.Mathlib.Omega.{arith}
use lib.Dec.{T, leb, eqb}
use lib.ListN.{length, drop}
use borrow.Author.Tests.{le-leb, lt-leb, leb-true}
use Rattle.meaning.specs.Choice.{pick}
use Rattle.meaning.specs.Limits.{largest_frame, most_variants}
use Rattle.meaning.specs.Refusals.{type_refused, over_limit, room_too_small}
use Rattle.meaning.specs.Depths.{Depths, none_open}
use Rattle.meaning.specs.Types.{Tree}
use Rattle.meaning.specs.TypeText.{type_of}
use Rattle.meaning.specs.Events.{Event, triples}
use Rattle.meaning.specs.Values.{Value}
use Rattle.meaning.specs.Written.{fits, piece, written}
use Rattle.meaning.specs.Outcome.{Outcome, done}
use Rattle.meaning.specs.Reading.{reading}
use Rattle.meaning.specs.Calls.{frame_reading}
use Rattle.meaning_writing.specs.Writing.{Built, built, fault, build, Framed, framed, limited, frame_built, frame_typed, frame_writing, roomed, write_answered, output_with, write, write_slice, write_answer}
use Rattle.meaning_writing.specs.Shown.{Shows}
use Rattle.meaning.proofs.TypeTextLaws.{type_of_sound}
use Rattle.meaning.proofs.RoundTrip.{round_trip, round_trip_frame}
use Rattle.meaning_writing.proofs.BuildsBack.{all_build}
use Rattle.meaning_writing.proofs.BuildsSound.{among, event_refusals, faulty_not_done, Answers, Right, all_sound}
use Rattle.meaning_writing.proofs.TextsStand.{frame_shows}

-- a value of the type that a text names, within the depth limits, its numbers in their widths, its texts without nul and UTF-8
pub record Fitting (type : List ℕ) (big : Bool) : Type 0 where
  pub tree : Tree
  pub type_is : type_of type ≡ some tree
  pub value : Value most_variants tree
  pub fit : T (fits (piece big most_variants tree value) none_open)

-- its events, and its written form
abbrev pub events_of : {type : List ℕ} {big : Bool} → Fitting type big → List Event
events_of {big = big} f = (piece big most_variants f.tree f.value).events 0

abbrev pub form_of : {type : List ℕ} {big : Bool} → Fitting type big → List ℕ
form_of {big = big} f = written big most_variants f.tree f.value

-- ---- the frame

-- a frame that is done is the written form of a value, within the limit, and the numbers are the value's events with nothing behind them
pub record FrameOf (type : List ℕ) (big : Bool) (numbers texts frame : List ℕ) : Type 0 where
  pub of : Fitting type big
  pub shows : Shows texts numbers (events_of of) []
  pub frame_is : frame ≡ form_of of
  pub small : length frame ≤ largest_frame

pub frame_sound : (type : List ℕ) (big : Bool) (numbers texts : List ℕ) → (frame_writing type big numbers texts).refusal ≡ 0 → FrameOf type big numbers texts (frame_writing type big numbers texts).frame
unfolding frame_writing frame_typed frame_built limited
frame_sound type big numbers texts h = go (type_of type) refl h
  where
    by_length : (f : Fitting type big) → Shows texts numbers (events_of f) [] → (l : List ℕ) → l ≡ form_of f → (t : Bool) → leb (length l) largest_frame ≡ t → (pick t (framed 0 l) (framed over_limit [])).refusal ≡ 0
        → FrameOf type big numbers texts (pick t (framed 0 l) (framed over_limit [])).frame
    by_length f s l e true i z = record { of = f; shows = s; frame_is = e; small = leb-true (length l) largest_frame i }
    by_length f s l e false i z = absurd (omega arith)

    by_value : (t : Tree) → type_of type ≡ some t → (x : Built (Value most_variants t)) → Answers (Right texts (piece big most_variants t) none_open numbers) x → (frame_built big t x).refusal ≡ 0
        → FrameOf type big numbers texts (frame_built big t x).frame
    by_value t e (fault n) a z = absurd (faulty_not_done n a z)
    by_value t e (built v (k ∷ r)) a z = absurd (omega arith)
    by_value t e (built v []) a z =
        by_length (record { tree = t; type_is = e; value = v; fit = a.fit }) (a.shows 0) (written big most_variants t v) refl (leb (length (written big most_variants t v)) largest_frame) refl z

    go : (o : Option Tree) → type_of type ≡ o → (frame_typed big numbers texts o).refusal ≡ 0 → FrameOf type big numbers texts (frame_typed big numbers texts o).frame
    go none e z = absurd (omega arith)
    go (some t) e z = by_value t e (build texts most_variants t none_open numbers) (all_sound texts big most_variants t none_open numbers) z

-- the events of a value that fits are written as its written form, which is judged by its length alone
pub frame_complete : {type : List ℕ} {big : Bool} (f : Fitting type big) (numbers texts : List ℕ) → Shows texts numbers (events_of f) [] → frame_writing type big numbers texts ≡ limited (form_of f)
unfolding frame_writing frame_typed frame_built
frame_complete {type} {big} f numbers texts s = rw f.type_is (rw ((all_build texts big most_variants f.tree).builds f.value none_open 0 numbers [] f.fit s))

-- a frame that is refused is empty
pub frame_refused : (type : List ℕ) (big : Bool) (numbers texts : List ℕ) → ((frame_writing type big numbers texts).refusal ≡ 0 → ⊥) → (frame_writing type big numbers texts).frame ≡ []
unfolding frame_writing frame_typed frame_built limited
frame_refused type big numbers texts h = go (type_of type) h
  where
    by_length : (l : List ℕ) (t : Bool) → ((pick t (framed 0 l) (framed over_limit [])).refusal ≡ 0 → ⊥) → (pick t (framed 0 l) (framed over_limit [])).frame ≡ []
    by_length l true z = absurd (z refl)
    by_length l false z = refl

    by_value : (t : Tree) (x : Built (Value most_variants t)) → ((frame_built big t x).refusal ≡ 0 → ⊥) → (frame_built big t x).frame ≡ []
    by_value t (fault n) z = refl
    by_value t (built v (k ∷ r)) z = refl
    by_value t (built v []) z = by_length (written big most_variants t v) (leb (length (written big most_variants t v)) largest_frame) z

    go : (o : Option Tree) → ((frame_typed big numbers texts o).refusal ≡ 0 → ⊥) → (frame_typed big numbers texts o).frame ≡ []
    go none z = refl
    go (some t) z = by_value t (build texts most_variants t none_open numbers) z

-- ---- the call

-- what is true of a write that is done
pub record Wrote (type : List ℕ) (big : Bool) (numbers texts out : List ℕ) : Type 0 where
  pub of : Fitting type big
  pub shows : Shows texts numbers (events_of of) []
  pub small : length (form_of of) ≤ largest_frame
  pub room : length (form_of of) ≤ length out
  pub used_is : (write type big numbers texts out).used ≡ length (form_of of)
  pub output_is : write_slice type big numbers texts out ≡ form_of of ++ drop (length (form_of of)) out

-- SOUNDNESS: a write that is done has written the written form of a value whose events are the numbers given
pub write_sound : (type : List ℕ) (big : Bool) (numbers texts out : List ℕ) → (write type big numbers texts out).refusal ≡ 0 → Wrote type big numbers texts out
unfolding write write_slice write_answered output_with roomed
write_sound type big numbers texts out h = go (leb (length f) (length out)) refl h
  where
    f : List ℕ
    f = (frame_writing type big numbers texts).frame

    whole : (frame_writing type big numbers texts).refusal ≡ 0 → leb (length f) (length out) ≡ true → Wrote type big numbers texts out
    whole z e =
        let g = frame_sound type big numbers texts z in
        let n : length f ≡ length (form_of g.of) = ap length g.frame_is in
        record {
          of = g.of;
          shows = g.shows;
          small = rw n at g.small;
          room = rw n at (leb-true (length f) (length out) e);
          used_is = rw e n;
          output_is = rw e (rw g.frame_is);
        }

    go : (t : Bool) → leb (length f) (length out) ≡ t → (pick t (frame_writing type big numbers texts) (framed room_too_small [])).refusal ≡ 0 → Wrote type big numbers texts out
    go true e z = whole z e
    go false e z = absurd (omega arith)

-- a refused write returns length 0 and leaves the output as it was
pub write_refused : (type : List ℕ) (big : Bool) (numbers texts out : List ℕ) → ((write type big numbers texts out).refusal ≡ 0 → ⊥)
    → ((write type big numbers texts out).used ≡ 0) × (write_slice type big numbers texts out ≡ out)
unfolding write write_slice write_answered output_with roomed
write_refused type big numbers texts out h = go (leb (length f.frame) (length out)) h
  where
    f : Framed
    f = frame_writing type big numbers texts

    go : (t : Bool) → ((pick t f (framed room_too_small [])).refusal ≡ 0 → ⊥)
        → (length (pick t f (framed room_too_small [])).frame ≡ 0) × ((pick t f (framed room_too_small [])).frame ++ drop (length (pick t f (framed room_too_small [])).frame) out ≡ out)
    go true z = let e : f.frame ≡ [] = frame_refused type big numbers texts z in (ap length e, rw e)
    go false z = (refl, refl)

-- the numbers that a write answers
abbrev pub write_refusals : List ℕ
write_refusals = 0 ∷ type_refused ∷ over_limit ∷ room_too_small ∷ event_refusals

among_more : (n m : ℕ) (l : List ℕ) → T (among n l) → T (among n (m ∷ l))
among_more n m l t = go (eqb n m)
  where
    go : (x : Bool) → T (x || among n l)
    go true = tt
    go false = t

frame_numbers : (type : List ℕ) (big : Bool) (numbers texts : List ℕ) → T (among (frame_writing type big numbers texts).refusal write_refusals)
unfolding frame_writing frame_typed frame_built limited
frame_numbers type big numbers texts = go (type_of type)
  where
    by_length : (l : List ℕ) (t : Bool) → T (among (pick t (framed 0 l) (framed over_limit [])).refusal write_refusals)
    by_length l true = tt
    by_length l false = tt

    by_value : (t : Tree) (x : Built (Value most_variants t)) → Answers (Right texts (piece big most_variants t) none_open numbers) x → T (among (frame_built big t x).refusal write_refusals)
    by_value t (fault n) a =
        among_more n 0 (type_refused ∷ over_limit ∷ room_too_small ∷ event_refusals)
        (among_more n type_refused (over_limit ∷ room_too_small ∷ event_refusals) (among_more n over_limit (room_too_small ∷ event_refusals) (among_more n room_too_small event_refusals a)))
    by_value t (built v (k ∷ r)) a = tt
    by_value t (built v []) a = by_length (written big most_variants t v) (leb (length (written big most_variants t v)) largest_frame)

    go : (o : Option Tree) → T (among (frame_typed big numbers texts o).refusal write_refusals)
    go none = tt
    go (some t) = by_value t (build texts most_variants t none_open numbers) (all_sound texts big most_variants t none_open numbers)

pub write_numbers : (type : List ℕ) (big : Bool) (numbers texts out : List ℕ) → T (among (write type big numbers texts out).refusal write_refusals)
unfolding write write_answered roomed
write_numbers type big numbers texts out = go (leb (length (frame_writing type big numbers texts).frame) (length out))
  where
    go : (t : Bool) → T (among (pick t (frame_writing type big numbers texts) (framed room_too_small [])).refusal write_refusals)
    go true = frame_numbers type big numbers texts
    go false = tt

-- the events of a value that fits, shown by numbers and texts
module _ {type : List ℕ} {big : Bool} (f : Fitting type big) (numbers texts out : List ℕ) (s : Shows texts numbers (events_of f) []) where
  -- COMPLETENESS: within the limit and the room they are written
  pub write_complete : length (form_of f) ≤ largest_frame → length (form_of f) ≤ length out
      → (write type big numbers texts out ≡ write_answer 0 (length (form_of f))) × (write_slice type big numbers texts out ≡ form_of f ++ drop (length (form_of f)) out)
  unfolding write write_slice limited roomed write_answered output_with
  write_complete small room =
      let e = frame_complete f numbers texts s in
      (rw (e, le-leb (length (form_of f)) largest_frame small, le-leb (length (form_of f)) (length out) room), rw (e, le-leb (length (form_of f)) largest_frame small, le-leb (length (form_of f)) (length out) room))

  -- over the limit, also where the output would hold the frame
  pub write_long : largest_frame < length (form_of f) → write type big numbers texts out ≡ write_answer over_limit 0
  unfolding write limited roomed write_answered
  write_long long = rw (frame_complete f numbers texts s, lt-leb (length (form_of f)) largest_frame long, le-leb 0 (length out) (omega arith))

  -- no room
  pub write_full : length (form_of f) ≤ largest_frame → length out < length (form_of f) → write type big numbers texts out ≡ write_answer room_too_small 0
  unfolding write limited roomed write_answered
  write_full small full = rw (frame_complete f numbers texts s, le-leb (length (form_of f)) largest_frame small, lt-leb (length (form_of f)) (length out) full)

-- ---- written, read, and written again

-- a written form, within the limit
pub record WrittenFrame (type : List ℕ) (big : Bool) (frame : List ℕ) : Type 0 where
  pub of : Fitting type big
  pub frame_is : frame ≡ form_of of
  pub small : length frame ≤ largest_frame

-- a frame that reads whole, and that what is read of it writes again
pub record Again (type : List ℕ) (big : Bool) (frame : List ℕ) : Type 0 where
  pub reads : (frame_reading type big 0 frame).refusal ≡ 0
  pub whole : (frame_reading type big 0 frame).used ≡ length frame
  pub again : frame_writing type big (triples (frame_reading type big 0 frame).events) frame ≡ framed 0 frame

-- what a written form reads as
form_reads : {type : List ℕ} {big : Bool} (f : Fitting type big) → length (form_of f) ≤ largest_frame → frame_reading type big 0 (form_of f) ≡ done (length (form_of f)) (events_of f)
form_reads {type} {big} f small =
    let i = type_of_sound type f.tree f.type_is in
    ap (λ (l : List ℕ). frame_reading l big 0 (form_of f)) i.is ∙ round_trip_frame 0 big f.tree f.value refl (omega arith) (rw i.is at i.few) f.fit small

form_again : {type : List ℕ} {big : Bool} (f : Fitting type big) → length (form_of f) ≤ largest_frame → Again type big (form_of f)
unfolding limited
form_again {type} {big} f small =
    let r = form_reads f small in
    record {
      reads = rw r;
      whole = rw r;
      again = rw r (frame_complete f (triples (events_of f)) (form_of f) (frame_shows big most_variants f.tree f.value) ∙ rw (le-leb (length (form_of f)) largest_frame small));
    }

-- WRITTEN AGAIN: a frame is a written form exactly where it reads whole and is written again from what is read of it
pub written_again : (type : List ℕ) (big : Bool) (frame : List ℕ) → WrittenFrame type big frame → Again type big frame
written_again type big frame w = rw w.frame_is (form_again w.of (rw w.frame_is at w.small))

pub again_written : (type : List ℕ) (big : Bool) (frame : List ℕ) → Again type big frame → WrittenFrame type big frame
again_written type big frame a = made_written type big (triples (frame_reading type big 0 frame).events) frame frame a.again
  where
    made_written : (type : List ℕ) (big : Bool) (numbers texts frame : List ℕ) → frame_writing type big numbers texts ≡ framed 0 frame → WrittenFrame type big frame
    made_written type big numbers texts frame h =
        let g = frame_sound type big numbers texts (ap (λ (f : Framed). f.refusal) h) in
        let e : (frame_writing type big numbers texts).frame ≡ frame = ap (λ (f : Framed). f.frame) h in
        record { of = g.of; frame_is = sym e ∙ g.frame_is; small = rw e at g.small }

-- and so is every frame that a write makes
pub frame_again : (type : List ℕ) (big : Bool) (numbers texts : List ℕ) → (frame_writing type big numbers texts).refusal ≡ 0 → Again type big (frame_writing type big numbers texts).frame
frame_again type big numbers texts z =
    let g = frame_sound type big numbers texts z in
    written_again type big (frame_writing type big numbers texts).frame (record { of = g.of; frame_is = g.frame_is; small = g.small })

-- ---- one value

-- the numbers say which value is written
pub spelled_once : (texts numbers : List ℕ) (big : Bool) (n : ℕ) (t : Tree) (v w : Value n t) (d : Depths) → T (fits (piece big n t v) d) → T (fits (piece big n t w) d)
    → Shows texts numbers ((piece big n t v).events 0) [] → Shows texts numbers ((piece big n t w).events 0) [] → v ≡ w
spelled_once texts numbers big n t v w d f g s r =
    let e = (all_build texts big n t).builds v d 0 numbers [] f s in
    let i = (all_build texts big n t).builds w d 0 numbers [] g r in
    cc

-- ONE VALUE FOR ONE FRAME: values of any type that fit and have the same written form in one byte order are the same
pub written_once : (big : Bool) (n : ℕ) (t : Tree) (v w : Value n t) (d : Depths) → T (fits (piece big n t v) d) → T (fits (piece big n t w) d)
    → length (written big n t v) ≤ largest_frame → written big n t v ≡ written big n t w → v ≡ w
written_once big n t v w d f g small e =
    let i : reading 0 big n t d 0 (written big n t v) ≡ done (length (written big n t v)) ((piece big n t v).events 0) = round_trip 0 big n t v d refl f small in
    let j : reading 0 big n t d 0 (written big n t v) ≡ done (length (written big n t w)) ((piece big n t w).events 0) = rw e (round_trip 0 big n t w d refl g (rw e at small)) in
    let k : (piece big n t v).events 0 ≡ (piece big n t w).events 0 = ap (λ (o : Outcome). o.events) (sym i ∙ j) in
    let s : Shows (written big n t v) (triples ((piece big n t v).events 0)) ((piece big n t w).events 0) [] = rw (e, k) (frame_shows big n t w) in
    spelled_once (written big n t v) (triples ((piece big n t v).events 0)) big n t v w d f g (frame_shows big n t v) s
