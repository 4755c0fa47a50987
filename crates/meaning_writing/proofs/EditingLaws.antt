-- THE EDIT: demand 3. Of a frame that is the written form of a value, `edit` answers as the change of the value does, and leaves the written
-- form of the changed value; and what it does not refuse is such a frame. The same after any list of edits. Assumes nothing.
use mathlib.Core.Path.{◌≡◌, refl, sym, ap, ◌∙◌, subst}
use mathlib.Core.List.{List, [], ◌∷◌, ◌++◌}
use mathlib.Core.Option.{Option, none, some}
use mathlib.Core.Bool.{Bool, true, false, ◌&&◌}
use Prim.Native.Nat.{ℕ, ◌-◌, ◌≤◌, ◌<◌, max}
use native.Mathlib.Omega.{arith}
use lib.Dec.{T, leb, ltb, eqb}
use lib.ListN.{length, take, drop, set, get_or, length-append, length-replicate, length-take, length-drop, take-append-drop, length-set}
use lib.Seq.{take_at, drop_at, take-append-le, get_or-set_same, get_or-set_other}
use borrow.Author.Tests.{le-leb, leb-true, ltb-true, lt-ltb, eqb-true, eqb-false}
use Rattle.meaning.specs.Choice.{pick}
use Rattle.meaning.specs.Limits.{largest_frame, most_variants}
use Rattle.meaning.specs.Refusals.{over_limit, containers_too_deep, room_too_small, not_written, no_such_reading, no_value}
use Rattle.meaning.specs.Padding.{zeros}
use Rattle.meaning.specs.Depths.{none_open}
use Rattle.meaning.specs.Types.{Tree}
use Rattle.meaning.specs.TypeText.{type_text, type_of}
use Rattle.meaning.specs.Values.{Value}
use Rattle.meaning.specs.Written.{fits, piece, written}
use Rattle.meaning.specs.Outcome.{Outcome, done}
use Rattle.meaning.specs.Reading.{reading}
use Rattle.meaning.specs.Calls.{frame_reading}
use Rattle.meaning.specs.Calls as Call
use Rattle.meaning_writing.specs.Writing.{write, write_slice}
use Rattle.meaning_writing.specs.Strict.{is_written}
use Rattle.meaning_writing.specs.Readings.{MaybeNumber, reading_events, Spot, spells, may_stand, readings_of, spot_of, changed}
use Rattle.meaning_writing.specs.Edited.{reading_count, reading_spot, edited_frame}
use Rattle.meaning_writing.specs.Editing.{length_refusal, change_refusal, frame_refusal, refusal_of, new_frame, EditAnswer, edit_answer, edit_answered, buffer_with, edit, edit_buffer, value_refusal, Order, Lent, lent, order_answer, after_order, value_after, after_orders, value_after_all}
use Rattle.meaning.proofs.Tests.{from_test, to_test, both_true}
use Rattle.meaning.proofs.NumberLaws.{Bytes}
use Rattle.meaning.proofs.TypeTextLaws.{type_of_sound}
use Rattle.meaning_writing.proofs.Parts.{take_bytes}
use Rattle.meaning.proofs.RoundTrip.{round_trip}
use Rattle.meaning_writing.proofs.StrictVariants.{strict_sound, strict_complete}
use Rattle.meaning_writing.proofs.ChangedLaws.{Occurs, change, changed_same}
use Rattle.meaning_writing.proofs.EditedVariants.{count_is, spot_is, edited_is}
use Rattle.meaning_writing.proofs.WriteLaws.{form_of, Wrote}

-- ---- the change, judged

-- a test that holds, where its failing is a refusal
pub passed : (b : Bool) (n r : ℕ) → (r ≡ 0 → ⊥) → pick b n r ≡ 0 → (b ≡ true) × (n ≡ 0)
passed true n r h e = (refl, e)
passed false n r h e = absurd (h e)

pub record Allowed (counted i : ℕ) (s : Spot) (x : MaybeNumber) (new room : ℕ) : Type 0 where
  pub there : i < counted
  pub spells_value : T (spells s.type x)
  pub standing : T (may_stand s.around x)
  pub small : new ≤ largest_frame
  pub roomy : new ≤ room

pub change_allowed : (counted i : ℕ) (s : Spot) (x : MaybeNumber) (new room : ℕ) → change_refusal counted i s x new room ≡ 0 → Allowed counted i s x new room
unfolding change_refusal length_refusal
change_allowed counted i s x new room h =
    let a = passed (ltb i counted) _ no_such_reading (λ z. omega arith) h in
    let b = passed (spells s.type x) _ no_value (λ z. omega arith) a.1 in
    let c = passed (may_stand s.around x) _ containers_too_deep (λ z. omega arith) b.1 in
    let d = passed (leb new largest_frame) _ over_limit (λ z. omega arith) c.1 in
    let e = passed (leb new room) 0 room_too_small (λ z. omega arith) d.1 in
    record {
      there = ltb-true i counted a.0;
      spells_value = to_test (spells s.type x) b.0;
      standing = to_test (may_stand s.around x) c.0;
      small = leb-true new largest_frame d.0;
      roomy = leb-true new room e.0;
    }

refusal_edit_answered : (r n : ℕ) → (edit_answered r n).refusal ≡ r
unfolding edit_answered
refusal_edit_answered r n = go (eqb r 0) refl
  where
    go : (b : Bool) → eqb r 0 ≡ b → (pick b (edit_answer 0 n) (edit_answer r 0)).refusal ≡ r
    go true e = sym (eqb-true r 0 e)
    go false e = refl

pub edit_refusal : (type : List ℕ) (big : Bool) (buffer : List ℕ) (used i : ℕ) (x : MaybeNumber) → (edit type big buffer used i x).refusal ≡ refusal_of big buffer used i x (type_of type)
unfolding edit
edit_refusal type big buffer used i x = refusal_edit_answered (refusal_of big buffer used i x (type_of type)) (length (new_frame big (take used buffer) i x (type_of type)))

-- ---- a frame that is the written form of a value

-- the used part of a buffer is the written form of a value that fits
pub record Holds (big : Bool) (t : Tree) (v : Value most_variants t) (buffer : List ℕ) (used : ℕ) : Type 0 where
  pub fit : T (fits (piece big most_variants t v) none_open)
  pub small : length (written big most_variants t v) ≤ largest_frame
  pub roomy : used ≤ length buffer
  pub is : take used buffer ≡ written big most_variants t v

module _ (big : Bool) (t : Tree) (v : Value most_variants t) where
  abbrev old : List ℕ
  old = written big most_variants t v

  abbrev new : ℕ → MaybeNumber → List ℕ
  new i x = written big most_variants t (changed big most_variants t v i x)

  -- what is judged in the bytes is what is judged of the value
  judged : T (fits (piece big most_variants t v) none_open) → length old ≤ largest_frame → (i : ℕ) (x : MaybeNumber) (room : ℕ)
      → change_refusal (reading_count big most_variants t old) i (reading_spot big most_variants t none_open old i) x (length (edited_frame big most_variants t old i x)) room ≡ value_refusal big t v i x room
  unfolding change_refusal value_refusal
  judged f s i x room = rw (count_is big most_variants t none_open v f s) (there (ltb i (length (readings_of big most_variants t v))) refl)
    where
      sv : Spot
      sv = spot_of big most_variants t none_open v i

      fitting : (b : Bool) → spells sv.type x ≡ b → i < length (readings_of big most_variants t v)
          → ◌≡◌ {A = ℕ} (pick b (pick (may_stand sv.around x) (length_refusal (length (edited_frame big most_variants t old i x)) room) containers_too_deep) no_value) (pick b (pick (may_stand sv.around x) (length_refusal (length (new i x)) room) containers_too_deep) no_value)
      fitting true e h = rw (edited_is big most_variants t none_open v f s i x h (to_test _ e))
      fitting false e h = refl

      there : (b : Bool) → ltb i (length (readings_of big most_variants t v)) ≡ b
          → ◌≡◌ {A = ℕ}
          (pick b (pick (spells (reading_spot big most_variants t none_open old i).type x) (pick (may_stand (reading_spot big most_variants t none_open old i).around x) (length_refusal (length (edited_frame big most_variants t old i x)) room) containers_too_deep) no_value) no_such_reading)
          (pick b (pick (spells sv.type x) (pick (may_stand sv.around x) (length_refusal (length (new i x)) room) containers_too_deep) no_value) no_such_reading)
      there true e =
          let h = ltb-true i (length (readings_of big most_variants t v)) e in
          rw (spot_is big most_variants t none_open v f s i h) (fitting (spells sv.type x) refl h)
      there false e = refl

  module _ (type buffer : List ℕ) (used : ℕ) (ht : type_of type ≡ some t) (h : Holds big t v buffer used) where
    used_is : used ≡ length old
    used_is = let e = ap length h.is in let m = length-take used buffer in omega (arith, h.roomy)

    -- THE REFUSAL of an edit of a written form is that of the change of its value
    pub refusal_is : (i : ℕ) (x : MaybeNumber) → refusal_of big buffer used i x (type_of type) ≡ value_refusal big t v i x (length buffer)
    unfolding refusal_of frame_refusal
    refusal_is i x =
        let u = used_is in
        let l : used ≤ largest_frame = omega (arith, h.small) in
        let r : reading 0 big most_variants t none_open 0 old ≡ done (length old) ((piece big most_variants t v).events 0) = round_trip 0 big most_variants t v none_open refl h.fit h.small in
        rw (ht, le-leb used largest_frame l, le-leb used (length buffer) h.roomy, h.is, r, strict_complete big most_variants t v none_open h.fit h.small)
        (judged h.fit h.small i x (length buffer))

    frame_is : (i : ℕ) (x : MaybeNumber) → value_refusal big t v i x (length buffer) ≡ 0 → new_frame big (take used buffer) i x (type_of type) ≡ new i x
    unfolding new_frame value_refusal
    frame_is i x e =
        let a = change_allowed _ i _ x _ (length buffer) e in
        rw (ht, h.is) (edited_is big most_variants t none_open v h.fit h.small i x a.there a.spells_value)

    -- THE ANSWER
    pub edit_is : (i : ℕ) (x : MaybeNumber) → edit type big buffer used i x ≡ edit_answered (value_refusal big t v i x (length buffer)) (length (new i x))
    unfolding edit edit_answered
    edit_is i x = rw (refusal_is i x) (go (eqb (value_refusal big t v i x (length buffer)) 0) refl)
      where
        go : (b : Bool) → eqb (value_refusal big t v i x (length buffer)) 0 ≡ b
            → pick b (edit_answer 0 (length (new_frame big (take used buffer) i x (type_of type)))) (edit_answer (value_refusal big t v i x (length buffer)) 0)
            ≡ pick b (edit_answer 0 (length (new i x))) (edit_answer (value_refusal big t v i x (length buffer)) 0)
        go true e = rw (frame_is i x (eqb-true _ 0 e))
        go false e = refl

    pub answer_refusal : (i : ℕ) (x : MaybeNumber) → (edit type big buffer used i x).refusal ≡ value_refusal big t v i x (length buffer)
    answer_refusal i x = ap (λ (e : EditAnswer). e.refusal) (edit_is i x) ∙ refusal_edit_answered (value_refusal big t v i x (length buffer)) (length (new i x))

    -- THE BUFFER AFTERWARDS
    pub buffer_is : (i : ℕ) (x : MaybeNumber) → edit_buffer type big buffer used i x ≡ pick (eqb (value_refusal big t v i x (length buffer)) 0) (buffer_with (new i x) used buffer) buffer
    unfolding edit_buffer
    buffer_is i x = rw (answer_refusal i x) (go (eqb (value_refusal big t v i x (length buffer)) 0) refl)
      where
        go : (b : Bool) → eqb (value_refusal big t v i x (length buffer)) 0 ≡ b → pick b (buffer_with (new_frame big (take used buffer) i x (type_of type)) used buffer) buffer ≡ pick b (buffer_with (new i x) used buffer) buffer
        go true e = rw (frame_is i x (eqb-true _ 0 e))
        go false e = refl

-- ---- the buffer with a new frame in it

module _ (new : List ℕ) (used : ℕ) (buffer : List ℕ) where
  buffer_with_front : take (length new) (buffer_with new used buffer) ≡ new
  unfolding buffer_with
  buffer_with_front = take_at new (zeros (used - length new) ++ drop (max used (length new)) buffer) (length new) refl

  buffer_with_behind : drop (length new) (buffer_with new used buffer) ≡ zeros (used - length new) ++ drop (max used (length new)) buffer
  unfolding buffer_with
  buffer_with_behind = drop_at new (zeros (used - length new) ++ drop (max used (length new)) buffer) (length new) refl

  buffer_with_length : used ≤ length buffer → length new ≤ length buffer → length (buffer_with new used buffer) ≡ length buffer
  unfolding buffer_with
  buffer_with_length h g =
      let a = length-append new (zeros (used - length new) ++ drop (max used (length new)) buffer) in
      let b = length-append (zeros (used - length new)) (drop (max used (length new)) buffer) in
      let c = length-replicate {A = ℕ} (used - length new) 0 in
      let e = length-drop (max used (length new)) buffer in
      omega arith

  buffer_with_before : (place : ℕ) → place ≤ length new → place ≤ used → used ≤ length buffer → take place new ≡ take place (take used buffer) → take place (buffer_with new used buffer) ≡ take place buffer
  unfolding buffer_with
  buffer_with_before place h g l e =
      let n : length (take used buffer) ≡ used = (let m = length-take used buffer in omega arith) in
      take-append-le place new (zeros (used - length new) ++ drop (max used (length new)) buffer) h
      ∙ e ∙ sym (take-append-le place (take used buffer) (drop used buffer) (omega arith)) ∙ ap (λ (z : List ℕ). take place z) (take-append-drop used buffer)

-- ---- demand 3

-- the j-th reading of a value reads as x: where it stands in the written form, the events are those of x
abbrev pub ReadsAs : Bool → (t : Tree) → Value most_variants t → ℕ → MaybeNumber → Type 0
ReadsAs big t v j x =
    Occurs (reading_events (spot_of big most_variants t none_open v j).type x (spot_of big most_variants t none_open v j).place) ((piece big most_variants t v).events 0)

-- What an edit that is not refused does to a buffer that holds the written form of v. The first bytes, as many as the new length says, are the
-- written form of v with the i-th reading changed, which fits; so they read as that value. Of its readings only the i-th is another: it reads as
-- x, and every other as before. No byte before the place of that reading is another; behind the new frame stand zeros up to the old length, and
-- then what stood there.
pub record Changes (type : List ℕ) (big : Bool) (t : Tree) (v : Value most_variants t) (buffer : List ℕ) (used i : ℕ) (x : MaybeNumber) : Type 0 where
  pub there : i < length (readings_of big most_variants t v)
  pub length_is : (edit type big buffer used i x).used ≡ length (written big most_variants t (changed big most_variants t v i x))
  pub now : Holds big t (changed big most_variants t v i x) (edit_buffer type big buffer used i x) (edit type big buffer used i x).used
  pub only : readings_of big most_variants t (changed big most_variants t v i x) ≡ set (readings_of big most_variants t v) i x
  pub reads : frame_reading type big 0 (take (edit type big buffer used i x).used (edit_buffer type big buffer used i x))
      ≡ done (edit type big buffer used i x).used ((piece big most_variants t (changed big most_variants t v i x)).events 0)
  pub it_was : ReadsAs big t v i (get_or (readings_of big most_variants t v) i none)
  pub it_is : ReadsAs big t (changed big most_variants t v i x) i x
  pub others : (j : ℕ) → (j ≡ i → ⊥) → j < length (readings_of big most_variants t v) → ReadsAs big t (changed big most_variants t v i x) j (get_or (readings_of big most_variants t v) j none)
  pub before : take (spot_of big most_variants t none_open v i).place (edit_buffer type big buffer used i x) ≡ take (spot_of big most_variants t none_open v i).place buffer
  pub behind : drop (edit type big buffer used i x).used (edit_buffer type big buffer used i x)
      ≡ zeros (used - (edit type big buffer used i x).used) ++ drop (max used (edit type big buffer used i x).used) buffer
  pub same_length : length (edit_buffer type big buffer used i x) ≡ length buffer

-- the reading rules read what a buffer holds: done, all of it used, the value's events
pub holds_reads : (type : List ℕ) (big : Bool) (t : Tree) (v : Value most_variants t) (buffer : List ℕ) (used : ℕ) → type_of type ≡ some t → Holds big t v buffer used
    → frame_reading type big 0 (take used buffer) ≡ done used ((piece big most_variants t v).events 0)
unfolding frame_reading Call.frame_of
holds_reads type big t v buffer used ht h =
    let u : used ≡ length (written big most_variants t v) = used_is big t v type buffer used ht h in
    rw (ht, h.is, le-leb (length (written big most_variants t v)) largest_frame h.small) (round_trip 0 big most_variants t v none_open refl h.fit h.small ∙ rw u)

module _ (type : List ℕ) (big : Bool) (t : Tree) (v : Value most_variants t) (buffer : List ℕ) (used i : ℕ) (x : MaybeNumber) (ht : type_of type ≡ some t) (h : Holds big t v buffer used)
    (ok : (edit type big buffer used i x).refusal ≡ 0) where
  abbrev next : Value most_variants t
  next = changed big most_variants t v i x

  done_refusal : value_refusal big t v i x (length buffer) ≡ 0
  done_refusal = sym (answer_refusal big t v type buffer used ht h i x) ∙ ok

  allowed : Allowed (length (readings_of big most_variants t v)) i (spot_of big most_variants t none_open v i) x (length (written big most_variants t next)) (length buffer)
  unfolding value_refusal
  allowed = change_allowed _ i _ x _ (length buffer) done_refusal

  new_length : (edit type big buffer used i x).used ≡ length (written big most_variants t next)
  unfolding edit_answered
  new_length = ap (λ (e : EditAnswer). e.used) (edit_is big t v type buffer used ht h i x) ∙ rw done_refusal

  new_buffer : edit_buffer type big buffer used i x ≡ buffer_with (written big most_variants t next) used buffer
  new_buffer = buffer_is big t v type buffer used ht h i x ∙ rw done_refusal

  reads_as : (j : ℕ) (y : MaybeNumber) → j < length (readings_of big most_variants t next) → get_or (readings_of big most_variants t next) j none ≡ y → ReadsAs big t next j y
  reads_as j y lt e = subst (λ (z : MaybeNumber). ReadsAs big t next j z) e (change big most_variants t none_open next j none lt).occurs

  -- DEMAND 3, of the written form of a value
  pub edit_changes : Changes type big t v buffer used i x
  edit_changes =
      let a = allowed in
      let c = change big most_variants t none_open v i x a.there in
      let u = used_is big t v type buffer used ht h in
      let n : List ℕ = written big most_variants t next in
      let f : take (length n) (edit_buffer type big buffer used i x) ≡ n = ap (λ (z : List ℕ). take (length n) z) new_buffer ∙ buffer_with_front n used buffer in
      let l : length (edit_buffer type big buffer used i x) ≡ length buffer = ap length new_buffer ∙ buffer_with_length n used buffer h.roomy a.roomy in
      let held : Holds big t next (edit_buffer type big buffer used i x) (edit type big buffer used i x).used =
      record { fit = c.fit h.fit a.spells_value a.standing; small = a.small; roomy = rw (new_length, l) a.roomy; is = rw new_length f } in
      let o : readings_of big most_variants t next ≡ set (readings_of big most_variants t v) i x = c.only a.spells_value in
      record {
        there = a.there;
        length_is = new_length;
        now = held;
        only = o;
        reads = holds_reads type big t next (edit_buffer type big buffer used i x) (edit type big buffer used i x).used ht held;
        it_was = c.occurs;
        it_is = reads_as i x (omega (arith, ap length o, length-set (readings_of big most_variants t v) i x, a.there)) (ap (λ (r : List MaybeNumber). get_or r i none) o ∙ get_or-set_same (readings_of big most_variants t v) i x none a.there);
        others = λ j z lt.
            reads_as j (get_or (readings_of big most_variants t v) j none) (omega (arith, ap length o, length-set (readings_of big most_variants t v) i x))
            (ap (λ (r : List MaybeNumber). get_or r j none) o ∙ get_or-set_other (readings_of big most_variants t v) i j x none z);
        before =
            ap (λ (z : List ℕ). take (spot_of big most_variants t none_open v i).place z) new_buffer
            ∙ buffer_with_before n used buffer (spot_of big most_variants t none_open v i).place c.in_new (omega (arith, c.in_old)) h.roomy
            (c.before ∙ ap (λ (z : List ℕ). take (spot_of big most_variants t none_open v i).place z) (sym h.is));
        behind = rw (new_length, new_buffer) (buffer_with_behind n used buffer);
        same_length = l;
      }

-- and every edit that is not refused is one of those
pub record Edits (type : List ℕ) (big : Bool) (buffer : List ℕ) (used i : ℕ) (x : MaybeNumber) : Type 0 where
  pub t : Tree
  pub type_is : type ≡ type_text t
  pub v : Value most_variants t
  pub was : Holds big t v buffer used
  pub changes : Changes type big t v buffer used i x

-- what a frame that is not refused passed
frame_passed : (big : Bool) (t : Tree) (frame : List ℕ) (i : ℕ) (x : MaybeNumber) (room : ℕ) (o : Outcome) → frame_refusal big t frame i x room o ≡ 0 → is_written most_variants t none_open frame ≡ true
unfolding frame_refusal
frame_passed big t frame i x room o h = go (eqb o.refusal 0) refl h
  where
    c : ℕ
    c = change_refusal (reading_count big most_variants t frame) i (reading_spot big most_variants t none_open frame i) x (length (edited_frame big most_variants t frame i x)) room

    go : (b : Bool) → eqb o.refusal 0 ≡ b → pick b (pick (is_written most_variants t none_open frame) c not_written) o.refusal ≡ 0 → is_written most_variants t none_open frame ≡ true
    go true e h = (passed (is_written most_variants t none_open frame) c not_written (λ z. omega arith) h).0
    go false e h = absurd (eqb-false o.refusal 0 e h)

-- DEMAND 3, for all arguments
pub edit_edits : (type : List ℕ) (big : Bool) (buffer : List ℕ) (used i : ℕ) (x : MaybeNumber) → Bytes buffer → (edit type big buffer used i x).refusal ≡ 0 → Edits type big buffer used i x
unfolding refusal_of
edit_edits type big buffer used i x by ok = go (type_of type) refl (sym (edit_refusal type big buffer used i x) ∙ ok)
  where
    go : (o : Option Tree) → type_of type ≡ o → refusal_of big buffer used i x o ≡ 0 → Edits type big buffer used i x
    go none ht h = absurd (let z : ◌≡◌ {A = ℕ} 1 0 = h in omega arith)
    go (some t) ht h =
        let frame : List ℕ = take used buffer in
        let a = passed (leb used largest_frame && leb used (length buffer)) (frame_refusal big t frame i x (length buffer) (reading 0 big most_variants t none_open 0 frame)) over_limit (λ z. omega arith) h in
        let b = both_true (leb used largest_frame) (leb used (length buffer)) a.0 in
        let l : used ≤ largest_frame = leb-true used largest_frame b.0 in
        let m : used ≤ length buffer = leb-true used (length buffer) b.1 in
        let n : length frame ≡ used = (let z = length-take used buffer in omega arith) in
        let s = strict_sound big most_variants t none_open frame (take_bytes used by) (frame_passed big t frame i x (length buffer) _ a.1) in
        let w : Holds big t s.v buffer used = record { fit = s.fit; small = rw (s.form, n) l; roomy = m; is = sym s.form } in
        record { t = t; type_is = (type_of_sound type t ht).is; v = s.v; was = w; changes = edit_changes type big t s.v buffer used i x ht w ok }

-- ---- any list of edits

-- one order, refused or not: the buffer holds the written form of the value afterwards
module _ (type : List ℕ) (big : Bool) (t : Tree) (ht : type_of type ≡ some t) where
  pub order_holds : (v : Value most_variants t) (l : Lent) (o : Order) → Holds big t v l.buffer l.used
      → Holds big t (value_after big t (length l.buffer) v o) (after_order type big l o).buffer (after_order type big l o).used
  unfolding after_order value_after
  order_holds v l o h = rw (answer_refusal big t v type l.buffer l.used ht h o.index o.to) (go (eqb (value_refusal big t v o.index o.to (length l.buffer)) 0) refl)
    where
      go : (b : Bool) → eqb (value_refusal big t v o.index o.to (length l.buffer)) 0 ≡ b
          → (let m : Lent = pick b (lent (edit_buffer type big l.buffer l.used o.index o.to) (edit type big l.buffer l.used o.index o.to).used) l in
          Holds big t (pick b (changed big most_variants t v o.index o.to) v) m.buffer m.used)
      go true e = (edit_changes type big t v l.buffer l.used o.index o.to ht h (answer_refusal big t v type l.buffer l.used ht h o.index o.to ∙ eqb-true _ 0 e)).now
      go false e = h

  order_length : (v : Value most_variants t) (l : Lent) (o : Order) → Holds big t v l.buffer l.used → length (after_order type big l o).buffer ≡ length l.buffer
  unfolding after_order
  order_length v l o h = go (eqb (order_answer type big l o).refusal 0) refl
    where
      go : (b : Bool) → eqb (order_answer type big l o).refusal 0 ≡ b
          → length (pick b (lent (edit_buffer type big l.buffer l.used o.index o.to) (order_answer type big l o).used) l).buffer ≡ length l.buffer
      go true e = (edit_changes type big t v l.buffer l.used o.index o.to ht h (eqb-true _ 0 e)).same_length
      go false e = refl

  -- DEMAND 3 AFTER ANY LIST OF EDITS, of which those that are refused change nothing: the buffer holds the written form of the value with the others made
  pub orders_hold : (os : List Order) (v : Value most_variants t) (l : Lent) → Holds big t v l.buffer l.used
      → Holds big t (value_after_all big t (length l.buffer) v os) (after_orders type big l os).buffer (after_orders type big l os).used
  unfolding after_orders value_after_all
  orders_hold [] v l h = h
  orders_hold (o ∷ os) v l h =
      let m : Lent = after_order type big l o in
      let w : Value most_variants t = value_after big t (length l.buffer) v o in
      subst (λ (n : ℕ). Holds big t (value_after_all big t n w os) (after_orders type big m os).buffer (after_orders type big m os).used) (order_length v l o h)
      (orders_hold os w m (order_holds v l o h))

  -- and of the readings each order that is not refused sets its own, and no other
  pub order_readings : (v : Value most_variants t) (l : Lent) (o : Order) → Holds big t v l.buffer l.used
      → readings_of big most_variants t (value_after big t (length l.buffer) v o)
      ≡ pick (eqb (order_answer type big l o).refusal 0) (set (readings_of big most_variants t v) o.index o.to) (readings_of big most_variants t v)
  unfolding value_after
  order_readings v l o h = rw (answer_refusal big t v type l.buffer l.used ht h o.index o.to) (go (eqb (value_refusal big t v o.index o.to (length l.buffer)) 0) refl)
    where
      go : (b : Bool) → eqb (value_refusal big t v o.index o.to (length l.buffer)) 0 ≡ b
          → readings_of big most_variants t (pick b (changed big most_variants t v o.index o.to) v) ≡ pick b (set (readings_of big most_variants t v) o.index o.to) (readings_of big most_variants t v)
      go true e = (edit_changes type big t v l.buffer l.used o.index o.to ht h (answer_refusal big t v type l.buffer l.used ht h o.index o.to ∙ eqb-true _ 0 e)).only
      go false e = refl

-- ---- a nothing that is withdrawn

buffer_with_same : (used : ℕ) (buffer : List ℕ) → used ≤ length buffer → buffer_with (take used buffer) used buffer ≡ buffer
unfolding buffer_with
buffer_with_same used buffer h =
    let n : length (take used buffer) ≡ used = (let m = length-take used buffer in omega arith) in
    let z : used - used ≡ 0 = omega arith in
    let w : max used used ≡ used = omega arith in
    rw (n, z, w) (take-append-drop used buffer)

change_length : (counted i : ℕ) (s : Spot) (room n : ℕ) → i < counted → T (spells s.type none) → change_refusal counted i s none n room ≡ length_refusal n room
unfolding change_refusal may_stand
change_length counted i s room n h f = rw (lt-ltb i counted h, from_test (spells s.type none) f)

length_passes : (n room : ℕ) → n ≤ largest_frame → n ≤ room → length_refusal n room ≡ 0
unfolding length_refusal
length_passes n room h g = rw (le-leb n largest_frame h, le-leb n room g)

-- IT IS DONE, and leaves the same bytes
module _ (type : List ℕ) (big : Bool) (t : Tree) (v : Value most_variants t) (buffer : List ℕ) (used i : ℕ) (ht : type_of type ≡ some t) (h : Holds big t v buffer used)
    (there : i < length (readings_of big most_variants t v)) (was : get_or (readings_of big most_variants t v) i none ≡ none) where
  same_value : changed big most_variants t v i none ≡ v
  same_value = ap (λ (x : MaybeNumber). changed big most_variants t v i x) (sym was) ∙ changed_same big most_variants t v i there

  passes : value_refusal big t v i none (length buffer) ≡ 0
  unfolding value_refusal
  passes =
      let u = used_is big t v type buffer used ht h in
      rw same_value
      (change_length (length (readings_of big most_variants t v)) i (spot_of big most_variants t none_open v i) (length buffer) (length (written big most_variants t v)) there
      (change big most_variants t none_open v i none there).nothing_spells
      ∙ length_passes (length (written big most_variants t v)) (length buffer) h.small (omega (arith, h.roomy)))

  pub nothing_answer : edit type big buffer used i none ≡ edit_answer 0 used
  unfolding edit_answered
  nothing_answer = edit_is big t v type buffer used ht h i none ∙ rw (passes, same_value, ← used_is big t v type buffer used ht h)

  pub nothing_buffer : edit_buffer type big buffer used i none ≡ buffer
  nothing_buffer = buffer_is big t v type buffer used ht h i none ∙ rw (passes, same_value, ← h.is) (buffer_with_same used buffer h.roomy)

-- ---- after any list of edits the reading rules read what the buffer holds

pub orders_read : (type : List ℕ) (big : Bool) (t : Tree) (os : List Order) (v : Value most_variants t) (l : Lent) → type_of type ≡ some t → Holds big t v l.buffer l.used
    → frame_reading type big 0 (take (after_orders type big l os).used (after_orders type big l os).buffer)
    ≡ done (after_orders type big l os).used ((piece big most_variants t (value_after_all big t (length l.buffer) v os)).events 0)
orders_read type big t os v l ht h =
    holds_reads type big t (value_after_all big t (length l.buffer) v os) (after_orders type big l os).buffer (after_orders type big l os).used ht (orders_hold type big t ht os v l h)

-- ---- what a write leaves in its output may be edited, and so on

pub wrote_holds : (type : List ℕ) (big : Bool) (numbers texts out : List ℕ) (w : Wrote type big numbers texts out)
    → Holds big w.of.tree w.of.value (write_slice type big numbers texts out) (write type big numbers texts out).used
wrote_holds type big numbers texts out w =
    let f : List ℕ = form_of w.of in
    record {
      fit = w.of.fit;
      small = w.small;
      roomy = rw (w.used_is, w.output_is) (omega (arith, length-append f (drop (length f) out)));
      is = rw (w.used_is, w.output_is) (take_at f (drop (length f) out) (length f) refl);
    }
