-- THE REFUSALS of the edit, number by number: what each one says, and that a 15, 16 or 17 is never what reading met. Assumes nothing.
use mathlib.Core.Path.{◌≡◌, refl, sym, ◌∙◌, subst}
use mathlib.Core.Logic.{◌⊎◌, inl, inr}
use mathlib.Core.List.{List}
use mathlib.Core.Option.{Option, none, some}
use mathlib.Core.Bool.{Bool, true, false, ◌&&◌}
use Prim.Native.Nat.{ℕ, ◌+◌, ◌≤◌, ◌<◌}
use native.Mathlib.Omega.{arith}
use lib.Dec.{T, leb, ltb, eqb}
use lib.ListN.{length, take, get_or, length-take}
use borrow.Author.Tests.{le-leb, eq-eqb, ne_eqb, leb-true, eqb-true, eqb-false, ltb-true, ltb-false, lt-ltb, le-ltb, lt-leb}
use Rattle.meaning.specs.Choice.{pick}
use Rattle.meaning.specs.Limits.{largest_frame, most_containers, most_variants}
use Rattle.meaning.specs.Refusals.{type_refused, over_limit, containers_too_deep, room_too_small, not_written, no_such_reading, no_value}
use Rattle.meaning.specs.Depths.{Depths, none_open, total, depth_refusal}
use Rattle.meaning.specs.Types.{Tree}
use Rattle.meaning.specs.TypeText.{type_of}
use Rattle.meaning.specs.Values.{Value}
use Rattle.meaning.specs.Written.{fits, piece, written}
use Rattle.meaning.specs.Outcome.{Outcome}
use Rattle.meaning.specs.Reading.{reading}
use Rattle.meaning.specs.Calls.{frame_of, frame_reading, counts, sized, size}
use Rattle.meaning_writing.specs.Strict.{is_written}
use Rattle.meaning_writing.specs.Readings.{MaybeNumber, Spot, spells, may_stand, readings_of, spot_of, changed}
use Rattle.meaning_writing.specs.Edited.{reading_count, reading_spot, edited_frame}
use Rattle.meaning_writing.specs.Editing.{length_refusal, change_refusal, frame_refusal, refusal_of, new_frame, edit_answered, edit, edit_buffer, value_refusal}
use Rattle.meaning.proofs.NumberLaws.{Bytes}
use Rattle.meaning.proofs.DepthLaws.{Within, over_total, within_limits, limits}
use Rattle.meaning_writing.proofs.Parts.{take_bytes}
use Rattle.meaning.proofs.Faithful.{Met, reading_met}
use Rattle.meaning_writing.proofs.StrictVariants.{strict_sound, strict_reads}
use Rattle.meaning_writing.proofs.ChangedLaws.{change}
use Rattle.meaning_writing.proofs.EditingLaws.{edit_refusal, Holds, answer_refusal}

-- ---- refusals

-- an edit that is refused returns the length 0 and leaves the buffer as it was
pub record Refused (type : List ℕ) (big : Bool) (buffer : List ℕ) (used i : ℕ) (x : MaybeNumber) : Type 0 where
  pub length_is : (edit type big buffer used i x).used ≡ 0
  pub buffer_same : edit_buffer type big buffer used i x ≡ buffer

refused_length : (r n : ℕ) → (r ≡ 0 → ⊥) → (edit_answered r n).used ≡ 0
unfolding edit_answered
refused_length r n h = rw (ne_eqb r 0 h)

pub edit_refused : (type : List ℕ) (big : Bool) (buffer : List ℕ) (used i : ℕ) (x : MaybeNumber) → ((edit type big buffer used i x).refusal ≡ 0 → ⊥) → Refused type big buffer used i x
edit_refused type big buffer used i x h = record {
  length_is = unfold edit in refused_length (refusal_of big buffer used i x (type_of type)) (length (new_frame big (take used buffer) i x (type_of type))) (λ e. h (edit_refusal type big buffer used i x ∙ e));
  buffer_same = unfold edit_buffer in rw (ne_eqb (edit type big buffer used i x).refusal 0 h);
}

pub sized_refusal : (o : Outcome) → (sized o).refusal ≡ o.refusal
unfolding sized
sized_refusal o = go (eqb o.refusal 0) refl
  where
    go : (b : Bool) → eqb o.refusal 0 ≡ b → (pick b (counts 0 o.used (length o.events)) (counts o.refusal 0 0)).refusal ≡ o.refusal
    go true e = sym (eqb-true o.refusal 0 e)
    go false e = refl

-- 1 and 2
pub edit_untyped : (type : List ℕ) (big : Bool) (buffer : List ℕ) (used i : ℕ) (x : MaybeNumber) → type_of type ≡ none → (edit type big buffer used i x).refusal ≡ type_refused
edit_untyped type big buffer used i x ht = edit_refusal type big buffer used i x ∙ (unfold refusal_of in rw ht)

module _ (type : List ℕ) (big : Bool) (t : Tree) (buffer : List ℕ) (used i : ℕ) (x : MaybeNumber) (ht : type_of type ≡ some t) where
  pub edit_too_long : (used ≤ largest_frame → used ≤ length buffer → ⊥) → (edit type big buffer used i x).refusal ≡ over_limit
  edit_too_long h = edit_refusal type big buffer used i x ∙ (unfold refusal_of in rw ht (go (leb used largest_frame) (leb used (length buffer)) refl refl))
    where
      go : (a b : Bool) → leb used largest_frame ≡ a → leb used (length buffer) ≡ b
          → ◌≡◌ {A = ℕ} (pick (a && b) (frame_refusal big t (take used buffer) i x (length buffer) (reading 0 big most_variants t none_open 0 (take used buffer))) over_limit) over_limit
      go true true p q = absurd (h (leb-true used largest_frame p) (leb-true used (length buffer) q))
      go true false p q = refl
      go false b p q = refl

  module _ (l : used ≤ largest_frame) (m : used ≤ length buffer) where
    frame_judged : (edit type big buffer used i x).refusal ≡ frame_refusal big t (take used buffer) i x (length buffer) (reading 0 big most_variants t none_open 0 (take used buffer))
    frame_judged = edit_refusal type big buffer used i x ∙ (unfold refusal_of in rw (ht, le-leb used largest_frame l, le-leb used (length buffer) m))

    -- 3 to 12: what reading meets at position 0
    pub edit_as_read : ((reading 0 big most_variants t none_open 0 (take used buffer)).refusal ≡ 0 → ⊥) → (edit type big buffer used i x).refusal ≡ (reading 0 big most_variants t none_open 0 (take used buffer)).refusal
    edit_as_read h = frame_judged ∙ (unfold frame_refusal in rw (ne_eqb (reading 0 big most_variants t none_open 0 (take used buffer)).refusal 0 h))

    -- which is what `size` answers there
    pub size_as_read : (size type big 0 (take used buffer)).refusal ≡ (reading 0 big most_variants t none_open 0 (take used buffer)).refusal
    unfolding size frame_reading frame_of
    size_as_read =
        let n : length (take used buffer) ≤ largest_frame = omega (arith, length-take used buffer) in
        rw (ht, le-leb (length (take used buffer)) largest_frame n) (sized_refusal (reading 0 big most_variants t none_open 0 (take used buffer)))

    -- a frame that reads and does not pass the strict test
    pub judged_fifteen : (reading 0 big most_variants t none_open 0 (take used buffer)).refusal ≡ 0 → is_written most_variants t none_open (take used buffer) ≡ false → (edit type big buffer used i x).refusal ≡ not_written
    judged_fifteen r e = frame_judged ∙ (unfold frame_refusal in rw (eq-eqb (reading 0 big most_variants t none_open 0 (take used buffer)).refusal 0 r, e))

    -- 15, exactly where a frame reads and is the written form of no value that fits
    pub edit_fifteen : Bytes buffer → (reading 0 big most_variants t none_open 0 (take used buffer)).refusal ≡ 0
        → ((v : Value most_variants t) → T (fits (piece big most_variants t v) none_open) → written big most_variants t v ≡ take used buffer → ⊥) → (edit type big buffer used i x).refusal ≡ not_written
    edit_fifteen by r h = frame_judged ∙ (unfold frame_refusal in rw (eq-eqb (reading 0 big most_variants t none_open 0 (take used buffer)).refusal 0 r) (go (is_written most_variants t none_open (take used buffer)) refl))
      where
        c : ℕ
        c = change_refusal (reading_count big most_variants t (take used buffer)) i (reading_spot big most_variants t none_open (take used buffer) i) x (length (edited_frame big most_variants t (take used buffer) i x)) (length buffer)

        go : (b : Bool) → is_written most_variants t none_open (take used buffer) ≡ b → ◌≡◌ {A = ℕ} (pick b c not_written) not_written
        go true e = let s = strict_sound big most_variants t none_open (take used buffer) (take_bytes used by) e in absurd (h s.v s.fit s.form)
        go false e = refl

-- 15 is no refusal of the written form of a value that fits
fifteen_not : (counted i : ℕ) (s : Spot) (x : MaybeNumber) (n room : ℕ) → change_refusal counted i s x n room ≡ not_written → ⊥
unfolding change_refusal length_refusal
fifteen_not counted i s x n room h = go (ltb i counted) (spells s.type x) (may_stand s.around x) (leb n largest_frame) (leb n room) h
  where
    go : (a b c d e : Bool) → ◌≡◌ {A = ℕ} (pick a (pick b (pick c (pick d (pick e 0 room_too_small) over_limit) containers_too_deep) no_value) no_such_reading) not_written → ⊥
    go false b c d e h = omega arith
    go true false c d e h = omega arith
    go true true false d e h = omega arith
    go true true true false e h = omega arith
    go true true true true false h = omega arith
    go true true true true true h = omega arith

pub edit_not_fifteen : (type : List ℕ) (big : Bool) (t : Tree) (v : Value most_variants t) (buffer : List ℕ) (used i : ℕ) (x : MaybeNumber) → type_of type ≡ some t → Holds big t v buffer used
    → (edit type big buffer used i x).refusal ≡ not_written → ⊥
unfolding value_refusal
edit_not_fifteen type big t v buffer used i x ht h e =
    fifteen_not (length (readings_of big most_variants t v)) i (spot_of big most_variants t none_open v i) x (length (written big most_variants t (changed big most_variants t v i x))) (length buffer)
    (sym (answer_refusal big t v type buffer used ht h i x) ∙ e)

-- THE SECOND 12, of a value that fits: a number may not stand where the reading is nothing and 64 containers are open round it, and only there
module _ (big : Bool) (t : Tree) (v : Value most_variants t) (i n : ℕ) (f : T (fits (piece big most_variants t v) none_open)) (h : i < length (readings_of big most_variants t v)) where
  abbrev around : Depths
  around = (spot_of big most_variants t none_open v i).around

  fitting_limits : Within around.structure around.array around.variant around.maybe
  unfolding depth_refusal
  fitting_limits = limits around.structure around.array around.variant around.maybe ((change big most_variants t none_open v i none h).limits f refl)

  pub sixty_four : total around ≡ most_containers → may_stand around (some n) ≡ false
  unfolding may_stand
  sixty_four e =
      let w = fitting_limits in
      rw (over_total around.structure around.array around.variant (around.maybe + 1) w.structure w.array (omega arith))

  pub fewer : (total around ≡ most_containers → ⊥) → may_stand around (some n) ≡ true
  unfolding may_stand
  fewer e =
      let w = fitting_limits in
      let l = w.total in
      rw (within_limits around.structure around.array around.variant (around.maybe + 1) w.structure w.array (less (total around) l e (omega arith)))
    where
      less : (m : ℕ) → m ≤ 64 → (m ≡ 64 → ⊥) → {n : ℕ} → n ≡ m + 1 → n ≤ 64
      less m l e q = omega arith

  pub was_nothing : total around ≡ most_containers → get_or (readings_of big most_variants t v) i none ≡ none
  unfolding may_stand
  was_nothing e = go (get_or (readings_of big most_variants t v) i none) refl
    where
      go : (x : MaybeNumber) → get_or (readings_of big most_variants t v) i none ≡ x → x ≡ none
      go none q = refl
      go (some m) q = absurd (subst T (sixty_four e) ((change big most_variants t none_open v i none h).was_present f m q))

-- ---- the strict test may go first: what passes it is read

pub strict_first : (big : Bool) (t : Tree) (frame : List ℕ) (i : ℕ) (x : MaybeNumber) (room : ℕ) → Bytes frame → length frame ≤ largest_frame
    → frame_refusal big t frame i x room (reading 0 big most_variants t none_open 0 frame)
    ≡ pick (is_written most_variants t none_open frame)
    (change_refusal (reading_count big most_variants t frame) i (reading_spot big most_variants t none_open frame i) x (length (edited_frame big most_variants t frame i x)) room)
    (pick (eqb (reading 0 big most_variants t none_open 0 frame).refusal 0) not_written (reading 0 big most_variants t none_open 0 frame).refusal)
unfolding frame_refusal
strict_first big t frame i x room by s = go (is_written most_variants t none_open frame) (eqb (reading 0 big most_variants t none_open 0 frame).refusal 0) refl refl
  where
    r : ℕ
    r = (reading 0 big most_variants t none_open 0 frame).refusal

    c : ℕ
    c = change_refusal (reading_count big most_variants t frame) i (reading_spot big most_variants t none_open frame i) x (length (edited_frame big most_variants t frame i x)) room

    go : (a b : Bool) → is_written most_variants t none_open frame ≡ a → eqb r 0 ≡ b → pick b (pick a c not_written) r ≡ pick a c (pick b not_written r)
    go true true p q = refl
    go true false p q = absurd (eqb-false r 0 q (strict_reads 0 big most_variants t none_open frame refl by s p).refusal_is)
    go false true p q = refl
    go false false p q = refl

-- ---- a 15, 16 or 17 is never what reading met

-- a frame that reads: its type is one, and its length is within the limit and the buffer
pub record FrameReads (type : List ℕ) (big : Bool) (buffer : List ℕ) (used : ℕ) : Type 0 where
  pub t : Tree
  pub type_is : type_of type ≡ some t
  pub small : used ≤ largest_frame
  pub roomy : used ≤ length buffer
  pub reads : (reading 0 big most_variants t none_open 0 (take used buffer)).refusal ≡ 0

-- what reading meets is 12 or less
pub met_most : (r : ℕ) → Met r → r ≤ 12
met_most r (inl h) = omega arith
met_most r (inr h) = h.1

module _ (type : List ℕ) (big : Bool) (buffer : List ℕ) (used i : ℕ) (x : MaybeNumber) where
  pub edit_reads : room_too_small < (edit type big buffer used i x).refusal → FrameReads type big buffer used
  unfolding refusal_of frame_refusal
  edit_reads h = go (type_of type) refl (rw (edit_refusal type big buffer used i x) at h)
    where
      go : (o : Option Tree) → type_of type ≡ o → room_too_small < refusal_of big buffer used i x o → FrameReads type big buffer used
      go none e h = absurd (omega arith)
      go (some t) e h = lengths (leb used largest_frame) (leb used (length buffer)) refl refl h
        where
          frame : List ℕ
          frame = take used buffer

          r : ℕ
          r = (reading 0 big most_variants t none_open 0 frame).refusal

          c : ℕ
          c = change_refusal (reading_count big most_variants t frame) i (reading_spot big most_variants t none_open frame i) x (length (edited_frame big most_variants t frame i x)) (length buffer)

          met : used ≤ largest_frame → used ≤ length buffer → (b : Bool) → eqb r 0 ≡ b → room_too_small < pick b (pick (is_written most_variants t none_open frame) c not_written) r → FrameReads type big buffer used
          met l m true z h = record { t = t; type_is = e; small = l; roomy = m; reads = eqb-true r 0 z }
          met l m false z h = absurd (omega (arith, met_most r (reading_met 0 big most_variants t none_open 0 frame)))

          lengths : (a b : Bool) → leb used largest_frame ≡ a → leb used (length buffer) ≡ b
              → room_too_small < pick (a && b) (pick (eqb r 0) (pick (is_written most_variants t none_open frame) c not_written) r) over_limit → FrameReads type big buffer used
          lengths true true p q h = met (leb-true used largest_frame p) (leb-true used (length buffer) q) (eqb r 0) refl h
          lengths true false p q h = absurd (omega arith)
          lengths false b p q h = absurd (omega arith)

-- ---- the numbers that an edit answers

-- 0 to 13, and 15 to 17
abbrev pub EditNumber : ℕ → Type 0
EditNumber r = (r ≤ room_too_small) ⊎ ((not_written ≤ r) × (r ≤ no_value))

change_number : (counted i : ℕ) (s : Spot) (x : MaybeNumber) (n room : ℕ) → EditNumber (change_refusal counted i s x n room)
unfolding change_refusal length_refusal
change_number counted i s x n room = go (ltb i counted) (spells s.type x) (may_stand s.around x) (leb n largest_frame) (leb n room)
  where
    go : (a b c d e : Bool) → EditNumber (pick a (pick b (pick c (pick d (pick e 0 room_too_small) over_limit) containers_too_deep) no_value) no_such_reading)
    go false b c d e = inr (omega arith, omega arith)
    go true false c d e = inr (omega arith, omega arith)
    go true true false d e = inl (omega arith)
    go true true true false e = inl (omega arith)
    go true true true true false = inl (omega arith)
    go true true true true true = inl (omega arith)

frame_number : (big : Bool) (t : Tree) (frame : List ℕ) (i : ℕ) (x : MaybeNumber) (room : ℕ) → EditNumber (frame_refusal big t frame i x room (reading 0 big most_variants t none_open 0 frame))
unfolding frame_refusal
frame_number big t frame i x room = go (eqb r 0) (is_written most_variants t none_open frame)
  where
    r : ℕ
    r = (reading 0 big most_variants t none_open 0 frame).refusal

    c : ℕ
    c = change_refusal (reading_count big most_variants t frame) i (reading_spot big most_variants t none_open frame i) x (length (edited_frame big most_variants t frame i x)) room

    go : (a b : Bool) → EditNumber (pick a (pick b c not_written) r)
    go false b = inl (omega (arith, met_most r (reading_met 0 big most_variants t none_open 0 frame)))
    go true false = inr (omega arith, omega arith)
    go true true = change_number (reading_count big most_variants t frame) i (reading_spot big most_variants t none_open frame i) x (length (edited_frame big most_variants t frame i x)) room

pub edit_numbers : (type : List ℕ) (big : Bool) (buffer : List ℕ) (used i : ℕ) (x : MaybeNumber) → EditNumber (edit type big buffer used i x).refusal
unfolding refusal_of
edit_numbers type big buffer used i x = rw (edit_refusal type big buffer used i x) (go (type_of type))
  where
    picked : (t : Tree) (b : Bool) → EditNumber (pick b (frame_refusal big t (take used buffer) i x (length buffer) (reading 0 big most_variants t none_open 0 (take used buffer))) over_limit)
    picked t true = frame_number big t (take used buffer) i x (length buffer)
    picked t false = inl (omega arith)

    go : (o : Option Tree) → EditNumber (refusal_of big buffer used i x o)
    go none = inl (omega arith)
    go (some t) = picked t (leb used largest_frame && leb used (length buffer))

-- ---- what they say

-- 15: the frame reads, and is the written form of no value that fits
pub record NoForm (type : List ℕ) (big : Bool) (buffer : List ℕ) (used : ℕ) : Type 0 where
  pub frame : FrameReads type big buffer used
  pub no_value_lem : (v : Value most_variants frame.t) → T (fits (piece big most_variants frame.t v) none_open) → written big most_variants frame.t v ≡ take used buffer → ⊥

-- 16 and 17: the frame is the written form of a value, of which the change is judged
pub record OfValue (type : List ℕ) (big : Bool) (buffer : List ℕ) (used i : ℕ) (x : MaybeNumber) : Type 0 where
  pub t : Tree
  pub type_is : type_of type ≡ some t
  pub v : Value most_variants t
  pub was : Holds big t v buffer used
  pub refusal_is : (edit type big buffer used i x).refusal ≡ value_refusal big t v i x (length buffer)

-- the used part of a buffer, that is a value's written form
pub form_holds : (big : Bool) (t : Tree) (v : Value most_variants t) (buffer : List ℕ) (used : ℕ) → used ≤ largest_frame → used ≤ length buffer
    → T (fits (piece big most_variants t v) none_open) → written big most_variants t v ≡ take used buffer → Holds big t v buffer used
form_holds big t v buffer used l m f e = record { fit = f; small = rw e (omega (arith, length-take used buffer)); roomy = m; is = sym e }

absent_says : (counted i : ℕ) (s : Spot) (x : MaybeNumber) (n room : ℕ) → change_refusal counted i s x n room ≡ no_such_reading → counted ≤ i
unfolding change_refusal length_refusal
absent_says counted i s x n room h = go (ltb i counted) refl (spells s.type x) (may_stand s.around x) (leb n largest_frame) (leb n room) h
  where
    go : (a : Bool) → ltb i counted ≡ a → (b c d e : Bool)
        → ◌≡◌ {A = ℕ} (pick a (pick b (pick c (pick d (pick e 0 room_too_small) over_limit) containers_too_deep) no_value) no_such_reading) no_such_reading → counted ≤ i
    go false q b c d e h = ltb-false i counted q
    go true q false c d e h = absurd (omega arith)
    go true q true false d e h = absurd (omega arith)
    go true q true true false e h = absurd (omega arith)
    go true q true true true false h = absurd (omega arith)
    go true q true true true true h = absurd (omega arith)

unspelled_says : (counted i : ℕ) (s : Spot) (x : MaybeNumber) (n room : ℕ) → change_refusal counted i s x n room ≡ no_value → (i < counted) × (spells s.type x ≡ false)
unfolding change_refusal length_refusal
unspelled_says counted i s x n room h = go (ltb i counted) refl (spells s.type x) refl (may_stand s.around x) (leb n largest_frame) (leb n room) h
  where
    go : (a : Bool) → ltb i counted ≡ a → (b : Bool) → spells s.type x ≡ b → (c d e : Bool)
        → ◌≡◌ {A = ℕ} (pick a (pick b (pick c (pick d (pick e 0 room_too_small) over_limit) containers_too_deep) no_value) no_such_reading) no_value → (i < counted) × (b ≡ false)
    go false q b p c d e h = absurd (omega arith)
    go true q false p c d e h = (ltb-true i counted q, refl)
    go true q true p false d e h = absurd (omega arith)
    go true q true p true false e h = absurd (omega arith)
    go true q true p true true false h = absurd (omega arith)
    go true q true p true true true h = absurd (omega arith)

module _ (type : List ℕ) (big : Bool) (buffer : List ℕ) (used i : ℕ) (x : MaybeNumber) where
  pub fifteen_says : (edit type big buffer used i x).refusal ≡ not_written → NoForm type big buffer used
  fifteen_says h =
      let r = edit_reads type big buffer used i x (omega arith) in
      record {
        frame = r;
        no_value_lem = λ v f e. edit_not_fifteen type big r.t v buffer used i x r.type_is (form_holds big r.t v buffer used r.small r.roomy f e) h;
      }

  pub of_value : Bytes buffer → not_written < (edit type big buffer used i x).refusal → OfValue type big buffer used i x
  unfolding frame_refusal
  of_value by h =
      let r = edit_reads type big buffer used i x (omega arith) in
      let j = frame_judged type big r.t buffer used i x r.type_is r.small r.roomy in
      go r (is_written most_variants r.t none_open (take used buffer)) refl (rw (j, r.reads) at h)
    where
      go : (r : FrameReads type big buffer used) (b : Bool) → is_written most_variants r.t none_open (take used buffer) ≡ b → not_written
          < pick b (change_refusal (reading_count big most_variants r.t (take used buffer)) i (reading_spot big most_variants r.t none_open (take used buffer) i) x
          (length (edited_frame big most_variants r.t (take used buffer) i x)) (length buffer)) not_written → OfValue type big buffer used i x
      go r true e h =
          let s = strict_sound big most_variants r.t none_open (take used buffer) (take_bytes used by) e in
          let w = form_holds big r.t s.v buffer used r.small r.roomy s.fit s.form in
          record { t = r.t; type_is = r.type_is; v = s.v; was = w; refusal_is = answer_refusal big r.t s.v type buffer used r.type_is w i x }
      go r false e h = absurd (omega arith)

  pub sixteen_says : Bytes buffer → (edit type big buffer used i x).refusal ≡ no_such_reading
      → (o : OfValue type big buffer used i x) × (length (readings_of big most_variants o.t o.v) ≤ i)
  unfolding value_refusal
  sixteen_says by h = let o = of_value by (omega arith) in (o, absent_says _ i _ x _ (length buffer) (sym o.refusal_is ∙ h))

  pub seventeen_says : Bytes buffer → (edit type big buffer used i x).refusal ≡ no_value
      → (o : OfValue type big buffer used i x) × ((i < length (readings_of big most_variants o.t o.v)) × (spells (spot_of big most_variants o.t none_open o.v i).type x ≡ false))
  unfolding value_refusal
  seventeen_says by h = let o = of_value by (omega arith) in (o, unspelled_says _ i _ x _ (length buffer) (sym o.refusal_is ∙ h))

-- ---- and where they are given, of a buffer that holds the written form of a value, in their order

module _ (type : List ℕ) (big : Bool) (t : Tree) (v : Value most_variants t) (buffer : List ℕ) (used i : ℕ) (x : MaybeNumber) (ht : type_of type ≡ some t) (h : Holds big t v buffer used) where
  abbrev counted : ℕ
  counted = length (readings_of big most_variants t v)

  abbrev stands : Spot
  stands = spot_of big most_variants t none_open v i

  abbrev grown : ℕ
  grown = length (written big most_variants t (changed big most_variants t v i x))

  judged_so : (edit type big buffer used i x).refusal ≡ change_refusal counted i stands x grown (length buffer)
  unfolding value_refusal
  judged_so = answer_refusal big t v type buffer used ht h i x

  pub edit_absent : counted ≤ i → (edit type big buffer used i x).refusal ≡ no_such_reading
  unfolding change_refusal
  edit_absent n = judged_so ∙ rw (le-ltb i counted n)

  module _ (there : i < counted) where
    pub edit_unspelled : spells stands.type x ≡ false → (edit type big buffer used i x).refusal ≡ no_value
    unfolding change_refusal
    edit_unspelled s = judged_so ∙ rw (lt-ltb i counted there, s)

    pub edit_too_deep : spells stands.type x ≡ true → may_stand stands.around x ≡ false → (edit type big buffer used i x).refusal ≡ containers_too_deep
    unfolding change_refusal
    edit_too_deep s m = judged_so ∙ rw (lt-ltb i counted there, s, m)

    pub edit_grown : spells stands.type x ≡ true → may_stand stands.around x ≡ true → largest_frame < grown → (edit type big buffer used i x).refusal ≡ over_limit
    unfolding change_refusal length_refusal
    edit_grown s m n = judged_so ∙ rw (lt-ltb i counted there, s, m, lt-leb grown largest_frame n)

    pub edit_full : spells stands.type x ≡ true → may_stand stands.around x ≡ true → grown ≤ largest_frame → length buffer < grown → (edit type big buffer used i x).refusal ≡ room_too_small
    unfolding change_refusal length_refusal
    edit_full s m l n = judged_so ∙ rw (lt-ltb i counted there, s, m, le-leb grown largest_frame l, lt-leb grown (length buffer) n)
