-- What `edit` answers to a withdrawal, for all arguments: never that room is too small, and 2 only of the lengths that it was given; and
-- what a withdrawal that is done leaves. Assumes nothing.
use mathlib.Core.Path.{◌≡◌, refl, ap, ◌∙◌}
use mathlib.Core.Logic.{◌⊎◌, inl, inr}
use mathlib.Core.List.{List, [], ◌∷◌}
use mathlib.Core.Option.{Option, none, some}
use mathlib.Core.Bool.{Bool, true, false}
use Prim.Native.Nat.{ℕ, ◌≤◌, ◌<◌}
use native.Mathlib.Omega.{arith}
use lib.Dec.{leb, ltb, eqb}
use lib.ListN.{length, take, length-take}
use borrow.Author.Tests.{le-leb, lt-ltb, le-ltb, leb-true, leb-false, eqb-true, eqb-false, ltb-true, ltb-false}
use Rattle.meaning.specs.Limits.{largest_frame, most_variants}
use Rattle.meaning.specs.Refusals.{type_refused, over_limit, containers_too_deep, room_too_small, not_written, no_such_reading, no_value}
use Rattle.meaning.specs.Depths.{none_open}
use Rattle.meaning.specs.Types.{Tree}
use Rattle.meaning.specs.TypeText.{type_of, type_text}
use Rattle.meaning.specs.Values.{Value}
use Rattle.meaning.specs.Written.{piece, written}
use Rattle.meaning.specs.Reading.{reading}
use Rattle.meaning.specs.Calls.{frame_reading}
use Rattle.meaning_writing.specs.Strict.{is_written}
use Rattle.meaning_writing.specs.Readings.{Spot, spells, may_stand, readings_of, spot_of, changed}
use Rattle.meaning_writing.specs.Editing.{length_refusal, change_refusal, edit, edit_buffer, value_refusal}
use Rattle.meaning_writing.specs.Withdrawals.{Withdrawn, Nearer}
use Rattle.meaning.proofs.NumberLaws.{Bytes}
use Rattle.meaning.proofs.Tests.{from_test}
use Rattle.meaning.proofs.Faithful.{Met, reading_met}
use Rattle.meaning.proofs.TypeTextLaws.{type_of_type_text, type_of_sound}
use Rattle.meaning_writing.proofs.Parts.{take_bytes}
use Rattle.meaning_writing.proofs.StrictVariants.{strict_sound}
use Rattle.meaning_writing.proofs.ChangedLaws.{change}
use Rattle.meaning_writing.proofs.EditingLaws.{Holds, Edits, answer_refusal, holds_reads, edit_edits}
use Rattle.meaning_writing.proofs.EditRefusals.{edit_refused, edit_untyped, edit_too_long, edit_as_read, judged_fifteen, form_holds, met_most}
use Rattle.meaning_writing.proofs.Withdrawals.{withdrawn, no_longer, nearer}

-- ---- of a buffer that holds the written form of a value

room_enough : (new room : ℕ) → new ≤ largest_frame → new ≤ room → length_refusal new room ≡ 0
unfolding length_refusal
room_enough new room h g = rw (le-leb new largest_frame h, le-leb new room g)

module _ (type : List ℕ) (big : Bool) (t : Tree) (v : Value most_variants t) (buffer : List ℕ) (used i : ℕ) (ht : type_of type ≡ some t) (h : Holds big t v buffer used) where
  abbrev counted : ℕ
  counted = length (readings_of big most_variants t v)

  -- A WITHDRAWAL IS DONE, however full the buffer is; only that there is no such reading refuses it
  pub withdrawal_done : i < counted → (edit type big buffer used i none).refusal ≡ 0
  unfolding value_refusal change_refusal may_stand
  withdrawal_done lt =
      let s : Spot = spot_of big most_variants t none_open v i in
      let l = no_longer big most_variants t v i lt in
      let u = ap length h.is in
      let m = length-take used buffer in
      answer_refusal big t v type buffer used ht h i none
      ∙ rw (lt-ltb i counted lt, from_test (spells s.type none) (change big most_variants t none_open v i none lt).nothing_spells)
      (room_enough (length (written big most_variants t (changed big most_variants t v i none))) (length buffer) (omega (arith, h.small)) (omega (arith, h.roomy)))

  pub withdrawal_absent : counted ≤ i → (edit type big buffer used i none).refusal ≡ no_such_reading
  unfolding value_refusal change_refusal
  withdrawal_absent le = answer_refusal big t v type buffer used ht h i none ∙ rw (le-ltb i counted le)

-- ---- for all arguments

-- what there is to answer: 1; 2, of the lengths that were given; what reading met; 15; 16; or that it is done
pub data WithdrawalAnswer (type : List ℕ) (big : Bool) (buffer : List ℕ) (used : ℕ) : ℕ → Type 0 where
  untyped : type_of type ≡ none → WithdrawalAnswer type big buffer used type_refused
  too_long : (used ≤ largest_frame → used ≤ length buffer → ⊥) → WithdrawalAnswer type big buffer used over_limit
  as_read : (t : Tree) → type_of type ≡ some t → ((reading 0 big most_variants t none_open 0 (take used buffer)).refusal ≡ 0 → ⊥) → WithdrawalAnswer type big buffer used (reading 0 big most_variants t none_open 0 (take used buffer)).refusal
  no_form : WithdrawalAnswer type big buffer used not_written
  no_reading : WithdrawalAnswer type big buffer used no_such_reading
  done : WithdrawalAnswer type big buffer used 0

-- the numbers that are left
abbrev pub Withdraws : ℕ → Type 0
Withdraws r = (r ≤ containers_too_deep) ⊎ ((not_written ≤ r) × (r ≤ no_such_reading))

none_withdraws : (r : ℕ) → containers_too_deep < r → (not_written ≤ r → r ≤ no_such_reading → ⊥) → Withdraws r → ⊥
none_withdraws r h f (inl l) = omega arith
none_withdraws r h f (inr l) = f l.0 l.1

not_two : (r : ℕ) → Met r → r ≡ over_limit → ⊥
not_two r (inl h) e = omega arith
not_two r (inr h) e = let l = h.0 in omega arith

module _ (type : List ℕ) (big : Bool) (buffer : List ℕ) (used i : ℕ) (by : Bytes buffer) where
  abbrev Answers : Type 0
  Answers = WithdrawalAnswer type big buffer used (edit type big buffer used i none).refusal

  -- the written form of a value
  form_answers : (t : Tree) (v : Value most_variants t) → type_of type ≡ some t → Holds big t v buffer used → (b : Bool) → ltb i (length (readings_of big most_variants t v)) ≡ b → Answers
  form_answers t v ht w true q = rw (withdrawal_done type big t v buffer used i ht w (ltb-true i _ q)) done
  form_answers t v ht w false q = rw (withdrawal_absent type big t v buffer used i ht w (ltb-false i _ q)) no_reading

  -- a frame that reads
  read_answers : (t : Tree) → type_of type ≡ some t → used ≤ largest_frame → used ≤ length buffer → (reading 0 big most_variants t none_open 0 (take used buffer)).refusal ≡ 0
      → (b : Bool) → is_written most_variants t none_open (take used buffer) ≡ b → Answers
  read_answers t ht l m r true e =
      let s = strict_sound big most_variants t none_open (take used buffer) (take_bytes used by) e in
      form_answers t s.v ht (form_holds big t s.v buffer used l m s.fit s.form) (ltb i (length (readings_of big most_variants t s.v))) refl
  read_answers t ht l m r false e = rw (judged_fifteen type big t buffer used i none ht l m r e) no_form

  -- THE ANSWERS to a withdrawal
  pub withdrawal_answers : Answers
  withdrawal_answers = typed (type_of type) refl
    where
      typed : (o : Option Tree) → type_of type ≡ o → Answers
      typed none e = rw (edit_untyped type big buffer used i none e) (untyped e)
      typed (some t) e = lengths (leb used largest_frame) (leb used (length buffer)) refl refl
        where
          over : (used ≤ largest_frame → used ≤ length buffer → ⊥) → Answers
          over h = rw (edit_too_long type big t buffer used i none e h) (too_long h)

          met : used ≤ largest_frame → used ≤ length buffer → (b : Bool) → eqb (reading 0 big most_variants t none_open 0 (take used buffer)).refusal 0 ≡ b → Answers
          met l m true q = read_answers t e l m (eqb-true _ 0 q) (is_written most_variants t none_open (take used buffer)) refl
          met l m false q = rw (edit_as_read type big t buffer used i none e l m (eqb-false _ 0 q)) (as_read t e (eqb-false _ 0 q))

          lengths : (a b : Bool) → leb used largest_frame ≡ a → leb used (length buffer) ≡ b → Answers
          lengths true true p q = met (leb-true used largest_frame p) (leb-true used (length buffer) q) (eqb (reading 0 big most_variants t none_open 0 (take used buffer)).refusal 0) refl
          lengths true false p q = over (λ l m. omega (arith, leb-false used (length buffer) q))
          lengths false b p q = over (λ l m. omega (arith, leb-false used largest_frame p))

  -- so it answers one of 0 to 12, 15 and 16
  pub withdrawal_numbers : Withdraws (edit type big buffer used i none).refusal
  withdrawal_numbers = go withdrawal_answers
    where
      go : {r : ℕ} → WithdrawalAnswer type big buffer used r → Withdraws r
      go (untyped e) = inl (omega arith)
      go (too_long e) = inl (omega arith)
      go (as_read t g e) = inl (met_most _ (reading_met 0 big most_variants t none_open 0 (take used buffer)))
      go no_form = inr (omega arith, omega arith)
      go no_reading = inr (omega arith, omega arith)
      go done = inl (omega arith)

  -- NEITHER 13, that room is too small, NOR THE SECOND 2, that the new frame is over the limit; nor 17
  pub withdrawal_fits : (edit type big buffer used i none).refusal ≡ room_too_small → ⊥
  withdrawal_fits h = none_withdraws room_too_small (omega arith) (λ l m. omega arith) (rw h at withdrawal_numbers)

  pub withdrawal_small : (edit type big buffer used i none).refusal ≡ over_limit → used ≤ largest_frame → used ≤ length buffer → ⊥
  withdrawal_small h = go withdrawal_answers h
    where
      go : {r : ℕ} → WithdrawalAnswer type big buffer used r → r ≡ over_limit → used ≤ largest_frame → used ≤ length buffer → ⊥
      go (untyped e) h = absurd (omega arith)
      go (too_long e) h = e
      go (as_read t g e) h = absurd (not_two _ (reading_met 0 big most_variants t none_open 0 (take used buffer)) h)
      go no_form h = absurd (omega arith)
      go no_reading h = absurd (omega arith)
      go done h = absurd (omega arith)

  pub withdrawal_spells : (edit type big buffer used i none).refusal ≡ no_value → ⊥
  withdrawal_spells h = none_withdraws no_value (omega arith) (λ l m. omega arith) (rw h at withdrawal_numbers)

-- ---- what it leaves

-- a withdrawal that is done: it is an edit; in every container round the reading nothing stands further back and no offset is wider; of all that is
-- read of the frame nothing stands further back; and the new frame is no longer than the old
pub record Shrunk (type : List ℕ) (big : Bool) (buffer : List ℕ) (used i : ℕ) : Type 0 where
  pub edits : Edits type big buffer used i none
  pub no_further : Withdrawn (piece big most_variants edits.t edits.v ∷ []) (piece big most_variants edits.t (changed big most_variants edits.t edits.v i none) ∷ [])
  pub events_nearer : Nearer (frame_reading type big 0 (take used buffer)).events (frame_reading type big 0 (take (edit type big buffer used i none).used (edit_buffer type big buffer used i none))).events
  pub shorter : (edit type big buffer used i none).used ≤ used

module _ (type : List ℕ) (big : Bool) (buffer : List ℕ) (used i : ℕ) (by : Bytes buffer) where
  -- the type of the value
  same_type : (edit type big buffer used i none).refusal ≡ 0 → (t : Tree) → type ≡ type_text t → type_of type ≡ some t
  same_type ok t e = go (type_of type) refl
    where
      go : (o : Option Tree) → type_of type ≡ o → type_of type ≡ some t
      go none q = absurd (let z = edit_untyped type big buffer used i none q in omega arith)
      go (some u) q = let s = type_of_sound type u q in rw e (type_of_type_text t (rw e at s.few))

  -- A WITHDRAWAL SHRINKS its frame, or leaves it as long
  pub withdrawal_shrinks : (edit type big buffer used i none).refusal ≡ 0 → Shrunk type big buffer used i
  withdrawal_shrinks ok =
      let e = edit_edits type big buffer used i none by ok in
      let w = e.was in
      let c = e.changes in
      let l = no_longer big most_variants e.t e.v i c.there in
      let n = c.length_is in
      let u = ap length w.is in
      let m = length-take used buffer in
      let r = holds_reads type big e.t e.v buffer used (same_type ok e.t e.type_is) w in
      record {
        edits = e;
        no_further = withdrawn big most_variants e.t e.v i c.there;
        events_nearer = rw (r, c.reads) (nearer big most_variants e.t e.v i c.there);
        shorter = omega (arith, w.roomy);
      }

  -- so the length that it answers is never over the used length, refused or not
  pub withdrawal_length : (edit type big buffer used i none).used ≤ used
  withdrawal_length = go (eqb (edit type big buffer used i none).refusal 0) refl
    where
      go : (b : Bool) → eqb (edit type big buffer used i none).refusal 0 ≡ b → (edit type big buffer used i none).used ≤ used
      go true q = (withdrawal_shrinks (eqb-true _ 0 q)).shorter
      go false q = omega (arith, (edit_refused type big buffer used i none (eqb-false _ 0 q)).length_is)
