-- A law for each way out of `edit`, and of the edit of a frame that is a written form. Assumes nothing.
use mathlib.Core.Path.{◌≡◌, refl, ap, sym, ◌∙◌}
use mathlib.Core.List.{List}
use mathlib.Core.Option.{some}
use mathlib.Core.Bool.{Bool, true, false}
use Prim.Native.Nat.{ℕ, ◌≤◌, ◌<◌}
use native.Mathlib.Omega.{arith}
use lib.Dec.{eqb}
use lib.ListN.{length, take, get_or, length-take}
use borrow.Author.Tests.{le-leb, lt-ltb, le-ltb, eqb-false, ne_eqb}
use Rattle.meaning.specs.Choice.{pick}
use Rattle.meaning.specs.Limits.{largest_frame, most_variants}
use Rattle.meaning.specs.Refusals.{containers_too_deep, not_written, no_value}
use Rattle.meaning.specs.Depths.{none_open}
use Rattle.meaning.specs.Types.{Tree}
use Rattle.meaning.specs.TypeText.{type_of}
use Rattle.meaning.specs.Reading.{reading}
use Rattle.meaning.specs.Calls as Call
use Rattle.meaning.proofs.NumberLaws.{Bytes}
use Rattle.meaning_writing.specs.Strict.{is_written}
use Rattle.meaning_writing.specs.Readings.{MaybeNumber, Spot, spells, may_stand}
use Rattle.meaning_writing.specs.Edited.{reading_count, reading_spot, edited_frame}
use Rattle.meaning_writing.specs.Editing.{length_refusal, change_refusal, refusal_of, edit_answer, edit, edit_buffer}
use Rattle.meaning_writing.proofs.Parts.{take_bytes, bytes_from}
use Rattle.meaning_writing.proofs.EditingLaws.{edit_refusal}
use Rattle.meaning_writing.proofs.EditRefusals.{edit_refused, edit_untyped, edit_too_long, strict_first}
use Rattle.signature.specs.Places.{is_type}
use Rattle.signature.specs.Trees.{tree_at}
use Rattle.signature.proofs.Answers.{judged_none}
use Rattle.signature.proofs.TreeLaws.{front}
use Rattle.strict_sizes.specs.Sizes.{Tabled}
use Rattle.meaning_writing.specs.IsWritten.{written_as, unwritten, written_refusal}
use Rattle.editor_steps.specs.Walks.{new_of, barred}
use Rattle.editor_steps.specs.declared.answers.Aim.{Aim}
use Rattle.editor_steps.specs.Walked.{Walked}
use Rattle.editor_change.specs.Answers.{WrittenFrame, Held, WalksFrame, Changing}
use Rattle.editor_change.proofs.Tails.{used_short}

-- ---- the refusal of a change, from what bars it

pub change_barred : (counted i : ℕ) (s : Spot) (x : MaybeNumber) (new room : ℕ) → i < counted → change_refusal counted i s x new room ≡ pick (eqb (barred s x) 0) (length_refusal new room) (barred s x)
unfolding change_refusal barred
change_barred counted i s x new room h = rw (lt-ltb i counted h) (go (spells s.type x) (may_stand s.around x))
  where
    go : (a b : Bool)
        → ◌≡◌ {A = ℕ} (pick a (pick b (length_refusal new room) containers_too_deep) no_value)
        (pick (eqb (pick a (pick b 0 containers_too_deep) no_value) 0) (length_refusal new room) (pick a (pick b 0 containers_too_deep) no_value))
    go true true = refl
    go true false = refl
    go false b = refl

-- ---- the strict test of a frame within the limit

module _ (type : List ℕ) (big : Bool) (frame : List ℕ) (typed : is_type type ≡ true) (short : length frame ≤ largest_frame) where
  abbrev read : ℕ
  read = (reading 0 big most_variants (tree_at type 0) none_open 0 frame).refusal

  reading_is : (Call.frame_reading type big 0 frame).refusal ≡ read
  unfolding Call.frame_reading Call.frame_of
  reading_is = rw ((front type typed).type, le-leb (length frame) largest_frame short)

  strict_is : written_refusal type big frame ≡ pick (is_written most_variants (tree_at type 0) none_open frame) 0 (unwritten read)
  unfolding written_refusal written_as
  strict_is =
      rw ((front type typed).type, le-leb (length frame) largest_frame short) (ap (λ (n : ℕ). pick (is_written most_variants (tree_at type 0) none_open frame) 0 (unwritten n)) reading_is)

  passes : written_refusal type big frame ≡ 0 → is_written most_variants (tree_at type 0) none_open frame ≡ true
  unfolding unwritten
  passes h = go (is_written most_variants (tree_at type 0) none_open frame) (sym strict_is ∙ h)
    where
      other : (c : Bool) → eqb read 0 ≡ c → pick c not_written read ≡ 0 → ⊥
      other true p h = omega arith
      other false p h = eqb-false read 0 p h

      go : (b : Bool) → pick b 0 (pick (eqb read 0) not_written read) ≡ 0 → b ≡ true
      go true h = refl
      go false h = absurd (other (eqb read 0) refl h)

  pub frame_written : (tables : List ℕ) → Tabled type tables → (r : ℕ) → r ≡ written_refusal type big frame → r ≡ 0 → WrittenFrame type tables frame
  frame_written tables k r e z = record { typed = typed; table = k; short = short; written = passes (sym e ∙ z) }

-- ---- the ways out of `edit`

module _ (type : List ℕ) (big : Bool) (buffer : List ℕ) (used i : ℕ) (x : MaybeNumber) where
  -- an answer, and the buffer afterwards
  abbrev pub Answers : ℕ → ℕ → List ℕ → Type 0
  Answers n u buffer' = (edit_answer n u ≡ edit type big buffer used i x) × (buffer' ≡ edit_buffer type big buffer used i x)

  abbrev frame : List ℕ
  frame = take used buffer

  abbrev t : Tree
  t = tree_at type 0

  -- the frame with the reading changed
  abbrev pub changed_frame : List ℕ
  changed_frame = edited_frame big most_variants t frame i x

  -- and the refusal of its change
  abbrev pub changing : ℕ
  changing = change_refusal (reading_count big most_variants t frame) i (reading_spot big most_variants t none_open frame i) x (length changed_frame) (length buffer)

  pub refused_is : (n : ℕ) → (n ≡ 0 → ⊥) → (edit type big buffer used i x).refusal ≡ n → Answers n 0 buffer
  refused_is n z e =
      let r = edit_refused type big buffer used i x (λ y. z (sym e ∙ y)) in
      (λ j. edit_answer (sym e j) (sym r.length_is j), sym r.buffer_same)

  pub edit_1 : is_type type ≡ false → Answers 1 0 buffer
  edit_1 h = refused_is 1 (λ z. omega arith) (edit_untyped type big buffer used i x (judged_none type h))

  module _ (typed : is_type type ≡ true) where
    pub type_is : type_of type ≡ some t
    type_is = (front type typed).type

    pub edit_2 : (used ≤ largest_frame → used ≤ length buffer → ⊥) → Answers 2 0 buffer
    edit_2 h = refused_is 2 (λ z. omega arith) (edit_too_long type big t buffer used i x type_is h)

    module _ (by : Bytes buffer) (l : used ≤ largest_frame) (m : used ≤ length buffer) where
      short : length frame ≤ largest_frame
      short = omega (arith, length-take used buffer)

      judged : (edit type big buffer used i x).refusal ≡ pick (is_written most_variants t none_open frame) changing (unwritten (read type big frame typed short))
      unfolding refusal_of unwritten
      judged =
          edit_refusal type big buffer used i x
          ∙ rw (type_is, le-leb used largest_frame l, le-leb used (length buffer) m) (strict_first big t frame i x (length buffer) (take_bytes used by) short)

      -- 3 to 12, 15
      pub edit_unwritten : (r : ℕ) → r ≡ written_refusal type big frame → (r ≡ 0 → ⊥) → Answers r 0 buffer
      edit_unwritten r e z = refused_is r z (judged ∙ go (is_written most_variants t none_open frame) (sym (e ∙ strict_is type big frame typed short)))
        where
          n : ℕ
          n = unwritten (read type big frame typed short)

          go : (b : Bool) → pick b 0 n ≡ r → pick b changing n ≡ r
          go true h = absurd (z (sym h))
          go false h = h

-- ---- those of `edit_written`

module _ {type tables buffer : List ℕ} {used : ℕ} (h : Held type tables buffer used) (known : (j : ℕ) → get_or buffer j 0 < 256) where
  pub changing_is : (big : Bool) (i : ℕ) (x : MaybeNumber) → (edit type big buffer used i x).refusal ≡ changing type big buffer used i x
  changing_is big i x =
      let small : used ≤ largest_frame = used_short used buffer h.roomy h.frame.short in
      judged type big buffer used i x h.frame.typed (bytes_from buffer known) small h.roomy ∙ rw h.frame.written

  module _ (a : Aim) (i : ℕ) {out out' : List ℕ} {r : Walked} (k : WalksFrame type a.big (take used buffer) i (new_of a.new) out out' r) where
    abbrev counted : ℕ
    counted = reading_count a.big most_variants (tree_at type 0) (take used buffer)

    abbrev Gives : ℕ → Type 0
    Gives n = Answers type a.big buffer used i (new_of a.new) n 0 buffer

    pub edit_16 : r.found ≡ false → Gives 16
    unfolding change_refusal reading_count
    edit_16 z =
        let p = k.past z in
        let n : counted ≤ i = omega (arith, p.beyond, p.count_is) in
        refused_is type a.big buffer used i (new_of a.new) 16 (λ z. omega arith) (changing_is a.big i (new_of a.new) ∙ rw (le-ltb i counted n))

    module _ (z : r.found ≡ true) where
      -- 17, 12
      pub edit_barred : (r.refusal ≡ 0 → ⊥) → Gives r.refusal
      unfolding reading_count reading_spot
      edit_barred y =
          let h = k.here z in
          let n : ℕ = length (changed_frame type a.big buffer used i (new_of a.new)) in
          refused_is type a.big buffer used i (new_of a.new) r.refusal y
          (changing_is a.big i (new_of a.new) ∙ change_barred _ i _ (new_of a.new) n (length buffer) h.within ∙ rw (← h.refusal_is) (rw (ne_eqb r.refusal 0 y)))

      pub found_so : r.refusal ≡ 0 → Changing type tables buffer used (record { number = i; aim = a; place = r.place; length = r.length })
      unfolding reading_count reading_spot edited_frame
      found_so y =
          let w = k.here z in
          let n = w.made y in
          record {
            held = h;
            found = record {
              within = w.within;
              allowed = sym w.refusal_is ∙ y;
              place_is = n.place_is;
              inside = omega (arith, n.inside);
              length_is = n.length_is;
            };
          }
