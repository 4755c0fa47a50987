-- A law for each way out of the change of a reading that was found, in a buffer whose used part is a written form. Assumes nothing.
use mathlib.Core.Path.{◌≡◌, refl, ap, sym, subst, ◌∙◌}
use mathlib.Core.List.{List, ◌++◌}
use mathlib.Core.Bool.{Bool, true, false}
use Prim.Native.Nat.{ℕ, ◌-◌, ◌≤◌, ◌<◌}
use native.Mathlib.Omega.{arith}
use lib.Dec.{T, leb}
use lib.ListN.{length, take, drop, get_or}
use lib.Seq.{length-take-le, take-take}
use borrow.Author.Tests.{le-leb, lt-leb, leb-true}
use Rattle.meaning.specs.Limits.{largest_frame, most_variants}
use Rattle.meaning.specs.Refusals.{over_limit, room_too_small, no_value}
use Rattle.meaning.specs.Padding.{zeros}
use Rattle.meaning.specs.Depths.{none_open}
use Rattle.meaning.specs.Types.{Tree}
use Rattle.meaning.specs.Values.{Value}
use Rattle.meaning.specs.Written.{fits, piece, written}
use Rattle.meaning.proofs.Tests.{to_test}
use Rattle.meaning.proofs.NumberLaws.{Bytes}
use Rattle.meaning_writing.specs.Strict.{is_written}
use Rattle.meaning_writing.specs.Readings.{MaybeNumber, Spot, spells, readings_of, spot_of}
use Rattle.meaning_writing.specs.Edited.{reading_count, reading_spot, edited_frame}
use Rattle.meaning_writing.specs.Editing.{length_refusal, new_frame, edit_answer, edit_answered, buffer_with, edit, edit_buffer}
use Rattle.meaning_writing.proofs.Parts.{take_bytes, bytes_from}
use Rattle.meaning_writing.proofs.StrictVariants.{strict_sound}
use Rattle.meaning_writing.proofs.EditedVariants.{count_is, spot_is, edited_is}
use Rattle.meaning_writing.proofs.ChangedLaws.{change}
use Rattle.meaning_writing.proofs.EditingLaws.{passed, edit_refusal}
use Rattle.signature.specs.Trees.{tree_at}
use Rattle.editor_basic.specs.Puts.{over}
use Rattle.editor_steps.specs.Walks.{new_of, barred}
use Rattle.editor_steps.specs.Walked.{Walked}
use Rattle.editor_change.specs.Answers.{WrittenFrame, WalksFrame, Found, Changing, Storing}
use Rattle.editor_change.specs.declared.Target.{Target}
use Rattle.editor_change.proofs.Edits.{Answers, changed_frame, refused_is, type_is, change_barred, changing_is}
use Rattle.editor_change.proofs.Tails.{tail_put, new_put, not_shorter, shorter}

-- ---- what is not barred spells a value

not_barred : (s : Spot) (x : MaybeNumber) → barred s x ≡ 0 → T (spells s.type x)
unfolding barred
not_barred s x h = to_test (spells s.type x) (passed (spells s.type x) _ no_value (λ z. omega arith) h).0

-- ---- the bytes in front of the reading

-- where a frame's i-th reading stands, and that the bytes in front of it are the same in the frame with that reading put as x
pub record SameBefore (big : Bool) (t : Tree) (l : List ℕ) (i : ℕ) (x : MaybeNumber) : Type 0 where
  pub inside : (reading_spot big most_variants t none_open l i).place ≤ length l
  pub same : take (reading_spot big most_variants t none_open l i).place (edited_frame big most_variants t l i x) ≡ take (reading_spot big most_variants t none_open l i).place l

module _ (big : Bool) (t : Tree) (i : ℕ) (x : MaybeNumber) where
  abbrev Changes : List ℕ → Type 0
  Changes l = length l ≤ largest_frame → i < reading_count big most_variants t l → T (spells (reading_spot big most_variants t none_open l i).type x) → SameBefore big t l i x

  form_changes : (v : Value most_variants t) → T (fits (piece big most_variants t v) none_open) → Changes (written big most_variants t v)
  form_changes v f s h o =
      let n : i < length (readings_of big most_variants t v) = omega (arith, count_is big most_variants t none_open v f s) in
      let p = spot_is big most_variants t none_open v f s i n in
      let o' : T (spells (spot_of big most_variants t none_open v i).type x) = subst (λ (z : Spot). T (spells z.type x)) p o in
      let c = change big most_variants t none_open v i x n in
      record {
        inside = subst (λ (z : Spot). z.place ≤ length (written big most_variants t v)) (sym p) c.in_old;
        same =
            subst (λ (z : Spot). take z.place (edited_frame big most_variants t (written big most_variants t v) i x) ≡ take z.place (written big most_variants t v)) (sym p)
            (ap (take (spot_of big most_variants t none_open v i).place) (edited_is big most_variants t none_open v f s i x n o') ∙ c.before);
      }

  pub written_changes : (l : List ℕ) → Bytes l → is_written most_variants t none_open l ≡ true → Changes l
  written_changes l by w = let s = strict_sound big most_variants t none_open l by w in subst Changes s.form (form_changes s.v s.fit)

-- ---- the ways out

pub new_long : (n room : ℕ) → largest_frame < n → 2 ≡ length_refusal n room
unfolding length_refusal
new_long n room h = rw (lt-leb n largest_frame h)

pub new_full : (n room : ℕ) → n ≤ largest_frame → room < n → 13 ≡ length_refusal n room
unfolding length_refusal
new_full n room h g = rw (le-leb n largest_frame h, lt-leb n room g)

pub new_roomy : (n room : ℕ) → n ≤ largest_frame → n ≤ room → 0 ≡ length_refusal n room
unfolding length_refusal
new_roomy n room h g = rw (le-leb n largest_frame h, le-leb n room g)

-- the same frame, as its copy
pub copied_frame : {type tables frame copy : List ℕ} → WrittenFrame type tables frame → copy ≡ frame → WrittenFrame type tables copy
copied_frame {type} {tables} w e = subst (λ (l : List ℕ). WrittenFrame type tables l) (sym e) w

module _ {type tables buffer : List ℕ} {used : ℕ} {target : Target} (g : Changing type tables buffer used target) (known : (j : ℕ) → get_or buffer j 0 < 256) where
  abbrev big : Bool
  big = target.aim.big

  abbrev i : ℕ
  i = target.number

  abbrev x : MaybeNumber
  x = new_of target.aim.new

  abbrev place : ℕ
  place = target.place

  abbrev long : ℕ
  long = target.length

  m : used ≤ length buffer
  m = g.held.roomy

  w : WrittenFrame type tables (take used buffer)
  w = g.held.frame

  f : Found type big (take used buffer) i x place long
  f = g.found

  abbrev held : List ℕ
  held = take used buffer

  abbrev now : List ℕ
  now = changed_frame type big buffer used i x

  used_is : length held ≡ used
  used_is = length-take-le used buffer m

  length_judged : (edit type big buffer used i x).refusal ≡ length_refusal long (length buffer)
  length_judged =
      changing_is g.held known big i x
      ∙ change_barred (reading_count big most_variants (tree_at type 0) held) i (reading_spot big most_variants (tree_at type 0) none_open held i) x (length now) (length buffer) f.within
      ∙ rw f.allowed (sym (ap (λ (n : ℕ). length_refusal n (length buffer)) f.length_is))

  -- 2, 13
  pub change_refused : (r : ℕ) → r ≡ length_refusal long (length buffer) → (r ≡ 0 → ⊥) → Answers type big buffer used i x r 0 buffer
  change_refused r e z = refused_is type big buffer used i x r z (length_judged ∙ sym e)

  pub change_allowed : (r : ℕ) → r ≡ length_refusal long (length buffer) → r ≡ 0 → Storing type tables buffer used target
  change_allowed r e z = record { is = g; fits = sym e ∙ z }

  module _ (z : length_refusal long (length buffer) ≡ 0) where
    pub new_fits : (long ≤ largest_frame) × (long ≤ length buffer)
    unfolding length_refusal
    new_fits =
        let a = passed (leb long largest_frame) _ over_limit (λ y. omega arith) z in
        let b = passed (leb long (length buffer)) 0 room_too_small (λ y. omega arith) a.1 in
        (leb-true long largest_frame a.0, leb-true long (length buffer) b.0)

    roomy : length now ≤ length buffer
    roomy = omega (arith, new_fits.1, f.length_is)

    answer_is : edit_answer 0 long ≡ edit type big buffer used i x
    unfolding edit edit_answered new_frame
    answer_is =
        rw (sym (edit_refusal type big buffer used i x) ∙ length_judged ∙ z, type_is type big buffer used i x w.typed) (ap (edit_answer 0) f.length_is)

    buffer_is : buffer_with now used buffer ≡ edit_buffer type big buffer used i x
    unfolding edit_buffer new_frame
    buffer_is = rw (length_judged ∙ z, type_is type big buffer used i x w.typed)

    before : SameBefore big (tree_at type 0) held i x
    before = written_changes big (tree_at type 0) i x held (take_bytes used (bytes_from buffer known)) w.written w.short f.within (not_barred _ x f.allowed)

    pub place_inside : place ≤ used
    place_inside = let b = before.inside in omega (arith, f.place_is, used_is)

    same_front : take place now ≡ take place buffer
    same_front = subst (λ (k : ℕ). take k now ≡ take k held) (sym f.place_is) before.same ∙ take-take place used buffer place_inside

    -- the second walk, over the copy of the old frame, into the buffer's tail
    module _ {copy out' : List ℕ} {q : Walked} (c : copy ≡ held) (k : WalksFrame type big copy i x (take (length buffer - place) (drop place buffer)) out' q) where
      abbrev pub stored : List ℕ
      stored = take place buffer ++ (out' ++ drop (length buffer - place) (drop place buffer))

      tail_is : out' ≡ over (take (length buffer - place) (drop place buffer)) 0 (drop place now)
      unfolding reading_count reading_spot edited_frame
      tail_is = go q.found refl
        where
          y : WalksFrame type big held i x (take (length buffer - place) (drop place buffer)) out' q
          y = subst (λ (l : List ℕ). WalksFrame type big l i x (take (length buffer - place) (drop place buffer)) out' q) c k

          go : (b : Bool) → q.found ≡ b → out' ≡ over (take (length buffer - place) (drop place buffer)) 0 (drop place now)
          go true p =
              let h = y.here p in
              let n = h.made (h.refusal_is ∙ f.allowed) in
              let at : q.place - 0 ≡ place = omega (arith, n.place_is, f.place_is) in
              n.bytes_is ∙ ap (λ (j : ℕ). over (take (length buffer - place) (drop place buffer)) 0 (drop j now)) at
          go false p = let h = y.past p in absurd (omega (arith, h.count_is, h.beyond, f.within))

      -- which is not refused
      pub not_refused : q.found ≡ true → q.refusal ≡ 0
      unfolding reading_count reading_spot edited_frame
      not_refused p =
          let y : WalksFrame type big held i x (take (length buffer - place) (drop place buffer)) out' q =
          subst (λ (l : List ℕ). WalksFrame type big l i x (take (length buffer - place) (drop place buffer)) out' q) c k in
          (y.here p).refusal_is ∙ f.allowed

      stored_is : stored ≡ now ++ drop (length now) buffer
      stored_is =
          tail_put place (length buffer - place) buffer out' (drop place now) refl tail_is ∙ new_put now buffer used roomy place (omega (arith, f.inside, f.length_is)) same_front

      pub change_longer : used ≤ long → Answers type big buffer used i x 0 long stored
      change_longer n = (answer_is, stored_is ∙ not_shorter now buffer used roomy (omega (arith, f.length_is)) ∙ buffer_is)

      -- and with zeros behind the new frame, where it is shorter
      pub change_shorter : {zs : List ℕ} → zs ≡ over (take (length stored - long) (drop long stored)) 0 (zeros (used - long)) → long < used
          → Answers type big buffer used i x 0 long (take long stored ++ (zs ++ drop (length stored - long) (drop long stored)))
      change_shorter {zs} g n = (
        answer_is,
        tail_put long (length stored - long) stored zs (zeros (used - long)) refl g
            ∙ ap (λ (j : ℕ). take j stored ++ over (drop j stored) 0 (zeros (used - j))) f.length_is
            ∙ shorter now buffer used roomy stored stored_is (omega (arith, f.length_is)) m
            ∙ buffer_is,
      )
