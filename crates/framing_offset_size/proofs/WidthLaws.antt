-- The leaves over the widths of framing offsets, from the tests of the code. Assumes nothing.
use mathlib.Core.Path.{◌≡◌, refl, sym, ap, ◌∙◌}
use mathlib.Core.List.{List, [], ◌∷◌, ◌++◌}
use mathlib.Core.Bool.{Bool, true, false, ◌||◌}
use Prim.Native.Nat.{ℕ, ◌+◌, ◌*◌, ◌-◌, ◌/◌, ◌≤◌, ◌<◌}
use native.Mathlib.Omega.{arith}
use lib.Dec.{leb, eqb}
use lib.ListN.{length, drop}
use lib.Seq.{take-nil, drop-nil}
use borrow.Author.Tests.{le-leb, lt-leb, eq-eqb, ne_eqb, eqb-true}
use Rattle.meaning.specs.Choice.{pick}
use Rattle.meaning.specs.Refusals.{out_of_bounds, room_too_small}
use Rattle.meaning.specs.Padding.{Aligns}
use Rattle.meaning.proofs.PaddingLaws.{by1, by2, by4, by8}
use Rattle.meaning.specs.Numbers.{bytes, value}
use Rattle.meaning.specs.Offsets.{largest, first_width, bare_width, last_offset}
use Rattle.meaning.proofs.OffsetSteps.{room_for, first_fits, first_not}
use Rattle.framing_offset_size.specs.declared.FramingOffsetSize.{FramingOffsetSize}
use Rattle.framing_offset_size.specs.declared.FramingOffsetSize.TheVariants.{U8, U16, U32, U64}
use Rattle.std.specs.Prelude.{Option, Some, None}
use Rattle.utils.specs.Checks.{passed, failed}
use Rattle.byte_order.specs.Standing.{number_at}
use Rattle.byte_order.proofs.Standings.{number_at_is}
use Rattle.framing_offset_size.specs.Widths.{width_of, bumped, fitting_width, Fitted, write_refusal, buffer_after, last_offset_in}

pub width_positive : (s : FramingOffsetSize) → 0 < width_of s
width_positive U8 = omega arith
width_positive U16 = omega arith
width_positive U32 = omega arith
width_positive U64 = omega arith

pub width_most : (s : FramingOffsetSize) → width_of s ≤ 8
width_most U8 = omega arith
width_most U16 = omega arith
width_most U32 = omega arith
width_most U64 = omega arith

pub width_aligns : (s : FramingOffsetSize) → Aligns (width_of s)
width_aligns U8 = by1
width_aligns U16 = by2
width_aligns U32 = by4
width_aligns U64 = by8

same_size : {s t : FramingOffsetSize} → Some s ≡ Some t → s ≡ t
same_size h = cc

-- the widths from one on
abbrev pub widths_from : FramingOffsetSize → List ℕ
widths_from U8 = 1 ∷ 2 ∷ 4 ∷ 8 ∷ []
widths_from U16 = 2 ∷ 4 ∷ 8 ∷ []
widths_from U32 = 4 ∷ 8 ∷ []
widths_from U64 = 8 ∷ []

-- what is left to try answers for all
abbrev pub Trying : FramingOffsetSize → ℕ → ℕ → Type 0
Trying s len count = first_width 0 (widths_from s) len count ≡ bare_width len count

pub trying_begin : (len count : ℕ) → Trying U8 len count
unfolding bare_width
trying_begin len count = refl

module _ (len count : ℕ) {b : Bool} where
  pub trying_done : (s : FramingOffsetSize) → b ≡ leb (len + count * width_of s) (largest (width_of s)) → b ≡ true
      → Trying s len count → width_of s ≡ bare_width len count
  trying_done U8 e t h = sym (first_fits 0 1 (2 ∷ 4 ∷ 8 ∷ []) len count (sym e ∙ t)) ∙ h
  trying_done U16 e t h = sym (first_fits 0 2 (4 ∷ 8 ∷ []) len count (sym e ∙ t)) ∙ h
  trying_done U32 e t h = sym (first_fits 0 4 (8 ∷ []) len count (sym e ∙ t)) ∙ h
  trying_done U64 e t h = sym (first_fits 0 8 [] len count (sym e ∙ t)) ∙ h

  pub trying_next : (s next : FramingOffsetSize) → b ≡ leb (len + count * width_of s) (largest (width_of s)) → b ≡ false
      → Some next ≡ bumped s → Trying s len count → Trying next len count
  trying_next U8 next e f g h = rw (same_size g) (sym (first_not 0 1 (2 ∷ 4 ∷ 8 ∷ []) len count (sym e ∙ f)) ∙ h)
  trying_next U16 next e f g h = rw (same_size g) (sym (first_not 0 2 (4 ∷ 8 ∷ []) len count (sym e ∙ f)) ∙ h)
  trying_next U32 next e f g h = rw (same_size g) (sym (first_not 0 4 (8 ∷ []) len count (sym e ∙ f)) ∙ h)
  trying_next U64 next e f g h = absurd (let z : ◌≡◌ {A = ℕ} 0 1 = cc in omega arith)

  pub trying_none : (s : FramingOffsetSize) → b ≡ leb (len + count * width_of s) (largest (width_of s)) → b ≡ false
      → None ≡ bumped s → Trying s len count → 0 ≡ bare_width len count
  unfolding first_width
  trying_none U64 e f g h = sym (first_not 0 8 [] len count (sym e ∙ f)) ∙ h
  trying_none U8 e f g h = absurd (let z : ◌≡◌ {A = ℕ} 0 1 = cc in omega arith)
  trying_none U16 e f g h = absurd (let z : ◌≡◌ {A = ℕ} 0 1 = cc in omega arith)
  trying_none U32 e f g h = absurd (let z : ◌≡◌ {A = ℕ} 0 1 = cc in omega arith)

-- each width is above the one before
pub bumped_above : (s next : FramingOffsetSize) → Some next ≡ bumped s → 8 - width_of next < 8 - width_of s
bumped_above U8 next g = rw (same_size g) (omega arith)
bumped_above U16 next g = rw (same_size g) (omega arith)
bumped_above U32 next g = rw (same_size g) (omega arith)
bumped_above U64 next g = absurd (let z : ◌≡◌ {A = ℕ} 0 1 = cc in omega arith)

pub fitted : (len count : ℕ) (r : Option FramingOffsetSize) → fitting_width r ≡ bare_width len count → Fitted len count r
fitted len count (Some s) h =
    record { refusal = rw (ne_eqb (bare_width len count) 0 (λ z. omega (arith, width_positive s, h))); width = h }
fitted len count None h = record { refusal = rw (eq-eqb (bare_width len count) 0 (sym h)); width = h }

pub fits_count : (s : FramingOffsetSize) (len count : ℕ) {most room : ℕ} → most ≡ largest (width_of s) → len ≤ most
    → room ≡ (most - len) / width_of s → leb count room ≡ leb (len + count * width_of s) (largest (width_of s))
fits_count s len count {most} e h r = rw (r, ← e) (room_for (width_of s) len count most (width_positive s) h)

-- the offset of a buffer that is empty is 0 in meaning too
pub last_none : (w : ℕ) (l : List ℕ) → length l ≡ 0 → last_offset w l ≡ 0
unfolding value
last_none w [] h = rw (drop-nil (0 - w), take-nil w)
last_none w (b ∷ l) h = absurd (omega arith)

module _ (w : ℕ) (l : List ℕ) where
  -- in closed form
  pub last_offset_in_is : last_offset_in w l ≡ pick (eqb (length l) 0) (passed 0) (pick (leb w (length l)) (passed (last_offset w l)) (failed out_of_bounds))
  unfolding last_offset_in
  last_offset_in_is = go (eqb (length l) 0) refl
    where
      go : (b : Bool) → eqb (length l) 0 ≡ b
          → pick (b || leb w (length l)) (passed (last_offset w l)) (failed out_of_bounds) ≡ pick b (passed 0) (pick (leb w (length l)) (passed (last_offset w l)) (failed out_of_bounds))
      go true e = ap passed (last_none w l (eqb-true (length l) 0 e))
      go false e = refl

  pub last_empty : eqb (length l) 0 ≡ true → passed 0 ≡ last_offset_in w l
  last_empty h = sym (last_offset_in_is ∙ rw h)

  module _ (h : eqb (length l) 0 ≡ false) where
    pub last_short : length l < w → failed out_of_bounds ≡ last_offset_in w l
    last_short g = sym (last_offset_in_is ∙ rw (h, lt-leb w (length l) g))

    pub last_there : {n : ℕ} → n ≡ w → w ≤ length l → number_at w false l (length l - n) ≡ last_offset_in w l
    last_there e g =
        let inside : length l - w + w ≤ length l = omega arith in
        rw e (number_at_is w false l (length l - w) ∙ rw (le-leb (length l - w + w) (length l) inside)
        (sym (last_offset_in_is ∙ rw (h, le-leb w (length l) g))))

-- what `write_offset` owes: its refusal, and the buffer afterwards
abbrev Wrote : ℕ → ℕ → List ℕ → ℕ → List ℕ → Type 0
Wrote w offset before refusal after = (refusal ≡ write_refusal w before) × (after ≡ buffer_after w offset before)

pub written_short : (w offset : ℕ) (l : List ℕ) → length l < w → Wrote w offset l room_too_small l
unfolding write_refusal buffer_after
written_short w offset l h = let e = lt-leb w (length l) h in (rw e, rw e)

pub written_there : (w offset : ℕ) (before buffer : List ℕ) → w ≤ length before → buffer ≡ bytes w offset ++ drop w before → Wrote w offset before 0 buffer
unfolding write_refusal buffer_after
written_there w offset before buffer h g = let e = le-leb w (length before) h in (rw e, rw (e, g))
