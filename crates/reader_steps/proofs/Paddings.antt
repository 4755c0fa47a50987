-- The padding that is due by the low bits of a number that rides along. Assumes nothing.
use Rattle.std.proofs.Common.{◌≡◌, ℕ, ◌+◌, ◌-◌, ◌%◌, ◌^◌, ◌<◌, ◌≤◌, Bool, true, false, leb, List, length, drop, sym, refl, ap, ◌∙◌, arith, le-leb}
use lib.Bits.{bit_and, and_mask}
use borrow.Author.Tests.{lt-leb}
use Rattle.meaning.specs.Padding.{Aligns, padding, leading_zeros}
use Rattle.meaning.proofs.PaddingLaws.{by_alignment}
use Rattle.utils.specs.Checks.{passed, failed}
use Rattle.utils.proofs.Masks.{padding_for_is}
use Rattle.de.specs.Parts.{padding_at}
use Rattle.de.proofs.PaddingAnswers.{padding_in, sum_within, none_due, due_short, due_there, due_not_zero}
use Rattle.reader_steps.specs.Rides.{context_of}

pub aligns_some : {a : ℕ} → Aligns a → 1 ≤ a
aligns_some al = by_alignment (λ a. 1 ≤ a) (omega arith) (omega arith) (omega arith) (omega arith) al

-- by the lowest bits, which the position has alone
turned : {a : ℕ} → Aligns a → (x s v : ℕ) → (x + s) % 8 ≡ 0 → s % 8 ≡ v % 8 → bit_and x (a - 1) ≡ padding v a
unfolding padding
turned al x s v p q =
    by_alignment (λ a. bit_and x (a - 1) ≡ padding v a)
    (omega (arith, and_mask x 0)) (omega (arith, and_mask x 1)) (omega (arith, and_mask x 2)) (omega (arith, and_mask x 3)) al

low_sum : (n s : ℕ) → s ≡ n % 18446744073709551616 → s % 8 ≡ n % 8
low_sum n s p = omega arith

low_position : (ride at : ℕ) → (ride + at) % 8 ≡ (ride % 2147483648 + at) % 8
low_position ride at = omega arith

low_zero : (n : ℕ) → n % 18446744073709551616 ≡ 0 → n % 8 ≡ 0
low_zero n p = omega arith

due_is : {a : ℕ} → Aligns a → (ride at stands x : ℕ) → stands ≡ (ride + at) % 2 ^ 64 → (x + stands) % 2 ^ 64 ≡ 0
    → bit_and x (a - 1) ≡ padding (ride % 2147483648 + at) a
due_is al ride at stands x p q =
    turned al x stands (ride % 2147483648 + at) (low_zero (x + stands) q) (low_sum (ride + at) stands p ∙ low_position ride at)

-- ---- the ways out

module _ (part : List ℕ) (j place ride : ℕ) {a alignment : ℕ} (al : Aligns a) (e : alignment ≡ a) (stands x : ℕ) (near : (context_of ride).position ≤ 65536) (in_frame : place + length part ≤ 65536)
    (inside : j ≤ length part) (p : stands ≡ (ride + (place + j)) % 2 ^ 64) (q : (x + stands) % 2 ^ 64 ≡ 0) where
  abbrev due : ℕ
  due = bit_and x (alignment - 1)

  padded_by : padding_in (passed due) j part ≡ padding_at ((context_of ride).position + place) j a part
  unfolding context_of
  padded_by =
      let y : bit_and x (a - 1) ≡ padding (ride % 2147483648 + place + j) a =
      due_is al ride (place + j) stands x p q ∙ ap (λ (n : ℕ). padding n a) {x = ride % 2147483648 + (place + j)} {y = ride % 2147483648 + place + j} (omega arith) in
      rw e (sum_within (ride % 2147483648 + place) j a part (omega arith) (omega arith) (padding_for_is al (ride % 2147483648 + place + j) y))

  pub none_there : due ≡ 0 → passed 0 ≡ padding_at ((context_of ride).position + place) j a part
  none_there z = ap passed (sym z) ∙ none_due (passed due) j part z ∙ padded_by

  module _ (z : due ≡ 0 → ⊥) where
    pub too_short : length part - j < due → failed 3 ≡ padding_at ((context_of ride).position + place) j a part
    too_short s = due_short (passed due) j part z refl (lt-leb (j + due) (length part) (omega arith)) ∙ padded_by

    module _ (s : due ≤ length part - j) {r : Bool} (t : r ≡ leb due (leading_zeros (drop j part))) where
      pub zeros_there : r ≡ true → passed due ≡ padding_at ((context_of ride).position + place) j a part
      zeros_there y = due_there (passed due) j part z refl (le-leb (j + due) (length part) (omega arith)) t y ∙ padded_by

      pub other_there : r ≡ false → failed 4 ≡ padding_at ((context_of ride).position + place) j a part
      other_there y = due_not_zero (passed due) j part z refl (le-leb (j + due) (length part) (omega arith)) t y ∙ padded_by
