-- Rounding up by a mask, in numbers of 64 bits. Assumes nothing.
use Rattle.std.proofs.Common.{◌≡◌, ℕ, ◌+◌, ◌-◌, ◌*◌, ◌/◌, ◌%◌, ◌^◌, ◌<◌, ◌≤◌, true, false, arith, ne_eqb}
use lib.Bits.{bit_and, and_high}
use Rattle.std.proofs.lemmas.Nat.{and_le_l}
use Rattle.meaning.specs.Refusals.{no_value}
use Rattle.meaning.specs.Padding.{is_alignment, Aligns, padding}
use Rattle.meaning.proofs.PaddingLaws.{by_alignment}
use Rattle.utils.specs.Checks.{passed, failed, padding_for}

-- a sum that wraps once at most
record Wraps (s x : ℕ) : Type 0 where
  times : ℕ
  once : times ≤ 1
  sum : s ≡ x + times * 18446744073709551616

wraps : (s x : ℕ) → s < 2 ^ 65 → s % 2 ^ 64 ≡ x → Wraps s x
wraps s x hs h = record { times = s / 18446744073709551616; once = omega arith; sum = omega arith }

-- `last` is one below value + a, and `r` leads from the value to the multiple of a that `last` has reached
led : {a : ℕ} → Aligns a → (value last r : ℕ) → value < 2 ^ 64 → last < 2 ^ 64 → r < 2 ^ 64
    → Wraps (value + a) (last + 1) → Wraps (r + value) (last / a * a) → r ≡ padding value a
unfolding padding
led al value last r v l f p q =
    by_alignment (λ a. Wraps (value + a) (last + 1) → Wraps (r + value) (last / a * a) → r ≡ padding value a)
    (λ p q. omega arith) (λ p q. omega arith) (λ p q. omega arith) (λ p q. omega arith) al p q

-- the mask of an alignment's multiples
masked : {a : ℕ} → Aligns a → (last low : ℕ) → last < 2 ^ 64 → low < 2 ^ 64 → (low + 1) % 2 ^ 64 ≡ a
    → bit_and last (2 ^ 64 - 1 - low) ≡ last / a * a
masked al last low l f h =
    by_alignment (λ a. (low + 1) % 2 ^ 64 ≡ a → bit_and last (2 ^ 64 - 1 - low) ≡ last / a * a)
    (λ h. let e : 18446744073709551615 - low ≡ 18446744073709551615 = omega arith in rw e (omega (arith, and_high last 64 0)))
    (λ h. let e : 18446744073709551615 - low ≡ 18446744073709551614 = omega arith in rw e (omega (arith, and_high last 63 1)))
    (λ h. let e : 18446744073709551615 - low ≡ 18446744073709551612 = omega arith in rw e (omega (arith, and_high last 62 2)))
    (λ h. let e : 18446744073709551615 - low ≡ 18446744073709551608 = omega arith in rw e (omega (arith, and_high last 61 3)))
    al h

reached : {a : ℕ} → Aligns a → (value last : ℕ) → value < 2 ^ 64 → last < 2 ^ 64
    → (last + 1) % 2 ^ 64 ≡ (value + a) % 2 ^ 64 → Wraps (value + a) (last + 1)
reached {a} al value last v l h = record {
  times = (value + a - 1) / 18446744073709551616;
  once = by_alignment (λ a. (value + a - 1) / 18446744073709551616 ≤ 1) (omega arith) (omega arith) (omega arith) (omega arith) al;
  sum = by_alignment (λ a. (last + 1) % 2 ^ 64 ≡ (value + a) % 2 ^ 64 → value + a ≡ last + 1 + (value + a - 1) / 18446744073709551616 * 18446744073709551616)
      (λ h. omega arith) (λ h. omega arith) (λ h. omega arith) (λ h. omega arith) al h;
}

-- what wrapping sums and a mask lead to is the padding
pub rounded_up : {a : ℕ} → Aligns a → (value : ℕ) → value < 2 ^ 64 → a < 2 ^ 64
    → (bit_and (((value + a) % 2 ^ 64 + (2 ^ 64 - 1)) % 2 ^ 64) (2 ^ 64 - 1 - (a + (2 ^ 64 - 1)) % 2 ^ 64) + (2 ^ 64 - value)) % 2 ^ 64 ≡ padding value a
rounded_up {a} p value v f =
    let last = ((value + a) % 2 ^ 64 + (2 ^ 64 - 1)) % 2 ^ 64 in
    let low = (a + (2 ^ 64 - 1)) % 2 ^ 64 in
    let r = (bit_and last (2 ^ 64 - 1 - low) + (2 ^ 64 - value)) % 2 ^ 64 in
    let m = masked p last low (omega arith) (omega arith) (omega arith) in
    let q : last / a * a ≤ last = rw (← m) (and_le_l last (2 ^ 64 - 1 - low)) in
    led p value last r v (omega arith) (omega arith) (reached p value last v (omega arith) (omega arith))
    (wraps (r + value) (last / a * a) (omega arith) (omega arith))

pub is_alignment_aligns : (a : ℕ) → is_alignment a ≡ true → Aligns a
is_alignment_aligns a h = record { listed = h }

pub padding_for_not : (value a : ℕ) → is_alignment a ≡ false → failed no_value ≡ padding_for value a
unfolding padding_for
padding_for_not value a h = rw h

pub padding_for_is : {a : ℕ} → Aligns a → (value : ℕ) {r : ℕ} → r ≡ padding value a → passed r ≡ padding_for value a
unfolding padding_for
padding_for_is al value h = rw (al.listed, h)

pub alignment_not : (a : ℕ) → (a ≡ 1 → ⊥) → (a ≡ 2 → ⊥) → (a ≡ 4 → ⊥) → (a ≡ 8 → ⊥) → is_alignment a ≡ false
unfolding is_alignment
alignment_not a p q r s = rw (ne_eqb a 1 p, ne_eqb a 2 q, ne_eqb a 4 r, ne_eqb a 8 s)
