-- Laws of padding and alignments. Assumes nothing.
use mathlib.Core.Path.{◌≡◌, refl, ap, ◌∙◌}
use mathlib.Core.List.{List, ◌++◌}
use Prim.Native.Nat.{ℕ, zero, suc, ◌+◌, ◌-◌, ◌%◌, ◌≤◌, ◌<◌, max}
use native.Mathlib.Nat.{add-mod, mod-mod, zero-add}
use native.Mathlib.Omega.{arith}
use lib.Dec.{eqb}
use mathlib.Core.Bool.{Bool, true, false, ◌||◌}
use borrow.Author.Tests.{eqb-true}
use Rattle.meaning.specs.Padding.{is_alignment, Aligns, padding, zeros, leading_zeros}

-- the alignments one by one
pub by1 : Aligns 1
unfolding is_alignment
by1 = record { listed = refl }

pub by2 : Aligns 2
unfolding is_alignment
by2 = record { listed = refl }

pub by4 : Aligns 4
unfolding is_alignment
by4 = record { listed = refl }

pub by8 : Aligns 8
unfolding is_alignment
by8 = record { listed = refl }

-- what holds of each of them holds of every alignment
pub by_alignment : (P : ℕ → Type 0) → P 1 → P 2 → P 4 → P 8 → {a : ℕ} → Aligns a → P a
unfolding is_alignment
by_alignment P p1 p2 p4 p8 {a} al = go (eqb a 1) (eqb a 2) (eqb a 4) (eqb a 8) refl refl refl refl al.listed
  where
    go : (x y z w : Bool) → eqb a 1 ≡ x → eqb a 2 ≡ y → eqb a 4 ≡ z → eqb a 8 ≡ w → (x || (y || (z || w))) ≡ true → P a
    go true y z w p q r s h = rw (eqb-true a 1 p) p1
    go false true z w p q r s h = rw (eqb-true a 2 q) p2
    go false false true w p q r s h = rw (eqb-true a 4 r) p4
    go false false false true p q r s h = rw (eqb-true a 8 s) p8
    go false false false false p q r s h = absurd (let z : ◌≡◌ {A = ℕ} 0 1 = cc in omega arith)

pub aligns_max : {a b : ℕ} → Aligns a → Aligns b → Aligns (max a b)
aligns_max {a} {b} x y =
    by_alignment (λ a. Aligns (max a b))
    (by_alignment (λ b. Aligns (max 1 b)) by1 by2 by4 by8 y)
    (by_alignment (λ b. Aligns (max 2 b)) by2 by2 by4 by8 y)
    (by_alignment (λ b. Aligns (max 4 b)) by4 by4 by4 by8 y)
    (by_alignment (λ b. Aligns (max 8 b)) by8 by8 by8 by8 y)
    x

pub aligns_positive : {a : ℕ} → Aligns a → 0 < a
aligns_positive al = by_alignment (λ a. 0 < a) (omega arith) (omega arith) (omega arith) (omega arith) al

-- from a multiple of the alignment on, padding counts as from 0
pub padding_shift : (k j a : ℕ) → k % a ≡ 0 → padding (k + j) a ≡ padding j a
unfolding padding
padding_shift k j a h = ap (λ (x : ℕ). (a - x) % a) (add-mod k j a ∙ rw (h, zero-add) (mod-mod j a))

pub padding_aligned : {a : ℕ} → Aligns a → (k : ℕ) → (k + padding k a) % a ≡ 0
unfolding padding
padding_aligned al k = by_alignment (λ a. (k + padding k a) % a ≡ 0) (omega arith) (omega arith) (omega arith) (omega arith) al

pub padding_none : {a : ℕ} → Aligns a → (k : ℕ) → k % a ≡ 0 → padding k a ≡ 0
unfolding padding
padding_none al k h =
    by_alignment (λ a. k % a ≡ 0 → padding k a ≡ 0) (λ h. omega arith) (λ h. omega arith) (λ h. omega arith) (λ h. omega arith) al h

pub padding_below : {a : ℕ} → Aligns a → (k : ℕ) → padding k a < a
unfolding padding
padding_below al k = by_alignment (λ a. padding k a < a) (omega arith) (omega arith) (omega arith) (omega arith) al

pub padding_small : {a : ℕ} → Aligns a → (k : ℕ) → padding k a < 8
unfolding padding
padding_small al k = by_alignment (λ a. padding k a < 8) (omega arith) (omega arith) (omega arith) (omega arith) al

-- the last alignment is 8
pub eight_left : {w : ℕ} → Aligns w → (w ≡ 1 → ⊥) → (w ≡ 2 → ⊥) → (w ≡ 4 → ⊥) → w ≡ 8
eight_left al =
    by_alignment (λ w. (w ≡ 1 → ⊥) → (w ≡ 2 → ⊥) → (w ≡ 4 → ⊥) → w ≡ 8)
    (λ a b c. absurd (a refl)) (λ a b c. absurd (b refl)) (λ a b c. absurd (c refl)) (λ a b c. refl) al

-- what stands at a multiple of b stands at a multiple of a
abbrev pub Divides : ℕ → ℕ → Type 0
Divides a b = (k : ℕ) → k % b ≡ 0 → k % a ≡ 0

pub divides_eight : {a : ℕ} → Aligns a → Divides a 8
divides_eight al = by_alignment (λ a. Divides a 8) (λ k h. omega arith) (λ k h. omega arith) (λ k h. omega arith) (λ k h. h) al

pub divides_left : {a b : ℕ} → Aligns a → Aligns b → Divides a (max a b)
divides_left {a} {b} x y =
    by_alignment (λ a. Divides a (max a b))
    (λ k h. omega arith)
    (by_alignment (λ b. Divides 2 (max 2 b)) (λ k h. h) (λ k h. h) (λ k h. omega arith) (λ k h. omega arith) y)
    (by_alignment (λ b. Divides 4 (max 4 b)) (λ k h. h) (λ k h. h) (λ k h. h) (λ k h. omega arith) y)
    (by_alignment (λ b. Divides 8 (max 8 b)) (λ k h. h) (λ k h. h) (λ k h. h) (λ k h. h) y)
    x

pub divides_right : {a b : ℕ} → Aligns a → Aligns b → Divides b (max a b)
divides_right {a} {b} x y =
    by_alignment (λ b. Divides b (max a b))
    (λ k h. omega arith)
    (by_alignment (λ a. Divides 2 (max a 2)) (λ k h. h) (λ k h. h) (λ k h. omega arith) (λ k h. omega arith) x)
    (by_alignment (λ a. Divides 4 (max a 4)) (λ k h. h) (λ k h. h) (λ k h. h) (λ k h. omega arith) x)
    (by_alignment (λ a. Divides 8 (max a 8)) (λ k h. h) (λ k h. h) (λ k h. h) (λ k h. h) x)
    y

pub leading_zeros_zeros : (n : ℕ) (l : List ℕ) → n ≤ leading_zeros (zeros n ++ l)
unfolding leading_zeros
leading_zeros_zeros zero l = omega arith
leading_zeros_zeros (suc n) l = omega (arith, leading_zeros_zeros n l)
