-- Numbers read where they stand: one byte, and a number from its two halves, once over the width and the byte order. Assumes nothing.
use mathlib.Core.Path.{◌≡◌, sym, ◌∙◌}
use mathlib.Core.List.{List, [], ◌∷◌, ◌++◌, reverse, reverse-append}
use mathlib.Core.Bool.{Bool, true, false}
use Prim.Native.Nat.{ℕ, suc, ◌+◌, ◌-◌, ◌*◌, ◌^◌, ◌≤◌, ◌<◌}
use native.Mathlib.Nat.{pow-succ', mul_assoc}
use native.Mathlib.Omega.{arith}
use lib.ListN.{length, take, drop, get_or, length-reverse, length-take, length-drop}
use lib.Seq.{take-add, drop-drop, drop-cons}
use Rattle.meaning.specs.Choice.{pick}
use Rattle.meaning.specs.Numbers.{value, spelled, next_byte}

pub value_append : (x y : List ℕ) → value (x ++ y) ≡ value x + 256 ^ length x * value y
unfolding value
value_append [] y = omega arith
value_append (b ∷ x) y =
    let e : 256 ^ suc (length x) * value y ≡ 256 * (256 ^ length x * value y) = rw (pow-succ', mul_assoc) in
    omega (arith, value_append x y, e)

length_part : (w place : ℕ) (l : List ℕ) → place + w ≤ length l → length (take w (drop place l)) ≡ w
length_part w place l h = simp (length-take, length-drop) (omega arith)

-- a number from its halves
abbrev pub joined : Bool → ℕ → ℕ → ℕ → ℕ
joined true scale first second = second + scale * first
joined false scale first second = first + scale * second

pub spelled_halves : (big : Bool) (w place : ℕ) (l : List ℕ) → place + w + w ≤ length l
    → spelled big (w + w) place l ≡ joined big (256 ^ w) (spelled big w place l) (spelled big w (place + w) l)
spelled_halves true w place l h =
    rw (take-add w w (drop place l), drop-drop w place l, reverse-append (take w (drop place l)) (take w (drop (place + w) l)))
    (value_append (reverse (take w (drop (place + w) l))) (reverse (take w (drop place l)))
    ∙ rw (length-reverse (take w (drop (place + w) l)), length_part w (place + w) l (omega arith)))
spelled_halves false w place l h =
    rw (take-add w w (drop place l), drop-drop w place l)
    (value_append (take w (drop place l)) (take w (drop (place + w) l))
    ∙ rw (length_part w place l (omega arith)))

pub spelled_byte : (big : Bool) (place : ℕ) (l : List ℕ) → place < length l → spelled big 1 place l ≡ get_or l place 0
unfolding value
spelled_byte true place l h = rw (drop-cons l place 0 h) (omega arith)
spelled_byte false place l h = rw (drop-cons l place 0 h) (omega arith)

-- a number from its first bytes and the others
pub spelled_parts : (big : Bool) (v w place : ℕ) (l : List ℕ) → place + v + w ≤ length l
    → spelled big (v + w) place l ≡ joined big (pick big (256 ^ w) (256 ^ v)) (spelled big v place l) (spelled big w (place + v) l)
spelled_parts true v w place l h =
    rw (take-add v w (drop place l), drop-drop v place l, reverse-append (take v (drop place l)) (take w (drop (place + v) l)))
    (value_append (reverse (take w (drop (place + v) l))) (reverse (take v (drop place l)))
    ∙ rw (length-reverse (take w (drop (place + v) l)), length_part w (place + v) l (omega arith)))
spelled_parts false v w place l h =
    rw (take-add v w (drop place l), drop-drop v place l)
    (value_append (take v (drop place l)) (take w (drop (place + v) l))
    ∙ rw (length_part v place l (omega arith)))

-- where the highest so many bytes of a number begin
abbrev pub highest_from : Bool → ℕ → ℕ → ℕ → ℕ
highest_from true w i place = place
highest_from false w i place = place + (w - i)

-- one more byte of a number, from the highest down
pub spelled_next : (big : Bool) (w i place : ℕ) (l : List ℕ) → i < w → place + w ≤ length l
    → 256 * spelled big i (highest_from big w i place) l + get_or l (place + next_byte big w i) 0 ≡ spelled big (i + 1) (highest_from big w (i + 1) place) l
spelled_next true w i place l h k =
    sym (spelled_parts true i 1 place l (omega arith) ∙ rw (spelled_byte true (place + i) l (omega arith)) (omega arith))
spelled_next false w i place l h k =
    let e : 1 + i ≡ i + 1 = omega arith in
    let f : place + (w - (i + 1)) + 1 ≡ place + (w - i) = omega arith in
    let g : place + (w - 1 - i) ≡ place + (w - (i + 1)) = omega arith in
    let parts = spelled_parts false 1 i (place + (w - (i + 1))) l (omega arith) in
    rw g (sym (rw e at parts ∙ rw (f, spelled_byte false (place + (w - (i + 1))) l (omega arith)) (omega arith)))

-- the two halves, each read already
module _ (w place : ℕ) (l : List ℕ) {big : Bool} {first second : ℕ} (h : place + w + w ≤ length l) where
  pub first_high : big ≡ true → first ≡ spelled big w place l → second ≡ spelled big w (place + w) l
      → second + 256 ^ w * first ≡ spelled big (w + w) place l
  first_high b p q = rw (p, q, b) (sym (spelled_halves true w place l h))

  pub first_low : big ≡ false → first ≡ spelled big w place l → second ≡ spelled big w (place + w) l
      → first + 256 ^ w * second ≡ spelled big (w + w) place l
  first_low b p q = rw (p, q, b) (sym (spelled_halves false w place l h))
