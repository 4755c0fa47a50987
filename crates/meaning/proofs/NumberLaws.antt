-- Laws of numbers as bytes, once over the width and the byte order. Assumes nothing.
use mathlib.Core.Path.{◌≡◌, refl, sym, ap}
use mathlib.Core.List.{List, [], ◌∷◌, reverse-reverse}
use mathlib.Core.Bool.{Bool, true, false}
use Prim.Native.Nat.{ℕ, zero, suc, ◌+◌, ◌*◌, ◌/◌, ◌%◌, ◌^◌, ◌<◌}
use native.Mathlib.Omega.{arith}
use lib.Dec.{ltb}
use lib.ListN.{length, length-reverse}
use borrow.Author.Tests.{lt-ltb}
use Rattle.meaning.specs.Numbers.{bytes, value, ordered}

pub length_bytes : (w n : ℕ) → length (bytes w n) ≡ w
unfolding bytes
length_bytes zero n = refl
length_bytes (suc w) n = ap suc (length_bytes w (n / 256))

-- a number that fits its width is read back
pub value_bytes : (w n : ℕ) → n < 256 ^ w → value (bytes w n) ≡ n
unfolding bytes value
value_bytes zero n h = omega arith
value_bytes (suc w) n h = omega (arith, value_bytes w (n / 256) (omega arith))

-- a list of bytes
pub data Bytes : List ℕ → Type 0 where
  none : Bytes []
  more : {b : ℕ} {l : List ℕ} → b < 256 → Bytes l → Bytes (b ∷ l)

-- every list of bytes is the written form of its value
pub bytes_value : {l : List ℕ} → Bytes l → bytes (length l) (value l) ≡ l
unfolding bytes value
bytes_value none = refl
bytes_value (more {b = b} {l = l} h r) =
    let q : (b + 256 * value l) / 256 ≡ value l = omega arith in
    let m : (b + 256 * value l) % 256 ≡ b = omega arith in
    rw (q, m) (ap (λ (x : List ℕ). b ∷ x) (bytes_value r))

pub value_below : {l : List ℕ} → Bytes l → (w : ℕ) → length l ≡ w → value l < 256 ^ w
unfolding value
value_below none zero h = omega arith
value_below none (suc w) h = absurd (omega arith)
value_below (more g r) zero h = absurd (omega arith)
value_below (more {b = b} {l = l} g r) (suc w) h = omega (arith, value_below r w (omega arith))

pub ordered_twice : (big : Bool) (l : List ℕ) → ordered big (ordered big l) ≡ l
ordered_twice true l = reverse-reverse l
ordered_twice false l = refl

pub length_ordered : (big : Bool) (l : List ℕ) → length (ordered big l) ≡ length l
length_ordered true l = length-reverse l
length_ordered false l = refl

pub eight_fits : (x w : ℕ) → w ≡ 8 → x < 18446744073709551616 → true ≡ ltb x (256 ^ w)
eight_fits x w e h = rw e (sym (lt-ltb x (256 ^ 8) h))
