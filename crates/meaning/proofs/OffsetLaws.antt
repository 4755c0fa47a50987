-- Laws of offset widths. Assumes nothing.
use mathlib.Core.Path.{◌≡◌, refl}
use mathlib.Core.Bool.{Bool, true, false}
use Prim.Native.Nat.{ℕ, ◌+◌, ◌*◌, ◌^◌, ◌≤◌, ◌<◌}
use native.Mathlib.Omega.{arith}
use lib.Dec.{leb}
use borrow.Author.Tests.{le-leb, lt-leb, leb-true, leb-false}
use Rattle.meaning.specs.Choice.{pick}
use Rattle.meaning.specs.Offsets.{first_width, encoded_width, written_width, bare_width}

-- how a width was chosen for a body and its offsets
pub data Fits (body count : ℕ) : ℕ → Type 0 where
  fits1 : body + count * 1 ≤ 255 → Fits body count 1
  fits2 : 255 < body + count * 1 → body + count * 2 ≤ 65535 → Fits body count 2
  fits4 : 65535 < body + count * 2 → body + count * 4 ≤ 4294967295 → Fits body count 4
  fits8 : 4294967295 < body + count * 4 → body + count * 8 ≤ 18446744073709551615 → Fits body count 8
  fits_none : 18446744073709551615 < body + count * 8 → Fits body count 0

pub bare_width_fits : (body count : ℕ) → Fits body count (bare_width body count)
unfolding bare_width first_width
bare_width_fits body count =
    go (leb (body + count * 1) 255) (leb (body + count * 2) 65535) (leb (body + count * 4) 4294967295) (leb (body + count * 8) 18446744073709551615) refl refl refl refl
  where
    go : (a b c d : Bool) → leb (body + count * 1) 255 ≡ a → leb (body + count * 2) 65535 ≡ b → leb (body + count * 4) 4294967295 ≡ c → leb (body + count * 8) 18446744073709551615 ≡ d
        → Fits body count (pick a 1 (pick b 2 (pick c 4 (pick d 8 0))))
    go true b c d p q r s = fits1 (leb-true (body + count * 1) 255 p)
    go false true c d p q r s = fits2 (leb-false (body + count * 1) 255 p) (leb-true (body + count * 2) 65535 q)
    go false false true d p q r s = fits4 (leb-false (body + count * 2) 65535 q) (leb-true (body + count * 4) 4294967295 r)
    go false false false true p q r s = fits8 (leb-false (body + count * 4) 4294967295 r) (leb-true (body + count * 8) 18446744073709551615 s)
    go false false false false p q r s = fits_none (leb-false (body + count * 8) 18446744073709551615 s)

-- the width by the length
pub encoded_width_1 : (n : ℕ) → n ≤ 255 → encoded_width n ≡ 1
unfolding encoded_width first_width
encoded_width_1 n h = rw (le-leb (n + 0 * 1) 255 (omega arith))

pub encoded_width_2 : (n : ℕ) → 255 < n → n ≤ 65535 → encoded_width n ≡ 2
unfolding encoded_width first_width
encoded_width_2 n g h = rw (lt-leb (n + 0 * 1) 255 (omega arith), le-leb (n + 0 * 2) 65535 (omega arith))

pub encoded_width_4 : (n : ℕ) → 65535 < n → n ≤ 4294967295 → encoded_width n ≡ 4
unfolding encoded_width first_width
encoded_width_4 n g h = rw (lt-leb (n + 0 * 1) 255 (omega arith), lt-leb (n + 0 * 2) 65535 (omega arith), le-leb (n + 0 * 4) 4294967295 (omega arith))

pub encoded_width_8 : (n : ℕ) → 4294967295 < n → encoded_width n ≡ 8
unfolding encoded_width first_width
encoded_width_8 n g = rw (lt-leb (n + 0 * 1) 255 (omega arith), lt-leb (n + 0 * 2) 65535 (omega arith), lt-leb (n + 0 * 4) 4294967295 (omega arith))

-- the width found from the whole length is the width that was chosen
pub encoded_width_fits : {body count w : ℕ} → Fits body count w → 0 < w → encoded_width (body + count * w) ≡ w
encoded_width_fits {body} {count} (fits1 h) p = encoded_width_1 (body + count * 1) h
encoded_width_fits {body} {count} (fits2 g h) p = encoded_width_2 (body + count * 2) (omega arith) h
encoded_width_fits {body} {count} (fits4 g h) p = encoded_width_4 (body + count * 4) (omega arith) h
encoded_width_fits {body} {count} (fits8 g h) p = encoded_width_8 (body + count * 8) (omega arith)
encoded_width_fits {body} {count} (fits_none g) p = absurd (omega arith)

-- an end inside the body fits the width
pub fits_below : {body count w : ℕ} → Fits body count w → 0 < w → body < 256 ^ w
fits_below (fits1 h) p = omega arith
fits_below (fits2 g h) p = omega arith
fits_below (fits4 g h) p = omega arith
fits_below (fits8 g h) p = omega arith
fits_below (fits_none g) p = absurd (omega arith)

-- the width of a written table that stands in a frame was chosen so
pub record Chosen (body count w : ℕ) : Type 0 where
  pub fits : Fits body count w
  pub positive : 0 < w

pub written_width_chosen : (body count : ℕ) → body + count * written_width body count ≤ 65536 → Chosen body count (written_width body count)
unfolding written_width first_width
written_width_chosen body count h = go (leb (body + count * 1) 255) (leb (body + count * 2) 65535) (leb (body + count * 4) 4294967295) refl refl refl h
  where
    go : (a b c : Bool) → leb (body + count * 1) 255 ≡ a → leb (body + count * 2) 65535 ≡ b → leb (body + count * 4) 4294967295 ≡ c
        → body + count * pick a 1 (pick b 2 (pick c 4 8)) ≤ 65536 → Chosen body count (pick a 1 (pick b 2 (pick c 4 8)))
    go true b c p q r h = record { fits = fits1 (leb-true (body + count * 1) 255 p); positive = omega arith }
    go false true c p q r h = record { fits = fits2 (leb-false (body + count * 1) 255 p) (leb-true (body + count * 2) 65535 q); positive = omega arith }
    go false false true p q r h = record { fits = fits4 (leb-false (body + count * 2) 65535 q) (leb-true (body + count * 4) 4294967295 r); positive = omega arith }
    go false false false p q r h = absurd (omega (arith, leb-false (body + count * 4) 4294967295 r))

pub encoded_width_positive : (n : ℕ) → 0 < encoded_width n
unfolding encoded_width first_width
encoded_width_positive n = go (leb (n + 0 * 1) 255) (leb (n + 0 * 2) 65535) (leb (n + 0 * 4) 4294967295)
  where
    go : (a b c : Bool) → 0 < pick a 1 (pick b 2 (pick c 4 8))
    go true b c = omega arith
    go false true c = omega arith
    go false false true = omega arith
    go false false false = omega arith
