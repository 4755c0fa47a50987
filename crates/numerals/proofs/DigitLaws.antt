-- The value of a hexadecimal digit, by where the byte lies. Assumes nothing.
use mathlib.Core.Path.{◌≡◌, refl, sym, ap, ◌∙◌}
use mathlib.Core.Bool.{Bool, true, false, ◌&&◌}
use Prim.Native.Nat.{ℕ, ◌-◌, ◌%◌, ◌≤◌, ◌<◌}
use native.Mathlib.Omega.{arith}
use lib.Dec.{ltb, leb}
use borrow.Author.Tests.{le-leb, lt-leb, lt-ltb}
use Rattle.std.specs.Prelude.{Some, None, IfSome, Option as Answer}
use Rattle.std.specs.Option.{is_some}
use Rattle.std.proofs.lemmas.Bool.{false≢true}
use Rattle.meaning.specs.Choice.{pick}
use Rattle.numerals.specs.Hexadecimal.{among, digit, digit_in, has_byte}

within : (low high b : ℕ) → low ≤ b → b ≤ high → among low high b ≡ true
within low high b h k = rw (le-leb low b h, le-leb b high k)

under : (low high b : ℕ) → b < low → among low high b ≡ false
under low high b h = rw (lt-leb low b h)

above : (low high b : ℕ) → high < b → among low high b ≡ false
above low high b h = go (leb low b)
  where
    go : (x : Bool) → (x && leb b high) ≡ false
    go true = lt-leb b high h
    go false = refl

-- which value the three tests give
digit_by : (b : ℕ) (x y z : Bool) → among 48 57 b ≡ x → among 65 70 b ≡ y → among 97 102 b ≡ z → pick x (b - 48) (pick y (b - 55) (pick z (b - 87) 16)) ≡ digit b
unfolding digit
digit_by b x y z h k l = rw (← h, ← k, ← l)

module _ (b : ℕ) where
  pub digit_below : b < 48 → 16 ≡ digit b
  digit_below h =
      digit_by b false false false (under 48 57 b h) (under 65 70 b (omega arith)) (under 97 102 b (omega arith))

  pub digit_decimal : 48 ≤ b → b ≤ 57 → b - 48 ≡ digit b
  digit_decimal h k =
      digit_by b true false false (within 48 57 b h k) (under 65 70 b (omega arith)) (under 97 102 b (omega arith))

  pub digit_between : 57 < b → b < 65 → 16 ≡ digit b
  digit_between h k =
      digit_by b false false false (above 48 57 b h) (under 65 70 b k) (under 97 102 b (omega arith))

  pub digit_upper : 65 ≤ b → b ≤ 70 → b - 55 ≡ digit b
  digit_upper h k =
      digit_by b false true false (above 48 57 b (omega arith)) (within 65 70 b h k) (under 97 102 b (omega arith))

  pub digit_behind : 70 < b → b < 97 → 16 ≡ digit b
  digit_behind h k =
      digit_by b false false false (above 48 57 b (omega arith)) (above 65 70 b h) (under 97 102 b k)

  pub digit_lower : 97 ≤ b → b ≤ 102 → b - 87 ≡ digit b
  digit_lower h k =
      digit_by b false false true (above 48 57 b (omega arith)) (above 65 70 b (omega arith)) (within 97 102 b h k)

  pub digit_above : 102 < b → 16 ≡ digit b
  digit_above h =
      digit_by b false false false (above 48 57 b (omega arith)) (above 65 70 b (omega arith)) (above 97 102 b h)

none_there : (r : Answer ℕ) → is_some r ≡ false → r ≡ None
none_there None h = refl
none_there (Some d) h = absurd (false≢true (sym h))

-- whether a digit is there
pub waits : (r : Answer ℕ) → ltb (digit_in r) 16 ≡ is_some r
waits None = refl
waits (Some d) = let h : d % 16 < 16 = omega arith in lt-ltb (d % 16) 16 h

pub digit_is : (r : Answer ℕ) (b : ℕ) → digit_in r ≡ digit b → is_some r ≡ ltb (digit b) 16
digit_is r b e = sym (waits r) ∙ ap (λ (d : ℕ). ltb d 16) e

-- a line has a byte where it is spoilt, a digit waits or a pair is kept
module _ (spoilt : Bool) (half : Answer ℕ) (kept : ℕ) where
  pub has_spoilt : spoilt ≡ true → true ≡ has_byte spoilt (digit_in half) kept
  unfolding has_byte
  has_spoilt h = rw h refl

  pub has_pair : spoilt ≡ false → is_some half ≡ false → ltb 0 kept ≡ has_byte spoilt (digit_in half) kept
  unfolding has_byte
  has_pair h k = rw (h, none_there half k) refl

pub has_half : (spoilt : Bool) (half : Answer ℕ) (kept : ℕ) → is_some half ≡ true → true ≡ has_byte spoilt (digit_in half) kept
unfolding has_byte
has_half true half kept h = refl
has_half false None kept h = absurd (false≢true h)
has_half false (Some d) kept h = let k : d % 16 < 16 = omega arith in rw (lt-ltb (d % 16) 16 k) refl

-- one answer has a value
pub digit_one : (r s : Answer ℕ) → digit_in r ≡ digit_in s → IfSome r (λ d. d < 16) → IfSome s (λ d. d < 16) → r ≡ s
digit_one None None e h k = refl
digit_one None (Some d) e h k = (let never : ⊥ = omega arith in absurd never)
digit_one (Some d) None e h k = (let never : ⊥ = omega arith in absurd never)
digit_one (Some d) (Some f) e h k = ap (λ (n : ℕ). Some n) (omega arith)
