-- Laws of the depth limits. Assumes nothing.
use mathlib.Core.Path.{◌≡◌, refl}
use mathlib.Core.Bool.{Bool, true, false}
use Prim.Native.Nat.{ℕ, ◌+◌, ◌≤◌, ◌<◌}
use native.Mathlib.Omega.{arith}
use lib.Dec.{ltb}
use borrow.Author.Tests.{lt-ltb, le-ltb, ltb-false}
use Rattle.meaning.specs.Choice.{pick}
use Rattle.meaning.specs.Depths.{depths, depth_refusal}

-- counts that no limit refuses
pub record Within (s a v m : ℕ) : Type 0 where
  pub structure : s ≤ 32
  pub array : a ≤ 32
  pub total : s + a + v + m ≤ 64

module _ (s a v m : ℕ) where
  pub over_structure : 32 < s → depth_refusal (depths s a v m) ≡ 10
  unfolding depth_refusal
  over_structure h = rw (lt-ltb 32 s h)

  pub over_array : s ≤ 32 → 32 < a → depth_refusal (depths s a v m) ≡ 11
  unfolding depth_refusal
  over_array g h = rw (le-ltb 32 s g, lt-ltb 32 a h)

  pub over_total : s ≤ 32 → a ≤ 32 → 64 < s + a + v + m → depth_refusal (depths s a v m) ≡ 12
  unfolding depth_refusal
  over_total f g h = rw (le-ltb 32 s f, le-ltb 32 a g, lt-ltb 64 (s + a + v + m) h)

  pub within_limits : s ≤ 32 → a ≤ 32 → s + a + v + m ≤ 64 → depth_refusal (depths s a v m) ≡ 0
  unfolding depth_refusal
  within_limits f g h = rw (le-ltb 32 s f, le-ltb 32 a g, le-ltb 64 (s + a + v + m) h)

  pub limits : depth_refusal (depths s a v m) ≡ 0 → Within s a v m
  unfolding depth_refusal
  limits h = go (ltb 32 s) (ltb 32 a) (ltb 64 (s + a + v + m)) refl refl refl h
    where
      go : (x y z : Bool) → ltb 32 s ≡ x → ltb 32 a ≡ y → ltb 64 (s + a + v + m) ≡ z → ◌≡◌ {A = ℕ} (pick x 10 (pick y 11 (pick z 12 0))) 0 → Within s a v m
      go true y z p q r h = absurd (omega arith)
      go false true z p q r h = absurd (omega arith)
      go false false true p q r h = absurd (omega arith)
      go false false false p q r h =
          record { structure = ltb-false 32 s p; array = ltb-false 32 a q; total = ltb-false 64 (s + a + v + m) r }
