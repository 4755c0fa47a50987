-- Laws of parts of lists. Assumes nothing.
use mathlib.Core.Path.{◌≡◌, refl}
use mathlib.Core.List.{List, [], ◌∷◌}
use Prim.Native.Nat.{ℕ, zero, suc, ◌-◌, ◌<◌}
use native.Mathlib.Omega.{arith}
use lib.ListN.{length, take, drop, get_or, length-drop}
use lib.Seq.{take_all}

-- a part that runs to the end
pub tail : (k : ℕ) (l : List ℕ) → take (length l - k) (drop k l) ≡ drop k l
tail k l = take_all (length l - k) (drop k l) (simp length-drop (omega arith))

-- what stands at a place does not depend on what would stand where there is none
pub within_default : (l : List ℕ) (i : ℕ) → i < length l → get_or l i 1 ≡ get_or l i 0
within_default [] i h = absurd (omega arith)
within_default (x ∷ l) zero h = refl
within_default (x ∷ l) (suc i) h = within_default l i (omega arith)
