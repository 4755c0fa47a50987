-- NO CALL ANSWERS 14, whatever the type, the frame and all else that it is given: the number is not used. Assumes nothing.
use mathlib.Core.Path.{◌≡◌}
use mathlib.Core.Logic.{inl, inr}
use mathlib.Core.List.{List}
use mathlib.Core.Bool.{Bool}
use Prim.Native.Nat.{ℕ}
use native.Mathlib.Omega.{arith}
use Rattle.meaning.specs.Calls as reading
use Rattle.meaning.proofs.Faithful.{size_numbers, read_numbers}
use Rattle.meaning_writing.specs.Writing as writing
use Rattle.meaning_writing.specs.Editing as editing
use Rattle.meaning_writing.specs.Readings.{MaybeNumber}
use Rattle.meaning_writing.proofs.WriteLaws.{write_numbers}
use Rattle.meaning_writing.proofs.EditRefusals.{EditNumber, edit_numbers}
use Rattle.meaning_writing.specs.IsWritten.{written_refusal}
use Rattle.strict.proofs.Numbers.{WrittenNumber, written_numbers}

edit_other : (r : ℕ) → EditNumber r → r ≡ 14 → ⊥
edit_other r (inl h) e = omega arith
edit_other r (inr h) e = let l = h.0 in omega arith

written_other : (r : ℕ) → WrittenNumber r → r ≡ 14 → ⊥
written_other r (inl h) e = omega arith
written_other r (inr h) e = omega arith

-- size, read, write, is_written and edit, as their contracts name them
pub record NeverFourteen : Type 0 where
  pub size : (type : List ℕ) (big : Bool) (position : ℕ) (frame : List ℕ) → (reading.size type big position frame).refusal ≡ 14 → ⊥
  pub read : (type : List ℕ) (big : Bool) (position : ℕ) (frame out : List ℕ) → (reading.read type big position frame out).refusal ≡ 14 → ⊥
  pub write : (type : List ℕ) (big : Bool) (numbers texts out : List ℕ) → (writing.write type big numbers texts out).refusal ≡ 14 → ⊥
  pub is_written : (type : List ℕ) (big : Bool) (frame : List ℕ) → written_refusal type big frame ≡ 14 → ⊥
  pub edit : (type : List ℕ) (big : Bool) (buffer : List ℕ) (used i : ℕ) (x : MaybeNumber) → (editing.edit type big buffer used i x).refusal ≡ 14 → ⊥

pub never_fourteen : NeverFourteen
never_fourteen = record {
  size = λ type big position frame e. omega (arith, size_numbers type big position frame);
  read = λ type big position frame out e. omega (arith, read_numbers type big position frame out);
  write = λ type big numbers texts out e. rw e at (write_numbers type big numbers texts out);
  is_written = λ type big frame e. written_other (written_refusal type big frame) (written_numbers type big frame) e;
  edit = λ type big buffer used i x e. edit_other (editing.edit type big buffer used i x).refusal (edit_numbers type big buffer used i x) e;
}
