-- The numbers that `is_written` answers, for all arguments. Assumes nothing.
use mathlib.Core.Path.{◌≡◌, refl}
use mathlib.Core.Logic.{◌⊎◌, inl, inr}
use mathlib.Core.List.{List}
use mathlib.Core.Option.{Option, none, some}
use mathlib.Core.Bool.{Bool, true, false}
use Prim.Native.Nat.{ℕ, ◌≤◌}
use native.Mathlib.Omega.{arith}
use lib.Dec.{leb, eqb}
use lib.ListN.{length}
use Rattle.meaning.specs.Choice.{pick}
use Rattle.meaning.specs.Limits.{largest_frame, most_variants}
use Rattle.meaning.specs.Refusals.{over_limit, containers_too_deep, not_written}
use Rattle.meaning.specs.Depths.{none_open}
use Rattle.meaning.specs.Types.{Tree}
use Rattle.meaning.specs.TypeText.{type_of}
use Rattle.meaning.specs.Calls.{frame_reading, size}
use Rattle.meaning.proofs.Faithful.{size_numbers}
use Rattle.meaning_writing.specs.Strict.{is_written}
use Rattle.meaning_writing.proofs.EditRefusals.{sized_refusal}
use Rattle.meaning_writing.specs.IsWritten.{written_as, unwritten, written_refusal}

-- 0 to 12, and 15
abbrev pub WrittenNumber : ℕ → Type 0
WrittenNumber r = (r ≤ containers_too_deep) ⊎ (r ≡ not_written)

pub written_numbers : (type : List ℕ) (big : Bool) (frame : List ℕ) → WrittenNumber (written_refusal type big frame)
unfolding written_refusal written_as unwritten
written_numbers type big frame = go (type_of type)
  where
    r : ℕ
    r = (frame_reading type big 0 frame).refusal

    met : r ≤ containers_too_deep
    met = unfold size in omega (arith, size_numbers type big 0 frame, sized_refusal (frame_reading type big 0 frame))

    other : (b : Bool) → WrittenNumber (pick b not_written r)
    other true = inr refl
    other false = inl met

    judged : (a b : Bool) → WrittenNumber (pick a (pick b 0 (pick (eqb r 0) not_written r)) over_limit)
    judged true true = inl (omega arith)
    judged true false = other (eqb r 0)
    judged false b = inl (omega arith)

    go : (o : Option Tree) → WrittenNumber (written_as frame (unwritten r) o)
    go none = inl (omega arith)
    go (some t) = judged (leb (length frame) largest_frame) (is_written most_variants t none_open frame)
