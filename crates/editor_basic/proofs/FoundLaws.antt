-- A container whose changed child was put into the slice, and then what stands behind it: that is the container, from the changed reading
-- on. Of what stands in front of the child only its length matters. Assumes nothing.
use mathlib.Core.Path.{◌≡◌, refl, sym, ap, ◌∙◌}
use mathlib.Core.List.{List, ◌∷◌, ◌++◌, append_assoc}
use mathlib.Core.Bool.{false}
use Prim.Native.Nat.{ℕ, suc, ◌+◌, ◌-◌, ◌≤◌}
use native.Mathlib.Omega.{arith}
use lib.ListN.{length, drop, length-append, length-drop}
use lib.Seq.{drop-append-le, drop-append-add}
use Rattle.meaning.specs.Padding.{padding}
use Rattle.meaning.specs.Written.{Piece, stop, array_bytes}
use Rattle.meaning_writing.proofs.EditedSteps.{end_of, up_to, up_to_end, array_rewritten, array_length}
use Rattle.editor_basic.specs.declared.elements.Elements.{Elements}
use Rattle.editor_basic.specs.Elements.{elements_in, count_now, rest_now, length_now}
use Rattle.editor_basic.specs.Puts.{over}
use Rattle.editor_basic.proofs.PutLaws.{over_append}
use Rattle.editor_basic.proofs.RewriteLaws.{elements_count}

-- the container begins at p, the child at `start` in it, the reading at `spot`
module _ (p start spot : ℕ) (front child rest : List ℕ) (from : length front ≡ start) (after : p + start ≤ spot) (within : spot ≤ p + start + length child) where
  abbrev inside : ℕ
  inside = spot - (p + start)

  from_spot : drop (spot - p) (front ++ (child ++ rest)) ≡ drop inside child ++ rest
  from_spot =
      let e : spot - p ≡ length front + inside = omega arith in
      ap (λ (i : ℕ). drop i (front ++ (child ++ rest))) e ∙ drop-append-add front (child ++ rest) inside ∙ drop-append-le inside child rest (omega arith)

  pub found_composed : (out out' out'' : List ℕ) (at : ℕ) → out' ≡ over out 0 (drop inside child) → out'' ≡ over out' at rest → at ≡ start + length child - (spot - p)
      → out'' ≡ over out 0 (drop (spot - p) ((front ++ child) ++ rest))
  found_composed out out' out'' at h g e =
      g ∙ ap (λ (z : List ℕ). over z at rest) h
      ∙ over_append out 0 (drop inside child) rest at (let n = length-drop inside child in omega arith)
      ∙ ap (λ (z : List ℕ). over out 0 z) (sym (ap (drop (spot - p)) (append_assoc front child rest) ∙ from_spot))

-- the same of children as pieces: xs in front, c the changed one, ys behind it
module _ (xs : List Piece) (c : Piece) (ys : List Piece) where
  abbrev pub start_at : ℕ
  start_at = end_of 0 xs + padding (end_of 0 xs) c.alignment

  pub up_to_end_lem : up_to_end xs c ys ≡ start_at + length c.bytes
  unfolding stop
  up_to_end_lem = refl

-- an array, from the definition to what its finish writes
pub array_now : (front rest : Elements) (l : List ℕ) (c : Piece)
    → (array_bytes false (elements_in front l ++ (c ∷ elements_in rest l)) ≡ up_to (elements_in front l) c (elements_in rest l) ++ rest_now front rest l (up_to_end (elements_in front l) c (elements_in rest l)))
    × (length (array_bytes false (elements_in front l ++ (c ∷ elements_in rest l))) ≡ length_now front rest l (up_to_end (elements_in front l) c (elements_in rest l)))
array_now front rest l c =
    let xs : List Piece = elements_in front l in
    let ys : List Piece = elements_in rest l in
    let n : length (xs ++ (c ∷ ys)) ≡ count_now front rest l (up_to_end xs c ys) =
    length-append xs (c ∷ ys) ∙ ap (λ (i : ℕ). i + suc (length ys)) (elements_count front l) ∙ ap (λ (i : ℕ). front.count + suc i) (elements_count rest l) ∙ omega arith in
    (array_rewritten xs c ys ∙ rw n, array_length xs c ys ∙ rw n)
