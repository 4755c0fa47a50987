-- One child of a container laid out anew in front of the others, and the place that it reaches. Assumes nothing.
use mathlib.Core.Path.{◌≡◌, sym, ap, ◌∙◌}
use mathlib.Core.List.{List, ◌∷◌, ◌++◌, append_assoc}
use mathlib.Core.Bool.{Bool}
use Prim.Native.Nat.{ℕ, ◌+◌, ◌-◌, ◌≤◌}
use native.Mathlib.Omega.{arith}
use lib.ListN.{length, take, drop, length-append}
use Rattle.meaning.specs.Padding.{padding, zeros}
use Rattle.meaning.specs.Written.{Piece, stop, layout}
use Rattle.meaning.proofs.LayoutLaws.{layout_cons, placed, length_placed}
use Rattle.meaning_writing.specs.Shapes.{part}
use Rattle.meaning_writing.specs.Edited.{found_piece}
use Rattle.meaning_writing.proofs.Parts.{length_part}
use Rattle.editor_basic.specs.Puts.{over}
use Rattle.editor_basic.proofs.PutLaws.{over_append}

module _ (l : List ℕ) (a : ℕ) (fx : Bool) (start end : ℕ) (cs rest : List Piece) (q : cs ≡ found_piece a fx (part start end l) ∷ rest) (inside : end ≤ length l) (to : ℕ) where
  abbrev pub child : Piece
  child = found_piece a fx (part start end l)

  -- how far it reaches
  abbrev pub stride : ℕ
  stride = padding to a + (end - start)

  pub stop_stride : stop to child ≡ to + stride
  unfolding stop
  stop_stride = let n = length_part start end l inside in omega arith

  length_stride : length (placed to child) ≡ stride
  length_stride = length_placed to child ∙ ap (λ (n : ℕ). padding to a + n) (length_part start end l inside)

  pub layout_stride : layout to cs ≡ placed to child ++ layout (to + stride) rest
  layout_stride =
      ap (λ (z : List Piece). layout to z) q ∙ layout_cons to child rest
      ∙ sym (append_assoc (zeros (padding to a)) (part start end l) (layout (stop to child) rest))
      ∙ ap (λ (k : ℕ). placed to child ++ layout k rest) stop_stride

  -- what is left reaches as far as the whole
  pub total_next : to + stride + length (layout (to + stride) rest) ≡ to + length (layout to cs)
  total_next =
      let x = ap length layout_stride ∙ length-append (placed to child) (layout (to + stride) rest) in
      let y = length_stride in
      omega arith

  pub bytes_next : (out whole : List ℕ) (at next pad : ℕ) → over out at (layout to cs) ≡ whole → pad ≡ padding to a → next ≡ at + stride
      → over (over out at (zeros pad ++ take (end - start) (drop start l))) next (layout (to + stride) rest) ≡ whole
  unfolding part
  bytes_next out whole at next pad g p n =
      ap (λ (i : ℕ). over (over out at (zeros i ++ part start end l)) next (layout (to + stride) rest)) p
      ∙ over_append out at (placed to child) (layout (to + stride) rest) next (let x = length_stride in omega arith)
      ∙ ap (λ (z : List ℕ). over out at z) (sym layout_stride) ∙ g
