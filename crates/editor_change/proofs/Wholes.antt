-- The walk over a whole frame, where nothing is open: what it is asked, and what it answers. Assumes nothing.
use mathlib.Core.Path.{◌≡◌, refl, sym, ap, subst}
use mathlib.Core.List.{List}
use mathlib.Core.Bool.{Bool}
use Prim.Native.Nat.{ℕ}
use native.Mathlib.Omega.{arith}
use Rattle.meaning.specs.Depths.{Depths, none_open, depth_refusal}
use Rattle.meaning_writing.specs.Strict.{is_written}
use Rattle.meaning_writing.specs.Readings.{MaybeNumber}
use Rattle.container_depths.specs.Opening.{depths_of}
use Rattle.container_depths.specs.declared.ContainerDepths.{ContainerDepths}
use Rattle.strict_sizes.specs.Items.{tree_test}
use Rattle.editor_steps.specs.Walks.{tree_editor, Walks, most, Ready}
use Rattle.editor_steps.specs.Walked.{Walked}
use Rattle.editor_change.specs.Answers.{WrittenFrame, fresh, WalksFrame}

module _ (d : ContainerDepths) (e : depths_of d ≡ none_open) (type : List ℕ) (at : ℕ) (z : at ≡ 0) (frame : List ℕ) where
  fresh_is : d ≡ fresh
  fresh_is = ap (λ (x : Depths). let y : ContainerDepths = record { structure = x.structure; array = x.array; variant = x.variant; maybe = x.maybe } in y) e

  pub whole_ready : (tables : List ℕ) → WrittenFrame type tables frame → Ready (tree_test d.variant type at) d 0 frame
  unfolding is_written
  whole_ready tables w =
      let is : Ready (tree_test 0 type 0) fresh 0 frame = record { shallow = unfold depth_refusal in refl; near = omega (arith, w.short); written = w.written } in
      subst (λ (y : ContainerDepths). Ready (tree_test y.variant type at) y 0 frame) (sym fresh_is) (subst (λ (k : ℕ). Ready (tree_test 0 type k) fresh 0 frame) (sym z) is)

  pub whole_walks : (big : Bool) (i : ℕ) (x : MaybeNumber) (out out' : List ℕ) (r : Walked)
      → Walks (tree_editor big d.variant type at) (depths_of d) 0 frame i x (most d) out out' r → WalksFrame type big frame i x out out' r
  whole_walks big i x out out' r k =
      subst (λ (k : ℕ). Walks (tree_editor big 0 type k) none_open 0 frame i x (most fresh) out out' r) z
      (subst (λ (y : ContainerDepths). Walks (tree_editor big y.variant type at) (depths_of y) 0 frame i x (most y) out out' r) fresh_is k)
