-- What shapes say of what is written: of a piece its alignment and size, of fields how many offsets they have and where they end.
-- Assumes nothing.
use mathlib.Core.Path.{◌≡◌, refl, ap, ◌∙◌}
use mathlib.Core.List.{List, [], ◌∷◌}
use mathlib.Core.Bool.{Bool, true, false, ◌&&◌}
use Prim.Native.Nat.{ℕ, suc, ◌+◌, ◌<◌}
use native.Mathlib.Omega.{arith}
use lib.ListN.{length, length-append, length-replicate}
use Rattle.meaning.specs.Padding.{padding, zeros}
use Rattle.meaning.specs.Types.{Basic}
use Rattle.meaning.specs.Written.{Piece, stop, layout, field_ends, unless, basic_piece, structure_bytes}
use Rattle.meaning_writing.specs.Shapes.{Shape, shape_of, basic_shape, all_shapes_fixed, one_more, offset_count, sizes_from}
use Rattle.meaning.proofs.Tests.{impossible, both_true}
use Rattle.meaning.proofs.LayoutLaws.{length_layout, field_ends_one, layout_none}
use Rattle.meaning_writing.proofs.PieceLaws.{basic_alignment_lem, basic_fixed_lem, basic_size_lem, stop_is, field_ends_more}

-- what is written as p says has this shape
pub record Shaped {A : Type 0} (s : Shape) (p : A → Piece) : Type 0 where
  pub alignment_is : (v : A) → (p v).alignment ≡ s.alignment
  pub fixed_is : (v : A) → (p v).fixed ≡ s.fixed
  pub size_is : s.fixed ≡ true → (v : A) → length (p v).bytes ≡ s.size

pub basic_shaped : (big : Bool) (b : Basic) → Shaped (basic_shape b) (basic_piece big b)
basic_shaped big b = record { alignment_is = basic_alignment_lem big b; fixed_is = basic_fixed_lem big b; size_is = λ h v. basic_size_lem big b h v }

-- of what is not fixed the size is 0
pub loose_shaped : {A : Type 0} (a : ℕ) (p : A → Piece) → ((v : A) → (p v).alignment ≡ a) → ((v : A) → (p v).fixed ≡ false) → Shaped (shape_of a false 0) p
loose_shaped a p h g = record { alignment_is = h; fixed_is = g; size_is = λ e v. impossible e }

-- and fields have these
pub record ShapedRow {A : Type 0} (ss : List Shape) (p : A → List Piece) : Type 0 where
  pub some_field : (v : A) → 0 < length (p v)
  pub offsets_are : (v : A) (k : ℕ) → length (field_ends k (p v)) ≡ offset_count ss
  pub no_offsets : all_shapes_fixed ss ≡ true → offset_count ss ≡ 0
  pub sizes_are : all_shapes_fixed ss ≡ true → (v : A) (k : ℕ) → k + length (layout k (p v)) ≡ sizes_from k ss

pub and_one : (b : Bool) → (b && true) ≡ true → b ≡ true
and_one true h = refl
and_one false h = h

-- where a piece of a fixed shape stops
stop_shaped : {A : Type 0} (s : Shape) (p : A → Piece) → Shaped s p → s.fixed ≡ true → (v : A) (k : ℕ) → stop k (p v) ≡ k + padding k s.alignment + s.size
stop_shaped s p g h v k =
    let z : padding k (p v).alignment ≡ padding k s.alignment = ap (λ (z : ℕ). padding k z) (g.alignment_is v) in
    omega (arith, stop_is k (p v), g.size_is h v)

pub last_shaped : {A : Type 0} (s : Shape) (p : A → Piece) → Shaped s p → ShapedRow (s ∷ []) (λ v. p v ∷ [])
unfolding offset_count sizes_from
last_shaped s p g = record {
  some_field = λ v. omega arith;
  offsets_are = λ v k. ap length (field_ends_one k (p v));
  no_offsets = λ h. refl;
  sizes_are = λ h v k.
      let m : length (layout (stop k (p v)) []) ≡ 0 = ap length (layout_none (stop k (p v))) in
      omega (arith, length_layout k (p v) [], stop_shaped s p g (and_one s.fixed h) v k);
}

more_free : (fx : Bool) (n : ℕ) → fx ≡ true → n ≡ 0 → one_more fx n ≡ 0
more_free true n h g = g
more_free false n h g = impossible h

more_count : (fx : Bool) (o n : ℕ) (es : List ℕ) → length es ≡ n → length (unless fx o es) ≡ one_more fx n
more_count true o n es h = h
more_count false o n es h = ap suc h

module _ {A B : Type 0} (s : Shape) (p : A → Piece) (g : Shaped s p) (u : Shape) (ss : List Shape) (q : B → List Piece) (r : ShapedRow (u ∷ ss) q) where
  pub ends_two : (v : A × B) (k : ℕ) → field_ends k (p v.0 ∷ q v.1) ≡ unless s.fixed (stop k (p v.0)) (field_ends (stop k (p v.0)) (q v.1))
  ends_two v k =
      field_ends_more k (p v.0) (q v.1) (r.some_field v.1)
      ∙ ap (λ (z : Bool). unless z (stop k (p v.0)) (field_ends (stop k (p v.0)) (q v.1))) (g.fixed_is v.0)

  pub next_shaped : ShapedRow (s ∷ u ∷ ss) (λ (v : A × B). p v.0 ∷ q v.1)
  unfolding offset_count sizes_from
  next_shaped = record {
    some_field = λ v. omega arith;
    offsets_are = λ v k. ap length (ends_two v k) ∙ more_count s.fixed (stop k (p v.0)) (offset_count (u ∷ ss)) (field_ends (stop k (p v.0)) (q v.1)) (r.offsets_are v.1 (stop k (p v.0)));
    no_offsets = λ h. let b = both_true s.fixed (all_shapes_fixed (u ∷ ss)) h in more_free s.fixed (offset_count (u ∷ ss)) b.0 (r.no_offsets b.1);
    sizes_are = λ h v k.
        let b = both_true s.fixed (all_shapes_fixed (u ∷ ss)) h in
        length_layout k (p v.0) (q v.1) ∙ r.sizes_are b.1 v.1 (stop k (p v.0)) ∙ ap (λ (z : ℕ). sizes_from z (u ∷ ss)) (stop_shaped s p g b.0 v.0 k);
  }

-- a structure of fixed fields, with the padding at its end
pub structure_shaped : {A : Type 0} (a : ℕ) (ss : List Shape) (p : A → List Piece) → ShapedRow ss p → all_shapes_fixed ss ≡ true → (v : A) → length (structure_bytes a true (p v)) ≡ sizes_from 0 ss + padding (sizes_from 0 ss) a
unfolding structure_bytes
structure_shaped a ss p r h v =
    let n : length (layout 0 (p v)) ≡ sizes_from 0 ss = omega (arith, r.sizes_are h v 0) in
    rw n (length-append (layout 0 (p v)) (zeros (padding (sizes_from 0 ss) a)) ∙ (let q = length-replicate {A = ℕ} (padding (sizes_from 0 ss) a) 0 in omega arith))
