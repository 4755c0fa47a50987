-- Alignment, fixed size and length of written pieces, and the depth that they need. Assumes nothing.
use mathlib.Core.Path.{◌≡◌, refl, ◌∙◌}
use mathlib.Core.List.{List, [], ◌∷◌, ◌++◌}
use mathlib.Core.Option.{Option, none, some}
use mathlib.Core.Bool.{Bool, true, false}
use Prim.Native.Nat.{ℕ, ◌+◌, ◌*◌, ◌^◌, ◌<◌}
use native.Mathlib.Omega.{arith}
use lib.Dec.{T, eqb}
use lib.ListN.{length}
use borrow.Author.Tests.{eqb-true}
use Rattle.meaning.specs.Numbers.{bytes}
use Rattle.meaning.specs.Padding.{padding}
use Rattle.meaning.specs.Offsets.{encoded_width}
use Rattle.meaning.specs.Depths.{Depths, depth_refusal}
use Rattle.meaning.specs.Types.{Basic, bool, number, text, Tree, basic, variant, maybe, array, dictionary, structure, number_width, basic_alignment, basic_fixed, alignment, fixed}
use Rattle.meaning.specs.Values.{BasicValue, ValueOver}
use Rattle.meaning.specs.Written.{Piece, stop, layout, field_ends, unless, deeper, basic_piece, maybe_piece, array_piece, structure_piece, piece_over}
use Rattle.meaning_writing.specs.Shapes.{basic_size}
use Rattle.meaning.proofs.Tests.{both, both_left, both_right, from_test, to_test, impossible, both_true, and_true}
use Rattle.meaning.proofs.NumberLaws.{length_bytes, length_ordered}
use Rattle.meaning.proofs.OffsetLaws.{Chosen, encoded_width_fits, fits_below}
use Rattle.meaning.proofs.LayoutLaws.{placed, layout_split, layout_shift}

pub basic_alignment_lem : (big : Bool) (b : Basic) (v : BasicValue b) → (basic_piece big b v).alignment ≡ basic_alignment b
unfolding basic_piece
basic_alignment_lem big bool v = refl
basic_alignment_lem big (number c) v = refl
basic_alignment_lem big (text c) v = refl

pub basic_fixed_lem : (big : Bool) (b : Basic) (v : BasicValue b) → (basic_piece big b v).fixed ≡ basic_fixed b
unfolding basic_piece
basic_fixed_lem big bool v = refl
basic_fixed_lem big (number c) v = refl
basic_fixed_lem big (text c) v = refl

pub basic_size_lem : (big : Bool) (b : Basic) → basic_fixed b ≡ true → (v : BasicValue b) → length (basic_piece big b v).bytes ≡ basic_size b
unfolding basic_piece
basic_size_lem big bool h v = refl
basic_size_lem big (number c) h v = length_ordered big (bytes (number_width c) v) ∙ length_bytes (number_width c) v
basic_size_lem big (text c) h v = impossible h

pub maybe_alignment : {A : Type 0} (a : ℕ) (fx : Bool) (child : A → Piece) (v : Option A) → (maybe_piece a fx child v).alignment ≡ a
unfolding maybe_piece
maybe_alignment a fx child none = refl
maybe_alignment a fx child (some v) = refl

pub maybe_fixed : {A : Type 0} (a : ℕ) (fx : Bool) (child : A → Piece) (v : Option A) → (maybe_piece a fx child v).fixed ≡ false
unfolding maybe_piece
maybe_fixed a fx child none = refl
maybe_fixed a fx child (some v) = refl

pub piece_alignment : (big : Bool) {Held : Type 0} (held : Held → Piece) → ((x : Held) → (held x).alignment ≡ 8) → (t : Tree) (v : ValueOver Held t) → (piece_over big held t v).alignment ≡ alignment t
unfolding piece_over alignment array_piece structure_piece
piece_alignment big held h (basic b) v = basic_alignment_lem big b v
piece_alignment big held h variant v = h v
piece_alignment big held h (maybe t) v = maybe_alignment (alignment t) (fixed t) (λ x. piece_over big held t x) v
piece_alignment big held h (array t) v = refl
piece_alignment big held h (dictionary b t) v = refl
piece_alignment big held h (structure ts) v = refl

-- one more container
pub deeper_true : (d : Depths) (f : Depths → Bool) → deeper d f ≡ true → f d ≡ true
deeper_true d f h = (both_true (eqb (depth_refusal d) 0) (f d) h).1

pub deeper_opens : (d : Depths) (f g : Depths → Bool) → deeper d f ≡ true → T (g d) → T (deeper d g)
deeper_opens d f g h t = both (eqb (depth_refusal d) 0) (g d) (to_test _ (both_true (eqb (depth_refusal d) 0) (f d) h).0) t

pub deeper_holds : (d : Depths) (f : Depths → Bool) → T (deeper d f) → T (f d)
deeper_holds d f t = both_right (eqb (depth_refusal d) 0) (f d) t

pub deeper_limits : (d : Depths) (f : Depths → Bool) → T (deeper d f) → depth_refusal d ≡ 0
deeper_limits d f t = eqb-true (depth_refusal d) 0 (from_test _ (both_left (eqb (depth_refusal d) 0) (f d) t))

pub deeper_with : (d : Depths) (f g : Depths → Bool) → T (deeper d f) → (T (f d) → T (g d)) → T (deeper d g)
deeper_with d f g t h = both (eqb (depth_refusal d) 0) (g d) (both_left (eqb (depth_refusal d) 0) (f d) t) (h (both_right (eqb (depth_refusal d) 0) (f d) t))

pub deeper_accepts : (d : Depths) (f g : Depths → Bool) → T (deeper d f) → (T (f d) → g d ≡ true) → deeper d g ≡ true
deeper_accepts d f g t h = and_true (eqb (depth_refusal d) 0) (g d) (from_test _ (both_left (eqb (depth_refusal d) 0) (f d) t)) (h (both_right (eqb (depth_refusal d) 0) (f d) t))

-- widths
pub chosen_width : {body count w : ℕ} → Chosen body count w → encoded_width (body + count * w) ≡ w
chosen_width c = encoded_width_fits c.fits c.positive

pub chosen_below : {body count w : ℕ} → Chosen body count w → body < 256 ^ w
chosen_below c = fits_below c.fits c.positive

-- places
pub stop_is : (k : ℕ) (c : Piece) → stop k c ≡ k + padding k c.alignment + length c.bytes
unfolding stop
stop_is k c = refl

-- a layout in its place, taken apart behind its first child: what stands in front of the rest, and what is left
pub record Split (x y l : List ℕ) (k : ℕ) (c : Piece) (cs : List Piece) : Type 0 where
  pub first : l ≡ x ++ (placed k c ++ (layout (stop k c) cs ++ y))
  pub rest : l ≡ (x ++ placed k c) ++ (layout (stop k c) cs ++ y)

pub split : (x y l : List ℕ) (k : ℕ) (c : Piece) (cs : List Piece) → l ≡ x ++ (layout k (c ∷ cs) ++ y) → Split x y l k c cs
split x y l k c cs h = record { first = layout_split x y l k c cs h; rest = layout_shift x y l k c cs h }

pub field_ends_more : (k : ℕ) (c : Piece) (cs : List Piece) → 0 < length cs → field_ends k (c ∷ cs) ≡ unless c.fixed (stop k c) (field_ends (stop k c) cs)
unfolding field_ends
field_ends_more k c [] h = absurd (omega arith)
field_ends_more k c (g ∷ cs) h = refl
