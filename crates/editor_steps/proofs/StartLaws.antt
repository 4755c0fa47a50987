-- What is found of the beginning of a container is what the definition says of its bytes. Assumes nothing.
use mathlib.Core.Path.{◌≡◌, refl, sym, ap, ◌∙◌, subst}
use mathlib.Core.List.{List}
use mathlib.Core.Bool.{Bool, false}
use Prim.Native.Nat.{ℕ, ◌+◌, ◌-◌, ◌*◌, ◌/◌, ◌≤◌}
use native.Mathlib.Omega.{arith}
use lib.ListN.{length}
use Rattle.meaning.specs.Offsets.{encoded_width}
use Rattle.meaning.specs.Padding.{Aligns, padding}
use Rattle.meaning_writing.specs.Shapes.{one_more, field_end}
use Rattle.framing_offset_size.specs.Widths.{width_of}
use Rattle.framing_offset_size.specs.declared.FramingOffsetSize.{FramingOffsetSize}
use Rattle.signature.specs.declared.Letter.{Letter}
use Rattle.strict_basic.specs.Basics.{letter_extent}
use Rattle.strict_ends.specs.Ends.{Laid, end_of}
use Rattle.strict_ends.specs.declared.Extent.{Extent}
use Rattle.strict_ends.proofs.EndLaws.{encoded_aligns}
use Rattle.editor_basic.specs.declared.elements.Elements.{Elements}
use Rattle.editor_steps.specs.declared.starts.Table.{Table}
use Rattle.editor_steps.specs.Starts.{elements_as, body_of, AllOf, table_as, key_offsets, key_end, entry, entry_as, KeyFits}

pub all_of : (a : ℕ) (l : List ℕ) (size : FramingOffsetSize) (count from : ℕ) (r : Elements) → r ≡ elements_as a size count from → width_of size ≡ encoded_width (length l)
    → from ≡ body_of l → count ≡ (length l - from) / width_of size → AllOf a l r
all_of a l size count from r h w f c = rw h (record {
  alignment = refl;
  size = w;
  count = c ∙ ap (λ (i : ℕ). (length l - i) / width_of size) f ∙ ap (λ (i : ℕ). (length l - body_of l) / i) w;
  from = f;
  place = refl;
})

-- ---- a dictionary's entry

module _ (k : Letter) (l : List ℕ) (g : KeyFits k l) (laid : Laid (letter_extent k)) (x : Extent) (hx : x ≡ letter_extent k) (n : ℕ) (hn : n ≡ one_more x.fixed 0) where
  offsets_are : n ≡ key_offsets k
  offsets_are = hn ∙ ap (λ (y : Extent). one_more y.fixed 0) hx

  pub entry_room : n * encoded_width (length l) ≤ length l
  entry_room = subst (λ (m : ℕ). m * encoded_width (length l) ≤ length l) (sym offsets_are) g.room

  one_offset : (f : Bool) (m : ℕ) → m ≡ one_more f 0 → f ≡ false → m ≡ 1
  one_offset f m h e = h ∙ ap (λ (b : Bool). one_more b 0) e

  module _ (t : Table) (ht : t ≡ table_as (length l) n) where
    width_is : t.width ≡ encoded_width (length l)
    width_is = ap (λ (y : Table). y.width) ht

    pub entry_asks : (0 ≤ 65536) × Laid x × (length l ≤ length l) × Aligns t.width × (x.fixed ≡ false → t.width ≤ length l)
    entry_asks = (
      omega arith,
      subst Laid (sym hx) laid,
      omega arith,
      subst Aligns (sym width_is) (encoded_aligns (length l)),
      (λ f. let m = subst (λ (j : ℕ). j * encoded_width (length l) ≤ length l) (one_offset x.fixed n hn f) entry_room in omega (arith, width_is)),
    )

    module _ (z : ℕ) (hz : z ≡ field_end x.fixed l t.width (length l) (end_of x 0)) where
      stop_is : z ≡ key_end k l
      stop_is = hz ∙ ap (λ (y : Extent). field_end y.fixed l t.width (length l) (end_of y 0)) hx ∙ ap (λ (w : ℕ). field_end (letter_extent k).fixed l w (length l) (end_of (letter_extent k) 0)) width_is

      pub entry_stop : z ≤ 1000000
      entry_stop = omega (arith, stop_is, g.inside, g.short)

      pub entry_is : (a start : ℕ) → start ≡ z + padding z a → entry start t.body t.width ≡ entry_as k a l
      entry_is a start hs =
          ap (λ (i : ℕ). entry i t.body t.width) (hs ∙ ap (λ (i : ℕ). i + padding i a) stop_is)
          ∙ ap (λ (y : Table). entry (key_end k l + padding (key_end k l) a) y.body y.width) ht
          ∙ ap (λ (m : ℕ). entry (key_end k l + padding (key_end k l) a) (length l - m * encoded_width (length l)) (encoded_width (length l))) offsets_are
