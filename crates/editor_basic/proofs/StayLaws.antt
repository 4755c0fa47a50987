-- Elements that stay as they lie: laid out from where they stood they end where the last of them did, and from a place of the same padding
-- they are as long. Assumes nothing.
use mathlib.Core.Path.{◌≡◌, refl, sym, ap, ◌∙◌, subst}
use mathlib.Core.List.{List, [], ◌∷◌, ◌++◌}
use mathlib.Core.Bool.{false}
use Prim.Native.Nat.{ℕ, zero, suc, ◌+◌, ◌-◌, ◌*◌, ◌≤◌, ◌<◌}
use native.Mathlib.Omega.{arith}
use lib.ListN.{length, take, drop}
use Rattle.meaning.specs.Numbers.{bytes, value}
use Rattle.meaning.specs.Offsets.{table}
use Rattle.meaning.specs.Padding.{Aligns, padding}
use Rattle.meaning.specs.Written.{Piece, layout, ends}
use Rattle.meaning.proofs.NumberLaws.{Bytes}
use Rattle.meaning.proofs.PaddingLaws.{by_alignment}
use Rattle.meaning.proofs.LayoutLaws.{length_layout, layout_none}
use Rattle.meaning_writing.specs.Shapes.{part}
use Rattle.meaning_writing.specs.Edited.{found_piece, elements_from}
use Rattle.meaning_writing.proofs.Parts.{part_none, part_split, offset_form}
use Rattle.framing_offset_size.specs.Widths.{width_of}
use Rattle.editor_basic.specs.declared.elements.Elements.{Elements}
use Rattle.editor_basic.specs.declared.elements.Child.{Child}
use Rattle.editor_basic.specs.Elements.{elements_in, start_of, end_in, behind_of, Standing, FirstOf}
use Rattle.editor_basic.proofs.ElementLaws.{first_of, offset_inside, elements_none, elements_first, stop_is}
use Rattle.editor_basic.proofs.StepLaws.{total_next}
use Rattle.editor_basic.proofs.RewriteLaws.{reaching_begin, table_step}

add_twice : (k n m : ℕ) → k + n + m ≡ k + (n + m)
add_twice k n m = omega arith

-- two places of the same padding, each moved by as much
moved_alike : {a : ℕ} → Aligns a → (k j n : ℕ) → padding k a ≡ padding j a → padding (k + n) a ≡ padding (j + n) a
unfolding padding
moved_alike al k j n =
    by_alignment (λ a. padding k a ≡ padding j a → padding (k + n) a ≡ padding (j + n) a)
    (λ h. omega arith) (λ h. omega arith) (λ h. omega arith) (λ h. omega arith) al

module _ {a : ℕ} (al : Aligns a) (l : List ℕ) (w : ℕ) where
  abbrev from : ℕ → ℕ → ℕ → List Piece
  from n j p = elements_from a false l w n j p

  abbrev offset : ℕ → ℕ
  offset j = value (part j (j + w) l)

  from_more : (n j p : ℕ) → from (suc n) j p ≡ found_piece a false (part (p + padding p a) (offset j) l) ∷ from n (j + w) (offset j)
  unfolding elements_from
  from_more n j p = refl

  -- the first of them, and those behind it
  layout_more : (n j p k : ℕ)
      → k + length (layout k (from (suc n) j p)) ≡ k + padding k a + length (part (p + padding p a) (offset j) l) + length (layout (k + padding k a + length (part (p + padding p a) (offset j) l)) (from n (j + w) (offset j)))
  layout_more n j p k =
      let bytes : List ℕ = part (p + padding p a) (offset j) l in
      ap (λ (z : List Piece). k + length (layout k z)) (from_more n j p)
      ∙ length_layout k (found_piece a false bytes) (from n (j + w) (offset j))
      ∙ ap (λ (i : ℕ). i + length (layout i (from n (j + w) (offset j)))) (stop_is k a bytes)

  pub layout_alike : (n j p k i : ℕ) → padding k a ≡ padding i a → length (layout k (from n j p)) ≡ length (layout i (from n j p))
  unfolding elements_from layout
  layout_alike zero j p k i h = refl
  layout_alike (suc n) j p k i h =
      let bytes : List ℕ = part (p + padding p a) (offset j) l in
      let x = layout_more n j p k in
      let y = layout_more n j p i in
      let r = layout_alike n (j + w) (offset j) (k + padding k a + length bytes) (i + padding i a + length bytes)
      (ap (λ (z : ℕ). padding z a) (add_twice k (padding k a) (length bytes)) ∙ moved_alike al k i (padding k a + length bytes) h ∙ ap (λ (z : ℕ). padding (i + (z + length bytes)) a) h ∙ ap (λ (z : ℕ). padding z a) (sym (add_twice i (padding i a) (length bytes)))) in
      omega (arith, x, y, r, h)

-- no elements end where they begin
pub none_stays : (e : Elements) (l : List ℕ) → e.count ≡ 0 → e.place ≡ e.place + length (layout e.place (elements_in e l))
none_stays e l n =
    let z : length (layout e.place (elements_in e l)) ≡ 0 = ap length (ap (λ (cs : List Piece). layout e.place cs) (elements_none e l n) ∙ layout_none e.place) in
    omega arith

-- the last one's offset stands in the table
pub last_inside : (e : Elements) (l : List ℕ) → Standing e l → (e.count ≡ 0 → ⊥) → e.from + (e.count - 1) * width_of e.size + width_of e.size ≤ length l
last_inside e l s h = go e.count refl
  where
    go : (n : ℕ) → e.count ≡ n → e.from + (e.count - 1) * width_of e.size + width_of e.size ≤ length l
    go zero q = absurd (h q)
    go (suc n) q =
        let r = subst (λ (i : ℕ). e.from + i * width_of e.size ≤ length l) q s.room in
        let o : e.count - 1 ≡ n = omega arith in
        rw o (omega arith)

-- and elements end there that are laid out from where they stood
module _ (e : Elements) (l : List ℕ) (s : Standing e l) (h : 0 < e.count) where
  abbrev c : Child
  c = record { start = start_of e; end = end_in e l }

  pub first_stands : FirstOf e l c
  first_stands = first_of e l c s h refl refl

  abbrev others : List Piece
  others = elements_in (behind_of e c.end) l

  pub first_stays : c.end + length (layout c.end others) ≡ e.place + length (layout e.place (elements_in e l))
  first_stays =
      let f = first_stands in
      let q : e.place + (padding e.place e.alignment + (c.end - c.start)) ≡ c.end = omega (arith, f.order) in
      ap (λ (k : ℕ). k + length (layout k others)) (sym q)
      ∙ total_next l e.alignment false c.start c.end (elements_in e l) others (elements_first e l c f h) f.inside e.place

pub last_stays : (m : ℕ) (e : Elements) (l : List ℕ) → e.count ≡ suc m → Standing e l
    → value (part (e.from + m * width_of e.size) (e.from + m * width_of e.size + width_of e.size) l) ≡ e.place + length (layout e.place (elements_in e l))
last_stays zero e l n s =
    let o : e.from + 0 * width_of e.size ≡ e.from = omega arith in
    ap (λ (k : ℕ). value (part k (k + width_of e.size) l)) o
    ∙ none_stays (behind_of e (end_in e l)) l (omega arith)
    ∙ first_stays e l s (omega arith)
last_stays (suc m) e l n s =
    let o : e.from + suc m * width_of e.size ≡ e.from + width_of e.size + m * width_of e.size = omega arith in
    ap (λ (k : ℕ). value (part k (k + width_of e.size) l)) o
    ∙ last_stays m (behind_of e (end_in e l)) l (omega arith) (first_stands e l s (omega arith)).behind
    ∙ first_stays e l s (omega arith)

-- where elements end from a place on of the padding that they have
pub elements_kept : (e : Elements) (l : List ℕ) (to end : ℕ) {m n : ℕ} → Standing e l → m ≡ n → m ≡ padding to e.alignment → n ≡ padding e.place e.alignment
    → end ≡ e.place + length (layout e.place (elements_in e l)) → to + (end - e.place) ≡ to + length (layout to (elements_in e l))
elements_kept e l to end s q a b h =
    let k = layout_alike s.aligned l (width_of e.size) e.count e.from e.place to e.place (sym a ∙ q ∙ b) in
    omega arith

-- the ends of elements that lie where they stood are, at the width that they have, their offsets as they stand
offsets_none : (e : Elements) (l : List ℕ) → e.count ≡ 0 → table (width_of e.size) (ends e.place (elements_in e l)) ≡ []
unfolding table ends
offsets_none e l n = ap (λ (cs : List Piece). table (width_of e.size) (ends e.place cs)) (elements_none e l n)

pub offsets_stay : (m : ℕ) (e : Elements) (l : List ℕ) → e.count ≡ m → Standing e l → Bytes l → e.place < 1500000000
    → table (width_of e.size) (ends e.place (elements_in e l)) ≡ part e.from (e.from + m * width_of e.size) l
offsets_stay zero e l n s b k = offsets_none e l n ∙ sym (part_none e.from (e.from + 0 * width_of e.size) l (omega arith))
offsets_stay (suc m) e l n s b k =
    let w : ℕ = width_of e.size in
    let c : Child = record { start = start_of e; end = end_in e l } in
    let h : 0 < e.count = omega arith in
    let f = first_stands e l s h in
    let q : e.place + (padding e.place e.alignment + (c.end - c.start)) ≡ c.end = omega (arith, f.order) in
    let r : e.from + suc m * w ≡ e.from + w + m * w = omega arith in
    let i = offsets_stay m (behind_of e c.end) l (omega arith) f.behind b (omega (arith, f.inside, s.short)) in
    let o = offset_form l e.from w c.end b (offset_inside e l s h) refl in
    table_step e l c e.place _ (reaching_begin e l e.place s k) f h w
    ∙ ap (λ (z : ℕ). bytes w z ++ table w (ends z (elements_in (behind_of e c.end) l))) q
    ∙ ap (λ (z : List ℕ). z ++ table w (ends c.end (elements_in (behind_of e c.end) l))) o
    ∙ ap (λ (z : List ℕ). part e.from (e.from + w) l ++ z) i
    ∙ sym (part_split e.from (e.from + w) (e.from + w + m * w) l (omega arith) (omega arith))
    ∙ ap (λ (z : ℕ). part e.from z l) (sym r)

pub offsets_kept : (e : Elements) (l : List ℕ) (to w : ℕ) → Standing e l → Bytes l → to ≡ e.place → w ≡ width_of e.size
    → take (e.from + e.count * w - e.from) (drop e.from l) ≡ table w (ends to (elements_in e l))
unfolding part
offsets_kept e l to w s b p q = rw (p, q) (sym (offsets_stay e.count e l refl s b (omega (arith, s.inside, s.short))))
