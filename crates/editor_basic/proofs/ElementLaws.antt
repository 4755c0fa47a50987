-- Laws of the elements of an array from one of them on: the first of them, those behind it, and how long they are when they are laid out
-- anew. Assumes nothing.
use mathlib.Core.Path.{◌≡◌, refl, sym, ap, ◌∙◌, subst}
use mathlib.Core.List.{List, [], ◌∷◌}
use mathlib.Core.Bool.{Bool, true, false, ◌&&◌}
use Prim.Native.Nat.{ℕ, zero, suc, ◌+◌, ◌-◌, ◌*◌, ◌^◌, ◌%◌, ◌≤◌, ◌<◌}
use native.Mathlib.Omega.{arith}
use lib.Bits.{bit_and}
use lib.Dec.{leb, eqb}
use lib.ListN.{length}
use borrow.Author.Tests.{leb-true, eq-eqb, ne_eqb}
use Rattle.meaning.specs.Choice.{pick}
use Rattle.meaning.specs.Limits.{largest_frame}
use Rattle.meaning.specs.Offsets.{largest, first_width, bare_width, written_width}
use Rattle.meaning.specs.Padding.{Aligns, padding}
use Rattle.meaning.specs.Written.{Piece, stop, layout}
use Rattle.meaning.proofs.Tests.{both_true}
use Rattle.meaning.proofs.PaddingLaws.{by_alignment, padding_small}
use Rattle.meaning.proofs.LayoutLaws.{length_layout, layout_none}
use Rattle.meaning_writing.specs.Shapes.{part}
use Rattle.meaning_writing.specs.Edited.{found_piece, elements_from}
use Rattle.meaning_writing.proofs.Parts.{length_part}
use Rattle.std.specs.Prelude.{Option, Some, None}
use Rattle.std.specs.Option.{unwrap_or}
use Rattle.std.proofs.lemmas.Nat.{and_mask}
use Rattle.framing_offset_size.specs.Widths.{width_of, fitting_width}
use Rattle.framing_offset_size.specs.declared.FramingOffsetSize.{FramingOffsetSize}
use Rattle.framing_offset_size.specs.declared.FramingOffsetSize.TheVariants.{U8, U16, U32, U64}
use Rattle.framing_offset_size.proofs.WidthLaws.{width_positive}
use Rattle.editor_basic.specs.declared.elements.Elements.{Elements}
use Rattle.editor_basic.specs.declared.elements.Child.{Child}
use Rattle.editor_basic.specs.Elements.{elements_in, start_of, end_in, behind_of, rises, Standing, FirstOf}

-- ---- the leaves

-- the lowest bits of a place's negation
pub due_masked : {a : ℕ} → Aligns a → (k n : ℕ) → (n + k) % 2 ^ 64 ≡ 0 → (bit_and n (a - 1) ≡ padding k a) × (bit_and n (a - 1) < 8)
unfolding padding
due_masked al k n h =
    let e = by_alignment (λ a. bit_and n (a - 1) ≡ padding k a)
    (omega (arith, h, and_mask n 0))
    (omega (arith, h, and_mask n 1))
    (omega (arith, h, and_mask n 2))
    (omega (arith, h, and_mask n 3))
    al in
    (e, omega (arith, e, padding_small al k))

-- the width of a body's offsets is the one that fits, and 8 where none does
written_bare : (n m : ℕ) → written_width n m ≡ pick (eqb (bare_width n m) 0) 8 (bare_width n m)
unfolding written_width bare_width first_width
written_bare n m = go (leb (n + m * 1) (largest 1)) (leb (n + m * 2) (largest 2)) (leb (n + m * 4) (largest 4)) (leb (n + m * 8) (largest 8))
  where
    go : (a b c d : Bool) → ◌≡◌ {A = ℕ} (pick a 1 (pick b 2 (pick c 4 8)))
        (pick (eqb (pick a 1 (pick b 2 (pick c 4 (pick d 8 0)))) 0) 8 (pick a 1 (pick b 2 (pick c 4 (pick d 8 0)))))
    go true b c d = refl
    go false true c d = refl
    go false false true d = refl
    go false false false true = refl
    go false false false false = refl

pub written_size : (n m : ℕ) (s : FramingOffsetSize) {f : Option FramingOffsetSize} → Some s ≡ f → fitting_width f ≡ bare_width n m → width_of s ≡ written_width n m
written_size n m s e h =
    let w : width_of s ≡ bare_width n m = ap fitting_width e ∙ h in
    let p : 0 < bare_width n m = omega (arith, width_positive s, w) in
    w ∙ sym (written_bare n m ∙ rw (ne_eqb (bare_width n m) 0 (λ z. omega arith)))

pub written_none : (n m : ℕ) {f : Option FramingOffsetSize} → None ≡ f → fitting_width f ≡ bare_width n m → 8 ≡ written_width n m
written_none n m e h = sym (written_bare n m ∙ rw (eq-eqb (bare_width n m) 0 (sym (ap fitting_width e ∙ h))))

pub written_fitting : (n m : ℕ) (f : Option FramingOffsetSize) → fitting_width f ≡ bare_width n m → width_of (unwrap_or f U64) ≡ written_width n m
written_fitting n m (Some s) h = written_size n m s refl h
written_fitting n m None h = written_none n m refl h

-- ---- the first of some elements

-- a table has no more offsets than bytes
pub count_most : (s : FramingOffsetSize) (n m : ℕ) → n * width_of s ≤ m → n ≤ m
count_most U8 n m h = omega arith
count_most U16 n m h = omega arith
count_most U32 n m h = omega arith
count_most U64 n m h = omega arith

pub few : (e : Elements) (l : List ℕ) → Standing e l → e.count ≤ largest_frame
few e l s = let h = s.room in omega (arith, count_most e.size e.count (length l) (omega arith), s.short)

pub offset_inside : (e : Elements) (l : List ℕ) → Standing e l → 0 < e.count → e.from + width_of e.size ≤ length l
offset_inside e l s h = go e.count refl
  where
    go : (n : ℕ) → e.count ≡ n → e.from + width_of e.size ≤ length l
    go zero q = absurd (omega arith)
    go (suc n) q = let r = subst (λ (i : ℕ). e.from + i * width_of e.size ≤ length l) q s.room in omega arith

pub first_of : (e : Elements) (l : List ℕ) (c : Child) → Standing e l → 0 < e.count → c.start ≡ start_of e → c.end ≡ end_in e l → FirstOf e l c
unfolding rises
first_of e l c s h p q = go (e.count - 1) (omega arith)
  where
    go : (m : ℕ) → e.count ≡ suc m → FirstOf e l c
    go m n =
        let a = e.alignment in
        let w = width_of e.size in
        let v = end_in e l in
        let u : rises a l w (suc m) e.from e.place ≡ true = subst (λ (i : ℕ). rises a l w i e.from e.place ≡ true) n s.up in
        let x = both_true (leb (start_of e) v) (leb v (length l) && rises a l w m (e.from + w) v) u in
        let y = both_true (leb v (length l)) (rises a l w m (e.from + w) v) x.1 in
        let r : e.from + suc m * w ≤ length l = subst (λ (i : ℕ). e.from + i * w ≤ length l) n s.room in
        let lo = leb-true (start_of e) v x.0 in
        let hi = leb-true v (length l) y.0 in
        let k : e.count - 1 ≡ m = omega arith in
        record {
          start = p;
          end = q;
          order = omega (arith, lo, p, q);
          inside = omega (arith, hi, q);
          behind = record {
            aligned = s.aligned;
            short = s.short;
            inside = omega (arith, hi, q);
            room = subst (λ (i : ℕ). e.from + w + i * w ≤ length l) (sym k) (omega arith);
            up = subst (λ (i : ℕ). rises a l w i (e.from + w) c.end ≡ true) (sym k) (subst (λ (i : ℕ). rises a l w m (e.from + w) i ≡ true) (sym q) y.1);
          };
        }

pub elements_none : (e : Elements) (l : List ℕ) → e.count ≡ 0 → elements_in e l ≡ []
unfolding elements_from
elements_none e l h = ap (λ (n : ℕ). elements_from e.alignment false l (width_of e.size) n e.from e.place) h

-- the first as a piece
abbrev pub first_piece : Elements → List ℕ → Child → Piece
first_piece e l c = found_piece e.alignment false (part c.start c.end l)

pub elements_first : (e : Elements) (l : List ℕ) (c : Child) → FirstOf e l c → 0 < e.count
    → elements_in e l ≡ first_piece e l c ∷ elements_in (behind_of e c.end) l
unfolding elements_from
elements_first e l c f h =
    let n : e.count ≡ suc (e.count - 1) = omega arith in
    ap (λ (i : ℕ). elements_from e.alignment false l (width_of e.size) i e.from e.place) n
    ∙ rw (← f.start, ← f.end)

pub stop_is : (k a : ℕ) (l : List ℕ) → stop k (found_piece a false l) ≡ k + padding k a + length l
unfolding stop
stop_is k a l = refl

pub first_length : (e : Elements) (l : List ℕ) (c : Child) → FirstOf e l c → length (part c.start c.end l) ≡ c.end - c.start
first_length e l c f = length_part c.start c.end l f.inside

-- elements laid out anew are not much longer
pub layout_most : (m : ℕ) (e : Elements) (l : List ℕ) (k : ℕ) → e.count ≡ m → Standing e l → length (layout k (elements_in e l)) ≤ length l - e.place + 8 * e.count
layout_most zero e l k n s =
    let h = ap length (ap (λ (z : List Piece). layout k z) (elements_none e l n) ∙ layout_none k) in
    omega arith
layout_most (suc m) e l k n s =
    let c : Child = record { start = start_of e; end = end_in e l } in
    let f = first_of e l c s (omega arith) refl refl in
    let q = stop k (first_piece e l c) in
    let h = ap (λ (z : List Piece). length (layout k z)) (elements_first e l c f (omega arith)) in
    let g = length_layout k (first_piece e l c) (elements_in (behind_of e c.end) l) in
    let i = layout_most m (behind_of e c.end) l q (omega arith) f.behind in
    let b = stop_is k e.alignment (part c.start c.end l) in
    let a = first_length e l c f in
    let p = padding_small s.aligned k in
    let o = f.order in
    let d = f.inside in
    omega arith

-- elements are left as long as a loop has not counted all
pub left : {n k m : ℕ} → n + k ≡ m → k < m → 0 < n
left h g = omega arith
