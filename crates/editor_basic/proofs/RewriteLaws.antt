-- The loops of the rewriter: what is left of the elements to move, and of their ends to write, makes the whole. Assumes nothing.
use mathlib.Core.Path.{◌≡◌, refl, sym, ap, ◌∙◌}
use mathlib.Core.List.{List, [], ◌∷◌, ◌++◌}
use mathlib.Core.Bool.{false}
use Prim.Native.Nat.{ℕ, zero, suc, ◌+◌, ◌-◌, ◌*◌, ◌≤◌, ◌<◌}
use native.Mathlib.Omega.{arith}
use lib.ListN.{length}
use Rattle.meaning.specs.Numbers.{bytes, value}
use Rattle.meaning.specs.Offsets.{written_width, table}
use Rattle.meaning.specs.Padding.{padding}
use Rattle.meaning.specs.Written.{Piece, stop, layout, ends}
use Rattle.meaning.proofs.NumberLaws.{length_bytes}
use Rattle.meaning.proofs.LayoutLaws.{length_table, length_ends, table_append}
use Rattle.meaning_writing.specs.Shapes.{part}
use Rattle.meaning_writing.specs.Edited.{elements_from}
use Rattle.framing_offset_size.specs.Widths.{width_of}
use Rattle.framing_offset_size.specs.declared.FramingOffsetSize.{FramingOffsetSize}
use Rattle.framing_offset_size.specs.declared.FramingOffsetSize.TheVariants.{U8, U16, U32, U64}
use Rattle.framing_offset_size.proofs.WidthLaws.{width_most}
use Rattle.editor_basic.specs.declared.elements.Elements.{Elements}
use Rattle.editor_basic.specs.declared.elements.Child.{Child}
use Rattle.editor_basic.specs.Puts.{over}
use Rattle.editor_basic.specs.Elements.{elements_in, behind_of, Standing, FirstOf, count_now, body_now, width_now, rest_now, length_now}
use Rattle.editor_basic.proofs.PutLaws.{over_append, over_both, over_none}
use Rattle.editor_basic.proofs.ElementLaws.{few, elements_none, first_piece, elements_first, layout_most}
use Rattle.editor_basic.proofs.StepLaws.{stop_stride, total_next}

-- elements from the place `to` on: what they end at, not far from where they began
pub record Reaching (e : Elements) (l : List ℕ) (to end : ℕ) : Type 0 where
  pub stands : Standing e l
  pub total : to + length (layout to (elements_in e l)) ≡ end
  pub near : end < 2000000000

pub reaching_most : (e : Elements) (l : List ℕ) (to : ℕ) → Standing e l → to + length (layout to (elements_in e l)) < to + 1000000
reaching_most e l to s =
    let h = layout_most e.count e l to refl s in
    let g = few e l s in
    let k = s.short in
    omega arith

pub reaching_begin : (e : Elements) (l : List ℕ) (to : ℕ) → Standing e l → to < 1500000000 → Reaching e l to (to + length (layout to (elements_in e l)))
reaching_begin e l to s h = record { stands = s; total = refl; near = omega (arith, reaching_most e l to s) }

-- one element: how far it reaches, and what is left
module _ (e : Elements) (l : List ℕ) (c : Child) (to end : ℕ) (r : Reaching e l to end) (f : FirstOf e l c) (h : 0 < e.count) where
  abbrev pub step : ℕ
  step = padding to e.alignment + (c.end - c.start)

  abbrev pub others : List Piece
  others = elements_in (behind_of e c.end) l

  stop_step : stop to (first_piece e l c) ≡ to + step
  stop_step = stop_stride l e.alignment false c.start c.end (elements_in e l) others (elements_first e l c f h) f.inside to

  pub reaching_next : (k : ℕ) → k ≡ to + step → Reaching (behind_of e c.end) l k end
  reaching_next k q = record {
    stands = f.behind;
    total =
        ap (λ (i : ℕ). i + length (layout i others)) q
        ∙ total_next l e.alignment false c.start c.end (elements_in e l) others (elements_first e l c f h) f.inside to
        ∙ r.total;
    near = r.near;
  }

  -- no further than the whole
  pub reaching_step : to + step ≤ end
  reaching_step = let n = (reaching_next (to + step) refl).total in omega arith

  -- what a turn adds up, by the padding that it finds
  pub turn_most : (pad : ℕ) → pad ≡ padding to e.alignment → (c.start ≤ c.end) × (to + (pad + (c.end - c.start)) < 2000000000)
  turn_most pad q = (f.order, omega (arith, reaching_step, r.near))

  pub table_step : (w : ℕ) → table w (ends to (elements_in e l)) ≡ bytes w (to + step) ++ table w (ends (to + step) (elements_in (behind_of e c.end) l))
  unfolding table ends
  table_step w =
      ap (λ (z : List Piece). table w (ends to z)) (elements_first e l c f h)
      ∙ ap (λ (k : ℕ). bytes w k ++ table w (ends k (elements_in (behind_of e c.end) l))) stop_step

  pub listing_next : (out whole : List ℕ) (at w k : ℕ) → over out at (table w (ends to (elements_in e l))) ≡ whole → k ≡ to + step
      → over (over out at (bytes w k)) (at + w) (table w (ends k (elements_in (behind_of e c.end) l))) ≡ whole
  listing_next out whole at w k g q =
      ap (λ (i : ℕ). over (over out at (bytes w i)) (at + w) (table w (ends i (elements_in (behind_of e c.end) l)))) q
      ∙ over_append out at (bytes w (to + step)) (table w (ends (to + step) (elements_in (behind_of e c.end) l))) (at + w) (let a = length_bytes w (to + step) in omega arith)
      ∙ ap (λ (z : List ℕ). over out at z) (sym (table_step w)) ∙ g

  -- a turn of the loop over ends, as it leaves what it goes by
  module _ (e' : Elements) (q : e' ≡ behind_of e c.end) (pad : ℕ) (p : pad ≡ padding to e.alignment) where
    pub listing_turn : (out out' whole : List ℕ) (next w : ℕ) → out' ≡ over out next (bytes w (to + pad + (c.end - c.start)))
        → over out next (table w (ends to (elements_in e l))) ≡ whole
        → Reaching e' l (to + pad + (c.end - c.start)) end
        × (over out' (next + w) (table w (ends (to + pad + (c.end - c.start)) (elements_in e' l))) ≡ whole)
    listing_turn out out' whole next w o g =
        let k : to + pad + (c.end - c.start) ≡ to + step = omega arith in
        (rw q (reaching_next _ k), rw (q, o) (listing_next out whole next w _ g k))

-- none is left
module _ (e : Elements) (l : List ℕ) (h : e.count ≡ 0) where
  pub layout_done : (k : ℕ) → layout k (elements_in e l) ≡ []
  unfolding layout
  layout_done k = ap (λ (z : List Piece). layout k z) (elements_none e l h)

  pub reaching_end : (to end : ℕ) → Reaching e l to end → to ≡ end
  reaching_end to end r = let a = ap length (layout_done to) in let b = r.total in omega arith

  pub listing_end : (out whole : List ℕ) (at to w : ℕ) → over out at (table w (ends to (elements_in e l))) ≡ whole → out ≡ whole
  unfolding table ends
  listing_end out whole at to w g =
      sym (over_none out at) ∙ ap (λ (z : List ℕ). over out at z) (sym (ap (λ (z : List Piece). table w (ends to z)) (elements_none e l h))) ∙ g

-- ---- an array from the end of its changed element on

pub elements_count : (e : Elements) (l : List ℕ) → length (elements_in e l) ≡ e.count
elements_count e l = go e.count e.from e.place
  where
    end_from : ℕ → ℕ
    end_from j = value (part j (j + width_of e.size) l)

    more : (n j k : ℕ) → length (elements_from e.alignment false l (width_of e.size) n (j + width_of e.size) (end_from j)) ≡ n
        → length (elements_from e.alignment false l (width_of e.size) (suc n) j k) ≡ suc n
    more n j k h = unfold elements_from in ap suc h

    go : (n j k : ℕ) → length (elements_from e.alignment false l (width_of e.size) n j k) ≡ n
    go zero j k = unfold elements_from in refl
    go (suc n) j k = more n j k (go n (j + width_of e.size) (end_from j))

table_cons : (w x : ℕ) (xs : List ℕ) → table w (x ∷ xs) ≡ bytes w x ++ table w xs
unfolding table
table_cons w x xs = refl

module _ (front rest : Elements) (l : List ℕ) (to at w : ℕ) where
  abbrev moved : List ℕ
  moved = layout to (elements_in rest l)

  abbrev before : List ℕ
  before = table w (ends 0 (elements_in front l))

  abbrev after : List ℕ
  after = table w (ends to (elements_in rest l))

  length_before : length before ≡ front.count * w
  length_before =
      length_table w (ends 0 (elements_in front l))
      ∙ ap (λ (n : ℕ). n * w) (length_ends 0 (elements_in front l) ∙ elements_count front l)

  -- one behind another: the elements, the ends in front, the changed one's, those behind
  pub finished : (out a b c d : List ℕ) (first own next : ℕ) → a ≡ over out at moved → b ≡ over a first before → c ≡ over b own (bytes w to) → d ≡ over c next after
      → first ≡ at + length moved → own ≡ first + front.count * w → next ≡ own + w
      → d ≡ over out at (moved ++ table w (ends 0 (elements_in front l) ++ (to ∷ ends to (elements_in rest l))))
  finished out a b c d first own next ha hb hc hd p q r =
      let x = over_both b c d own next (bytes w to) after hc hd (r ∙ (let z = length_bytes w to in omega arith)) in
      let y = over_both a b d first own before (bytes w to ++ after) hb x (q ∙ (let z = length_before in omega arith)) in
      over_both out a d at first moved (before ++ (bytes w to ++ after)) ha y p
      ∙ ap (λ (z : List ℕ). over out at (moved ++ z)) (sym (table_append w (ends 0 (elements_in front l)) (to ∷ ends to (elements_in rest l)) ∙ ap (λ (z : List ℕ). before ++ z) (table_cons w to (ends to (elements_in rest l)))))

  pub finish_done : (out a b c d : List ℕ) (end first own next : ℕ) → end ≡ body_now front rest l to → w ≡ written_width end (count_now front rest l to)
      → a ≡ over out at moved → b ≡ over a first before → c ≡ over b own (bytes w to) → d ≡ over c next after
      → first ≡ at + (end - to) → own ≡ first + front.count * w → next ≡ own + w
      → (d ≡ over out at (rest_now front rest l to)) × (end + count_now front rest l to * w ≡ length_now front rest l to)
  finish_done out a b c d end first own next he hw ha hb hc hd p q r =
      let h : w ≡ width_now front rest l to = hw ∙ ap (λ (n : ℕ). written_width n (count_now front rest l to)) he in (
        finished out a b c d first own next ha hb hc hd (omega arith) q r
            ∙ ap (λ (n : ℕ). over out at (moved ++ table n (ends 0 (elements_in front l) ++ (to ∷ ends to (elements_in rest l))))) h,
        rw (he, h),
      )

-- what the sums of `finish_array` stay below
pub record Sizes (front rest : Elements) (to end w : ℕ) : Type 0 where
  pub few_front : front.count ≤ 65536
  pub few_rest : rest.count ≤ 65536
  pub slim : w ≤ 8
  pub ends_front : front.count * w ≤ 524288
  pub ends_all : (front.count + (rest.count + 1)) * w ≤ 1048584
  pub low : to ≤ end
  pub high : end < to + 1000000

pub times : (s : FramingOffsetSize) (n m : ℕ) → n ≤ m → n * width_of s ≤ 8 * m
times U8 n m h = omega arith
times U16 n m h = omega arith
times U32 n m h = omega arith
times U64 n m h = omega arith

pub finish_sizes : (front rest : Elements) (l : List ℕ) (to end w : ℕ) (s : FramingOffsetSize) → Standing front l → Standing rest l
    → end ≡ to + length (layout to (elements_in rest l)) → w ≡ width_of s → Sizes front rest to end w
finish_sizes front rest l to end w s f r e q =
    let a = few front l f in
    let b = few rest l r in
    record {
      few_front = a;
      few_rest = b;
      slim = rw q (width_most s);
      ends_front = rw q (let h = times s front.count 65536 a in omega arith);
      ends_all = rw q (times s (front.count + (rest.count + 1)) 131073 (omega arith));
      low = omega arith;
      high = omega (arith, reaching_most rest l to r);
    }
