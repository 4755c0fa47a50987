-- Arrays of numbers and of readings: a law for each way out of their loops, and that they are the elements of the rules. Assumes nothing.
use mathlib.Core.Path.{◌≡◌, refl, ap, sym, ◌∙◌}
use mathlib.Core.List.{List, [], ◌∷◌}
use mathlib.Core.Bool.{Bool, true, false}
use Prim.Native.Nat.{ℕ, zero, suc, ◌+◌, ◌-◌, ◌*◌, ◌/◌, ◌%◌, ◌≤◌, ◌<◌, min}
use native.Mathlib.Omega.{arith}
use native.Mathlib.Nat.{add-zero, zero-add, suc-mul}
use lib.Dec.{leb, ltb, eqb}
use lib.ListN.{length, drop, length-drop}
use borrow.Author.Tests.{ne_eqb, le-leb, lt-leb, eqb-true, eqb-false, leb-true, leb-false}
use Rattle.meaning.specs.Choice.{pick}
use Rattle.meaning.specs.Padding.{padding, leading_zeros, Aligns}
use Rattle.meaning.specs.Numbers.{spelled}
use Rattle.meaning.specs.Depths as Depth
use Rattle.meaning.specs.Depths.{Depths, depth_refusal, opened}
use Rattle.meaning.specs.Events.{event, present, nothing}
use Rattle.meaning.specs.Outcome.{Outcome, done, refused, after, chain, unused}
use Rattle.meaning.specs.Reading.{child, child_step, within, padding_of, pad, number_in, read_number, present_in, maybe_in, read_maybe, elements}
use Rattle.meaning.proofs.PaddingLaws.{by_alignment, aligns_positive, padding_aligned, padding_none}
use Rattle.meaning.proofs.OutcomeLaws.{unpadded}
use Rattle.utils.specs.Checks as leafs
use Rattle.byte_order.specs.Standing.{number_at}
use Rattle.events.specs.Slices.{next_event, put, put_all, advance}
use Rattle.reader_basic.specs.Answers.{Done}
use Rattle.reader_runs.specs.Runs.{number_events, counted_of, numbers_from}
use Rattle.meaning.specs.Calls.{Counts}
use Rattle.reader_basic.proofs.Answers.{answer, refusing, plain, single, after_event}
use Rattle.events.proofs.SliceLaws.{advance_most, length_put, put_all_full}
use Rattle.reader_basic.proofs.Leaves.{Pads, pads_stop, pads_on}
use Rattle.meaning.proofs.Lists.{tail}
use Rattle.reader_basic.proofs.Loops.{elements_begin, elements_stop, elements_next, elements_none, elements_more}

-- ---- counting

pub counted_over : (left w n count : ℕ) → (left % w ≡ 0 → ⊥) → count ≡ min (n + left / w) 18446744073709551615 → answer 3 (left - left % w) count ≡ counted_of left w n
counted_over left w n count z e = rw (ne_eqb (left % w) 0 z, e)

pub counted_all : (left w n count : ℕ) → left % w ≡ 0 → count ≡ min (n + left / w) 18446744073709551615 → answer 0 left count ≡ counted_of left w n
counted_all left w n count z e = let q : left - 0 ≡ left = omega arith in rw (z, e, q)

pub rest_below : {w : ℕ} → Aligns w → (left : ℕ) → left % w < w
rest_below al left = by_alignment (λ w. left % w < w) (omega arith) (omega arith) (omega arith) (omega arith) al

whole_and_rest : {w : ℕ} → Aligns w → (left : ℕ) → left ≡ left / w * w + left % w
whole_and_rest al left = by_alignment (λ w. left ≡ left / w * w + left % w) (omega arith) (omega arith) (omega arith) (omega arith) al

length_numbers : (big : Bool) (kind w k : ℕ) (l : List ℕ) (m j : ℕ) → length (number_events big kind w k l m j) ≡ m
unfolding number_events
length_numbers big kind w k l zero j = refl
length_numbers big kind w k l (suc m) j = ap suc (length_numbers big kind w k l m (j + w))

-- ---- numbers that need no padding, from j to the part's end
module _ (big : Bool) (kind w k : ℕ) (part : List ℕ) (j n : ℕ) (l : List ℕ) where
  abbrev left : ℕ
  left = length part - j

  -- what is left at a place
  pub record RunLeft (at count : ℕ) (out : List ℕ) : Type 0 where
    pub bound : at ≤ length part
    pub same : length out ≡ length l
    pub more : ℕ
    pub size : length part - at ≡ more * w + left % w
    pub slice : put_all l n (number_events big kind w k part (left / w) j) ≡ put_all out count (number_events big kind w k part more at)

  pub run_begin : Aligns w → j ≤ length part → RunLeft j n l
  run_begin s h = record { bound = h; same = refl; more = left / w; size = whole_and_rest s left; slice = refl }

  module _ (at count : ℕ) (out : List ℕ) (i : RunLeft at count out) where
    pub run_next : Aligns w → (value m : ℕ) (out' : List ℕ) → w ≤ length part - at → value ≡ spelled big w at part → m ≡ next_event count → out' ≡ put out count (event kind (k + at) value)
        → RunLeft (at + w) m out'
    unfolding number_events put_all
    run_next s value m out' h e p q = go i.more i.size i.slice
      where
        b : at ≤ length part
        b = i.bound

        go : (more : ℕ) → length part - at ≡ more * w + left % w → put_all l n (number_events big kind w k part (left / w) j) ≡ put_all out count (number_events big kind w k part more at)
            → RunLeft (at + w) m out'
        go zero z f = absurd (omega (arith, rest_below s left))
        go (suc more) z f = record {
          bound = omega arith;
          same = ap length q ∙ length_put out count (event kind (k + at) value) ∙ i.same;
          more = more;
          size = omega (arith, suc-mul more w);
          slice = f ∙ rw (p, q, e);
        }

    -- the answer that was counted stands
    run_stands : n ≤ 18446744073709551615 → put_all out count (number_events big kind w k part i.more at) ≡ out → Done (numbers_from big kind w k part j) left left n l out (counted_of left w n)
    run_stands a f = record {
      refusal = refl;
      used = refl;
      fits = omega arith;
      ends = λ z. omega arith;
      count = rw (advance_most (number_events big kind w k part (left / w) j) n a, length_numbers big kind w k part (left / w) j);
      slice = sym (i.slice ∙ f);
    }

    pub run_short : (r : Counts) → r ≡ counted_of left w n → n ≤ 18446744073709551615 → length part - at < w → Done (numbers_from big kind w k part j) left left n l out r
    unfolding number_events put_all
    run_short r e a h = rw e (run_stands a (go i.more i.size))
      where
        go : (more : ℕ) → length part - at ≡ more * w + left % w → put_all out count (number_events big kind w k part more at) ≡ out
        go zero z = refl
        go (suc more) z = absurd (omega (arith, suc-mul more w))

    pub run_full : (r : Counts) → r ≡ counted_of left w n → n ≤ 18446744073709551615 → length out / 3 ≤ count → Done (numbers_from big kind w k part j) left left n l out r
    run_full r e a h = rw e (run_stands a (put_all_full (number_events big kind w k part i.more at) out count h))

-- the number that a leaf found
pub found_there : (big : Bool) (w at : ℕ) (part : List ℕ) (f : leafs.Checked) → f ≡ number_at w big part at → at ≤ length part → w ≤ length part - at → f.value ≡ spelled big w at part
unfolding number_at number_in
found_there big w at part f e b h = ap (λ x. x.value) e ∙ rw (le-leb (at + w) (length part) (omega arith))

-- ---- padding

-- a width further none is needed either
pub padding_on : {w : ℕ} → Aligns w → (p : ℕ) → padding p w ≡ 0 → padding (p + w) w ≡ 0
unfolding padding
padding_on al p h =
    by_alignment (λ w. padding p w ≡ 0 → padding (p + w) w ≡ 0) (λ h. omega arith) (λ h. omega arith) (λ h. omega arith) (λ h. omega arith) al h

padding_behind : {w : ℕ} → Aligns w → (p : ℕ) → padding (p + padding p w) w ≡ 0
padding_behind {w = w} s p = padding_none s (p + padding p w) (padding_aligned s p)

padded_by : (n k : ℕ) (l : List ℕ) → (padding_of n k l).refusal ≡ 0 → (padding_of n k l).used ≡ n
unfolding padding_of
padded_by n k l = go (ltb (length l) n) (ltb (leading_zeros l) n)
  where
    go : (x y : Bool) → (pick x (refused 3 (k + length l)) (pick y (refused 4 (k + leading_zeros l)) (done n []))).refusal ≡ 0
        → (pick x (refused 3 (k + length l)) (pick y (refused 4 (k + leading_zeros l)) (done n []))).used ≡ n
    go true y h = absurd (omega arith)
    go false true h = absurd (omega arith)
    go false false h = refl

-- a number of the array whose bytes are drop j l, where no padding is due: it stands there, or is cut
module _ (position : ℕ) (big : Bool) (kind w : ℕ) (d : Depths) (k : ℕ) (l : List ℕ) where
  pub number_to_end : (j : ℕ) → j ≤ length l → child (read_number position big kind w d) k l j (length l) ≡ read_number position big kind w d (k + j) (drop j l)
  unfolding child
  number_to_end j h = rw (le-leb j (length l) h, le-leb (length l) (length l) (omega arith), tail j l)

  module _ (j : ℕ) (h : j ≤ length l) (z : padding (position + (k + j)) w ≡ 0) where
    bare : read_number position big kind w d (k + j) (drop j l) ≡ unused (after 0 [] (number_in big kind w (k + j) (drop j l) 0))
    unfolding read_number pad chain
    bare = rw (z, unpadded (k + j) (drop j l))

    pub number_stands : w ≤ length l - j → child (read_number position big kind w d) k l j (length l) ≡ done w (event kind (k + j) (spelled big w j l) ∷ [])
    unfolding number_in unused
    number_stands b =
        let a : length (drop j l) ≡ length l - j = length-drop j l in
        rw (number_to_end j h, bare) (rw (le-leb (0 + w) (length (drop j l)) (omega (arith, a))) (rw (zero-add w, add-zero (k + j))))

    pub number_cut : length l - j < w → child (read_number position big kind w d) k l j (length l) ≡ refused 3 (k + j + 0)
    unfolding number_in unused
    number_cut b =
        let a : length (drop j l) ≡ length l - j = length-drop j l in
        rw (number_to_end j h, bare) (rw (lt-leb (0 + w) (length (drop j l)) (omega (arith, a))))

-- what a number that is done has used
number_used : (position : ℕ) (big : Bool) (kind w : ℕ) (d : Depths) (k : ℕ) (l : List ℕ) → (read_number position big kind w d k l).refusal ≡ 0 → (read_number position big kind w d k l).used ≡ padding (position + k) w + w
unfolding read_number pad padding_of chain unused number_in
number_used position big kind w d k l = go (ltb (length l) (padding (position + k) w)) (ltb (leading_zeros l) (padding (position + k) w)) (leb (padding (position + k) w + w) (length l)) refl refl refl
  where
    go : (x y z : Bool) → ltb (length l) (padding (position + k) w) ≡ x → ltb (leading_zeros l) (padding (position + k) w) ≡ y → leb (padding (position + k) w + w) (length l) ≡ z
        → (read_number position big kind w d k l).refusal ≡ 0 → (read_number position big kind w d k l).used ≡ padding (position + k) w + w
    go true y z a b c h = absurd (let q : (read_number position big kind w d k l).refusal ≡ 3 = rw a in omega (arith, h))
    go false true z a b c h = absurd (let q : (read_number position big kind w d k l).refusal ≡ 4 = rw (a, b) in omega (arith, h))
    go false false true a b c h = rw (a, b) (rw c)
    go false false false a b c h = absurd (let q : (read_number position big kind w d k l).refusal ≡ 3 = rw (a, b) (rw c) in omega (arith, h))

-- ---- the elements of the rules are those numbers
module _ (position : ℕ) (big : Bool) (kind w : ℕ) (s : Aligns w) (d : Depths) (k : ℕ) (l : List ℕ) (b : ℕ) where
  abbrev step : ℕ → ℕ → Outcome
  step = child_step (read_number position big kind w) d k l b

  -- m numbers from j on, and x bytes that are too few for one
  record Numbers (o : Outcome) (m x j : ℕ) : Type 0 where
    refusal : o.refusal ≡ pick (eqb x 0) 0 3
    used : o.used ≡ m * w
    events : o.events ≡ number_events big kind w k l m j

  numbers_are : (m x more j : ℕ) → x < w → length l - j ≡ m * w + x → j ≤ length l → length l - j ≤ more → padding (position + (k + j)) w ≡ 0 → Numbers (elements more step (length l) j) m x j
  unfolding number_events child_step chain
  numbers_are zero x more j c e h g z = go (eqb x 0) refl
    where
      go : (t : Bool) → eqb x 0 ≡ t → Numbers (elements more step (length l) j) zero x j
      go true q =
          let y = eqb-true x 0 q in
          rw (elements_none step l 0 0 [] more j (omega arith)) (record { refusal = rw q; used = omega arith; events = refl })
      go false q =
          let y = eqb-false x 0 q in
          rw (elements_more step l 0 0 [] more j (omega arith) g) (rw (number_cut position big kind w d k l j h z (omega arith)) (record { refusal = rw q; used = omega arith; events = refl }))
  numbers_are (suc m) x more j c e h g z =
      let p = aligns_positive s in
      let v = suc-mul m w in
      let a : position + (k + j) + w ≡ position + (k + (j + w)) = omega arith in
      let i = numbers_are m x (more - 1) (j + w) c (omega arith) (omega arith) (omega arith) (rw (← a) (padding_on s (position + (k + j)) z)) in
      rw (elements_more step l 0 0 [] more j (omega arith) g) (rw (number_stands position big kind w d k l j h z (omega arith))
      (record { refusal = i.refusal; used = omega (arith, i.used); events = ap (λ x. event kind (k + j) (spelled big w j l) ∷ x) i.events }))

  -- as an answer
  pub numbers_done : (more j end len n : ℕ) (out out' : List ℕ) (r : Counts) → j ≤ length l → length l - j ≤ more → padding (position + (k + j)) w ≡ 0
      → Done (numbers_from big kind w k l j) end len n out out' r → Done (elements more step (length l) j) end len n out out' r
  numbers_done more j end len n out out' r h g z q =
      let left = length l - j in
      let i = numbers_are (left / w) (left % w) more j (rest_below s left) (whole_and_rest s left) h g z in
      record {
        refusal = q.refusal ∙ sym i.refusal;
        used = q.used ∙ omega (arith, i.used, whole_and_rest s left);
        fits = q.fits;
        ends = q.ends;
        count = q.count ∙ ap (advance n) (sym i.events);
        slice = q.slice ∙ ap (put_all out n) (sym i.events);
      }

  -- ---- the ways out of numbers
  module _ (lead n : ℕ) (out : List ℕ) where
    abbrev all : Outcome
    all = elements (length l) step (length l) lead

    pub numbers_none : length l ≤ lead → Done all (length l - lead) (length l - lead) n out out (answer 0 0 n)
    numbers_none h = rw (elements_none step l lead n out (length l) lead h) (plain 0 _ _ n out (omega arith) (omega arith))

    module _ (h : lead < length l) (r : Counts) (out₁ : List ℕ) (f : Done (read_number position big kind w d (k + lead) (drop lead l)) (length (drop lead l)) (length (drop lead l)) n out out₁ r) where
      -- the first as a step
      first_step : Done (step (lead + 0) (length l)) (length l - (lead + 0)) (length l - (lead + 0)) n out out₁ r
      unfolding child_step
      first_step =
          let a : length (drop lead l) ≡ length l - lead = length-drop lead l in
          let y : lead + 0 ≡ lead = omega arith in
          rw (y, number_to_end position big kind w d k l lead (omega arith), ← a) f

      pub numbers_stop : (r.refusal ≡ 0 → ⊥) → Done all (length l - lead) (length l - lead) n out out₁ r
      numbers_stop z = rw (zero-add r.used) at (elements_stop step l lead n out 0 n out (elements_begin step l lead n out (omega arith)) (omega arith) r out₁ first_step z)

      pub numbers_padded : r.refusal ≡ 0 → padding (position + (k + (lead + r.used))) w ≡ 0
      numbers_padded z =
          let u = f.used ∙ number_used position big kind w d (k + lead) (drop lead l) (sym f.refusal ∙ z) in
          let a : position + (k + lead) + padding (position + (k + lead)) w + w ≡ position + (k + (lead + r.used)) = omega arith in
          rw (← a) (padding_on s (position + (k + lead) + padding (position + (k + lead)) w) (padding_behind s (position + (k + lead))))

      pub numbers_on : (q : Counts) (out₂ : List ℕ) → r.refusal ≡ 0
          → Done (numbers_from big kind w k l (lead + r.used)) (length l - (lead + r.used)) (length l - (lead + r.used)) r.count out₁ out₂ q
          → Done all (length l - lead) (length l - lead) n out out₂ (answer q.refusal (r.used + q.used) q.count)
      numbers_on q out₂ z g =
          let u = f.used ∙ number_used position big kind w d (k + lead) (drop lead l) (sym f.refusal ∙ z) in
          let i = elements_next step l lead n out 0 n out (elements_begin step l lead n out (omega arith)) (omega arith) r out₁ first_step z (omega (arith, aligns_positive s, u)) in
          let y : 0 + r.used ≡ r.used = omega arith in
          rw y at (i.rest.whole out₂ q (rw y (numbers_done i.more (lead + r.used) _ _ r.count out₁ out₂ q (omega (arith, i.bound)) (omega (arith, i.enough)) (numbers_padded z) g)))

-- ---- the ways out of a reading
module _ (position : ℕ) (big : Bool) (kind w : ℕ) (s : Aligns w) (d : Depths) (k n : ℕ) (l out : List ℕ) (r : leafs.Checked) (p : Pads (pad position w k l) (length l) r) where
  abbrev inside : ℕ → Outcome
  inside = maybe_in true (read_number position big kind w) d k l

  abbrev this : Outcome
  this = read_maybe position w true (read_number position big kind w) d k l

  pub reading_unpadded : (r.refusal ≡ 0 → ⊥) → Done this (length l) (length l) n out out (answer r.refusal 0 n)
  unfolding read_maybe
  reading_unpadded z = pads_stop inside (length l) (length l) n out p z

  module _ (z : r.refusal ≡ 0) where
    -- what stands behind the padding
    behind : (out' : List ℕ) (q : Counts) → Done (inside r.value) (length l - r.value) (length l - r.value) n out out' q → Done this (length l) (length l) n out out' (answer q.refusal (r.value + q.used) q.count)
    unfolding read_maybe
    behind out' q g =
        let f = p.fits in
        pads_on inside (length l) (length l) n out p (length l - r.value) (length l - r.value) z (omega arith) (omega arith) out' q g

    pub reading_nothing : (m : ℕ) (out' : List ℕ) → length l ≤ r.value → m ≡ next_event n → out' ≡ put out n (event 78 (k + r.value) 0) → Done this (length l) (length l) n out out' (answer 0 r.value m)
    unfolding maybe_in
    reading_nothing m out' h a b =
        rw (add-zero r.value) at (behind out' (answer 0 0 m) (rw (le-leb (length l) r.value h) (single 0 _ _ n m out out' (nothing (k + r.value)) (omega arith) (omega arith) a b)))

    module _ (h : r.value < length l) where
      pub reading_deep : (deep : ℕ) → depth_refusal (opened Depth.maybe d) ≡ deep → (deep ≡ 0 → ⊥) → Done this (length l) (length l) n out out (answer deep r.value n)
      unfolding maybe_in within
      reading_deep deep e y =
          rw (add-zero r.value) at (behind out (answer deep 0 n) (rw (lt-leb (length l) r.value h) (rw e (rw (ne_eqb deep 0 y) (refusing deep (k + r.value) _ _ n out y)))))

      module _ (e : depth_refusal (opened Depth.maybe d) ≡ 0) (m : ℕ) (out₁ : List ℕ) (a : m ≡ next_event n) (b : out₁ ≡ put out n (event 109 (k + r.value) 0)) where
        -- the number itself
        present_by : (out' : List ℕ) (q : Counts) → Done (child (read_number position big kind w (opened Depth.maybe d)) k l r.value (length l)) (length l - r.value) (length l - r.value) m out₁ out' q
            → Done this (length l) (length l) n out out' (answer q.refusal (r.value + q.used) q.count)
        unfolding maybe_in within present_in
        present_by out' q g =
            behind out' q (rw (lt-leb (length l) r.value h) (rw e (after_event _ _ n m out out₁ out' (present (k + r.value)) _ q a b g)))

        aligned_there : padding (position + (k + r.value)) w ≡ 0
        unfolding pad
        aligned_there =
            let v : (padding_of (padding (position + k) w) k l).refusal ≡ 0 = ap (λ x. x.refusal) (p.there z) in
            let u : r.value ≡ padding (position + k) w = sym (ap (λ x. x.used) (p.there z)) ∙ padded_by (padding (position + k) w) k l v in
            let g : position + k + padding (position + k) w ≡ position + (k + r.value) = omega arith in
            rw (← g) (padding_behind s (position + k))

        pub reading_short : (f : leafs.Checked) → f ≡ number_at w big l r.value → (f.refusal ≡ 0 → ⊥) → Done this (length l) (length l) n out out₁ (answer f.refusal r.value m)
        unfolding number_at number_in
        reading_short f x y = go (leb (r.value + w) (length l)) refl
          where
            go : (t : Bool) → leb (r.value + w) (length l) ≡ t → Done this (length l) (length l) n out out₁ (answer f.refusal r.value m)
            go true q = let v : f.refusal ≡ 0 = ap (λ x. x.refusal) x ∙ rw q in absurd (y v)
            go false q =
                let v = leb-false (r.value + w) (length l) q in
                let u : f.refusal ≡ 3 = ap (λ x. x.refusal) x ∙ rw q in
                rw u (rw (add-zero r.value) at (present_by out₁ (answer 3 0 m) (rw (number_cut position big kind w (opened Depth.maybe d) k l r.value (omega arith) aligned_there (omega arith)) (refusing 3 _ _ _ m out₁ (λ t. omega arith)))))

        pub reading_there : (f : leafs.Checked) (c : ℕ) (out' : List ℕ) → f ≡ number_at w big l r.value → f.refusal ≡ 0 → c ≡ next_event m → out' ≡ put out₁ m (event kind (k + r.value) f.value)
            → Done this (length l) (length l) n out out' (answer 0 (r.value + w) c)
        unfolding number_at number_in
        reading_there f c out' x y i j = go (leb (r.value + w) (length l)) refl
          where
            go : (t : Bool) → leb (r.value + w) (length l) ≡ t → Done this (length l) (length l) n out out' (answer 0 (r.value + w) c)
            go true q =
                let v = leb-true (r.value + w) (length l) q in
                let u : f.value ≡ spelled big w r.value l = ap (λ x. x.value) x ∙ rw q in
                present_by out' (answer 0 w c) (rw (number_stands position big kind w (opened Depth.maybe d) k l r.value (omega arith) aligned_there (omega arith))
                (single w _ _ m c out₁ out' _ (omega arith) (omega arith) i (j ∙ ap (λ x. put out₁ m (event kind (k + r.value) x)) u)))
            go false q = let v : f.refusal ≡ 3 = ap (λ x. x.refusal) x ∙ rw q in absurd (omega arith)
