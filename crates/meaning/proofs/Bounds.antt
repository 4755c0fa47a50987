-- On all frames whatsoever: no reader uses more than its part, and the events are few, by the bytes used and the depth left.
-- Assumes nothing.
use mathlib.Core.Path.{◌≡◌, refl, ap}
use mathlib.Core.List.{List, [], ◌∷◌}
use mathlib.Core.Option.{Option, none, some}
use mathlib.Core.Bool.{Bool, true, false, ◌&&◌, ◌||◌, false≢true}
use Prim.Native.Nat.{ℕ, zero, suc, ◌+◌, ◌*◌, ◌-◌, ◌/◌, ◌%◌, ◌≤◌, ◌<◌, min, max}
use native.Mathlib.Nat.{zero-add, mul-add, add-mul, mul-suc, mul-le-mul_left, div-mul-le_self}
use native.Mathlib.Omega.{arith}
use lib.Dec.{T, leb, ltb, eqb, leb→le}
use lib.ListN.{length, take, drop, get_or, length-drop}
use borrow.Author.Tests.{eqb-true, eqb-false, leb-true, leb-false, ltb-false}
use Rattle.meaning.specs.Choice.{pick}
use Rattle.meaning.specs.Numbers.{value, ordered}
use Rattle.meaning.specs.Padding.{padding, leading_zeros}
use Rattle.meaning.specs.Offsets.{Table, encoded_width, last_offset, entries, none_above, table_from, table_of, ends_of, table_stands}
use Rattle.meaning.specs.Texts.{without_final_nul, text_refusal}
use Rattle.meaning.specs.Depths as Depth
use Rattle.meaning.specs.Depths.{Depths, Opened, total, depth_refusal, opened, none_open}
use Rattle.meaning.specs.Types.{Basic, bool, number, text, Tree, Fields, basic, variant, maybe, array, dictionary, structure, last, next, number_width, basic_alignment, basic_fixed, alignment, largest_alignment, fixed, all_fixed}
use Rattle.meaning.specs.Letters.{number_letter, text_letter}
use Rattle.meaning.specs.TypeText.{type_of}
use Rattle.meaning.specs.Events.{event, text_event, present, nothing}
use Rattle.meaning.specs.Outcome.{Outcome, done, refused, chain, passing, enclosed}
use Rattle.meaning.specs.Reading.{Reader, child, within, padding_of, text_as, read_text, read_bool, number_in, end_byte, present_in, maybe_in, further, elements, elements_to, Step, tabled, array_body, array_in, child_step, Field, offset_stands, field_offset, last_nul, separator, remaining, variant_value, variant_type, variant_typed, variant_body, variant_in, pad, read_number, read_basic, read_maybe, read_array, end_padding, fields_in, structure_body, structure_in, read_structure, value_from, fixed_key, value_before, key_to, text_key, entry_from, read_entry, entry_step, read_variant, read_tree, readers, reading}
use Rattle.meaning.specs.Limits.{largest_frame, most_variants}
use Rattle.meaning.specs.Refusals.{room_too_small}
use Rattle.meaning.specs.Calls.{frame_of, frame_reading, Counts, counts, sized, fitted, size, read}
use Rattle.meaning.proofs.Tests.{both_left, both_right, from_test}
use Rattle.meaning.proofs.DepthLaws.{limits}
use Rattle.meaning.proofs.OffsetLaws.{encoded_width_positive}
use Rattle.meaning.proofs.TypeLaws.{number_positive}
use Rattle.meaning.proofs.Kept.{Kept, kept_done, kept_refused, kept_more, kept_chain, kept_bytes, kept_event, kept_enclosed, kept_unused, kept_padded, Whole, kept_child}

-- ---- the depth left

-- events for each byte: two for each container that may still be opened, and one
unfoldable pub cost : Depths → ℕ
cost d = 2 * (64 - total d) + 1

-- what is fixed in size pays with its own bytes; anything else may be of no bytes
abbrev pub free : Bool → ℕ → ℕ
free true c = 0
free false c = c

abbrev pub least : Bool → ℕ
least true = 1
least false = 0

pub total_opened : (x : Opened) (d : Depths) → total (opened x d) ≡ total d + 1
total_opened Depth.structure d = omega arith
total_opened Depth.array d = omega arith
total_opened Depth.variant d = omega arith
total_opened Depth.maybe d = omega arith

pub total_most : (d : Depths) → depth_refusal d ≡ 0 → total d ≤ 64
total_most d h = (limits d.structure d.array d.variant d.maybe h).total

cost_opened : (x : Opened) (d : Depths) → depth_refusal (opened x d) ≡ 0 → cost d ≡ cost (opened x d) + 2
unfolding cost
cost_opened x d h = omega (arith, total_opened x d, total_most (opened x d) h)

pub cost_positive : (d : Depths) → 0 < cost d
unfolding cost
cost_positive d = omega arith

-- a reader keeps its bounds at every depth
abbrev pub Bounded : Bool → Reader → Type 0
Bounded fx read = (d : Depths) → Whole (least fx) (cost d) (free fx (cost d)) (read d)

-- inside a container: its events are paid for by what it adds to the cost, or by a byte
kept_within : {j m n b e p : ℕ} (x : Opened) (d : Depths) (k : ℕ) (inside : Depths → Outcome) → j ≤ n
    → (depth_refusal (opened x d) ≡ 0 → cost d ≡ cost (opened x d) + 2 → Kept j m n b (cost d) e p (inside (opened x d))) → Kept j m n b (cost d) e p (within (opened x d) k inside)
unfolding within
kept_within {j} {m} {n} {b} {e} {p} x d k inside h g = go (eqb (depth_refusal (opened x d)) 0) refl
  where
    go : (y : Bool) → eqb (depth_refusal (opened x d)) 0 ≡ y → Kept j m n b (cost d) e p (pick y (inside (opened x d)) (refused (depth_refusal (opened x d)) k))
    go true q = let z = eqb-true (depth_refusal (opened x d)) 0 q in g z (cost_opened x d z)
    go false q = kept_refused (depth_refusal (opened x d)) k (eqb-false (depth_refusal (opened x d)) 0 q) h

-- ---- padding

kept_padding_of : {j n c : ℕ} (a k : ℕ) (l : List ℕ) → j + length l ≤ n → Kept j n n 0 c 0 0 (padding_of a k l)
unfolding padding_of
kept_padding_of {j} {n} {c} a k l h = go (ltb (length l) a) (ltb (leading_zeros l) a) refl
  where
    go : (x y : Bool) → ltb (length l) a ≡ x → Kept j n n 0 c 0 0 (pick x (refused 3 (k + length l)) (pick y (refused 4 (k + leading_zeros l)) (done a [])))
    go true y q = kept_refused 3 (k + length l) (λ z. omega arith) (omega arith)
    go false true q = kept_refused 4 (k + leading_zeros l) (λ z. omega arith) (omega arith)
    go false false q = let w = ltb-false (length l) a q in kept_done a [] (omega arith) (omega arith) (omega arith) (omega arith)

kept_text : {j m n c e : ℕ} (kind k : ℕ) (t : List ℕ) → j ≤ m → j ≤ n → 1 ≤ e → Kept j m n 0 c e 0 (text_as kind k t)
unfolding text_as
kept_text {j} {m} {n} {c} {e} kind k t h i g = go (eqb (text_refusal t) 0) refl
  where
    go : (x : Bool) → eqb (text_refusal t) 0 ≡ x → Kept j m n 0 c e 0 (pick x (done 0 (text_event kind k t ∷ [])) (refused (text_refusal t) k))
    go true q = kept_done 0 (text_event kind k t ∷ []) (omega arith) (omega arith) (omega arith) (omega arith)
    go false q = kept_refused (text_refusal t) k (eqb-false (text_refusal t) 0 q) i

module _ (position : ℕ) where
  kept_pad : {j n c : ℕ} (a k : ℕ) (l : List ℕ) → j + length l ≤ n → Kept j n n 0 c 0 0 (pad position a k l)
  unfolding pad
  kept_pad a k l h = kept_padding_of (padding (position + k) a) k l h

  -- behind padding
  kept_behind : {b c e : ℕ} (a k : ℕ) (l : List ℕ) (f : ℕ → Outcome) → ((n : ℕ) → n ≤ length l → Kept n (length l) (length l) b c e 0 (f n)) → Kept 0 (length l) (length l) b c e 0 (chain (pad position a k l) f)
  kept_behind {b} {c} {e} a k l f g = kept_chain {b₁ = 0} {b₂ = b} {e₁ = 0} {e₂ = e} {p₁ = 0} {p₂ = 0} (pad position a k l) f (kept_pad a k l (omega arith)) (λ u h i. rw zero-add (g u (omega arith))) (omega arith) (omega arith)

  -- ---- basic values

  number_bounded : (big : Bool) (kind w : ℕ) → 0 < w → Bounded true (read_number position big kind w)
  unfolding read_number number_in
  number_bounded big kind w hw d k l = kept_unused (chain (pad position w k l) (number_in big kind w k l)) (kept_behind w k l (number_in big kind w k l) (λ n h. go n h (leb (n + w) (length l)) refl))
    where
      go : (n : ℕ) → n ≤ length l → (x : Bool) → leb (n + w) (length l) ≡ x
          → Kept n (length l) (length l) 1 (cost d) 0 0 (pick x (done w (event kind (k + n) (value (ordered big (take w (drop n l)))) ∷ [])) (refused 3 (k + n)))
      go n h true q =
          let v = leb-true (n + w) (length l) q in
          kept_done w _ (omega arith) (omega arith) (omega arith) (omega (arith, cost_positive d, mul-le-mul_left (cost d) hw))
      go n h false q = kept_refused 3 (k + n) (λ z. omega arith) h

  bool_bounded : Bounded true read_bool
  unfolding read_bool
  bool_bounded d k l = go (eqb (length l) 0) refl
    where
      go : (x : Bool) → eqb (length l) 0 ≡ x → Kept 0 (length l) (length l) 1 (cost d) 0 0 (pick x (refused 3 k) (done 1 (event 98 k (pick (eqb (get_or l 0 0) 0) 0 1) ∷ [])))
      go true q = kept_refused 3 k (λ z. omega arith) (omega arith)
      go false q = kept_done 1 _ (omega (arith, eqb-false (length l) 0 q)) (omega (arith, eqb-false (length l) 0 q)) (omega arith) (omega (arith, cost_positive d))

  text_bounded : (kind : ℕ) → Bounded false (read_text kind)
  unfolding read_text
  text_bounded kind d k l =
      kept_more {m = length l} {b = length l + 0} {c = cost d} {e = cost d} (omega arith) (omega arith) (omega arith) (omega arith)
      (kept_bytes (length l) (text_as kind k (without_final_nul l)) (kept_text kind k (without_final_nul l) (omega arith) (omega arith) (cost_positive d)))

  pub basic_bounded : (big : Bool) (b : Basic) → Bounded (basic_fixed b) (read_basic position big b)
  unfolding read_basic
  basic_bounded big bool = bool_bounded
  basic_bounded big (number c) = number_bounded big (number_letter c) (number_width c) (number_positive c)
  basic_bounded big (text c) = text_bounded (text_letter c)

  -- ---- maybes

  kept_end_byte : {c : ℕ} (k : ℕ) (l : List ℕ) (n u : ℕ) → n + u + 1 ≤ length l → Kept (n + u) (length l) (length l) 0 c 0 0 (end_byte k l n u)
  unfolding end_byte
  kept_end_byte {c} k l n u h = go (eqb (get_or l (n + u) 1) 0)
    where
      go : (x : Bool) → Kept (n + u) (length l) (length l) 0 c 0 0 (pick x (done 1 []) (refused 7 (k + (n + u))))
      go true = kept_done 1 [] h h (omega arith) (omega arith)
      go false = kept_refused 7 (k + (n + u)) (λ z. omega arith) (omega arith)

  kept_present : (fx : Bool) (read : Reader) → Bounded fx read → (k : ℕ) (l : List ℕ) (n : ℕ) (d : Depths) → n < length l → Kept n (length l) (length l) 0 (cost d) (cost d + 1) 0 (present_in fx read k l n d)
  unfolding present_in
  kept_present true read w k l n d h =
      kept_event (present (k + n)) (child (read d) k l n (length l))
      (kept_more {m = min (length l) (length l)} {b = 1} {c = cost d} {e = 0} (omega arith) (omega arith) (omega arith) (omega arith) (kept_child (read d) (w d) k l n (length l) (omega arith)))
  kept_present false read w k l n d h =
      kept_event (present (k + n)) (chain (child (read d) k l n (length l - 1)) (end_byte k l n))
      (kept_chain {m = min (length l - 1) (length l)} {b₁ = 0} {b₂ = 0} {e₁ = cost d} {e₂ = 0} {p₁ = 0} {p₂ = 0} (child (read d) k l n (length l - 1)) (end_byte k l n) (kept_child (read d) (w d) k l n (length l - 1) (omega arith))
      (λ u g i. kept_end_byte k l n u (omega arith)) (omega arith) (omega arith))

  maybe_bounded : (a : ℕ) (fx : Bool) (read : Reader) → Bounded fx read → Bounded false (read_maybe position a fx read)
  unfolding read_maybe maybe_in
  maybe_bounded a fx read w d k l = kept_behind a k l (maybe_in fx read d k l) (λ n h. go n h (leb (length l) n) refl)
    where
      go : (n : ℕ) → n ≤ length l → (x : Bool) → leb (length l) n ≡ x
          → Kept n (length l) (length l) 0 (cost d) (cost d) 0 (pick x (done 0 (nothing (k + n) ∷ [])) (within (opened Depth.maybe d) (k + n) (present_in fx read k l n)))
      go n h true q = kept_done 0 (nothing (k + n) ∷ []) (omega arith) (omega arith) (omega arith) (omega (arith, cost_positive d))
      go n h false q = kept_within Depth.maybe d (k + n) (present_in fx read k l n) h (λ z e.
          kept_more {m = length l} {b = 0} {c = cost (opened Depth.maybe d)} {e = cost (opened Depth.maybe d) + 1} {p = 0} (omega arith) (omega arith) (omega arith) (omega arith)
          (kept_present fx read w k l n (opened Depth.maybe d) (leb-false (length l) n q)))

-- ---- arrays and dictionaries

-- a step over a part of so many bytes
abbrev pub StepKept : Bool → (ℕ → ℕ → Outcome) → ℕ → ℕ → Type 0
StepKept true step len c = (j : ℕ) → j ≤ len → Kept j len len 1 c 0 0 (step j len)
StepKept false step len c = (j e : ℕ) → j ≤ len → e ≤ len → Kept j e len 0 c c 0 (step j e)

kept_elements : {c : ℕ} (n : ℕ) (step : ℕ → ℕ → Outcome) (len : ℕ) → StepKept true step len c → (j : ℕ) → j ≤ len → Kept j len len 0 c 0 0 (elements n step len j)
unfolding elements
kept_elements {c} zero step len w j h = go (leb len j)
  where
    go : (x : Bool) → Kept j len len 0 c 0 0 (pick x (done 0 []) (refused 3 0))
    go true = kept_done 0 [] (omega arith) (omega arith) (omega arith) (omega arith)
    go false = kept_refused 3 0 (λ z. omega arith) h
kept_elements {c} (suc n) step len w j h = go (leb len j) (λ j h. kept_elements n step len w j h)
  where
    go : (x : Bool) → ((j : ℕ) → j ≤ len → Kept j len len 0 c 0 0 (elements n step len j)) → Kept j len len 0 c 0 0 (pick x (done 0 []) (chain (step j len) (further (elements n step len) j)))
    go true r = kept_done 0 [] (omega arith) (omega arith) (omega arith) (omega arith)
    go false r = kept_chain {b₁ = 1} {b₂ = 0} {e₁ = 0} {e₂ = 0} {p₁ = 0} {p₂ = 0} (step j len) (further (elements n step len) j) (w j h) (λ u g i. r (j + u) i) (omega arith) (omega arith)

kept_elements_to : {c : ℕ} (step : ℕ → ℕ → Outcome) (len : ℕ) → StepKept false step len c → (n s : ℕ) (es : List ℕ) → n + s ≤ len → none_above s es ≡ true → (j : ℕ) → j ≤ n + s
    → Kept j (n + s) len 0 c (c * length es) 0 (elements_to step n es j)
unfolding elements_to none_above
kept_elements_to step len w n s [] h a j g = kept_done 0 [] (omega arith) (omega arith) (omega arith) (omega arith)
kept_elements_to {c} step len w n s (e ∷ es) h a j g = go (leb e s) (none_above s es) refl refl a (λ j g a. kept_elements_to step len w n s es h a j g)
  where
    go : (x y : Bool) → leb e s ≡ x → none_above s es ≡ y → (x && y) ≡ true → ((j : ℕ) → j ≤ n + s → none_above s es ≡ true → Kept j (n + s) len 0 c (c * length es) 0 (elements_to step n es j))
        → Kept j (n + s) len 0 c (c * length (e ∷ es)) 0 (chain (step j (n + e)) (further (elements_to step n es) j))
    go true true p q a r =
        let i = leb-true e s p in
        kept_chain {m = n + e} {b₁ = 0} {b₂ = 0} {e₁ = c} {e₂ = c * length es} {p₁ = 0} {p₂ = 0} (step j (n + e)) (further (elements_to step n es) j) (w j (n + e) (omega arith) (omega arith))
        (λ u g' i'. r (j + u) (omega arith) q) (omega arith) (omega (arith, mul-suc c (length es)))
    go true false p q a r = absurd (false≢true a)
    go false y p q a r = absurd (false≢true a)

kept_passing : {j m n c : ℕ} (t u : ℕ) → j + t ≤ m → j + t ≤ n → Kept j m n t c 0 (c * t) (passing t u)
kept_passing t u h i = kept_done t [] h i (omega arith) (omega arith)

pub length_entries : (n w : ℕ) (l : List ℕ) → length (entries n w l) ≡ n
unfolding entries
length_entries zero w l = refl
length_entries (suc n) w l = ap suc (length_entries n w (drop w l))

-- the table has a byte at least for each entry
count_most : (l : List ℕ) → (table_of l).count ≤ length l - (table_of l).start
unfolding table_of table_from
count_most l =
    let w : ℕ = encoded_width (length l) in
    let n : ℕ = length l - last_offset w l in
    let a = div-mul-le_self n w in
    omega (arith, mul-le-mul_left (n / w) (encoded_width_positive (length l)))

-- what a table says that stands
record Stands (t : Table) (l : List ℕ) : Type 0 where
  starts : t.start ≤ length l
  below : none_above t.start (ends_of t l) ≡ true

stands : (t : Table) (l : List ℕ) → table_stands t l ≡ true → Stands t l
unfolding table_stands
stands t l h = go (leb t.start (length l)) (eqb ((length l - t.start) % t.width) 0) (none_above t.start (ends_of t l)) refl refl h
  where
    go : (x y z : Bool) → leb t.start (length l) ≡ x → none_above t.start (ends_of t l) ≡ z → (x && (y && z)) ≡ true → Stands t l
    go true true true p q a = record { starts = leb-true t.start (length l) p; below = q }
    go true true false p q a = absurd (false≢true a)
    go true false z p q a = absurd (false≢true a)
    go false y z p q a = absurd (false≢true a)

pub length_ends : (t : Table) (l : List ℕ) → length (ends_of t l) ≡ t.count
unfolding ends_of
length_ends t l = length_entries t.count t.width (drop t.start l)

kept_tabled : (kind : ℕ) (step : Step) (k : ℕ) (l : List ℕ) (n : ℕ) (d : Depths) (t : Table) → n ≤ length l → t.count ≤ length (drop n l) - t.start
    → ((b : ℕ) → b ≤ length l → StepKept false (step d k l b) (length l) (cost d)) → Kept n (length l) (length l) 0 (cost d) 2 0 (tabled kind step k l n d t)
unfolding tabled
kept_tabled kind step k l n d t h c w = go (table_stands t (drop n l)) refl
  where
    go : (x : Bool) → table_stands t (drop n l) ≡ x
        → Kept n (length l) (length l) 0 (cost d) 2 0
        (pick x (enclosed kind (k + n) (chain (elements_to (step d k l (n + t.start)) n (ends_of t (drop n l)) n) (passing (length l - (n + t.start))))) (refused 3 (k + n)))
    go true q =
        let s = stands t (drop n l) q in
        let size = length-drop n l in
        let count = length_ends t (drop n l) in
        let a = s.starts in
        let m : n + t.start ≤ length l = omega arith in
        let g : length (ends_of t (drop n l)) ≤ length l - (n + t.start) = omega arith in
        let body = elements_to (step d k l (n + t.start)) n (ends_of t (drop n l)) n in
        kept_enclosed {e = 0} kind (k + n) (chain body (passing (length l - (n + t.start))))
        (kept_chain {m = n + t.start} {b₁ = 0} {b₂ = length l - (n + t.start)} {e₁ = cost d * length (ends_of t (drop n l))} {e₂ = 0} {p₁ = 0} {p₂ = cost d * (length l - (n + t.start))}
        body (passing (length l - (n + t.start)))
        (kept_elements_to (step d k l (n + t.start)) (length l) (w (n + t.start) m) n t.start (ends_of t (drop n l)) m s.below n (omega arith))
        (λ u i i'. kept_passing (length l - (n + t.start)) u (omega arith) (omega arith)) (omega arith) (omega (arith, mul-le-mul_left (cost d) g)))
    go false q = kept_refused 3 (k + n) (λ z. omega arith) h

module _ (position : ℕ) where
  array_bounded : (kind a : ℕ) (fx : Bool) (step : Step) → ((d : Depths) (k : ℕ) (l : List ℕ) (b : ℕ) → b ≤ length l → StepKept fx (step d k l b) (length l) (cost d))
      → Bounded false (read_array position kind a fx step)
  unfolding read_array array_in array_body
  array_bounded kind a true step w d k l = kept_behind position a k l (array_in kind true step d k l) (λ n h.
      kept_within Depth.array d (k + n) (array_body kind true step k l n) h (λ z e.
      (let d' : Depths = opened Depth.array d in
      kept_more {m = length l} {b = 0} {c = cost d'} {e = 2} {p = 0} (omega arith) (omega arith) (omega arith) (omega arith)
      (kept_enclosed {e = 0} kind (k + n) (elements (length l) (step d' k l (length l)) (length l) n)
      (kept_elements (length l) (step d' k l (length l)) (length l) (w d' k l (length l) (omega arith)) n h)))))
  array_bounded kind a false step w d k l = kept_behind position a k l (array_in kind false step d k l) (λ n h.
      kept_within Depth.array d (k + n) (array_body kind false step k l n) h (λ z e.
      (let d' : Depths = opened Depth.array d in
      kept_more {m = length l} {b = 0} {c = cost d'} {e = 2} {p = 0} (omega arith) (omega arith) (omega arith) (omega arith)
      (kept_tabled kind step k l n d' (table_of (drop n l)) h (count_most (drop n l)) (λ b i. w d' k l b i)))))

  -- a child's reader as a step
  pub child_step_lem : (fx : Bool) (read : Reader) → Bounded fx read → (d : Depths) (k : ℕ) (l : List ℕ) (b : ℕ) → StepKept fx (child_step read d k l b) (length l) (cost d)
  unfolding child_step
  child_step_lem true read w d k l b = λ j h. kept_more {m = min (length l) (length l)} {b = 1} {c = cost d} {e = 0} {p = 0} (omega arith) (omega arith) (omega arith) (omega arith) (kept_child (read d) (w d) k l j (length l) h)
  child_step_lem false read w d k l b = λ j e h g. kept_more {m = min e (length l)} {b = 0} {c = cost d} {e = cost d} {p = 0} (omega arith) (omega arith) (omega arith) (omega arith) (kept_child (read d) (w d) k l j e h)

  -- ---- structures

  kept_end_padding : {j b c e p : ℕ} (a k : ℕ) (l : List ℕ) (o : Outcome) → Kept j (length l) (length l) b c e p o → Kept j (length l) (length l) b c e p (end_padding position true a k l j o)
  unfolding end_padding
  kept_end_padding {j} a k l o g =
      let i = g.inside in
      kept_padded {b₂ = 0} o (pad position a (k + (j + o.used)) (drop (j + o.used) l)) g
      (kept_pad position a (k + (j + o.used)) (drop (j + o.used) l) (omega (arith, length-drop (j + o.used) l)))

  -- fields that keep their bounds, all of them fixed if the structure is
  data Row (fx : Bool) : List Field → Type 0 where
    end : Row fx []
    more : {f : Field} {fs : List Field} → Bounded f.fixed f.reader → (T fx → f.fixed ≡ true) → Row fx fs → Row fx (f ∷ fs)

  -- a field's child, by whether it is fixed
  kept_field : (f : Field) (b : Bool) → f.fixed ≡ b → Bounded f.fixed f.reader → (d : Depths) (k : ℕ) (l : List ℕ) (j e : ℕ) → j ≤ length l
      → Kept j (min e (length l)) (length l) (least b) (cost d) (free b (cost d)) 0 (child (f.reader d) k l j e)
  kept_field f b q w d k l j e h = kept_child (f.reader d) ((rw q at w) d) k l j e h

  -- one more offset pays for a field that is not fixed
  offset_pays : (c len e w : ℕ) → 0 < w → w ≤ e → e ≤ len → c + c * (len - e) ≤ c * (len - (e - w))
  offset_pays c len e w hw h g =
      let m : len - (e - w) ≡ (len - e) + w = omega arith in
      rw (m, mul-add c (len - e) w) (omega (arith, mul-le-mul_left c hw))

  module _ (a k : ℕ) (l : List ℕ) (n w : ℕ) (d : Depths) (hw : 0 < w) where
    -- what the offset's test says
    stands_below : (e : ℕ) → offset_stands n w e ≡ true → w ≤ e
    unfolding offset_stands
    stands_below e h = go (leb n e) (leb w e) (eqb e n || leb (n + w) e) refl h
      where
        go : (x y z : Bool) → leb w e ≡ y → (x && (y && z)) ≡ true → w ≤ e
        go true true z p a = leb-true w e p
        go true false z p a = absurd (false≢true a)
        go false y z p a = absurd (false≢true a)

    -- the fields of a structure that is not fixed
    next_kept : (x : Bool) (f g : Field) (fs : List Field) (e j : ℕ) → f.fixed ≡ x → Bounded f.fixed f.reader → e ≤ length l → j ≤ length l
        → ((e j : ℕ) → e ≤ length l → j ≤ length l → Kept j (length l) (length l) 0 (cost d) (cost d) (cost d * (length l - e)) (fields_in position false a k l n w d (g ∷ fs) e j))
        → Kept j (length l) (length l) 0 (cost d) (cost d) (cost d * (length l - e)) (fields_in position false a k l n w d (f ∷ g ∷ fs) e j)
    unfolding fields_in
    next_kept true f g fs e j q b he hj r =
        rw q (kept_chain {m = min e (length l)} {b₁ = 1} {b₂ = 0} {e₁ = 0} {e₂ = cost d} {p₁ = 0} {p₂ = cost d * (length l - e)} (child (f.reader d) k l j e) (further (fields_in position false a k l n w d (g ∷ fs) e) j)
        (kept_field f true q b d k l j e hj) (λ u h i. r e (j + u) he i) (omega arith) (omega arith))
    next_kept false f g fs e j q b he hj r = rw q (go (offset_stands n w e) refl)
      where
        go : (y : Bool) → offset_stands n w e ≡ y
            → Kept j (length l) (length l) 0 (cost d) (cost d) (cost d * (length l - e))
            (pick y (chain (child (f.reader d) k l j (n + field_offset n w e l)) (further (fields_in position false a k l n w d (g ∷ fs) (e - w)) j)) (refused 3 (k + n)))
        go true p =
            let o : ℕ = n + field_offset n w e l in
            kept_chain {m = min o (length l)} {b₁ = 0} {b₂ = 0} {e₁ = cost d} {e₂ = cost d} {p₁ = 0} {p₂ = cost d * (length l - (e - w))} (child (f.reader d) k l j o) (further (fields_in position false a k l n w d (g ∷ fs) (e - w)) j)
            (kept_field f false q b d k l j o hj) (λ u h i. r (e - w) (j + u) (omega arith) i) (omega arith) (omega (arith, offset_pays (cost d) (length l) e w hw (stands_below e p) he))
        go false p = kept_refused 3 (k + n) (λ z. omega arith) hj

    fields_kept : {fs : List Field} → Row false fs → 0 < length fs → (e j : ℕ) → e ≤ length l → j ≤ length l
        → Kept j (length l) (length l) 0 (cost d) (cost d) (cost d * (length l - e)) (fields_in position false a k l n w d fs e j)
    fields_kept end o e j he hj = absurd (omega arith)
    fields_kept (more {f = f} b x end) o e j he hj = unfold fields_in end_padding in
        kept_chain {m = min e (length l)} {b₁ = 0} {b₂ = length l - e} {e₁ = cost d} {e₂ = 0} {p₁ = 0} {p₂ = cost d * (length l - e)} (child (f.reader d) k l j e) (passing (length l - e))
        (last_kept f.fixed refl) (λ u h i. kept_passing (length l - e) u (omega arith) (omega arith)) (omega arith) (omega arith)
      where
        last_kept : (y : Bool) → f.fixed ≡ y → Kept j (min e (length l)) (length l) 0 (cost d) (cost d) 0 (child (f.reader d) k l j e)
        last_kept true q = kept_more {m = min e (length l)} {b = 1} {c = cost d} {e = 0} {p = 0} (omega arith) (omega arith) (omega arith) (omega arith) (kept_field f true q b d k l j e hj)
        last_kept false q = kept_field f false q b d k l j e hj
    fields_kept (more {f = f} b x (more {f = g} {fs = fs} b' x' r)) o e j he hj = next_kept f.fixed f g fs e j refl b he hj (λ e j he hj. fields_kept (more b' x' r) (omega arith) e j he hj)

    -- and of one that is
    fixed_kept : {fs : List Field} → Row true fs → 0 < length fs → (j : ℕ) → j ≤ length l → Kept j (length l) (length l) 1 (cost d) 0 0 (fields_in position true a k l n w d fs (length l) j)
    unfolding fields_in
    fixed_kept end o j hj = absurd (omega arith)
    fixed_kept (more {f = f} b x end) o j hj =
        kept_chain {m = length l} {b₁ = 1} {b₂ = length l - length l} {e₁ = 0} {e₂ = 0} {p₁ = 0} {p₂ = cost d * (length l - length l)} (end_padding position true a k l j (child (f.reader d) k l j (length l))) (passing (length l - length l))
        (kept_end_padding a k l (child (f.reader d) k l j (length l)) (kept_more {m = min (length l) (length l)} {b = 1} {c = cost d} {e = 0} {p = 0} (omega arith) (omega arith) (omega arith) (omega arith) (kept_field f true (x tt) b d k l j (length l) hj)))
        (λ u h i. kept_passing (length l - length l) u (omega arith) (omega arith)) (omega arith) (omega arith)
    fixed_kept (more {f = f} b x (more {f = g} {fs = fs} b' x' r)) o j hj =
        rw (x tt) (kept_chain {m = min (length l) (length l)} {b₁ = 1} {b₂ = 1} {e₁ = 0} {e₂ = 0} {p₁ = 0} {p₂ = 0} (child (f.reader d) k l j (length l)) (further (fields_in position true a k l n w d (g ∷ fs) (length l)) j)
        (kept_field f true (x tt) b d k l j (length l) hj) (λ u h i. fixed_kept (more b' x' r) (omega arith) (j + u) i) (omega arith) (omega arith))

  -- a byte at least pays for a container's two events
  kept_paid : {j m n c : ℕ} (c' : ℕ) (o : Outcome) → c ≡ c' + 2 → Kept j m n 1 c' 2 0 o → Kept j m n 1 c 0 0 o
  kept_paid c' o h g = record {
    inside = g.inside;
    ended = g.ended;
    least = g.least;
    few = λ z. rw (h, add-mul c' 2 o.used) (omega (arith, g.few z, g.least z));
  }

  structure_bounded : (a : ℕ) (fx : Bool) (fs : List Field) → Row fx fs → 0 < length fs → Bounded fx (read_structure position a fx fs)
  unfolding read_structure structure_in structure_body
  structure_bounded a true fs r o d k l = kept_behind position a k l (structure_in position a true fs d k l) (λ n h.
      kept_within Depth.structure d (k + n) (structure_body position a true fs k l n) h (λ z e.
      kept_paid (cost (opened Depth.structure d)) (structure_body position a true fs k l n (opened Depth.structure d)) e
      (kept_enclosed {e = 0} 40 (k + n) _ (fixed_kept a k l n (encoded_width (length l - n)) (opened Depth.structure d) (encoded_width_positive (length l - n)) r o n h))))
  structure_bounded a false fs r o d k l = kept_behind position a k l (structure_in position a false fs d k l) (λ n h.
      kept_within Depth.structure d (k + n) (structure_body position a false fs k l n) h (λ z e.
      (let d' : Depths = opened Depth.structure d in
      kept_more {m = length l} {b = 0} {c = cost d'} {e = cost d' + 2} {p = cost d' * (length l - length l)} (omega arith) (omega arith) (omega arith) (omega arith)
      (kept_enclosed {e = cost d'} 40 (k + n) _ (fields_kept a k l n (encoded_width (length l - n)) d' (encoded_width_positive (length l - n)) r o (length l) n (omega arith) h)))))

  -- ---- the entries of dictionaries

  module _ (a : ℕ) (key value : Reader) (d : Depths) (k : ℕ) (l : List ℕ) (b : ℕ) where
    -- a value up to e, by whether it is fixed
    kept_value : (fv : Bool) → Bounded fv value → (j e : ℕ) → j ≤ length l → Kept j (min e (length l)) (length l) 0 (cost d) (cost d) 0 (child (value d) k l j e)
    kept_value true w j e h = kept_more {m = min e (length l)} {b = 1} {c = cost d} {e = 0} {p = 0} (omega arith) (omega arith) (omega arith) (omega arith) (kept_child (value d) (w d) k l j e h)
    kept_value false w j e h = kept_child (value d) (w d) k l j e h

    -- behind the entry's padding: both fixed; a fixed key alone; a text
    both_kept : Bounded true key → Bounded true value → (j : ℕ) → j ≤ length l → Kept j (length l) (length l) 1 (cost d) 0 0 (entry_from position a true key value d k l b true (length l) j)
    unfolding entry_from fixed_key value_from
    both_kept wk wv j h =
        kept_chain {m = min (length l) (length l)} {b₁ = 1} {b₂ = 1} {e₁ = 0} {e₂ = 0} {p₁ = 0} {p₂ = 0} (child (key d) k l j (length l)) (further (value_from position a true key value d k l b (length l)) j)
        (kept_child (key d) (wk d) k l j (length l) h)
        (λ u g i. kept_end_padding a k l (child (value d) k l (j + u) (length l)) (kept_more {m = min (length l) (length l)} {b = 1} {c = cost d} {e = 0} {p = 0} (omega arith) (omega arith) (omega arith) (omega arith) (kept_child (value d) (wv d) k l (j + u) (length l) i)))
        (omega arith) (omega arith)

    key_kept : (fv : Bool) → Bounded true key → Bounded fv value → (j e : ℕ) → j ≤ length l → Kept j e (length l) 0 (cost d) (cost d) 0 (entry_from position a false key value d k l b true e j)
    unfolding entry_from fixed_key value_from end_padding
    key_kept fv wk wv j e h =
        kept_chain {m = min e (length l)} {b₁ = 1} {b₂ = 0} {e₁ = 0} {e₂ = cost d} {p₁ = 0} {p₂ = 0} (child (key d) k l j e) (further (value_from position a false key value d k l b e) j)
        (kept_child (key d) (wk d) k l j e h)
        (λ u g i. kept_more {m = min e (length l)} {b = 0} {c = cost d} {e = cost d} {p = 0} (omega arith) (omega arith) (omega arith) (omega arith) (kept_value fv wv (j + u) e i))
        (omega arith) (omega arith)

    -- the key's offset pays for the value
    before_kept : (fx fv : Bool) → Bounded fv value → (e w j : ℕ) → 0 < w → j ≤ length l → e ≤ length l → Kept j e (length l) 0 (cost d) 0 0 (value_before position a fx key value d k l b e w j)
    unfolding value_before
    before_kept fx fv wv e w j hw h he = go (leb (j + w) e) refl
      where
        go : (x : Bool) → leb (j + w) e ≡ x → Kept j e (length l) 0 (cost d) 0 0 (pick x (chain (child (value d) k l j (e - w)) (passing w)) (refused 3 (k + j)))
        go true q =
            let z = leb-true (j + w) e q in
            kept_chain {m = min (e - w) (length l)} {b₁ = 0} {b₂ = w} {e₁ = cost d} {e₂ = 0} {p₁ = 0} {p₂ = cost d * w} (child (value d) k l j (e - w)) (passing w) (kept_value fv wv j (e - w) h)
            (λ u g i. kept_passing w u (omega arith) (omega arith)) (omega arith) (omega (arith, mul-le-mul_left (cost d) hw))
        go false q = kept_refused 3 (k + j) (λ z. omega arith) h

    key_to_kept : (fx fv : Bool) → Bounded false key → Bounded fv value → (j e w o : ℕ) → 0 < w → j ≤ length l → e ≤ length l → Kept j e (length l) 0 (cost d) (cost d) 0 (key_to position a fx key value d k l b j e w o)
    unfolding key_to
    key_to_kept fx fv wk wv j e w o hw h he = go (leb o b)
      where
        go : (x : Bool) → Kept j e (length l) 0 (cost d) (cost d) 0 (pick x (chain (child (key d) k l j o) (further (value_before position a fx key value d k l b e w) j)) (refused 3 (k + j)))
        go true =
            kept_chain {m = min o (length l)} {b₁ = 0} {b₂ = 0} {e₁ = cost d} {e₂ = 0} {p₁ = 0} {p₂ = 0} (child (key d) k l j o) (further (value_before position a fx key value d k l b e w) j)
            (kept_child (key d) (wk d) k l j o h) (λ u g i. before_kept fx fv wv e w (j + u) hw i he) (omega arith) (omega arith)
        go false = kept_refused 3 (k + j) (λ z. omega arith) h

    text_kept : (fx fv : Bool) → Bounded false key → Bounded fv value → (j e : ℕ) → j ≤ length l → e ≤ length l → Kept j e (length l) 0 (cost d) (cost d) 0 (entry_from position a fx key value d k l b false e j)
    unfolding entry_from text_key
    text_kept fx fv wk wv j e h he = go (leb j e)
      where
        go : (x : Bool) → Kept j e (length l) 0 (cost d) (cost d) 0
            (pick x (key_to position a fx key value d k l b j e (encoded_width (e - j)) (j + last_offset (encoded_width (e - j)) (take (e - j) (drop j l)))) (refused 3 (k + j)))
        go true = key_to_kept fx fv wk wv j e (encoded_width (e - j)) _ (encoded_width_positive (e - j)) h he
        go false = kept_refused 3 (k + j) (λ z. omega arith) h

  -- an entry as a step; what lies in front of it is its padding
  entry_behind : {m n b c e : ℕ} (a : ℕ) (fx : Bool) (key value : Reader) (d : Depths) (k : ℕ) (l : List ℕ) (s : ℕ) (fk : Bool) (j f : ℕ) → n ≡ length l → j ≤ length l
      → ((j : ℕ) → j ≤ length l → Kept j m n b c e 0 (entry_from position a fx key value d k l s fk f j)) → Kept j m n b c e 0 (read_entry position a fx key value d k l s fk j f)
  unfolding read_entry
  entry_behind {m} {n} {b} {c} {e} a fx key value d k l s fk j f hn h g =
      kept_chain {m = length l} {b₁ = 0} {b₂ = b} {e₁ = 0} {e₂ = e} {p₁ = 0} {p₂ = 0} (pad position a (k + j) (drop j l)) (further (entry_from position a fx key value d k l s fk f) j)
      (rw hn (kept_pad position a (k + j) (drop j l) (omega (arith, length-drop j l)))) (λ u i i'. g (j + u) i) (omega arith) (omega arith)

  pub entry_step_lem : (a : ℕ) (fk fv : Bool) (key value : Reader) → Bounded fk key → Bounded fv value → (d : Depths) (k : ℕ) (l : List ℕ) (b : ℕ)
      → StepKept (fk && fv) (entry_step position a fk (fk && fv) key value d k l b) (length l) (cost d)
  unfolding entry_step
  entry_step_lem a true true key value wk wv d k l b = λ j h. entry_behind a true key value d k l b true j (length l) refl h (λ j h. both_kept a key value d k l b wk wv j h)
  entry_step_lem a true false key value wk wv d k l b = λ j e h g. entry_behind a false key value d k l b true j e refl h (λ j h. key_kept a key value d k l b false wk wv j e h)
  entry_step_lem a false fv key value wk wv d k l b = λ j e h g. entry_behind a false key value d k l b false j e refl h (λ j h. text_kept a key value d k l b false fv wk wv j e h g)

-- ---- variants

pub last_nul_most : (i : ℕ) (l : List ℕ) → last_nul i l ≤ i
unfolding last_nul
last_nul_most zero l = omega arith
last_nul_most (suc i) l = go (eqb (get_or l i 1) 0) (last_nul_most i l)
  where
    go : (x : Bool) → last_nul i l ≤ i → pick x (suc i) (last_nul i l) ≤ suc i
    go true h = omega arith
    go false h = omega arith

module _ (read : Tree → Reader) (w : (t : Tree) → Bounded (fixed t) (read t)) (d : Depths) (k : ℕ) (l : List ℕ) (n s : ℕ) (hn : n ≤ length l) (hs : n + s < length l) (hp : 0 < s) where
  -- the separator and the type are two bytes that the value does not use
  value_kept : (t : Tree) (d' : Depths) (x : Bool) → fixed t ≡ x → Kept n (length l) (length l) 2 (cost d') 0 0 (variant_value read d k l n s t d')
  unfolding variant_value
  value_kept t d' x q =
      kept_chain {m = min (n + (s - 1)) (length l)} {b₁ = 0} {b₂ = 2} {e₁ = cost d'} {e₂ = 0} {p₁ = 0} {p₂ = cost d'} (child (read t d') k l n (n + (s - 1))) (remaining (length l - n)) (go x q)
      (λ u h i. kept_done (length l - n - u) [] (omega arith) (omega arith) (omega arith)
      (let one : 1 ≤ length l - n - u = omega arith in omega (arith, mul-le-mul_left (cost d') one))) (omega arith) (omega arith)
    where
      go : (x : Bool) → fixed t ≡ x → Kept n (min (n + (s - 1)) (length l)) (length l) 0 (cost d') (cost d') 0 (child (read t d') k l n (n + (s - 1)))
      go true q = kept_more {m = min (n + (s - 1)) (length l)} {b = 1} {c = cost d'} {e = 0} {p = 0} (omega arith) (omega arith) (omega arith) (omega arith) (kept_child (read t d') ((rw q at (w t)) d') k l n (n + (s - 1)) hn)
      go false q = kept_child (read t d') ((rw q at (w t)) d') k l n (n + (s - 1)) hn

  -- and they pay for the three events of a variant
  paid : {c : ℕ} (c' : ℕ) (o : Outcome) → c ≡ c' + 2 → Kept n (length l) (length l) 2 c' 0 0 o → Kept n (length l) (length l) 2 c 0 3 o
  paid c' o h g = record {
    inside = g.inside;
    ended = g.ended;
    least = g.least;
    few = λ z. rw (h, add-mul c' 2 o.used) (omega (arith, g.few z, g.least z));
  }

  type_kept : (o : Option Tree) → Kept n (length l) (length l) 2 (cost d) 0 3 (variant_type read d k l n s o)
  unfolding variant_type
  type_kept none = kept_refused 9 (k + (n + s)) (λ z. omega arith) hn
  type_kept (some t) = kept_within Depth.variant d (k + n) (variant_value read d k l n s t) hn (λ z e.
      paid (cost (opened Depth.variant d)) (variant_value read d k l n s t (opened Depth.variant d)) e (value_kept t (opened Depth.variant d) (fixed t) refl))

  body_kept : Kept n (length l) (length l) 0 (cost d) (cost d) 0 (variant_body read d k l n s)
  unfolding variant_body variant_typed
  body_kept =
      let text : Outcome = text_as 103 (k + (n + s)) (without_final_nul (drop (n + s) l)) in
      kept_more {m = length l} {b = 2} {c = cost d} {e = 1 + 2} {p = 3} (omega arith) (omega arith) (omega arith) (omega arith)
      (kept_enclosed {e = 1} 118 (k + n) (chain text (variant_typed read d k l n s))
      (kept_chain {m = n} {b₁ = 0} {b₂ = 2} {e₁ = 1} {e₂ = 0} {p₁ = 0} {p₂ = 3} text (variant_typed read d k l n s) (kept_text 103 (k + (n + s)) (without_final_nul (drop (n + s) l)) (omega arith) hn (omega arith))
      (λ u h i. (let z : n + u ≡ n = omega arith in rw z (type_kept (type_of (drop (n + s) l))))) (omega arith) (omega arith)))

variant_bounded : (position : ℕ) (read : Tree → Reader) → ((t : Tree) → Bounded (fixed t) (read t)) → Bounded false (read_variant position read)
unfolding read_variant variant_in
variant_bounded position read w d k l = kept_behind position 8 k l (variant_in read d k l) (λ n h. go n h (eqb (separator (drop n l)) 0) refl)
  where
    go : (n : ℕ) → n ≤ length l → (x : Bool) → eqb (separator (drop n l)) 0 ≡ x
        → Kept n (length l) (length l) 0 (cost d) (cost d) 0 (pick x (refused 8 (k + n)) (variant_body read d k l n (separator (drop n l))))
    go n h true q = kept_refused 8 (k + n) (λ z. omega arith) h
    go n h false q =
        let z = eqb-false (separator (drop n l)) 0 q in
        let m = last_nul_most (length (drop n l) - 1) (drop n l) in
        let p : 0 < separator (drop n l) = omega (arith, positive (separator (drop n l)) z) in
        body_kept read w d k l n (separator (drop n l)) h (omega (arith, length-drop n l)) p
      where
        positive : (a : ℕ) → (a ≡ 0 → ⊥) → 0 < a
        positive a f = omega arith

-- ---- all types

left : (x y : Bool) → T (x && y) → x ≡ true
left x y t = from_test x (both_left x y t)

weaken : {position : ℕ} {x y : Bool} {fs : List Field} → (T y → T x) → Row position x fs → Row position y fs
weaken h end = end
weaken h (more b f r) = more b (λ t. f (h t)) (weaken h r)

module _ (position : ℕ) (big : Bool) (variants : Reader) (hv : Bounded false variants) where
  mutual
    unfolding read_tree fixed

    tree_bounded : (t : Tree) → Bounded (fixed t) (read_tree position big variants t)
    tree_bounded (basic b) = basic_bounded position big b
    tree_bounded variant = hv
    tree_bounded (maybe t) = maybe_bounded position (alignment t) (fixed t) (read_tree position big variants t) (tree_bounded t)
    tree_bounded (array t) =
        array_bounded position 97 (alignment t) (fixed t) (child_step (read_tree position big variants t)) (λ d k l b h. child_step_lem position (fixed t) (read_tree position big variants t) (tree_bounded t) d k l b)
    tree_bounded (dictionary b t) =
        let a : ℕ = max (basic_alignment b) (alignment t) in
        array_bounded position 123 a (basic_fixed b && fixed t) (entry_step position a (basic_fixed b) (basic_fixed b && fixed t) (read_basic position big b) (read_tree position big variants t))
        (λ d k l s h. entry_step_lem position a (basic_fixed b) (fixed t) (read_basic position big b) (read_tree position big variants t) (basic_bounded position big b) (tree_bounded t) d k l s)
    tree_bounded (structure ts) = structure_bounded position (largest_alignment ts) (all_fixed ts) (readers position big variants ts) (row_bounded ts) (some_reader ts)

    row_bounded : (ts : Fields) → Row position (all_fixed ts) (readers position big variants ts)
    row_bounded (last t) = more (tree_bounded t) (λ z. from_test (fixed t) z) end
    row_bounded (next t ts) = more (tree_bounded t) (λ z. left (fixed t) (all_fixed ts) z) (weaken (both_right (fixed t) (all_fixed ts)) (row_bounded ts))

    some_reader : (ts : Fields) → 0 < length (readers position big variants ts)
    some_reader (last t) = omega arith
    some_reader (next t ts) = omega arith

pub bounded : (position : ℕ) (big : Bool) (n : ℕ) (t : Tree) → Bounded (fixed t) (reading position big n t)
unfolding reading
bounded position big zero t = tree_bounded position big (λ d k l. refused 12 k) (λ d k l. kept_refused 12 k (λ z. omega arith) (omega arith)) t
bounded position big (suc n) t =
    tree_bounded position big (read_variant position (λ u. reading position big n u)) (variant_bounded position (λ u. reading position big n u) (λ u. bounded position big n u)) t

-- NO READER USES MORE THAN ITS PART, whatever the type, the bytes, the place and the depth
pub used_most : (position : ℕ) (big : Bool) (n : ℕ) (t : Tree) (d : Depths) (k : ℕ) (l : List ℕ) → (reading position big n t d k l).used ≤ length l
used_most position big n t d k l = omega (arith, (bounded position big n t d k l).inside)

-- THE EVENTS ARE FEW: two for each container that may still be opened and one, for each byte used and once more
pub events_most : (position : ℕ) (big : Bool) (n : ℕ) (t : Tree) (d : Depths) (k : ℕ) (l : List ℕ) → (reading position big n t d k l).refusal ≡ 0
    → length (reading position big n t d k l).events ≤ cost d * ((reading position big n t d k l).used + 1)
events_most position big n t d k l z = go (fixed t) ((bounded position big n t d k l).few z)
  where
    go : (x : Bool) → length (reading position big n t d k l).events + 0 ≤ cost d * (reading position big n t d k l).used + free x (cost d)
        → length (reading position big n t d k l).events ≤ cost d * ((reading position big n t d k l).used + 1)
    go true h = rw (mul-add (cost d) (reading position big n t d k l).used 1) (omega arith)
    go false h = rw (mul-add (cost d) (reading position big n t d k l).used 1) (omega arith)

-- the same of a whole frame, where the type, the frame or the position may be refused
pub frame_used : (type : List ℕ) (big : Bool) (position : ℕ) (frame : List ℕ) → (frame_reading type big position frame).used ≤ length frame
unfolding frame_reading
frame_used type big position frame = go (type_of type)
  where
    pick_used : (x : Bool) (o : Outcome) → o.used ≤ length frame → (pick x o (refused 2 0)).used ≤ length frame
    pick_used true o h = h
    pick_used false o h = omega arith

    go : (t : Option Tree) → (frame_of big position frame t).used ≤ length frame
    go none = unfold frame_of in omega arith
    go (some t) = unfold frame_of in pick_used (leb (length frame) largest_frame && leb position largest_frame) _ (used_most position big most_variants t none_open 0 frame)

-- BYTES USED NEVER EXCEED THE FRAME, as the public calls answer them, on any frame, refused or not
module _ (type : List ℕ) (big : Bool) (position : ℕ) (frame : List ℕ) where
  pub size_used : (size type big position frame).used ≤ length frame
  unfolding size sized
  size_used = go (frame_reading type big position frame) (frame_used type big position frame) (eqb (frame_reading type big position frame).refusal 0)
    where
      go : (o : Outcome) → o.used ≤ length frame → (x : Bool) → (pick x (counts 0 o.used (length o.events)) (counts o.refusal 0 0)).used ≤ length frame
      go o h true = h
      go o h false = omega arith

  pub read_used : (out : List ℕ) → (read type big position frame out).used ≤ length frame
  unfolding read fitted
  read_used out = go (size type big position frame) size_used (leb (3 * (size type big position frame).count) (length out))
    where
      go : (c : Counts) → c.used ≤ length frame → (x : Bool) → (pick x c (counts room_too_small 0 0)).used ≤ length frame
      go c h true = h
      go c h false = omega arith

-- at most 129 events for each byte and 129 besides: no more than 8,454,273, so every count is inside 64 bits
pub frame_events : (type : List ℕ) (big : Bool) (position : ℕ) (frame : List ℕ) → (frame_reading type big position frame).refusal ≡ 0
    → length (frame_reading type big position frame).events ≤ 8454273
unfolding frame_reading
frame_events type big position frame z = go (type_of type) z
  where
    few : (t : Tree) → length frame ≤ largest_frame → (reading position big most_variants t none_open 0 frame).refusal ≡ 0 → length (reading position big most_variants t none_open 0 frame).events ≤ 8454273
    few t h z = unfold cost in omega (arith, events_most position big most_variants t none_open 0 frame z, used_most position big most_variants t none_open 0 frame)

    picked : (x : Bool) (o : Outcome) → (T x → o.refusal ≡ 0 → length o.events ≤ 8454273) → (pick x o (refused 2 0)).refusal ≡ 0 → length (pick x o (refused 2 0)).events ≤ 8454273
    picked true o f z = f tt z
    picked false o f z = absurd (omega arith)

    go : (t : Option Tree) → (frame_of big position frame t).refusal ≡ 0 → length (frame_of big position frame t).events ≤ 8454273
    go none = unfold frame_of in λ z. absurd (omega arith)
    go (some t) = unfold frame_of in picked (leb (length frame) largest_frame && leb position largest_frame) _ (λ h z. few t (leb→le (length frame) largest_frame (both_left (leb (length frame) largest_frame) (leb position largest_frame) h)) z)
