-- The two counts that make the reading rules end are large enough: more variants, and more steps in a fixed array, change no reading.
-- Assumes nothing.
use mathlib.Core.Path.{◌≡◌, refl, sym, ap, ◌∙◌}
use mathlib.Core.List.{List, [], ◌∷◌}
use mathlib.Core.Option.{Option, none, some}
use mathlib.Core.Bool.{Bool, true, false}
use Prim.Native.Nat.{ℕ, zero, suc, ◌+◌, ◌-◌, ◌≤◌}
use native.Mathlib.Omega.{arith}
use lib.Dec.{leb, eqb}
use lib.ListN.{length, drop}
use borrow.Author.Tests.{eqb-true, le-leb, leb-false}
use Rattle.meaning.specs.Choice.{pick}
use Rattle.meaning.specs.Limits.{most_variants}
use Rattle.meaning.specs.Offsets.{Table, table_of, table_stands, ends_of, encoded_width}
use Rattle.meaning.specs.Texts.{without_final_nul}
use Rattle.meaning.specs.Depths as Depth
use Rattle.meaning.specs.Depths.{Depths, depth_refusal, opened, none_open}
use Rattle.meaning.specs.Types.{Basic, Tree, Fields, basic, variant, maybe, array, dictionary, structure, last, next, basic_fixed, alignment, largest_alignment, fixed, all_fixed, entry_alignment, entry_fixed}
use Rattle.meaning.specs.Letters.{signature_letter, variant_letter, array_letter, dictionary_letter, structure_letter}
use Rattle.meaning.specs.TypeText.{type_of}
use Rattle.meaning.specs.Events.{present, nothing}
use Rattle.meaning.specs.Outcome.{Outcome, done, refused, after, chain, passing, enclosed}
use Rattle.meaning.specs.Reading.{Reader, child, within, text_as, end_byte, present_in, maybe_in, further, elements, elements_to, Step, tabled, array_body, array_in, child_step, Field, offset_stands, field_offset, separator, remaining, variant_value, variant_type, variant_typed, variant_body, variant_in, pad, read_basic, read_maybe, read_array, end_padding, fields_in, structure_body, structure_in, read_structure, value_from, fixed_key, value_before, key_to, text_key, entry_from, read_entry, entry_step, read_variant, read_tree, readers, reading}
use Rattle.meaning.proofs.DepthLaws.{limits}
use Rattle.meaning.proofs.Bounds.{StepKept, bounded, basic_bounded, child_step_lem, entry_step_lem}

-- ---- the same readings, by the same readers of what is inside

-- two readers at one depth
abbrev Same : (ℕ → List ℕ → Outcome) → (ℕ → List ℕ → Outcome) → Type 0
Same r s = (k : ℕ) (l : List ℕ) → r k l ≡ s k l

whole : {r s : ℕ → List ℕ → Outcome} → Same r s → r ≡ s
whole h = λ i k l. h k l i

same_within : (d : Depths) (p : ℕ) (f g : Depths → Outcome) → (depth_refusal d ≡ 0 → f d ≡ g d) → within d p f ≡ within d p g
unfolding within
same_within d p f g h = go (eqb (depth_refusal d) 0) refl
  where
    go : (x : Bool) → eqb (depth_refusal d) 0 ≡ x → pick x (f d) (refused (depth_refusal d) p) ≡ pick x (g d) (refused (depth_refusal d) p)
    go true q = h (eqb-true (depth_refusal d) 0 q)
    go false q = refl

same_chain : (o : Outcome) (f g : ℕ → Outcome) → ((u : ℕ) → f u ≡ g u) → chain o f ≡ chain o g
same_chain o f g h = λ i. chain o (λ u. h u i)

same_maybe : (position a : ℕ) (fx : Bool) (r s : Reader) (d : Depths) → Same (r (opened Depth.maybe d)) (s (opened Depth.maybe d)) → Same (read_maybe position a fx r d) (read_maybe position a fx s d)
unfolding read_maybe maybe_in present_in
same_maybe position a fx r s d h k l = same_chain (pad position a k l) (maybe_in fx r d k l) (maybe_in fx s d k l) (λ n.
    ap (λ (o : Outcome). pick (leb (length l) n) (done 0 (nothing (k + n) ∷ [])) o)
    (same_within (opened Depth.maybe d) (k + n) (present_in fx r k l n) (present_in fx s k l n) (λ z i.
    after 0 (present (k + n) ∷ []) (pick fx (child (whole h i) k l n (length l)) (chain (child (whole h i) k l n (length l - 1)) (end_byte k l n))))))

-- two steps at one depth
abbrev SameStep : Step → Step → Depths → Type 0
SameStep r s d = (k : ℕ) (l : List ℕ) (b j e : ℕ) → r d k l b j e ≡ s d k l b j e

same_body : (kind : ℕ) (fx : Bool) (r s : Step) (d : Depths) → SameStep r s d → (k : ℕ) (l : List ℕ) (n : ℕ) → array_body kind fx r k l n d ≡ array_body kind fx s k l n d
unfolding array_body tabled
same_body kind true r s d h k l n = λ i. enclosed kind (k + n) (elements (length l) (λ j e. h k l (length l) j e i) (length l) n)
same_body kind false r s d h k l n =
    let t : Table = table_of (drop n l) in
    λ i.
    pick (table_stands t (drop n l))
    (enclosed kind (k + n) (chain (elements_to (λ j e. h k l (n + t.start) j e i) n (ends_of t (drop n l)) n) (passing (length l - (n + t.start)))))
    (refused 3 (k + n))

same_array : (position kind a : ℕ) (fx : Bool) (r s : Step) (d : Depths) → SameStep r s (opened Depth.array d) → Same (read_array position kind a fx r d) (read_array position kind a fx s d)
unfolding read_array array_in
same_array position kind a fx r s d h k l = same_chain (pad position a k l) (array_in kind fx r d k l) (array_in kind fx s d k l) (λ n.
    same_within (opened Depth.array d) (k + n) (array_body kind fx r k l n) (array_body kind fx s k l n) (λ z. same_body kind fx r s (opened Depth.array d) h k l n))

same_child : (r s : Reader) (d : Depths) → Same (r d) (s d) → SameStep (child_step r) (child_step s) d
unfolding child_step
same_child r s d h k l b j e = λ i. child (whole h i) k l j e

same_entry : (position a : ℕ) (fk fx : Bool) (key r s : Reader) (d : Depths) → Same (r d) (s d) → SameStep (entry_step position a fk fx key r) (entry_step position a fk fx key s) d
unfolding entry_step read_entry entry_from fixed_key value_from text_key key_to value_before
same_entry position a fk fx key r s d h k l b j e = λ i. read_entry position a fx key (λ c. whole h i) d k l b fk j e

-- two rows of fields at one depth
data SameRow (d : Depths) : List Field → List Field → Type 0 where
  end : SameRow d [] []
  more : (fx : Bool) (r s : Reader) {fs gs : List Field} → Same (r d) (s d) → SameRow d fs gs → SameRow d (record { fixed = fx; reader = r } ∷ fs) (record { fixed = fx; reader = s } ∷ gs)

same_fields : (position : ℕ) (fx : Bool) (a k : ℕ) (l : List ℕ) (n w : ℕ) (d : Depths) {fs gs : List Field} → SameRow d fs gs → (e j : ℕ) → fields_in position fx a k l n w d fs e j ≡ fields_in position fx a k l n w d gs e j
unfolding fields_in
same_fields position fx a k l n w d end e j = refl
same_fields position fx a k l n w d (more fy r s h end) e j = λ i. chain (end_padding position fx a k l j (child (whole h i) k l j e)) (passing (length l - e))
same_fields position fx a k l n w d (more fy r s h (more fz r' s' h' m)) e j = λ i.
    pick fy
    (chain (child (whole h i) k l j e) (λ u. same_fields position fx a k l n w d (more fz r' s' h' m) e (j + u) i))
    (pick (offset_stands n w e)
    (chain (child (whole h i) k l j (n + field_offset n w e l)) (λ u. same_fields position fx a k l n w d (more fz r' s' h' m) (e - w) (j + u) i))
    (refused 3 (k + n)))

same_structure : (position a : ℕ) (fx : Bool) (fs gs : List Field) (d : Depths) → SameRow (opened Depth.structure d) fs gs → Same (read_structure position a fx fs d) (read_structure position a fx gs d)
unfolding read_structure structure_in structure_body
same_structure position a fx fs gs d h k l = same_chain (pad position a k l) (structure_in position a fx fs d k l) (structure_in position a fx gs d k l) (λ n.
    same_within (opened Depth.structure d) (k + n) (structure_body position a fx fs k l n) (structure_body position a fx gs k l n) (λ z i.
    enclosed structure_letter (k + n) (same_fields position fx a k l n (encoded_width (length l - n)) (opened Depth.structure d) h (length l) n i)))

-- a variant, whose value is one variant deeper
module _ (position : ℕ) (r s : Tree → Reader) (d : Depths) (h : (t : Tree) → depth_refusal (opened Depth.variant d) ≡ 0 → Same (r t (opened Depth.variant d)) (s t (opened Depth.variant d))) where
  same_type : (k : ℕ) (l : List ℕ) (n m : ℕ) (o : Option Tree) → variant_type r d k l n m o ≡ variant_type s d k l n m o
  unfolding variant_type variant_value
  same_type k l n m none = refl
  same_type k l n m (some t) =
      same_within (opened Depth.variant d) (k + n) (variant_value r d k l n m t) (variant_value s d k l n m t) (λ z i.
      chain (child (whole (h t z) i) k l n (n + (m - 1))) (remaining (length l - n)))

  same_variant : Same (read_variant position r d) (read_variant position s d)
  unfolding read_variant variant_in variant_body variant_typed
  same_variant k l = same_chain (pad position 8 k l) (variant_in r d k l) (variant_in s d k l) (λ n i.
      (let m : ℕ = separator (drop n l) in
      pick (eqb m 0) (refused 8 (k + n))
      (enclosed variant_letter (k + n) (chain (text_as signature_letter (k + (n + m)) (without_final_nul (drop (n + m) l))) (λ u. same_type k l n m (type_of (drop (n + m) l)) i)))))

-- every type, by readers of variants that are the same wherever v variants are open
module _ (position : ℕ) (big : Bool) (r s : Reader) (v : ℕ) (h : (d : Depths) → d.variant ≡ v → Same (r d) (s d)) where
  mutual
    unfolding read_tree

    same_tree : (t : Tree) (d : Depths) → d.variant ≡ v → Same (read_tree position big r t d) (read_tree position big s t d)
    same_tree (basic b) d g = λ k l. refl
    same_tree variant d g = h d g
    same_tree (maybe t) d g = same_maybe position (alignment t) (fixed t) (read_tree position big r t) (read_tree position big s t) d (same_tree t (opened Depth.maybe d) g)
    same_tree (array t) d g =
        same_array position array_letter (alignment t) (fixed t) (child_step (read_tree position big r t)) (child_step (read_tree position big s t)) d
        (same_child (read_tree position big r t) (read_tree position big s t) (opened Depth.array d) (same_tree t (opened Depth.array d) g))
    same_tree (dictionary b t) d g =
        same_array position dictionary_letter (entry_alignment b t) (entry_fixed b t)
        (entry_step position (entry_alignment b t) (basic_fixed b) (entry_fixed b t) (read_basic position big b) (read_tree position big r t))
        (entry_step position (entry_alignment b t) (basic_fixed b) (entry_fixed b t) (read_basic position big b) (read_tree position big s t)) d
        (same_entry position (entry_alignment b t) (basic_fixed b) (entry_fixed b t) (read_basic position big b) (read_tree position big r t) (read_tree position big s t) (opened Depth.array d) (same_tree t (opened Depth.array d) g))
    same_tree (structure ts) d g = same_structure position (largest_alignment ts) (all_fixed ts) (readers position big r ts) (readers position big s ts) d (same_row ts (opened Depth.structure d) g)

    same_row : (ts : Fields) (d : Depths) → d.variant ≡ v → SameRow d (readers position big r ts) (readers position big s ts)
    same_row (last t) d g = more (fixed t) (read_tree position big r t) (read_tree position big s t) (same_tree t d g) end
    same_row (next t ts) d g = more (fixed t) (read_tree position big r t) (read_tree position big s t) (same_tree t d g) (same_row ts d g)

-- with v variants open, as many more as make 65 with them are enough
same_reading : (position : ℕ) (big : Bool) (n m v : ℕ) (t : Tree) (d : Depths) → d.variant ≡ v → depth_refusal d ≡ 0 → most_variants ≤ n + v → most_variants ≤ m + v → Same (reading position big n t d) (reading position big m t d)
unfolding reading
same_reading position big zero m v t d g z p q = absurd (omega (arith, (limits d.structure d.array d.variant d.maybe z).total))
same_reading position big (suc n) zero v t d g z p q = absurd (omega (arith, (limits d.structure d.array d.variant d.maybe z).total))
same_reading position big (suc n) (suc m) v t d g z p q =
    same_tree position big (read_variant position (λ u. reading position big n u)) (read_variant position (λ u. reading position big m u)) v
    (λ d' g'. same_variant position (λ u. reading position big n u) (λ u. reading position big m u) d' (λ u z'.
    same_reading position big n m (v + 1) u (opened Depth.variant d') (ap (λ (x : ℕ). x + 1) g') z' (omega arith) (omega arith))) t d g

-- MORE VARIANTS CHANGE NO READING
pub variants_enough : (position : ℕ) (big : Bool) (n : ℕ) (t : Tree) (k : ℕ) (l : List ℕ) → most_variants ≤ n → reading position big n t none_open k l ≡ reading position big most_variants t none_open k l
unfolding depth_refusal
variants_enough position big n t k l h = same_reading position big n most_variants 0 t none_open refl refl (omega arith) (omega arith) k l

-- ---- steps

same_behind : (o : Outcome) (f g : ℕ → Outcome) → (o.refusal ≡ 0 → f o.used ≡ g o.used) → chain o f ≡ chain o g
unfolding chain
same_behind o f g h = go (eqb o.refusal 0) refl
  where
    go : (x : Bool) → eqb o.refusal 0 ≡ x → pick x (after o.used o.events (f o.used)) o ≡ pick x (after o.used o.events (g o.used)) o
    go true q = ap (λ (p : Outcome). after o.used o.events p) (h (eqb-true o.refusal 0 q))
    go false q = refl

elements_over : (m : ℕ) (step : ℕ → ℕ → Outcome) (e j : ℕ) → e ≤ j → elements m step e j ≡ done 0 []
unfolding elements
elements_over zero step e j h = rw (le-leb e j h)
elements_over (suc m) step e j h = rw (le-leb e j h)

steps_enough : {c : ℕ} (m i : ℕ) (step : ℕ → ℕ → Outcome) (len : ℕ) → StepKept true step len c → (j : ℕ) → j ≤ len → len - j ≤ m → elements m step len j ≡ elements (m + i) step len j
unfolding elements
steps_enough zero i step len w j h g = elements_over zero step len j (omega arith) ∙ sym (elements_over (zero + i) step len j (omega arith))
steps_enough {c} (suc m) i step len w j h g = go (leb len j) refl (λ j h g. steps_enough m i step len w j h g)
  where
    e : suc m + i ≡ suc (m + i)
    e = omega arith

    go : (x : Bool) → leb len j ≡ x → ((j : ℕ) → j ≤ len → len - j ≤ m → elements m step len j ≡ elements (m + i) step len j) → elements (suc m) step len j ≡ elements (suc m + i) step len j
    go true q r = rw (e, q)
    go false q r =
        let b = leb-false len j q in
        rw (e, q) (same_behind (step j len) (further (elements m step len) j) (further (elements (m + i) step len) j) (λ z.
        (let k = w j h in r (j + (step j len).used) (k.ended z) (omega (arith, k.least z)))))

-- MORE STEPS CHANGE NO FIXED ARRAY: to run out of them is never met, in arrays
pub array_steps : (position : ℕ) (big : Bool) (n : ℕ) (t : Tree) → fixed t ≡ true → (d : Depths) (k : ℕ) (l : List ℕ) (b i j : ℕ) → j ≤ length l
    → elements (length l) (child_step (reading position big n t) d k l b) (length l) j ≡ elements (length l + i) (child_step (reading position big n t) d k l b) (length l) j
array_steps position big n t f d k l b i j h =
    steps_enough (length l) i (child_step (reading position big n t) d k l b) (length l) (child_step_lem position true (reading position big n t) (rw f at (bounded position big n t)) d k l b) j h (omega arith)

-- and in dictionaries
pub dictionary_steps : (position : ℕ) (big : Bool) (n a : ℕ) (key : Basic) (t : Tree) → basic_fixed key ≡ true → fixed t ≡ true → (d : Depths) (k : ℕ) (l : List ℕ) (b i j : ℕ) → j ≤ length l
    → elements (length l) (entry_step position a true true (read_basic position big key) (reading position big n t) d k l b) (length l) j
    ≡ elements (length l + i) (entry_step position a true true (read_basic position big key) (reading position big n t) d k l b) (length l) j
dictionary_steps position big n a key t fk f d k l b i j h =
    steps_enough (length l) i (entry_step position a true true (read_basic position big key) (reading position big n t) d k l b) (length l)
    (entry_step_lem position a true true (read_basic position big key) (reading position big n t) (rw fk at (basic_bounded position big key)) (rw f at (bounded position big n t)) d k l b) j h (omega arith)
