-- A law for each way out of the functions: where children begin and end, and the offsets of a container. Assumes nothing.
use mathlib.Core.Path.{◌≡◌, refl, sym, ap, ◌∙◌}
use mathlib.Core.List.{List, [], ◌∷◌}
use mathlib.Core.Bool.{Bool, true, false, ◌&&◌, ◌||◌, false≢true}
use Prim.Native.Nat.{ℕ, zero, suc, ◌+◌, ◌-◌, ◌*◌, ◌/◌, ◌%◌, ◌≤◌, ◌<◌}
use native.Mathlib.Omega.{arith}
use lib.Bits.{bit_and, and_high}
use native.Mathlib.Nat.{div-mul-le_self, div-le_self}
use lib.Dec.{leb, ltb, eqb}
use lib.ListN.{length, take, drop, length-take, length-drop}
use borrow.Author.Tests.{le-leb, lt-leb, eq-eqb, ne_eqb, leb-true, leb-false, ltb-true, ltb-false}
use Rattle.meaning.specs.Choice.{pick}
use Rattle.meaning.specs.Numbers.{value}
use Rattle.meaning.specs.Padding.{padding, Aligns}
use Rattle.meaning.specs.Depths.{Depths}
use Rattle.meaning.specs.Offsets.{first_width, encoded_width, written_width, last_offset}
use Rattle.meaning_writing.specs.Shapes.{part, offset_count}
use Rattle.meaning_writing.specs.Strict.{Test, test_shapes, all_zero, child_written, elements_written, table_written, array_written, fields_finished, fields_written, offsets_written, structure_written}
use Rattle.meaning.proofs.PaddingLaws.{by1, by2, by4, by8, by_alignment}
use Rattle.meaning.proofs.OffsetLaws.{encoded_width_1, encoded_width_2, encoded_width_4}
use Rattle.meaning.proofs.OffsetSteps.{own_width}
use Rattle.utils.specs.Checks.{Checked}
use Rattle.framing_offset_size.specs.Widths.{last_offset_in}
use Rattle.framing_offsets.specs.Tables.{offset_in}
use Rattle.framing_offsets.specs.Held.{held_table}
use Rattle.framing_offsets.proofs.HeldLaws.{only_held}
use Rattle.strict_ends.specs.Ends.{rows, Begins, NoStart, RowsAre, NoRows, RowsOf, TableIs, NoTable}
use Rattle.strict_ends.specs.declared.Rows.{Rows}
use Rattle.std.specs.Prelude.{Option, Some, None}
use Rattle.std.specs.List.{list_all}

pub no : {A : Type 0} → true ≡ false → A
no h = absurd (false≢true (sym h))

-- ---- a run of zeros

pub zeros_all : (l : List ℕ) → list_all (λ x. eqb x 0) l ≡ all_zero l
unfolding all_zero
zeros_all [] = refl
zeros_all (x ∷ l) = ap (λ (b : Bool). eqb x 0 && b) (zeros_all l)

-- ---- padding

-- a mask of an alignment's multiples leads to the next of them
pub rounded : {a : ℕ} → Aligns a → (k low : ℕ) → k ≤ 1000000 → low ≡ a - 1 → bit_and (k + low) (18446744073709551615 - low) ≡ k + padding k a
unfolding padding
rounded al k low h e =
    by_alignment (λ a. low ≡ a - 1 → bit_and (k + low) (18446744073709551615 - low) ≡ k + (a - k % a) % a)
    (λ e. let z : 18446744073709551615 - low ≡ 18446744073709551615 = omega arith in rw z (omega (arith, and_high (k + low) 64 0)))
    (λ e. let z : 18446744073709551615 - low ≡ 18446744073709551614 = omega arith in rw z (omega (arith, and_high (k + low) 63 1)))
    (λ e. let z : 18446744073709551615 - low ≡ 18446744073709551612 = omega arith in rw z (omega (arith, and_high (k + low) 62 2)))
    (λ e. let z : 18446744073709551615 - low ≡ 18446744073709551608 = omega arith in rw z (omega (arith, and_high (k + low) 61 3)))
    al e

-- ---- where a child begins

module _ (l : List ℕ) (s k e a : ℕ) (at : ℕ) (q : at ≡ k + padding k a) where
  child_is : (t : Test) (d : Depths) → t.shape.alignment ≡ a
      → child_written t d l s k e ≡ (leb at e && (leb e s && (all_zero (part k at l) && t.accepts d (part at e l))))
  unfolding child_written
  child_is t d h =
      let u : k + padding k t.shape.alignment ≡ at = ap (λ (i : ℕ). k + padding k i) h ∙ sym q in
      ap (λ (i : ℕ). leb i e && (leb e s && (all_zero (part k i l) && t.accepts d (part i e l)))) u

  pub start_below : e < at → NoStart l s k e a
  start_below h = record { is = λ t d p. child_is t d p ∙ rw (lt-leb at e h) }

  pub start_past : at ≤ e → s < e → NoStart l s k e a
  start_past h g = record { is = λ t d p. child_is t d p ∙ rw (le-leb at e h, lt-leb e s g) }

  pub start_dirty : at ≤ e → e ≤ s → false ≡ all_zero (take (at - k) (drop k l)) → NoStart l s k e a
  unfolding part
  start_dirty h g i = record { is = λ t d p. child_is t d p ∙ rw (le-leb at e h, le-leb e s g, ← i) }

  pub start_here : at ≤ e → e ≤ s → true ≡ all_zero (take (at - k) (drop k l)) → Begins l s k e a at
  unfolding part
  start_here h g i = record { is = λ t d p. child_is t d p ∙ rw (le-leb at e h, le-leb e s g, ← i); before = h; within = g }

pub child_within : (t : Test) (d : Depths) (l : List ℕ) (s k e : ℕ) → child_written t d l s k e ≡ true → e ≤ s
unfolding child_written
child_within t d l s k e h = go (leb (k + padding k t.shape.alignment) e) (leb e s) refl h
  where
    go : (x y : Bool) → leb e s ≡ y → (x && (y && (all_zero (part k (k + padding k t.shape.alignment) l) && t.accepts d (part (k + padding k t.shape.alignment) e l)))) ≡ true → e ≤ s
    go x true p z = leb-true e s p
    go true false p z = absurd (false≢true z)
    go false false p z = absurd (false≢true z)

-- ---- offsets

-- a width is known by its bounds
pub width_is : {w : ℕ} → Aligns w → (w < 2 → 1 ≡ w) × (2 ≤ w → w < 4 → 2 ≡ w) × (4 ≤ w → w < 8 → 4 ≡ w) × (8 ≤ w → 8 ≡ w)
width_is al = (
  by_alignment (λ y. y < 2 → 1 ≡ y) (λ a. refl) (λ a. omega arith) (λ a. omega arith) (λ a. omega arith) al,
  by_alignment (λ y. 2 ≤ y → y < 4 → 2 ≡ y) (λ a b. omega arith) (λ a b. refl) (λ a b. omega arith) (λ a b. omega arith) al,
  by_alignment (λ y. 4 ≤ y → y < 8 → 4 ≡ y) (λ a b. omega arith) (λ a b. omega arith) (λ a b. refl) (λ a b. omega arith) al,
  by_alignment (λ y. 8 ≤ y → 8 ≡ y) (λ a. omega arith) (λ a. omega arith) (λ a. omega arith) (λ a. refl) al,
)

pub offset_is : (l : List ℕ) (place s e w : ℕ) {r : Checked} → place + w ≤ length l → 0 < s → s ≡ w → e ≡ place + w
    → r ≡ offset_in (held_table s (take (e - place) (drop place l))) 0 (take (e - place) (drop place l)) → r.value ≡ value (part place (place + w) l)
unfolding part
offset_is l place s e w h p hs he q =
    let n : length (take (e - place) (drop place l)) ≡ s = simp (length-take, length-drop) (omega arith) in
    only_held s (take (e - place) (drop place l)) p n q ∙ ap (λ (k : ℕ). value (take (k - place) (drop place l))) he

-- ---- widths

pub encoded_aligns : (n : ℕ) → Aligns (encoded_width n)
unfolding encoded_width first_width
encoded_aligns n = go (leb (n + 0 * 1) 255) (leb (n + 0 * 2) 65535) (leb (n + 0 * 4) 4294967295)
  where
    go : (a b c : Bool) → Aligns (pick a 1 (pick b 2 (pick c 4 8)))
    go true b c = by1
    go false true c = by2
    go false false true = by4
    go false false false = by8

-- the width of a length in the limit
module _ (body count w : ℕ) (h : body + count * w ≤ 65536) (e : w ≡ encoded_width (body + count * w)) where
  -- a width counts
  pub pair_small : body + 2 * count ≤ 200000
  pair_small = go w (encoded_aligns (body + count * w)) e h
    where
      go : (v : ℕ) → Aligns (encoded_width (body + count * w)) → v ≡ encoded_width (body + count * w) → body + count * v ≤ 65536 → body + 2 * count ≤ 200000
      go v a q m = by_alignment (λ x. x ≡ encoded_width (body + count * w) → body + count * x ≤ 65536 → body + 2 * count ≤ 200000) (λ p n. omega arith) (λ p n. omega arith) (λ p n. omega arith) (λ p n. omega arith) a refl (rw q at m)

  short : w ≡ 1 → body + count * 1 ≤ 255
  short z = go (leb (body + count * w) 255) (leb (body + count * w) 65535) refl refl
    where
      go : (x y : Bool) → leb (body + count * w) 255 ≡ x → leb (body + count * w) 65535 ≡ y → body + count * 1 ≤ 255
      go true y p q = rw z at (leb-true (body + count * w) 255 p)
      go false true p q = absurd (omega (arith, encoded_width_2 (body + count * w) (leb-false (body + count * w) 255 p) (leb-true (body + count * w) 65535 q)))
      go false false p q = absurd (omega (arith, encoded_width_4 (body + count * w) (leb-false (body + count * w) 65535 q) (omega arith)))

  middle : w ≡ 2 → body + count * 2 ≤ 65535
  middle z = go (leb (body + count * w) 65535) refl
    where
      go : (y : Bool) → leb (body + count * w) 65535 ≡ y → body + count * 2 ≤ 65535
      go true q = rw z at (leb-true (body + count * w) 65535 q)
      go false q = absurd (omega (arith, encoded_width_4 (body + count * w) (leb-false (body + count * w) 65535 q) (omega arith)))

  long : (w ≡ 1 → ⊥) → (w ≡ 2 → ⊥) → (65535 < body + count * w) × (w ≡ 4)
  long a b = go (leb (body + count * w) 255) (leb (body + count * w) 65535) refl refl
    where
      go : (x y : Bool) → leb (body + count * w) 255 ≡ x → leb (body + count * w) 65535 ≡ y → (65535 < body + count * w) × (w ≡ 4)
      go true y p q = absurd (a (e ∙ encoded_width_1 (body + count * w) (leb-true (body + count * w) 255 p)))
      go false true p q = absurd (b (e ∙ encoded_width_2 (body + count * w) (leb-false (body + count * w) 255 p) (leb-true (body + count * w) 65535 q)))
      go false false p q =
          let m = leb-false (body + count * w) 65535 q in
          (m, e ∙ encoded_width_4 (body + count * w) m (omega arith))

  written_is : (a b : Bool) → leb (body + count * 1) 255 ≡ a → leb (body + count * 2) 65535 ≡ b → written_width body count ≡ pick a 1 (pick b 2 (pick (leb (body + count * 4) 4294967295) 4 8))
  unfolding written_width first_width
  written_is a b p q = rw (p, q)

  pub smallest_one : w ≡ 1 → true ≡ eqb (written_width body count) w
  smallest_one z =
      sym (eq-eqb (written_width body count) w (written_is true (leb (body + count * 2) 65535) (le-leb (body + count * 1) 255 (short z)) refl ∙ sym z))

  pub smallest_two : w ≡ 2 → ltb 255 (body + count) ≡ eqb (written_width body count) w
  smallest_two z = go (ltb 255 (body + count)) refl
    where
      go : (x : Bool) → ltb 255 (body + count) ≡ x → x ≡ eqb (written_width body count) w
      go true p = let q = ltb-true 255 (body + count) p in sym (eq-eqb (written_width body count) w (written_is false true (lt-leb (body + count * 1) 255 (omega arith)) (le-leb (body + count * 2) 65535 (middle z)) ∙ sym z))
      go false p = let q = ltb-false 255 (body + count) p in let x = written_is true (leb (body + count * 2) 65535) (le-leb (body + count * 1) 255 (omega arith)) refl in sym (ne_eqb (written_width body count) w (λ y. omega arith))

  pub smallest_four : (w ≡ 1 → ⊥) → (w ≡ 2 → ⊥) → ltb 65535 (body + 2 * count) ≡ eqb (written_width body count) w
  smallest_four a b = go (ltb 65535 (body + 2 * count)) (leb (body + count * 1) 255) refl refl (long a b).0 (long a b).1
    where
      go : (x y : Bool) → ltb 65535 (body + 2 * count) ≡ x → leb (body + count * 1) 255 ≡ y → 65535 < body + count * w → w ≡ 4 → x ≡ eqb (written_width body count) w
      go true y p r o m =
          let g = ltb-true 65535 (body + 2 * count) p in
          let n : body + count * 4 ≤ 65536 = rw m at h in
          let x = written_is false false (lt-leb (body + count * 1) 255 (omega (arith, o))) (lt-leb (body + count * 2) 65535 (omega arith)) in
          sym (eq-eqb (written_width body count) w (x ∙ rw (le-leb (body + count * 4) 4294967295 (omega arith)) (sym m)))
      go false true p r o m = let x = written_is true (leb (body + count * 2) 65535) r refl in sym (ne_eqb (written_width body count) w (λ y. omega arith))
      go false false p r o m =
          let g = ltb-false 65535 (body + 2 * count) p in
          let x = written_is false true r (le-leb (body + count * 2) 65535 (omega arith)) in sym (ne_eqb (written_width body count) w (λ y. omega arith))

-- the last offset, as the leaf finds it
pub last_offset_is : (l : List ℕ) (w : ℕ) (r : Checked) → w ≡ encoded_width (length l) → r ≡ last_offset_in w l → r.value ≡ last_offset (encoded_width (length l)) l
unfolding last_offset_in
last_offset_is l w r e q =
    ap (λ (x : Checked). x.value) q ∙ rw (stands (length l) refl) (ap (λ (i : ℕ). last_offset i l) e)
  where
    stands : (n : ℕ) → length l ≡ n → (eqb (length l) 0 || leb w (length l)) ≡ true
    stands zero h = rw (eq-eqb (length l) 0 h)
    stands (suc n) h = rw (ne_eqb (length l) 0 (λ z. omega arith), le-leb w (length l) (rw e (own_width (length l) (omega arith))))

-- ---- the elements of an array

module _ (l : List ℕ) (w s : ℕ) (hw : w ≡ encoded_width (length l)) (hs : s ≡ last_offset (encoded_width (length l)) l) where
  table_is : (t : Test) (d : Depths) (m : ℕ) → m ≡ (length l - s) / w
      → array_written false t l d ≡ (eqb (s + m * w) (length l) && (eqb (written_width s m) w && elements_written false t d l w s m s 0))
  unfolding array_written table_written
  table_is t d m hm = rw (← hs, ← hw, ← hm)

  pub table_past : length l < s → NoRows l false 0
  table_past h = record { is = λ t d p. table_is t d ((length l - s) / w) refl ∙ rw (ne_eqb (s + (length l - s) / w * w) (length l) (λ z. omega arith)) }

  module _ (m : ℕ) (hm : m ≡ (length l - s) / w) where
    pub table_odd : (s + m * w ≡ length l → ⊥) → NoRows l false 0
    table_odd h = record { is = λ t d p. table_is t d m hm ∙ rw (ne_eqb (s + m * w) (length l) h) }

    pub table_wide : s + m * w ≡ length l → false ≡ eqb (written_width s m) w → NoRows l false 0
    table_wide h e = record { is = λ t d p. table_is t d m hm ∙ rw (eq-eqb (s + m * w) (length l) h, ← e) }

    pub table_stands_lem : s + m * w ≡ length l → true ≡ eqb (written_width s m) w → RowsAre l false 0 (rows s m w s)
    table_stands_lem h e = record {
      is = λ t d p. table_is t d m hm ∙ rw (eq-eqb (s + m * w) (length l) h, ← e);
      standing = record { room = omega arith; within = omega arith; wide = λ z. rw hw (encoded_aligns (length l)) };
    }

    pub count_small : s ≤ length l → (m * w ≤ length l - s) × (m ≤ length l)
    count_small h = (rw hm (div-mul-le_self (length l - s) w), (let q = div-le_self (length l - s) w in omega arith))

pub rows_fixed : (l : List ℕ) (fx : Bool) (n : ℕ) → fx ≡ true → RowsAre l fx n (rows (length l) (length l / n) 0 0)
unfolding array_written
rows_fixed l true n h = record {
  is = λ t d p. ap (λ (i : ℕ). elements_written true t d l 0 (length l) (length l / i) 0 0) (p refl);
  standing = record { room = omega arith; within = omega arith; wide = λ z. no z };
}
rows_fixed l false n h = absurd (false≢true h)

pub rows_other : (l : List ℕ) (fx : Bool) (n : ℕ) (r : Option Rows) → fx ≡ false → RowsOf l false 0 r → RowsOf l fx n r
rows_other l true n r h g = no h
rows_other l false n (Some r) h g = record { is = λ t d p. g.is t d (λ z. absurd (false≢true z)); standing = record { room = g.standing.room; within = g.standing.within; wide = g.standing.wide } }
rows_other l false n None h g = record { is = λ t d p. g.is t d (λ z. absurd (false≢true z)) }

-- ---- the offsets of a structure

module _ (len count w : ℕ) (hw : w ≡ encoded_width len) where
  offsets_is : (fx : Bool) (a : ℕ) (ts : List Test) (l : List ℕ) (d : Depths) → length l ≡ len → offset_count (test_shapes ts) ≡ count
      → structure_written fx a ts l d ≡ (leb (count * w) len && (eqb (written_width (len - count * w) count) w && fields_written fx a d l (len - count * w) w ts 0 len))
  unfolding structure_written offsets_written
  offsets_is fx a ts l d e n = rw (e, n, ← hw)

  pub offsets_many : len < count * w → NoTable len count
  offsets_many h = record { is = λ fx a ts l d e n. offsets_is fx a ts l d e n ∙ rw (lt-leb (count * w) len h) }

  pub offsets_wide : count * w ≤ len → false ≡ eqb (written_width (len - count * w) count) w → NoTable len count
  offsets_wide h e = record { is = λ fx a ts l d q n. offsets_is fx a ts l d q n ∙ rw (le-leb (count * w) len h, ← e) }

  pub offsets_stand : count * w ≤ len → true ≡ eqb (written_width (len - count * w) count) w → TableIs len count (rows (len - count * w) count w len)
  offsets_stand h e = record {
    is = λ fx a ts l d q n. offsets_is fx a ts l d q n ∙ rw (le-leb (count * w) len h, ← e);
    room = h;
    within = omega arith;
    wide = rw hw (encoded_aligns len);
  }

-- ---- behind the last field

module _ (fx : Bool) (a k b : ℕ) (l : List ℕ) where
  pub finished_other : fx ≡ false → eqb k b ≡ fields_finished fx a k b l
  unfolding fields_finished
  finished_other h = rw h

  pub finished_short : (at : ℕ) → fx ≡ true → at ≡ k + padding k a → (at ≡ b → ⊥) → false ≡ fields_finished fx a k b l
  unfolding fields_finished
  finished_short at h e g = rw h (rw (← e, ne_eqb at b g))

  pub finished_whole : (at : ℕ) (r : Bool) → fx ≡ true → at ≡ k + padding k a → at ≡ b → r ≡ all_zero (take (b - k) (drop k l)) → r ≡ fields_finished fx a k b l
  unfolding fields_finished part
  finished_whole at r h e g p = rw h (rw (← e, eq-eqb at b g) p)

pub table_small : (n w len : ℕ) → n ≤ 255 → w ≡ encoded_width len → n * w ≤ 2040
table_small n w len h e = rw e (by_alignment (λ v. n * v ≤ 2040) (omega arith) (omega arith) (omega arith) (omega arith) (encoded_aligns len))
