-- Tables by their own bytes, from the tests of the code. Assumes nothing.
use mathlib.Core.Path.{◌≡◌, refl, sym, ap, ◌∙◌}
use mathlib.Core.List.{List}
use mathlib.Core.Bool.{Bool, true, false, ◌&&◌, false≢true}
use Prim.Native.Nat.{ℕ, ◌+◌, ◌*◌, ◌-◌, ◌/◌, ◌%◌, ◌≤◌, ◌<◌}
use native.Mathlib.Omega.{arith}
use native.Mathlib.Nat.{div_self, zero-mul}
use lib.Dec.{leb, eqb}
use lib.ListN.{length, take, drop, length-take, length-drop}
use lib.Seq.{take_all, drop-drop, drop-length}
use borrow.Author.Tests.{leb-true, leb-false, le-leb, eqb-true, eqb-false}
use Rattle.meaning.proofs.Lists.{tail}
use Rattle.meaning.specs.Choice.{pick}
use Rattle.meaning.specs.Refusals.{out_of_bounds}
use Rattle.meaning.specs.Offsets.{Table, table_from, table_of, ends_of, none_above, table_stands}
use Rattle.meaning.specs.Numbers.{spelled, value}
use Rattle.utils.specs.Checks.{Checked}
use Rattle.utils.specs.Checks.{passed, failed}
use Rattle.byte_order.specs.Standing.{number_at}
use Rattle.byte_order.proofs.Standings.{number_at_is}
use Rattle.framing_offsets.specs.Tables.{EncodedArray, count_from, empty_table, Encoded, offset_in}
use Rattle.framing_offsets.specs.Held.{held_table, table_bytes}
use Rattle.framing_offsets.proofs.TableLaws.{count_past, offset_behind, offset_past, offset_inside, offset_there}

pub count_held : (w : ℕ) (l : List ℕ) {n : ℕ} → n ≡ length l / w → n ≡ count_from w 0 l
unfolding table_from
count_held w l h = let z : length l - 0 ≡ length l = omega arith in rw z h

module _ (w i : ℕ) (l : List ℕ) {n : ℕ} (e : n ≡ count_from w 0 l) where
  pub held_behind : n ≤ i → failed out_of_bounds ≡ offset_in (held_table w l) i l
  held_behind h = offset_behind (held_table w l) i l (rw e at h)

  module _ (p : 0 < w) (g : i < n) where
    pub held_inside : i * w + w ≤ length l
    unfolding table_from
    held_inside = let q : 0 + i * w + w ≤ length l = offset_inside (held_table w l) i l (rw e at g) e p g in omega arith

    pub held_there : number_at w false l (i * w) ≡ offset_in (held_table w l) i l
    unfolding table_from
    held_there =
        let z : i * w ≡ 0 + i * w = omega arith in
        ap (number_at w false l) z ∙ offset_there (held_table w l) i l (rw e at g) e p g

    pub held_spelled : {m : ℕ} → m ≡ spelled false w (i * w) l → passed m ≡ offset_in (held_table w l) i l
    held_spelled h = ap passed h ∙ sym (number_at_is w false l (i * w) ∙ rw (le-leb (i * w + w) (length l) held_inside)) ∙ held_there

    -- read by its bytes alone
    pub held_alone : number_at w false (take (i * w + w - i * w) (drop (i * w) l)) 0 ≡ offset_in (held_table w l) i l
    held_alone =
        let z : i * w + w - i * w ≡ w = omega arith in
        let n : length (take w (drop (i * w) l)) ≡ w = simp (length-take, length-drop) (omega (arith, held_inside)) in
        let there : leb (0 + w) (length (take w (drop (i * w) l))) ≡ true = le-leb _ _ (omega (arith, n)) in
        let same : take w (drop 0 (take w (drop (i * w) l))) ≡ take w (drop (i * w) l) = take_all _ _ (omega (arith, n)) in
        rw z (number_at_is w false (take w (drop (i * w) l)) 0 ∙ rw there (held_spelled (ap value same)))

-- a table that stands begins inside its container
stands_inside : (t : Table) (l : List ℕ) → table_stands t l ≡ true → t.start ≤ length l
unfolding table_stands
stands_inside t l h = go (leb t.start (length l)) refl h
  where
    go : (x : Bool) → leb t.start (length l) ≡ x → (x && (eqb ((length l - t.start) % t.width) 0 && none_above t.start (ends_of t l))) ≡ true → t.start ≤ length l
    go true p a = leb-true _ _ p
    go false p a = absurd (false≢true a)

-- the bytes of a table that is found in its container
module _ (l : List ℕ) (r : EncodedArray) (t : Encoded l r) where
  stood : r.refusal ≡ 0 → table_stands (table_of l) l ≡ true
  stood z = go (table_stands (table_of l) l) refl
    where
      go : (b : Bool) → table_stands (table_of l) l ≡ b → table_stands (table_of l) l ≡ true
      go true q = q
      go false q = let e : r.refusal ≡ 3 = t.refusal ∙ ap (λ (x : Bool). pick x 0 out_of_bounds) q in absurd (omega arith)

  fell : (r.refusal ≡ 0 → ⊥) → table_stands (table_of l) l ≡ false
  fell f = go (table_stands (table_of l) l) refl
    where
      go : (b : Bool) → table_stands (table_of l) l ≡ b → table_stands (table_of l) l ≡ false
      go true q = absurd (f (t.refusal ∙ ap (λ (x : Bool). pick x 0 out_of_bounds) q))
      go false q = q

  start_there : r.refusal ≡ 0 → r.offsets.start ≡ (table_of l).start
  start_there z = ap (λ (x : Table). x.start) (t.table ∙ ap (λ (x : Bool). pick x (table_of l) empty_table) (stood z))

  pub start_inside : r.refusal ≡ 0 → r.offsets.start ≤ length l
  start_inside z = rw (start_there z) (stands_inside (table_of l) l (stood z))

  pub bytes_there : r.refusal ≡ 0 → take (length l - r.offsets.start) (drop r.offsets.start l) ≡ table_bytes l
  unfolding table_bytes
  bytes_there z = tail r.offsets.start l ∙ rw (stood z, start_there z)

  pub bytes_refused : (r.refusal ≡ 0 → ⊥) → take (length l - length l) (drop (length l) l) ≡ table_bytes l
  unfolding table_bytes
  bytes_refused f = tail (length l) l ∙ drop-length l ∙ rw (fell f)

-- whether an offset is there, by the answer
module _ (w i : ℕ) (l : List ℕ) (p : 0 < w) {r : Checked} (e : r ≡ offset_in (held_table w l) i l) where
  held_is : i < count_from w 0 l → r ≡ passed (spelled false w (i * w) l)
  held_is g = e ∙ sym (held_spelled w i l refl p g refl)

  held_past : (r.refusal ≡ 0 → ⊥) → count_from w 0 l ≤ i
  held_past z = go (leb (count_from w 0 l) i) refl
    where
      go : (b : Bool) → leb (count_from w 0 l) i ≡ b → count_from w 0 l ≤ i
      go true q = leb-true _ _ q
      go false q = absurd (z (ap (λ (x : Checked). x.refusal) (held_is (leb-false _ _ q))))

  held_before : r.refusal ≡ 0 → i < count_from w 0 l
  held_before z = go (leb (count_from w 0 l) i) refl
    where
      go : (b : Bool) → leb (count_from w 0 l) i ≡ b → i < count_from w 0 l
      go true q = absurd (let n : r.refusal ≡ out_of_bounds = ap (λ (x : Checked). x.refusal) (e ∙ sym (held_behind w i l refl (leb-true _ _ q))) in omega arith)
      go false q = leb-false _ _ q

-- the bytes of one offset are a table of that one
pub only_held : (w : ℕ) (l : List ℕ) {r : Checked} → 0 < w → length l ≡ w → r ≡ offset_in (held_table w l) 0 l → r.value ≡ value l
unfolding table_from
only_held w l {r} p h e =
    let z : length l - 0 ≡ w = omega arith in
    let one : (length l - 0) / w ≡ 1 = rw z (div_self p) in
    let is : r ≡ passed (spelled false w (0 * w) l) = held_is w 0 l p e (omega arith) in
    ap (λ (x : Checked). x.value) is ∙ rw (zero-mul w) (ap value (take_all w l (omega arith)))

-- an offset of a table that stands in a container, by the table's own bytes
module _ (t : Table) (i : ℕ) (l : List ℕ) (h : i < t.count) (p : 0 < t.width) where
  pub offset_beyond : length l < t.start → failed out_of_bounds ≡ offset_in t i l
  offset_beyond g = offset_past t i l h (count_past t.width t.start l g) p (omega arith)

  module _ {r : Checked} (e : r ≡ offset_in (held_table t.width (take (length l - t.start) (drop t.start l))) i (take (length l - t.start) (drop t.start l))) where
    cut : r ≡ offset_in (held_table t.width (drop t.start l)) i (drop t.start l)
    cut = e ∙ rw (tail t.start l)

    counted : count_from t.width 0 (drop t.start l) ≡ count_from t.width t.start l
    unfolding table_from
    counted = let z : length (drop t.start l) - 0 ≡ length l - t.start = simp length-drop (omega arith) in rw z

    offset_short : (r.refusal ≡ 0 → ⊥) → failed out_of_bounds ≡ offset_in t i l
    offset_short z = offset_past t i l h counted p (held_past t.width i (drop t.start l) p cut z)

    offset_held : r.refusal ≡ 0 → r ≡ offset_in t i l
    offset_held z =
        let g = held_before t.width i (drop t.start l) p cut z in
        let q = offset_inside t i l h counted p g in
        let b : number_at t.width false l (t.start + i * t.width) ≡ passed (spelled false t.width (t.start + i * t.width) l) =
        number_at_is t.width false l (t.start + i * t.width) ∙ rw (le-leb (t.start + i * t.width + t.width) (length l) q) in
        let same : spelled false t.width (i * t.width) (drop t.start l) ≡ spelled false t.width (t.start + i * t.width) l = rw (drop-drop (i * t.width) t.start l) in
        held_is t.width i (drop t.start l) p cut g ∙ ap passed same ∙ sym b ∙ offset_there t i l h counted p g

    -- what the table's own bytes answer is the answer
    pub offset_through : r ≡ offset_in t i l
    offset_through = go (eqb r.refusal 0) refl
      where
        go : (b : Bool) → eqb r.refusal 0 ≡ b → r ≡ offset_in t i l
        go true q = offset_held (eqb-true _ 0 q)
        go false q =
            let z = eqb-false _ 0 q in
            cut ∙ sym (held_behind t.width i (drop t.start l) refl (held_past t.width i (drop t.start l) p cut z)) ∙ offset_short z
