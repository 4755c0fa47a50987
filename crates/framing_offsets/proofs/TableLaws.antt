-- The leaves over tables of framing offsets, from the tests of the code. Assumes nothing.
use mathlib.Core.Path.{◌≡◌, refl, sym, ap, ◌∙◌}
use mathlib.Core.List.{List, [], ◌∷◌}
use mathlib.Core.Bool.{Bool, true, false}
use Prim.Native.Nat.{ℕ, ◌+◌, ◌*◌, ◌-◌, ◌/◌, ◌≤◌, ◌<◌}
use native.Mathlib.Nat.{zero-div}
use native.Mathlib.Omega.{arith}
use lib.ListN.{length}
use borrow.Author.Tests.{le-leb, lt-leb, ne_eqb}
use Rattle.meaning.specs.Refusals.{out_of_bounds}
use Rattle.meaning.specs.Offsets.{Table, encoded_width, last_offset, table_from, table_of, table_stands}
use Rattle.meaning.proofs.OffsetSteps.{end_at, entry_past, entry_there, own_width, rest_stands, rest_piece, rest_above, rest_next}
use Rattle.std.specs.Prelude.{Ok, Err}
use Rattle.meaning.specs.declared.refusals.Refusal.TheVariants.{OutOfBounds}
use Rattle.utils.specs.Checks.{Checked}
use Rattle.framing_offset_size.specs.declared.FramingOffsetSize.{FramingOffsetSize}
use Rattle.utils.specs.Checks.{failed}
use Rattle.byte_order.specs.Standing.{number_at}
use Rattle.byte_order.proofs.Standings.{number_at_is, number_inside, number_outside, number_value}
use Rattle.framing_offsets.specs.Tables.{table_in, count_from, encoded_in, Encoded, offset_in}
use Rattle.framing_offset_size.specs.Widths.{width_of, last_offset_in}

pub count_past : (w start : ℕ) (l : List ℕ) → length l < start → 0 ≡ count_from w start l
unfolding table_from
count_past w start l h =
    let e : length l - start ≡ 0 = omega arith in
    rw (e, zero-div w)

pub count_there : (w start : ℕ) (l : List ℕ) {n : ℕ} → n ≡ (length l - start) / w → n ≡ count_from w start l
unfolding table_from
count_there w start l h = h

last_value : (w : ℕ) (l : List ℕ) → (0 < length l → w ≤ length l) → (last_offset_in w l).value ≡ last_offset w l
unfolding last_offset_in
last_value w [] h = refl
last_value w (b ∷ l) h = rw (ne_eqb (length (b ∷ l)) 0 (λ z. omega arith), le-leb w (length (b ∷ l)) (h (omega arith)))

-- the table of a whole container, by the leaves that find its width and its start
module _ (l : List ℕ) (s : FramingOffsetSize) {last : Checked}
    (e : width_of s ≡ encoded_width (length l)) (f : last ≡ last_offset_in (width_of s) l) where
  start_is : last.value ≡ last_offset (encoded_width (length l)) l
  start_is = ap (λ (a : Checked). a.value) f ∙ rw e (last_value (encoded_width (length l)) l (own_width (length l)))

  table_is : table_from (width_of s) last.value l ≡ table_of l
  unfolding table_of
  table_is = rw (e, start_is)

  held : {n : ℕ} → n ≡ count_from (width_of s) last.value l
      → table_in (record { start = last.value; count = n; size = s }) ≡ table_from (width_of s) last.value l
  unfolding table_from
  held c = rw c

  module _ {b : Bool} (h : b ≡ table_stands (table_from (width_of s) last.value l) l) where
    judged : table_stands (table_of l) l ≡ b
    judged = sym (h ∙ ap (λ (t : Table). table_stands t l) table_is)

    pub encoded_by : {n : ℕ} → b ≡ true → n ≡ count_from (width_of s) last.value l → Encoded l (encoded_in (Ok (record { start = last.value; count = n; size = s })))
    encoded_by t c = record { refusal = rw (judged ∙ t); table = held c ∙ table_is ∙ rw (judged ∙ t) }

    pub refused_by : b ≡ false → Encoded l (encoded_in (Err OutOfBounds))
    refused_by f = record { refusal = rw (judged ∙ f); table = rw (judged ∙ f) }

module _ (t : Table) (i : ℕ) (l : List ℕ) where
  pub offset_behind : t.count ≤ i → failed out_of_bounds ≡ offset_in t i l
  unfolding offset_in
  offset_behind h = rw (le-leb t.count i h)

  module _ {n : ℕ} (h : i < t.count) (e : n ≡ count_from t.width t.start l) (p : 0 < t.width) where
    pub offset_past : n ≤ i → failed out_of_bounds ≡ offset_in t i l
    unfolding offset_in table_from
    offset_past g =
        rw (
          lt-leb t.count i h,
          lt-leb (t.start + i * t.width + t.width) (length l) (entry_past t.width t.start (length l) i p (rw e at g)),
        )

    pub offset_inside : i < n → t.start + i * t.width + t.width ≤ length l
    unfolding table_from
    offset_inside g = entry_there t.width t.start (length l) i p (rw e at g)

    pub offset_there : i < n → number_at t.width false l (t.start + i * t.width) ≡ offset_in t i l
    unfolding offset_in
    offset_there g =
        let inside = le-leb (t.start + i * t.width + t.width) (length l) (offset_inside g) in
        number_at_is t.width false l (t.start + i * t.width) ∙ rw (inside, lt-leb t.count i h, end_at t l i h)

-- an entry of a table, one after the other
module _ (w start : ℕ) (l : List ℕ) (i : ℕ) (p : 0 < w) {r : Checked} (h : r ≡ number_at w false l i) where
  pub entry_missing : i < length l → (r.refusal ≡ 0 → ⊥) → rest_stands w start l i ≡ false
  entry_missing g z =
      let q = number_outside w false l i h z in
      rest_piece w start l i p g (omega arith)

  module _ (z : r.refusal ≡ 0) where
    pub entry_inside : i + w ≤ length l
    entry_inside = number_inside w false l i h z

    fits : w ≤ length l - i
    fits = let q = entry_inside in omega arith

    pub entry_above : start < r.value → rest_stands w start l i ≡ false
    entry_above g = rest_above w start l i p fits (number_value w false l i h z) g

    pub entry_next : r.value ≤ start → rest_stands w start l i ≡ rest_stands w start l (i + w)
    entry_next g = rest_next w start l i p fits (number_value w false l i h z) g
