-- Widths tried one after the other, offsets written byte by byte, and tables read entry by entry: once over the width. Assumes nothing.
use mathlib.Core.Path.{◌≡◌, refl, sym, ap, ◌∙◌}
use mathlib.Core.List.{List, ◌∷◌, ◌++◌, append_assoc, append-nil}
use mathlib.Core.Bool.{Bool, true, false, ◌&&◌}
use Prim.Native.Nat.{ℕ, zero, suc, ◌+◌, ◌*◌, ◌-◌, ◌/◌, ◌%◌, ◌≤◌, ◌<◌}
use native.Mathlib.Nat.{le-div_iff_mul-le, div-lt_iff_lt-mul, sub-zero, zero-mul, zero-div, zero-mod, mod-eq_of_lt, mod-eq-sub-mod, div-eq-sub-div, suc-mul}
use native.Mathlib.Numerals.{add-one}
use native.Mathlib.Omega.{arith}
use lib.Dec.{leb, eqb}
use lib.ListN.{length, take, drop, set, get_or, length-set, take-append-drop}
use lib.Seq.{take-suc-set, drop-set-lt, drop-drop}
use borrow.Author.Tests.{le-leb, lt-leb, leb-true, leb-false, ne_eqb}
use Rattle.meaning.specs.Numbers.{bytes, value}
use Rattle.meaning.specs.Offsets.{largest, first_width, encoded_width, entries, none_above, Table, table_from, ends_of, table_stands}
use Rattle.meaning.proofs.OffsetLaws.{Fits, fits1, fits2, fits4, fits8, fits_none, bare_width_fits, encoded_width_1, encoded_width_2, encoded_width_4, encoded_width_8}

-- a body that is too long by itself, and one that leaves room for so many offsets
pub too_long : (w body count most : ℕ) → most < body → leb (body + count * w) most ≡ false
too_long w body count most h = lt-leb (body + count * w) most (omega arith)

pub room_for : (w body count most : ℕ) → 0 < w → body ≤ most → leb count ((most - body) / w) ≡ leb (body + count * w) most
room_for w body count most p h = go (leb count ((most - body) / w)) refl
  where
    go : (b : Bool) → leb count ((most - body) / w) ≡ b → leb count ((most - body) / w) ≡ leb (body + count * w) most
    go true e =
        let q = (le-div_iff_mul-le p).0 (leb-true count ((most - body) / w) e) in
        e ∙ sym (le-leb (body + count * w) most (omega arith))
    go false e = e ∙ sym (lt-leb (body + count * w) most (let q = (div-lt_iff_lt-mul p).0 (leb-false count ((most - body) / w) e) in omega arith))

pub first_fits : (other w : ℕ) (ws : List ℕ) (body count : ℕ) → leb (body + count * w) (largest w) ≡ true
    → first_width other (w ∷ ws) body count ≡ w
unfolding first_width
first_fits other w ws body count h = rw h

pub first_not : (other w : ℕ) (ws : List ℕ) (body count : ℕ) → leb (body + count * w) (largest w) ≡ false
    → first_width other (w ∷ ws) body count ≡ first_width other ws body count
unfolding first_width
first_not other w ws body count h = rw h

-- how far an offset is written: `i` bytes of `w` stand in the buffer, `rest` is left of the offset
pub record Writing (w offset : ℕ) (before buffer : List ℕ) (rest i : ℕ) : Type 0 where
  pub within : i ≤ w
  pub same : length buffer ≡ length before
  pub front : take i buffer ++ bytes (w - i) rest ≡ bytes w offset
  pub behind : drop i buffer ≡ drop i before

pub bytes_step : (w n : ℕ) → 0 < w → bytes w n ≡ n % 256 ∷ bytes (w - 1) (n / 256)
unfolding bytes
bytes_step zero n p = absurd (omega arith)
bytes_step (suc w) n p = let e : suc w - 1 ≡ w = omega arith in rw e

pub writing_begin : (w offset : ℕ) (buffer : List ℕ) → Writing w offset buffer buffer offset 0
writing_begin w offset buffer = record { within = omega arith; same = refl; front = rw (sub-zero w); behind = refl }

pub writing_next : (w offset : ℕ) (before buffer : List ℕ) (rest i : ℕ) → Writing w offset before buffer rest i → i < w → w ≤ length before
    → Writing w offset before (set buffer i (rest % 256)) (rest / 256) (i + 1)
writing_next w offset before buffer rest i h p q =
    record { within = omega arith; same = length-set buffer i (rest % 256) ∙ h.same; front = front' ∙ h.front; behind = behind' }
  where
    front' : take (i + 1) (set buffer i (rest % 256)) ++ bytes (w - (i + 1)) (rest / 256) ≡ take i buffer ++ bytes (w - i) rest
    front' =
        let e : w - (i + 1) ≡ w - i - 1 = omega arith in
        rw (add-one i, take-suc-set buffer i (rest % 256) (omega (arith, h.same)), append_assoc, ← add-one i, e, bytes_step (w - i) rest (omega arith))

    behind' : drop (i + 1) (set buffer i (rest % 256)) ≡ drop (i + 1) before
    behind' =
        drop-set-lt (i + 1) buffer i (rest % 256) (omega arith)
        ∙ sym (drop-drop 1 i buffer) ∙ ap (λ (l : List ℕ). drop 1 l) h.behind ∙ drop-drop 1 i before

pub writing_end : (w offset : ℕ) (before buffer : List ℕ) (rest i : ℕ) → Writing w offset before buffer rest i → w ≤ i
    → buffer ≡ bytes w offset ++ drop w before
unfolding bytes
writing_end w offset before buffer rest i h p =
    let e : i ≡ w = omega (arith, h.within) in
    let z : w - i ≡ 0 = omega arith in
    sym (take-append-drop i buffer)
    ∙ ap (λ (l : List ℕ). l ++ drop i buffer) (sym (append-nil (take i buffer)) ∙ (rw z at h.front))
    ∙ rw (h.behind, e)

-- a table from one entry to the next: what is left of a container from a place on
module _ (w rest : ℕ) (p : 0 < w) (h : w ≤ rest) where
  pub piece_next : rest % w ≡ (rest - w) % w
  piece_next = mod-eq-sub-mod h

  pub count_next : rest / w ≡ suc ((rest - w) / w)
  count_next = div-eq-sub-div p h ∙ add-one ((rest - w) / w)

-- the test of the entries from a place on
abbrev pub rest_stands : ℕ → ℕ → List ℕ → ℕ → Bool
rest_stands w start l i = eqb ((length l - i) % w) 0 && none_above start (entries ((length l - i) / w) w (drop i l))

and_false : (a : Bool) → (a && false) ≡ false
and_false true = refl
and_false false = refl

module _ (w start : ℕ) (l : List ℕ) (i : ℕ) (p : 0 < w) where
  pub rest_end : length l ≤ i → rest_stands w start l i ≡ true
  unfolding entries none_above
  rest_end h =
      let e : length l - i ≡ 0 = omega arith in
      rw (e, zero-mod w, zero-div w)

  pub rest_piece : i < length l → length l - i < w → rest_stands w start l i ≡ false
  rest_piece g h =
      rw (mod-eq_of_lt h, ne_eqb (length l - i) 0 (λ z. omega arith))

  module _ (h : w ≤ length l - i) where
    split : rest_stands w start l i ≡ eqb ((length l - (i + w)) % w) 0 && (leb (value (take w (drop i l))) start && none_above start (entries ((length l - (i + w)) / w) w (drop (i + w) l)))
    unfolding entries none_above
    split =
        let e : length l - i - w ≡ length l - (i + w) = omega arith in
        rw (piece_next w (length l - i) p h, count_next w (length l - i) p h, drop-drop w i l, e)

    pub rest_above : {n : ℕ} → n ≡ value (take w (drop i l)) → start < n → rest_stands w start l i ≡ false
    rest_above e g =
        split ∙ rw (lt-leb (value (take w (drop i l))) start (rw e at g)) (and_false (eqb ((length l - (i + w)) % w) 0))

    pub rest_next : {n : ℕ} → n ≡ value (take w (drop i l)) → n ≤ start → rest_stands w start l i ≡ rest_stands w start l (i + w)
    rest_next e g = split ∙ rw (le-leb (value (take w (drop i l))) start (rw e at g))

-- the test of a table is that of its entries from its start on
pub table_past : (w start : ℕ) (l : List ℕ) → length l < start → table_stands (table_from w start l) l ≡ false
unfolding table_stands table_from
table_past w start l h = rw (lt-leb start (length l) h)

pub table_rest : (w start : ℕ) (l : List ℕ) → start ≤ length l → table_stands (table_from w start l) l ≡ rest_stands w start l start
unfolding table_stands table_from ends_of
table_rest w start l h = rw (le-leb start (length l) h)

-- the i-th entry where it stands
pub entry_at : (n w : ℕ) (l : List ℕ) (i : ℕ) → i < n → get_or (entries n w l) i 0 ≡ value (take w (drop (i * w) l))
unfolding entries
entry_at zero w l i h = absurd (omega arith)
entry_at (suc n) w l zero h = rw (zero-mul w)
entry_at (suc n) w l (suc i) h =
    let e : w + i * w ≡ suc i * w = omega (arith, suc-mul i w) in
    entry_at n w (drop w l) i (omega arith) ∙ rw (drop-drop (i * w) w l, e)

pub end_at : (t : Table) (l : List ℕ) (i : ℕ) → i < t.count → get_or (ends_of t l) i 0 ≡ value (take t.width (drop (t.start + i * t.width) l))
unfolding ends_of
end_at t l i h = entry_at t.count t.width (drop t.start l) i h ∙ rw (drop-drop (i * t.width) t.start l)

-- the i-th entry is there where so many fit
pub entry_past : (w start len i : ℕ) → 0 < w → (len - start) / w ≤ i → len < start + i * w + w
entry_past w start len i p h =
    let q : len - start < suc i * w = (div-lt_iff_lt-mul p).0 (omega arith) in
    omega (arith, suc-mul i w)

pub entry_there : (w start len i : ℕ) → 0 < w → i < (len - start) / w → start + i * w + w ≤ len
entry_there w start len i p h =
    let q : suc i * w ≤ len - start = (le-div_iff_mul-le p).0 h in
    omega (arith, suc-mul i w)

-- a container that is not empty has room for an offset of its own width
pub own_width : (n : ℕ) → 0 < n → encoded_width n ≤ n
own_width n h = go (bare_width_fits n 0)
  where
    go : {w : ℕ} → Fits n 0 w → encoded_width n ≤ n
    go (fits1 f) = rw (encoded_width_1 n (omega arith)) (omega arith)
    go (fits2 f g) = rw (encoded_width_2 n (omega arith) (omega arith)) (omega arith)
    go (fits4 f g) = rw (encoded_width_4 n (omega arith) (omega arith)) (omega arith)
    go (fits8 f g) = rw (encoded_width_8 n (omega arith)) (omega arith)
    go (fits_none f) = rw (encoded_width_8 n (omega arith)) (omega arith)
