-- Laws of the layout of children and of the table of their ends. Assumes nothing.
use mathlib.Core.Path.{◌≡◌, refl, sym, ap, ◌∙◌}
use mathlib.Core.List.{List, [], ◌∷◌, ◌++◌, append-nil, append_assoc, reverse, reverse-cons}
use mathlib.Core.Bool.{Bool, true, false}
use Prim.Native.Nat.{ℕ, suc, ◌+◌, ◌*◌, ◌-◌, ◌/◌, ◌%◌, ◌^◌, ◌≤◌, ◌<◌}
use native.Mathlib.Nat.{mul-div_cancel, mul-mod_left}
use native.Mathlib.Omega.{arith}
use lib.ListN.{length, take, drop, length-append, length-replicate}
use lib.Seq.{take_at, drop_at, take-length, take-nil, drop-nil}
use borrow.Author.Tests.{le-leb, eq-eqb}
use Rattle.meaning.specs.Numbers.{bytes, value}
use Rattle.meaning.specs.Padding.{padding, zeros}
use Rattle.meaning.specs.Offsets.{encoded_width, table, back_table, last_offset, entries, none_above, Table, table_from, table_of, ends_of, table_stands}
use Rattle.meaning.specs.Written.{Piece, stop, layout, events_from, ends, unless, field_ends}
use Rattle.meaning.proofs.NumberLaws.{length_bytes, value_bytes}
use Rattle.meaning.proofs.OffsetLaws.{Fits, encoded_width_fits, fits_below}

pub data All (P : Piece → Type 0) : List Piece → Type 0 where
  nil : All P []
  cons : {c : Piece} {cs : List Piece} → P c → All P cs → All P (c ∷ cs)

-- ---- the clauses as equations

pub layout_cons : (k : ℕ) (c : Piece) (cs : List Piece) → layout k (c ∷ cs) ≡ zeros (padding k c.alignment) ++ (c.bytes ++ layout (stop k c) cs)
unfolding layout
layout_cons k c cs = refl

pub layout_none : (k : ℕ) → layout k [] ≡ []
unfolding layout
layout_none k = refl

pub layout_one : (j : ℕ) (c : Piece) → layout j (c ∷ []) ≡ zeros (padding j c.alignment) ++ c.bytes
unfolding layout
layout_one j c = rw append-nil

pub events_cons : (p k : ℕ) (c : Piece) (cs : List Piece) → events_from p k (c ∷ cs) ≡ c.events (p + (k + padding k c.alignment)) ++ events_from p (stop k c) cs
unfolding events_from
events_cons p k c cs = refl

pub events_one : (p j : ℕ) (c : Piece) → events_from p j (c ∷ []) ≡ c.events (p + (j + padding j c.alignment))
unfolding events_from
events_one p j c = rw append-nil

pub field_ends_one : (j : ℕ) (c : Piece) → field_ends j (c ∷ []) ≡ []
unfolding field_ends
field_ends_one j c = refl

pub field_ends_fixed : (k : ℕ) (c g : Piece) (cs : List Piece) → c.fixed ≡ true → field_ends k (c ∷ g ∷ cs) ≡ field_ends (stop k c) (g ∷ cs)
unfolding field_ends
field_ends_fixed k c g cs h = ap (λ (b : Bool). unless b (stop k c) (field_ends (stop k c) (g ∷ cs))) h

pub field_ends_other : (k : ℕ) (c g : Piece) (cs : List Piece) → c.fixed ≡ false → field_ends k (c ∷ g ∷ cs) ≡ stop k c ∷ field_ends (stop k c) (g ∷ cs)
unfolding field_ends
field_ends_other k c g cs h = ap (λ (b : Bool). unless b (stop k c) (field_ends (stop k c) (g ∷ cs))) h

pub back_table_cons : (w e : ℕ) (es : List ℕ) → back_table w (e ∷ es) ≡ back_table w es ++ bytes w e
unfolding back_table
back_table_cons w e es = refl

pub back_table_one : (w j : ℕ) (c : Piece) → back_table w (field_ends j (c ∷ [])) ≡ []
unfolding field_ends back_table
back_table_one w j c = refl

-- ---- lengths

-- a child with its padding
abbrev pub placed : ℕ → Piece → List ℕ
placed k c = zeros (padding k c.alignment) ++ c.bytes

pub length_placed : (k : ℕ) (c : Piece) → length (placed k c) ≡ padding k c.alignment + length c.bytes
length_placed k c = simp (length-append, length-replicate)

pub stop_placed : (k : ℕ) (c : Piece) → k + length (placed k c) ≡ stop k c
unfolding stop
stop_placed k c = simp (length-append, length-replicate) (omega arith)

pub layout_first : (k : ℕ) (c : Piece) (cs : List Piece) → layout k (c ∷ cs) ≡ placed k c ++ layout (stop k c) cs
layout_first k c cs = layout_cons k c cs ∙ sym (append_assoc (zeros (padding k c.alignment)) c.bytes (layout (stop k c) cs))

pub length_layout : (k : ℕ) (c : Piece) (cs : List Piece) → k + length (layout k (c ∷ cs)) ≡ stop k c + length (layout (stop k c) cs)
unfolding layout stop
length_layout k c cs = simp (length-append, length-replicate) (omega arith)

pub length_table : (w : ℕ) (es : List ℕ) → length (table w es) ≡ length es * w
unfolding table
length_table w [] = omega arith
length_table w (e ∷ es) = simp (length-append, length_bytes, length_table w es) (omega arith)

pub length_back_table : (w : ℕ) (es : List ℕ) → length (back_table w es) ≡ length es * w
unfolding back_table
length_back_table w [] = omega arith
length_back_table w (e ∷ es) = simp (length-append, length_bytes, length_back_table w es) (omega arith)

pub table_append : (w : ℕ) (xs ys : List ℕ) → table w (xs ++ ys) ≡ table w xs ++ table w ys
unfolding table
table_append w [] ys = refl
table_append w (x ∷ xs) ys = ap (λ (z : List ℕ). bytes w x ++ z) (table_append w xs ys) ∙ sym (append_assoc (bytes w x) (table w xs) (table w ys))

pub back_table_append : (w : ℕ) (xs ys : List ℕ) → back_table w (xs ++ ys) ≡ back_table w ys ++ back_table w xs
unfolding back_table
back_table_append w [] ys = sym (append-nil (back_table w ys))
back_table_append w (x ∷ xs) ys =
    ap (λ (z : List ℕ). z ++ bytes w x) (back_table_append w xs ys) ∙ append_assoc (back_table w ys) (back_table w xs) (bytes w x)

pub back_table_reverse : (w : ℕ) (es : List ℕ) → back_table w (reverse es) ≡ table w es
unfolding back_table table
back_table_reverse w [] = refl
back_table_reverse w (e ∷ es) =
    ap (λ (z : List ℕ). back_table w z) (reverse-cons e es) ∙ back_table_append w (reverse es) (e ∷ []) ∙ ap (λ (z : List ℕ). bytes w e ++ z) (back_table_reverse w es)

pub length_ends : (k : ℕ) (cs : List Piece) → length (ends k cs) ≡ length cs
unfolding ends
length_ends k [] = refl
length_ends k (c ∷ cs) = ap suc (length_ends (stop k c) cs)

-- ---- a layout in its place, taken apart behind its first child

pub layout_split : (x y l : List ℕ) (k : ℕ) (c : Piece) (cs : List Piece) → l ≡ x ++ (layout k (c ∷ cs) ++ y) → l ≡ x ++ (placed k c ++ (layout (stop k c) cs ++ y))
layout_split x y l k c cs h = h ∙ rw layout_cons (simp append_assoc)

pub layout_shift : (x y l : List ℕ) (k : ℕ) (c : Piece) (cs : List Piece) → l ≡ x ++ (layout k (c ∷ cs) ++ y) → l ≡ (x ++ placed k c) ++ (layout (stop k c) cs ++ y)
layout_shift x y l k c cs h = h ∙ rw layout_cons (simp append_assoc)

-- ---- the table of an array is found again

pub none_above_ends : (k n : ℕ) (cs : List Piece) → k + length (layout k cs) ≤ n → none_above n (ends k cs) ≡ true
unfolding ends none_above
none_above_ends k n [] h = refl
none_above_ends k n (c ∷ cs) h =
    let e = length_layout k c cs in
    let m : stop k c ≤ n = omega arith in
    rw (le-leb (stop k c) n m) (none_above_ends (stop k c) n cs (omega arith))

pub entries_table : (w n k : ℕ) (cs : List Piece) → n < 256 ^ w → k + length (layout k cs) ≤ n → entries (length cs) w (table w (ends k cs)) ≡ ends k cs
unfolding entries table ends
entries_table w n k [] b h = refl
entries_table w n k (c ∷ cs) b h =
    let e = length_layout k c cs in
    let v : value (bytes w (stop k c)) ≡ stop k c = value_bytes w (stop k c) (omega arith) in
    rw (
      take_at (bytes w (stop k c)) (table w (ends (stop k c) cs)) w (length_bytes w (stop k c)),
      drop_at (bytes w (stop k c)) (table w (ends (stop k c) cs)) w (length_bytes w (stop k c)),
      v,
      entries_table w n (stop k c) cs b (omega arith),
    )

-- the last entry is the body's length
pub table_last : (w k s : ℕ) (c : Piece) (cs : List Piece) → k + length (layout k (c ∷ cs)) ≡ s → (x : List ℕ) × (table w (ends k (c ∷ cs)) ≡ x ++ bytes w s)
unfolding ends table
table_last w k s c [] h =
    let e : stop k c ≡ s = unfold layout in omega (arith, length_layout k c []) in
    ([], rw (append-nil, e))
table_last w k s c (g ∷ cs) h =
    let i = table_last w (stop k c) s g cs (omega (arith, length_layout k c (g ∷ cs))) in
    (bytes w (stop k c) ++ i.0, rw (append_assoc, ← i.1))

pub last_offset_at : (w : ℕ) (x y : List ℕ) → length y ≡ w → last_offset w (x ++ y) ≡ value y
last_offset_at w x y h =
    let d : drop (length (x ++ y) - w) (x ++ y) ≡ y = drop_at x y (length (x ++ y) - w) (omega (arith, length-append x y)) in
    let t : take w y ≡ y = rw (← h) (take-length y) in
    rw (d, t)

pub last_offset_table : (w s : ℕ) (cs : List Piece) → length (layout 0 cs) ≡ s → s < 256 ^ w → last_offset w (layout 0 cs ++ table w (ends 0 cs)) ≡ s
last_offset_table w s [] h b = unfold layout table ends value in rw (drop-nil, take-nil) (omega arith)
last_offset_table w s (c ∷ cs) h b =
    let i = table_last w 0 s c cs (omega arith) in
    let e : layout 0 (c ∷ cs) ++ table w (ends 0 (c ∷ cs)) ≡ (layout 0 (c ∷ cs) ++ i.0) ++ bytes w s = rw i.1 (sym (append_assoc (layout 0 (c ∷ cs)) i.0 (bytes w s))) in
    rw e (last_offset_at w (layout 0 (c ∷ cs) ++ i.0) (bytes w s) (length_bytes w s) ∙ value_bytes w s b)

-- an array's body with its table: what is found of it
module _ (w s : ℕ) (cs : List Piece) (hs : length (layout 0 cs) ≡ s) (f : Fits s (length cs) w) (hw : 0 < w) where
  abbrev pub with_table : List ℕ
  with_table = layout 0 cs ++ table w (ends 0 cs)

  abbrev pub the_table : Table
  the_table = record { start = s; count = length cs; width = w }

  pub length_with_table : length with_table ≡ s + length cs * w
  length_with_table = simp (length-append, length_table, length_ends) (omega arith)

  pub table_found : table_of with_table ≡ the_table
  unfolding table_of table_from
  table_found =
      let n = length_with_table in
      let d : encoded_width (length with_table) ≡ w = rw n (encoded_width_fits f hw) in
      let o : last_offset w with_table ≡ s = last_offset_table w s cs hs (fits_below f hw) in
      let c : (s + length cs * w - s) / w ≡ length cs = (let m : s + length cs * w - s ≡ length cs * w = omega arith in rw m (mul-div_cancel (length cs) hw)) in
      rw (d, o, n, c)

  pub ends_found : ends_of the_table with_table ≡ ends 0 cs
  unfolding ends_of
  ends_found = rw (drop_at (layout 0 cs) (table w (ends 0 cs)) s hs) (entries_table w s 0 cs (fits_below f hw) (omega arith))

  pub table_stands_lem : table_stands the_table with_table ≡ true
  unfolding table_stands
  table_stands_lem =
      let n = length_with_table in
      let m : (length with_table - s) % w ≡ 0 = (let e : length with_table - s ≡ length cs * w = omega arith in rw e (mul-mod_left (length cs) w)) in
      rw (le-leb s (length with_table) (omega arith), eq-eqb ((length with_table - s) % w) 0 m, ends_found) (none_above_ends 0 s cs (omega arith))
