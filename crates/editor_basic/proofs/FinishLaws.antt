-- A structure from the end of its changed field on: offsets read and written again at another width, and the table of all ends. Assumes
-- nothing.
use mathlib.Core.Path.{◌≡◌, refl, sym, ap, ◌∙◌}
use mathlib.Core.List.{List, ◌∷◌, ◌++◌, append_assoc}
use mathlib.Core.Bool.{Bool, true, false}
use Prim.Native.Nat.{ℕ, zero, suc, ◌+◌, ◌-◌, ◌*◌, ◌/◌, ◌^◌, ◌≤◌, ◌<◌}
use native.Mathlib.Nat.{mul-div_cancel, div-mul-le_self, div-le_self}
use native.Mathlib.Omega.{arith}
use lib.ListN.{length, drop, length-append, length-reverse}
use lib.Seq.{drop-drop}
use Rattle.meaning.specs.Limits.{largest_frame}
use Rattle.meaning.specs.Numbers.{bytes, value}
use Rattle.meaning.specs.Offsets.{written_width, table, back_table, entries}
use Rattle.meaning.specs.Padding.{Aligns}
use Rattle.meaning.specs.Types.{Fields, last, next, fixed}
use Rattle.meaning.specs.Written.{Piece, stop, layout, ends, unless, field_ends}
use Rattle.meaning.proofs.NumberLaws.{length_bytes}
use Rattle.meaning.proofs.PaddingLaws.{by_alignment, aligns_positive}
use Rattle.meaning.proofs.LayoutLaws.{length_table, length_back_table, length_ends, field_ends_one, back_table_append, back_table_reverse}
use Rattle.meaning_writing.specs.Shapes.{part, one_more, offsets_left}
use Rattle.meaning_writing.proofs.PieceLaws.{field_ends_more}
use Rattle.meaning.proofs.Bounds.{length_entries}
use Rattle.signature.specs.Trees.{fields_at}
use Rattle.strict_sizes.specs.Sizes.{offsets_in}
use Rattle.framing_offset_size.specs.Widths.{width_of}
use Rattle.framing_offset_size.specs.declared.FramingOffsetSize.{FramingOffsetSize}
use Rattle.framing_offset_size.proofs.WidthLaws.{width_most}
use Rattle.editor_basic.specs.Puts.{over}
use Rattle.editor_basic.specs.declared.elements.Elements.{Elements}
use Rattle.editor_basic.specs.declared.fields.Row.{Row}
use Rattle.editor_basic.specs.Elements.{elements_in, count_now, width_now, rest_now, length_now}
use Rattle.editor_basic.specs.Rows.{row_pieces, field_piece, next_stop, last_stop, fields_in, StandingRow, kept_ends, last_width, last_now, last_length_now, row_ends, row_body, row_width, row_now, row_length_now}
use Rattle.editor_basic.proofs.PutLaws.{over_none, over_append, over_both}
use Rattle.editor_basic.proofs.RewriteLaws.{times, elements_count}
use Rattle.editor_basic.proofs.BackLaws.{over_front, some_pieces}

-- ---- offsets read and written again

pub entries_next : (n w j : ℕ) (l : List ℕ) → 0 < n → entries n w (drop j l) ≡ value (part j (j + w) l) ∷ entries (n - 1) w (drop (j + w) l)
unfolding entries part
entries_next zero w j l h = absurd (omega arith)
entries_next (suc n) w j l h = let e : j + w - j ≡ w = omega arith in let k : suc n - 1 ≡ n = omega arith in rw (e, k, drop-drop w j l)

-- the first of them stands in the bytes, and so do the others
pub offsets_room : (n w j m : ℕ) → 0 < n → j + n * w ≤ m → (j + w ≤ m) × (j + w + (n - 1) * w ≤ m)
offsets_room zero w j m h g = absurd (omega arith)
offsets_room (suc n) w j m h g = let k : suc n - 1 ≡ n = omega arith in rw k (omega arith, omega arith)

module _ (l : List ℕ) (n w j v at : ℕ) (out whole : List ℕ) (g : over out at (table v (entries n w (drop j l))) ≡ whole) where
  pub widen_turn : (e : ℕ) (out' : List ℕ) → 0 < n → e ≡ value (part j (j + w) l) → out' ≡ over out at (bytes v e)
      → over out' (at + v) (table v (entries (n - 1) w (drop (j + w) l))) ≡ whole
  unfolding table
  widen_turn e out' h q o =
      ap (λ (z : List ℕ). over z (at + v) (table v (entries (n - 1) w (drop (j + w) l)))) o
      ∙ over_append out at (bytes v e) (table v (entries (n - 1) w (drop (j + w) l))) (at + v) (let a = length_bytes v e in omega arith)
      ∙ ap (λ (z : List ℕ). over out at (table v z)) (sym (entries_next n w j l h ∙ ap (λ (x : ℕ). x ∷ entries (n - 1) w (drop (j + w) l)) (sym q)))
      ∙ g

  pub widen_end : n ≡ 0 → out ≡ whole
  unfolding table entries
  widen_end h = sym (over_none out at) ∙ sym (ap (λ (i : ℕ). over out at (table v (entries i w (drop j l)))) h) ∙ g

-- ---- tables from the back

pub kept_count_lem : (e w : ℕ) (l : List ℕ) → length (kept_ends e w l) ≡ (length l - e) / w
kept_count_lem e w l = length-reverse (entries ((length l - e) / w) w (drop e l)) ∙ length_entries ((length l - e) / w) w (drop e l)

-- so many offsets as fill some bytes
pub record Filling (l : List ℕ) (e w count : ℕ) : Type 0 where
  pub stand : e + count * w ≤ length l
  pub few : count ≤ largest_frame

pub filling : (l : List ℕ) (e w : ℕ) → e ≤ length l → length l ≤ largest_frame → Filling l e w ((length l - e) / w)
filling l e w h g = record {
  stand = (let x = div-mul-le_self (length l - e) w in omega arith);
  few = (let x = div-le_self (length l - e) w in omega arith);
}

pub offsets_few : {w : ℕ} → Aligns w → (n m : ℕ) → n * w ≤ m → n ≤ m
offsets_few al n m = by_alignment (λ a. n * a ≤ m → n ≤ m) (λ h. omega arith) (λ h. omega arith) (λ h. omega arith) (λ h. omega arith) al

pub table_most : (n v : ℕ) (s : FramingOffsetSize) → v ≡ width_of s → n ≤ 65536 → (v ≤ 8) × (n * v ≤ 524288)
table_most n v s q h = rw q (width_most s, (let x = times s n 65536 h in omega arith))

-- ---- the changed field is the last

pub last_done : (e w : ℕ) (l : List ℕ) (to at v : ℕ) (out a : List ℕ) → v ≡ written_width to ((length l - e) / w)
    → a ≡ over out at (table v (entries ((length l - e) / w) w (drop e l)))
    → (a ≡ over out at (last_now e w l to)) × (to + (length l - e) / w * v ≡ last_length_now e w l to)
last_done e w l to at v out a h o =
    let c = kept_count_lem e w l in
    let q : v ≡ written_width to (length (kept_ends e w l)) = h ∙ ap (λ (n : ℕ). written_width to n) (sym c) in (
      o ∙ ap (λ (z : List ℕ). over out at z) (sym (back_table_reverse v (entries ((length l - e) / w) w (drop e l))))
          ∙ ap (λ (n : ℕ). over out at (back_table n (kept_ends e w l))) q,
      ap (λ (n : ℕ). to + n * v) (sym c) ∙ ap (λ (n : ℕ). to + length (kept_ends e w l) * n) q,
    )

-- ---- others are behind it

pub ends_count : (l : List ℕ) (b w : ℕ) (ts : Fields) (k e to : ℕ) → length (field_ends to (row_pieces l b w ts k e)) ≡ offsets_in ts
unfolding row_pieces offsets_in
ends_count l b w (last t) k e to = ap length (field_ends_one to (field_piece t l k (last_stop t b k)))
ends_count l b w (next t ts) k e to =
    let c : Piece = field_piece t l k (next_stop t l w e k) in
    let cs : List Piece = row_pieces l b w ts (next_stop t l w e k) (offsets_left (fixed t) w e) in
    ap length (field_ends_more to c cs (some_pieces l b w ts (next_stop t l w e k) (offsets_left (fixed t) w e)))
    ∙ one (fixed t) (stop to c) (field_ends (stop to c) cs)
    ∙ ap (λ (n : ℕ). one_more (fixed t) n) (ends_count l b w ts (next_stop t l w e k) (offsets_left (fixed t) w e) (stop to c))
  where
    one : (fx : Bool) (x : ℕ) (xs : List ℕ) → length (unless fx x xs) ≡ one_more fx (length xs)
    one true x xs = refl
    one false x xs = refl

module _ (text : List ℕ) (rest : Row) (l : List ℕ) (to : ℕ) where
  abbrev behind_ends : List ℕ
  behind_ends = field_ends to (fields_in text rest l)

  abbrev kept_from : ℕ
  kept_from = rest.end + rest.width

  abbrev pub kept_count : ℕ
  kept_count = (length l - kept_from) / rest.width

  abbrev pub behind_count : ℕ
  behind_count = (rest.end - rest.body) / rest.width

  pub behind_count_lem : Aligns rest.width → rest.body + offsets_in (fields_at text rest.at) * rest.width ≡ rest.end → behind_count ≡ length behind_ends
  behind_count_lem al h =
      let n = offsets_in (fields_at text rest.at) in
      let q : rest.end - rest.body ≡ n * rest.width = omega arith in
      ap (λ (i : ℕ). i / rest.width) q ∙ mul-div_cancel n (aligns_positive al)
      ∙ sym (ends_count l rest.body rest.width (fields_at text rest.at) rest.place rest.end to)

  all_count : behind_count ≡ length behind_ends → length (row_ends text rest l to) ≡ kept_count + (behind_count + 1)
  all_count h =
      length-append (kept_ends kept_from rest.width l) (to ∷ behind_ends) ∙ ap (λ (n : ℕ). n + suc (length behind_ends)) (kept_count_lem kept_from rest.width l)
      ∙ omega arith

  -- the table, in the order in which its parts stand
  table_is : (v : ℕ) → back_table v (row_ends text rest l to) ≡ back_table v behind_ends ++ (bytes v to ++ table v (entries kept_count rest.width (drop kept_from l)))
  unfolding back_table
  table_is v =
      back_table_append v (kept_ends kept_from rest.width l) (to ∷ behind_ends)
      ∙ append_assoc (back_table v behind_ends) (bytes v to) (back_table v (kept_ends kept_from rest.width l))
      ∙ ap (λ (z : List ℕ). back_table v behind_ends ++ (bytes v to ++ z)) (back_table_reverse v (entries kept_count rest.width (drop kept_from l)))

  -- the ends of those behind have room in front of its own
  pub own_room : (v n : ℕ) → behind_count ≡ length behind_ends → length behind_ends * v ≤ n + behind_count * v
  own_room v n h = let e : behind_count * v ≡ length behind_ends * v = ap (λ (i : ℕ). i * v) h in omega arith

  pub structure_done : (at v end own first : ℕ) (out a b c d : List ℕ) → behind_count ≡ length behind_ends → end ≡ row_body text rest l to → v ≡ written_width end (kept_count + (behind_count + 1))
      → a ≡ over out at (layout to (fields_in text rest l)) → b ≡ over a own (bytes v to) → c ≡ over b (own + v) (table v (entries kept_count rest.width (drop kept_from l)))
      → d ≡ over c first (back_table v behind_ends) → first + length behind_ends * v ≡ own → own ≡ at + (end - to) + behind_count * v
      → (d ≡ over out at (row_now text rest l to)) × (end + (kept_count + (behind_count + 1)) * v ≡ row_length_now text rest l to)
  structure_done at v end own first out a b c d n he hv ha hb hc hd hf ho =
      let kept : List ℕ = table v (entries kept_count rest.width (drop kept_from l)) in
      let m = all_count n in
      let q : v ≡ row_width text rest l to = hv ∙ ap (λ (i : ℕ). written_width i (kept_count + (behind_count + 1))) he ∙ ap (λ (i : ℕ). written_width (row_body text rest l to) i) (sym m) in
      let x : c ≡ over a own (bytes v to ++ kept) = over_both a b c own (own + v) (bytes v to) kept hb hc (let y = length_bytes v to in omega arith) in
      let y : d ≡ over a first (back_table v behind_ends ++ (bytes v to ++ kept)) =
      hd ∙ ap (λ (z : List ℕ). over z first (back_table v behind_ends)) x
      ∙ over_front a own first (back_table v behind_ends) (bytes v to ++ kept) (let i = length_back_table v behind_ends in omega arith) in
      let e : behind_count * v ≡ length behind_ends * v = ap (λ (i : ℕ). i * v) n in (
        over_both out a d at first (layout to (fields_in text rest l)) (back_table v behind_ends ++ (bytes v to ++ kept)) ha y (omega arith)
            ∙ ap (λ (z : List ℕ). over out at (layout to (fields_in text rest l) ++ z)) (sym (table_is v))
            ∙ ap (λ (i : ℕ). over out at (layout to (fields_in text rest l) ++ back_table i (row_ends text rest l to))) q,
        rw (he, ← m, q),
      )

-- what the sums of `finish_structure` stay below
pub record RowSizes (before behind v at to end : ℕ) : Type 0 where
  pub early : at + to < 2 ^ 29
  pub high : end < to + 100000
  pub few_before : before ≤ 65536
  pub few_behind : behind ≤ 65536
  pub slim : v ≤ 8
  pub ends_behind : behind * v ≤ 524288
  pub ends_all : (before + (behind + 1)) * v ≤ 1048584

pub row_counts : (text tables : List ℕ) (rest : Row) (l : List ℕ) → StandingRow text tables rest l
    → ((length l - (rest.end + rest.width)) / rest.width ≤ 65536) × ((rest.end - rest.body) / rest.width ≤ 65536)
row_counts text tables rest l z =
    let a = div-le_self (length l - (rest.end + rest.width)) rest.width in
    let b = div-le_self (rest.end - rest.body) rest.width in
    (omega (arith, z.short), omega (arith, z.short, z.end_inside))

pub row_sizes : (text tables : List ℕ) (rest : Row) (l : List ℕ) (v at to end : ℕ) (s : FramingOffsetSize) → StandingRow text tables rest l → v ≡ width_of s → at + to < 2 ^ 29 → end < to + 100000
    → RowSizes (kept_count text rest l to) (behind_count text rest l to) v at to end
row_sizes text tables rest l v at to end s z q g k =
    let n = row_counts text tables rest l z in
    let before = (length l - (rest.end + rest.width)) / rest.width in
    let behind = (rest.end - rest.body) / rest.width in
    let i : before ≤ 65536 = n.0 in
    let j : behind ≤ 65536 = n.1 in
    record {
      early = g;
      high = k;
      few_before = i;
      few_behind = j;
      slim = (table_most behind v s q j).0;
      ends_behind = (table_most behind v s q j).1;
      ends_all = rw q (times s (before + (behind + 1)) 131073 (omega arith));
    }

-- ---- how long what stands behind the changed child is

pub array_rest_length : (front rest : Elements) (l : List ℕ) (to : ℕ) → to + length (rest_now front rest l to) ≡ length_now front rest l to
array_rest_length front rest l to =
    let w : ℕ = width_now front rest l to in
    let es : List ℕ = ends 0 (elements_in front l) ++ (to ∷ ends to (elements_in rest l)) in
    let a = length-append (layout to (elements_in rest l)) (table w es) in
    let n : length es ≡ count_now front rest l to =
    length-append (ends 0 (elements_in front l)) (to ∷ ends to (elements_in rest l))
    ∙ ap (λ (i : ℕ). i + suc (length (ends to (elements_in rest l)))) (length_ends 0 (elements_in front l) ∙ elements_count front l)
    ∙ ap (λ (i : ℕ). front.count + suc i) (length_ends to (elements_in rest l) ∙ elements_count rest l) ∙ omega arith in
    let b : length (table w es) ≡ count_now front rest l to * w = length_table w es ∙ ap (λ (i : ℕ). i * w) n in
    omega arith

pub last_rest_length : (e w : ℕ) (l : List ℕ) (to : ℕ) → to + length (last_now e w l to) ≡ last_length_now e w l to
last_rest_length e w l to = ap (λ (n : ℕ). to + n) (length_back_table (last_width e w l to) (kept_ends e w l))

pub structure_rest_length : (text : List ℕ) (rest : Row) (l : List ℕ) (to : ℕ) → to + length (row_now text rest l to) ≡ row_length_now text rest l to
structure_rest_length text rest l to =
    let a = length-append (layout to (fields_in text rest l)) (back_table (row_width text rest l to) (row_ends text rest l to)) in
    let b = length_back_table (row_width text rest l to) (row_ends text rest l to) in
    omega arith
