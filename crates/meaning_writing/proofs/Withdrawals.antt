-- To withdraw a reading makes no frame longer: in every container round it nothing stands further back and no offset is wider, and no event
-- of the frame is, by induction over the type. So a withdrawal never wants room. Assumes nothing.
use mathlib.Core.Path.{◌≡◌, refl, sym, ap}
use mathlib.Core.List.{List, [], ◌∷◌, ◌++◌, map}
use mathlib.Core.Option.{Option, none, some}
use mathlib.Core.Bool.{Bool, true, false}
use Prim.Native.Nat.{ℕ, zero, suc, ◌+◌, ◌*◌, ◌-◌, ◌≤◌, ◌<◌}
use native.Mathlib.Nat.{mul-le-mul_left}
use native.Mathlib.Omega.{arith}
use lib.Dec.{leb, ltb}
use lib.ListN.{length, length-append, length-replicate}
use borrow.Author.Tests.{leb-true, leb-false, ltb-true, ltb-false}
use Rattle.meaning.specs.Choice.{pick}
use Rattle.meaning.specs.Padding.{Aligns, padding, zeros}
use Rattle.meaning.specs.Offsets.{first_width, written_width, table, back_table}
use Rattle.meaning.specs.Depths as Depth
use Rattle.meaning.specs.Depths.{opened}
use Rattle.meaning.specs.Types.{Basic, bool, number, text, Tree, Fields, basic, variant, maybe, array, dictionary, structure, last, next, fixed, all_fixed, entry_alignment, entry_fixed}
use Rattle.meaning.specs.Letters.{bool_letter, number_letter, text_letter, signature_letter, variant_letter, maybe_letter, nothing_letter, array_letter, dictionary_letter, structure_letter, container_end}
use Rattle.meaning.specs.Events.{Event, event, text_event}
use Rattle.meaning.specs.TypeText.{type_text}
use Rattle.meaning.specs.Values.{BasicValue, ValueOver, FieldsOver, Value}
use Rattle.meaning.specs.Written.{Piece, stop, layout, events_from, ends, unless, field_ends, bit, basic_piece, maybe_piece, enclosing, array_bytes, array_piece, structure_bytes, structure_piece, entry_piece, variant_piece, piece_over, pieces_over, piece, written}
use Rattle.meaning_writing.specs.Readings.{Slot, of_bool, of_number, slot_of, Readings, no_readings, in_container, as_value, changed_slot, list_maybe, changed_maybe, maybe_readings, changed_two, two_readings, list_all, changed_all, all_readings, readings_over, field_readings, variant_readings, readings, readings_of, changed}
use Rattle.meaning_writing.specs.Withdrawals.{starts, NoneLater, no_more, each, NoFurther, Withdrawn, behind, reading, in_maybe, in_variant, in_array, in_structure, in_entry, Moved, Nearer, no_event, kept, gone}
use Rattle.meaning.proofs.Tests.{impossible}
use Rattle.meaning.proofs.PaddingLaws.{by_alignment, by8, aligns_max}
use Rattle.meaning.proofs.TypeLaws.{basic_aligned, aligned, fields_aligned}
use Rattle.meaning.proofs.LayoutLaws.{All, nil, cons, length_layout, length_table, length_back_table, length_ends}
use Rattle.meaning_writing.proofs.PieceLaws.{basic_alignment_lem}

-- ---- pieces that are no longer than others

pub record Less (c d : Piece) : Type 0 where
  pub aligns : Aligns c.alignment
  pub alignment : d.alignment ≡ c.alignment
  pub fixed : d.fixed ≡ c.fixed
  pub shorter : length d.bytes ≤ length c.bytes
  pub moves : (k l : ℕ) → l ≤ k → Nearer (c.events k) (d.events l)

pub data LessRow : List Piece → List Piece → Type 0 where
  none_left : LessRow [] []
  one_more : {c d : Piece} {cs ds : List Piece} → Less c d → LessRow cs ds → LessRow (c ∷ cs) (d ∷ ds)

-- a piece that may stand elsewhere
abbrev Steady : Piece → Type 0
Steady c = Less c c

row_same : {cs : List Piece} → All Steady cs → LessRow cs cs
row_same nil = none_left
row_same (cons a all) = one_more a (row_same all)

row_append : {cs ds es : List Piece} → LessRow cs ds → All Steady es → LessRow (cs ++ es) (ds ++ es)
row_append none_left all = row_same all
row_append (one_more l r) all = one_more l (row_append r all)

-- ---- what is laid out behind less stands no further back

padding_rises : {a : ℕ} → Aligns a → (x y : ℕ) → y ≤ x → y + padding y a ≤ x + padding x a
unfolding padding
padding_rises al x y h =
    by_alignment (λ a. y + padding y a ≤ x + padding x a) (omega arith) (omega arith) (omega arith) (omega arith) al

begin_less : {c d : Piece} → Less c d → (x y : ℕ) → y ≤ x → y + padding y d.alignment ≤ x + padding x c.alignment
begin_less l x y h = rw l.alignment (padding_rises l.aligns x y h)

stop_less : {c d : Piece} → Less c d → (x y : ℕ) → y ≤ x → stop y d ≤ stop x c
unfolding stop
stop_less l x y h = omega (arith, begin_less l x y h, l.shorter)

starts_less : {cs ds : List Piece} → LessRow cs ds → (x y : ℕ) → y ≤ x → NoneLater (starts x cs) (starts y ds)
unfolding starts
starts_less none_left x y h = no_more
starts_less (one_more {c} {d} l r) x y h = each (begin_less l x y h) (starts_less r (stop x c) (stop y d) (stop_less l x y h))

layout_less : {cs ds : List Piece} → LessRow cs ds → (x y : ℕ) → y ≤ x → y + length (layout y ds) ≤ x + length (layout x cs)
unfolding layout
layout_less none_left x y h = omega arith
layout_less (one_more {c} {d} {cs} {ds} l r) x y h =
    omega (arith, length_layout x c cs, length_layout y d ds, layout_less r (stop x c) (stop y d) (stop_less l x y h))

-- ---- nor do its events

moved_event : (kind v : ℕ) {p q : ℕ} → q ≤ p → Moved (event kind p v) (event kind q v)
moved_event kind v h = record { kind = refl; payload = refl; text = refl; place = h }

moved_text : (kind : ℕ) (t : List ℕ) {p q : ℕ} → q ≤ p → Moved (text_event kind p t) (text_event kind q t)
moved_text kind t h = record { kind = refl; payload = refl; text = refl; place = h }

nearer_append : {es fs gs hs : List Event} → Nearer es fs → Nearer gs hs → Nearer (es ++ gs) (fs ++ hs)
nearer_append no_event n = n
nearer_append (kept m r) n = kept m (nearer_append r n)
nearer_append (gone kind v h r) n = gone kind v h (nearer_append r n)

row_moves : {cs ds : List Piece} → LessRow cs ds → (p q x y : ℕ) → q ≤ p → y ≤ x → Nearer (events_from p x cs) (events_from q y ds)
unfolding events_from
row_moves none_left p q x y h g = no_event
row_moves (one_more {c} {d} l r) p q x y h g =
    nearer_append (l.moves (p + (x + padding x c.alignment)) (q + (y + padding y d.alignment)) (omega (arith, begin_less l x y g)))
    (row_moves r p q (stop x c) (stop y d) h (stop_less l x y g))

enclosed_moves : (kind n m : ℕ) {es fs : List Event} → m ≤ n → Nearer es fs → (k l : ℕ) → l ≤ k → Nearer (enclosing kind k n es) (enclosing kind l m fs)
enclosed_moves kind n m h r k l g =
    let e : l + m ≤ k + n = omega arith in
    kept (moved_event kind 0 g) (nearer_append r (kept (moved_event container_end 0 e) no_event))

-- ---- as many, and as many offsets

same_count : {cs ds : List Piece} → LessRow cs ds → length ds ≡ length cs
same_count none_left = refl
same_count (one_more l r) = ap (λ (n : ℕ). suc n) (same_count r)

same_offsets : {cs ds : List Piece} → LessRow cs ds → (x y : ℕ) → length (field_ends y ds) ≡ length (field_ends x cs)
unfolding field_ends
same_offsets none_left x y = refl
same_offsets (one_more {c} {d} {cs} {ds} l r) x y = go cs ds r (same_offsets r (stop x c) (stop y d))
  where
    behind_first : (g e : Piece) (cs ds : List Piece) (a b : Bool) → a ≡ b → length (field_ends (stop y d) (e ∷ ds)) ≡ length (field_ends (stop x c) (g ∷ cs))
        → length (unless a (stop y d) (field_ends (stop y d) (e ∷ ds))) ≡ length (unless b (stop x c) (field_ends (stop x c) (g ∷ cs)))
    behind_first g e cs ds true true q h = h
    behind_first g e cs ds true false q h = impossible (sym q)
    behind_first g e cs ds false true q h = impossible q
    behind_first g e cs ds false false q h = ap (λ (n : ℕ). suc n) h

    go : (cs ds : List Piece) → LessRow cs ds → length (field_ends (stop y d) ds) ≡ length (field_ends (stop x c) cs) → length (field_ends y (d ∷ ds)) ≡ length (field_ends x (c ∷ cs))
    go [] [] none_left h = refl
    go [] (e ∷ ds) r h = elim r [ ]
    go (g ∷ cs) [] r h = elim r [ ]
    go (g ∷ cs) (e ∷ ds) (one_more m r) h = behind_first g e cs ds d.fixed c.fixed l.fixed h

-- ---- widths

width_rises : (body less count : ℕ) → less ≤ body → written_width less count ≤ written_width body count
unfolding written_width first_width
width_rises body less count h =
    go (leb (less + count * 1) 255) (leb (less + count * 2) 65535) (leb (less + count * 4) 4294967295) (leb (body + count * 1) 255) (leb (body + count * 2) 65535) (leb (body + count * 4) 4294967295)
    refl refl refl refl refl refl
  where
    go : (a b c d e f : Bool) → leb (less + count * 1) 255 ≡ a → leb (less + count * 2) 65535 ≡ b → leb (less + count * 4) 4294967295 ≡ c
        → leb (body + count * 1) 255 ≡ d → leb (body + count * 2) 65535 ≡ e → leb (body + count * 4) 4294967295 ≡ f
        → pick a 1 (pick b 2 (pick c 4 8)) ≤ pick d 1 (pick e 2 (pick f 4 8))
    go true b c true e f p q r s t u = omega arith
    go true b c false true f p q r s t u = omega arith
    go true b c false false true p q r s t u = omega arith
    go true b c false false false p q r s t u = omega arith
    go false b c true e f p q r s t u = absurd (omega (arith, leb-false (less + count * 1) 255 p, leb-true (body + count * 1) 255 s))
    go false true c false true f p q r s t u = omega arith
    go false true c false false true p q r s t u = omega arith
    go false true c false false false p q r s t u = omega arith
    go false false c false true f p q r s t u = absurd (omega (arith, leb-false (less + count * 2) 65535 q, leb-true (body + count * 2) 65535 t))
    go false false true false false true p q r s t u = omega arith
    go false false true false false false p q r s t u = omega arith
    go false false false false false true p q r s t u = absurd (omega (arith, leb-false (less + count * 4) 4294967295 r, leb-true (body + count * 4) 4294967295 u))
    go false false false false false false p q r s t u = omega arith

-- ---- containers

array_further : {cs ds : List Piece} → LessRow cs ds → NoFurther ends cs ds
array_further {cs} {ds} r = record {
  begin = starts_less r 0 0 (omega arith);
  width = rw (length_ends 0 ds, length_ends 0 cs, same_count r) (width_rises (length (layout 0 cs)) (length (layout 0 ds)) (length cs) (omega (arith, layout_less r 0 0 (omega arith))));
}

fields_further : {cs ds : List Piece} → LessRow cs ds → NoFurther field_ends cs ds
fields_further {cs} {ds} r = record {
  begin = starts_less r 0 0 (omega arith);
  width = rw (same_offsets r 0 0) (width_rises (length (layout 0 cs)) (length (layout 0 ds)) (length (field_ends 0 cs)) (omega (arith, layout_less r 0 0 (omega arith))));
}

array_less : (fx : Bool) {cs ds : List Piece} → LessRow cs ds → length (array_bytes fx ds) ≤ length (array_bytes fx cs)
unfolding array_bytes
array_less true r = omega (arith, layout_less r 0 0 (omega arith))
array_less false {cs} {ds} r =
    let w : ℕ = written_width (length (layout 0 cs)) (length cs) in
    let z : ℕ = written_width (length (layout 0 ds)) (length ds) in
    let f : written_width (length (layout 0 ds)) (length cs) ≤ w = width_rises (length (layout 0 cs)) (length (layout 0 ds)) (length cs) (omega (arith, layout_less r 0 0 (omega arith))) in
    let m : length cs * written_width (length (layout 0 ds)) (length cs) ≤ length cs * w = mul-le-mul_left (length cs) f in
    rw (length-append (layout 0 cs) (table w (ends 0 cs)), length-append (layout 0 ds) (table z (ends 0 ds)), length_table w (ends 0 cs), length_table z (ends 0 ds), length_ends 0 cs, length_ends 0 ds, same_count r)
    (omega (arith, m, layout_less r 0 0 (omega arith)))

structure_less : {a : ℕ} → Aligns a → (fx : Bool) {cs ds : List Piece} → LessRow cs ds → length (structure_bytes a fx ds) ≤ length (structure_bytes a fx cs)
unfolding structure_bytes
structure_less {a} al true {cs} {ds} r =
    let l : length (layout 0 ds) ≤ length (layout 0 cs) = omega (arith, layout_less r 0 0 (omega arith)) in
    rw (length-append (layout 0 cs) (zeros (padding (length (layout 0 cs)) a)), length-append (layout 0 ds) (zeros (padding (length (layout 0 ds)) a)), length-replicate, length-replicate)
    (padding_rises al (length (layout 0 cs)) (length (layout 0 ds)) l)
structure_less {a} al false {cs} {ds} r =
    let n : ℕ = length (field_ends 0 cs) in
    let w : ℕ = written_width (length (layout 0 cs)) n in
    let z : ℕ = written_width (length (layout 0 ds)) (length (field_ends 0 ds)) in
    let f : written_width (length (layout 0 ds)) n ≤ w = width_rises (length (layout 0 cs)) (length (layout 0 ds)) n (omega (arith, layout_less r 0 0 (omega arith))) in
    let m : n * written_width (length (layout 0 ds)) n ≤ n * w = mul-le-mul_left n f in
    rw (length-append (layout 0 cs) (back_table w (field_ends 0 cs)), length-append (layout 0 ds) (back_table z (field_ends 0 ds)), length_back_table w (field_ends 0 cs), length_back_table z (field_ends 0 ds), same_offsets r 0 0)
    (omega (arith, m, layout_less r 0 0 (omega arith)))

array_piece_less : (kind : ℕ) {a : ℕ} → Aligns a → (fx : Bool) {cs ds : List Piece} → LessRow cs ds → Less (array_piece kind a fx cs) (array_piece kind a fx ds)
unfolding array_piece
array_piece_less kind al fx {cs} {ds} r = record {
  aligns = al;
  alignment = refl;
  fixed = refl;
  shorter = array_less fx r;
  moves = λ k l h. enclosed_moves kind (length (array_bytes fx cs)) (length (array_bytes fx ds)) (array_less fx r) (row_moves r k l 0 0 h (omega arith)) k l h;
}

structure_piece_less : {a : ℕ} → Aligns a → (fx : Bool) {cs ds : List Piece} → LessRow cs ds → Less (structure_piece a fx cs) (structure_piece a fx ds)
unfolding structure_piece
structure_piece_less {a} al fx {cs} {ds} r = record {
  aligns = al;
  alignment = refl;
  fixed = refl;
  shorter = structure_less al fx r;
  moves = λ k l h. enclosed_moves structure_letter (length (structure_bytes a fx cs)) (length (structure_bytes a fx ds)) (structure_less al fx r) (row_moves r k l 0 0 h (omega arith)) k l h;
}

entry_piece_less : {a : ℕ} → Aligns a → (fx : Bool) {cs ds : List Piece} → LessRow cs ds → Less (entry_piece a fx cs) (entry_piece a fx ds)
unfolding entry_piece
entry_piece_less al fx r = record { aligns = al; alignment = refl; fixed = refl; shorter = structure_less al fx r; moves = λ k l h. row_moves r k l 0 0 h (omega arith) }

-- ---- children before and after

pub record Shrinks (cs ds : List Piece) : Type 0 where
  pub path : Withdrawn cs ds
  pub less : LessRow cs ds

widen : {cs ds : List Piece} → Withdrawn cs ds → (es : List Piece) → Withdrawn (cs ++ es) (ds ++ es)
widen (behind c w) es = behind c (widen w es)
widen (reading c d cs h) es = reading c d (cs ++ es) h
widen (in_maybe a fx c d cs w) es = in_maybe a fx c d (cs ++ es) w
widen (in_variant t c d cs w) es = in_variant t c d (cs ++ es) w
widen (in_array kind a fx gs fs cs w n) es = in_array kind a fx gs fs (cs ++ es) w n
widen (in_structure a fx gs fs cs w n) es = in_structure a fx gs fs (cs ++ es) w n
widen (in_entry a fx gs fs cs w n) es = in_entry a fx gs fs (cs ++ es) w n

in_first : {c d : Piece} → Shrinks (c ∷ []) (d ∷ []) → {es : List Piece} → All Steady es → Shrinks (c ∷ es) (d ∷ es)
in_first s {es} all = record { path = widen s.path es; less = row_append s.less all }

in_others : {c : Piece} {cs ds : List Piece} → Steady c → Shrinks cs ds → Shrinks (c ∷ cs) (c ∷ ds)
in_others {c} a s = record { path = behind c s.path; less = one_more a s.less }

-- ---- values, and several laid out one behind another

abbrev Shrink : {A : Type 0} → (A → Piece) → Readings A → Type 0
Shrink {A} p r = (v : A) (i : ℕ) → i < length (r.list v) → Shrinks (p v ∷ []) (p (r.changed v i none) ∷ [])

abbrev ShrinkRow : {A : Type 0} → (A → List Piece) → Readings A → Type 0
ShrinkRow {A} p r = (v : A) (i : ℕ) → i < length (r.list v) → Shrinks (p v) (p (r.changed v i none))

none_shrink : {A : Type 0} (p : A → Piece) → Shrink p no_readings
none_shrink p v i h = absurd (omega arith)

module _ {A B : Type 0} (p : A → Piece) (al : (v : A) → Steady (p v)) (r : Readings A) (g : Shrink p r) (ps : B → List Piece) (als : (v : B) → All Steady (ps v)) (s : Readings B) (h : ShrinkRow ps s) where
  two_row : ShrinkRow (λ (v : A × B). p v.0 ∷ ps v.1) (two_readings r p s)
  unfolding changed_two
  two_row v i lt = go (ltb i n) refl
    where
      n : ℕ
      n = length (r.list v.0)

      go : (b : Bool) → ltb i n ≡ b → (let w : A × B = pick b (r.changed v.0 i none, v.1) (v.0, s.changed v.1 (i - n) none) in
          Shrinks (p v.0 ∷ ps v.1) (p w.0 ∷ ps w.1))
      go true e = in_first (g v.0 i (ltb-true i n e)) (als v.1)
      go false e =
          let le = ltb-false i n e in
          let m = length-append (r.list v.0) (s.list v.1) in
          in_others (al v.0) (h v.1 (i - n) (omega arith))

all_steady : {A : Type 0} (p : A → Piece) → ((v : A) → Steady (p v)) → (vs : List A) → All Steady (map p vs)
all_steady p al [] = nil
all_steady p al (v ∷ vs) = cons (al v) (all_steady p al vs)

module _ {A : Type 0} (p : A → Piece) (al : (v : A) → Steady (p v)) (r : Readings A) (g : Shrink p r) where
  all_row : ShrinkRow (map p) (all_readings r p)
  unfolding list_all changed_all
  all_row [] i lt = absurd (omega arith)
  all_row (v ∷ vs) i lt =
      let m = length-append (r.list v) (list_all r p vs) in
      go (ltb i (length (r.list v))) refl (λ le. all_row vs (i - length (r.list v)) (omega arith))
    where
      n : ℕ
      n = length (r.list v)

      go : (b : Bool) → ltb i n ≡ b → (n ≤ i → Shrinks (map p vs) (map p (changed_all r p vs (i - n) none)))
          → Shrinks (map p (v ∷ vs)) (map p (pick b (r.changed v i none ∷ vs) (v ∷ changed_all r p vs (i - n) none)))
      go true e f = in_first (g v i (ltb-true i n e)) (all_steady p al vs)
      go false e f = in_others (al v) (f (ltb-false i n e))

-- ---- containers round them

module _ {A : Type 0} {a : ℕ} (al : Aligns a) (p : A → List Piece) (r : Readings A) (g : ShrinkRow p r) (fx : Bool) where
  array_shrink : (kind : ℕ) → Shrink (λ v. array_piece kind a fx (p v)) (in_container a (λ d. opened Depth.array d) r)
  array_shrink kind v i h =
      let s = g v i h in
      record {
        path = in_array kind a fx (p v) (p (r.changed v i none)) [] s.path (array_further s.less);
        less = one_more (array_piece_less kind al fx s.less) none_left;
      }

  structure_shrink : Shrink (λ v. structure_piece a fx (p v)) (in_container a (λ d. opened Depth.structure d) r)
  structure_shrink v i h =
      let s = g v i h in
      record {
        path = in_structure a fx (p v) (p (r.changed v i none)) [] s.path (fields_further s.less);
        less = one_more (structure_piece_less al fx s.less) none_left;
      }

  entry_shrink : Shrink (λ v. entry_piece a fx (p v)) (in_container a (λ d. d) r)
  entry_shrink v i h =
      let s = g v i h in
      record {
        path = in_entry a fx (p v) (p (r.changed v i none)) [] s.path (fields_further s.less);
        less = one_more (entry_piece_less al fx s.less) none_left;
      }

-- a present maybe, and a variant
around_less : (fx : Bool) (b c : List ℕ) → length c ≤ length b → length (pick fx c (c ++ (0 ∷ []))) ≤ length (pick fx b (b ++ (0 ∷ [])))
around_less true b c h = h
around_less false b c h = omega (arith, length-append b (0 ∷ []), length-append c (0 ∷ []))

first_less : {c d : Piece} {cs ds : List Piece} → LessRow (c ∷ cs) (d ∷ ds) → Less c d
first_less (one_more l r) = l

-- ---- maybes

nothing_less : {A : Type 0} {a : ℕ} → Aligns a → (fx : Bool) (p : A → Piece) → Steady (maybe_piece a fx p none)
unfolding maybe_piece
nothing_less al fx p = record { aligns = al; alignment = refl; fixed = refl; shorter = omega arith; moves = λ k l h. kept (moved_event nothing_letter 0 h) no_event }

-- what held one event
gone_less : {A : Type 0} {a : ℕ} → Aligns a → (fx : Bool) (p : A → Piece) (v : A) (kind x : ℕ) → ((k : ℕ) → (p v).events k ≡ event kind k x ∷ []) → Less (maybe_piece a fx p (some v)) (maybe_piece a fx p none)
unfolding maybe_piece
gone_less al fx p v kind x e = record { aligns = al; alignment = refl; fixed = refl; shorter = omega arith; moves = λ k l h. rw (e k) (gone kind x h no_event) }

present_less : {A : Type 0} {a : ℕ} → Aligns a → (fx : Bool) (p : A → Piece) (v w : A) → Less (p v) (p w) → Less (maybe_piece a fx p (some v)) (maybe_piece a fx p (some w))
unfolding maybe_piece
present_less al fx p v w r = record {
  aligns = al;
  alignment = refl;
  fixed = refl;
  shorter = around_less fx (p v).bytes (p w).bytes r.shorter;
  moves = λ k l h. kept (moved_event maybe_letter 0 h) (r.moves k l h);
}

maybe_steady : {A : Type 0} {a : ℕ} → Aligns a → (fx : Bool) (p : A → Piece) → ((v : A) → Steady (p v)) → (v : Option A) → Steady (maybe_piece a fx p v)
maybe_steady al fx p s none = nothing_less al fx p
maybe_steady al fx p s (some v) = present_less al fx p v v (s v)

nothing_bytes : {A : Type 0} (a : ℕ) (fx : Bool) (p : A → Piece) → (maybe_piece a fx p none).bytes ≡ []
unfolding maybe_piece
nothing_bytes a fx p = refl

-- a reading becomes nothing
slot_less : (big : Bool) {Held : Type 0} (held : Held → Piece) {t : Tree} {a : ℕ} → Aligns a → (s : Slot t) (v : Option (ValueOver Held t))
    → Less (maybe_piece a (fixed t) (λ v. piece_over big held t v) v) (maybe_piece a (fixed t) (λ v. piece_over big held t v) none)
unfolding piece_over basic_piece
slot_less big held {t} al s none = nothing_less al (fixed t) (λ v. piece_over big held t v)
slot_less big held al of_bool (some v) = gone_less al _ (λ v. piece_over big held (basic bool) v) v bool_letter (bit v) (λ k. refl)
slot_less big held al (of_number c) (some v) = gone_less al _ (λ v. piece_over big held (basic (number c)) v) v (number_letter c) v (λ k. refl)

module _ (big : Bool) {Held : Type 0} (held : Held → Piece) {t : Tree} {a : ℕ} (al : Aligns a) where
  slot_shrink : (s : Slot t) (r : Readings (ValueOver Held t)) → Shrink (maybe_piece a (fixed t) (λ v. piece_over big held t v)) (maybe_readings Held (some s) a r)
  unfolding maybe_readings changed_slot as_value
  slot_shrink s r v zero h =
      let p : ValueOver Held t → Piece = λ v. piece_over big held t v in
      record { path = reading (maybe_piece a (fixed t) p v) (maybe_piece a (fixed t) p none) [] (nothing_bytes a (fixed t) p); less = one_more (slot_less big held al s v) none_left }
  slot_shrink s r v (suc i) h = absurd (omega arith)

module _ {A : Type 0} {a : ℕ} (al : Aligns a) (fx : Bool) (p : A → Piece) (r : Readings A) (g : Shrink p r) where
  in_maybe_lem : (v w : A) → Withdrawn (p v ∷ []) (p w ∷ []) → Withdrawn (maybe_piece a fx p (some v) ∷ []) (maybe_piece a fx p (some w) ∷ [])
  unfolding maybe_piece
  in_maybe_lem v w s = in_maybe a fx (p v) (p w) [] s

  other_shrink : (v : Option A) (i : ℕ) → i < length (list_maybe r v) → Shrinks (maybe_piece a fx p v ∷ []) (maybe_piece a fx p (changed_maybe r v i none) ∷ [])
  unfolding list_maybe changed_maybe
  other_shrink none i h = absurd (omega arith)
  other_shrink (some v) i h =
      let s = g v i h in
      record { path = in_maybe_lem v (r.changed v i none) s.path; less = one_more (present_less al fx p v (r.changed v i none) (first_less s.less)) none_left }

maybe_shrink : (big : Bool) {Held : Type 0} (held : Held → Piece) {t : Tree} (s : Option (Slot t)) {a : ℕ} → Aligns a → (r : Readings (ValueOver Held t)) → Shrink (λ v. piece_over big held t v) r
    → Shrink (maybe_piece a (fixed t) (λ v. piece_over big held t v)) (maybe_readings Held s a r)
unfolding maybe_readings
maybe_shrink big held (some s) al r g = unfold maybe_readings in slot_shrink big held al s r
maybe_shrink big held {t} none al r g = other_shrink al (fixed t) (λ v. piece_over big held t v) r g

-- ---- variants

variant_less : (t : Tree) {c d : Piece} → Less c d → Less (variant_piece t c) (variant_piece t d)
unfolding variant_piece
variant_less t {c} {d} r =
    let n : ℕ = length (c.bytes ++ (0 ∷ type_text t)) in
    let m : ℕ = length (d.bytes ++ (0 ∷ type_text t)) in
    let s : m ≤ n = omega (arith, length-append c.bytes (0 ∷ type_text t), length-append d.bytes (0 ∷ type_text t), r.shorter) in
    record {
      aligns = by8;
      alignment = refl;
      fixed = refl;
      shorter = s;
      moves = λ k l h.
          (let e : l + (length d.bytes + 1) ≤ k + (length c.bytes + 1) = omega (arith, r.shorter) in
          enclosed_moves variant_letter n m s (kept (moved_text signature_letter (type_text t) e) (r.moves k l h)) k l h);
    }

variant_shrink : {Of : Tree → Type 0} (p : (t : Tree) → Of t → Piece) (r : (t : Tree) → Readings (Of t)) → ((t : Tree) → Shrink (p t) (r t))
    → Shrink (λ (x : (t : Tree) × Of t). variant_piece x.0 (p x.0 x.1)) (variant_readings r)
variant_shrink p r g v i h =
    let t : Tree = v.0 in
    let s = g t v.1 i h in
    record { path = in_variant t (p t v.1) (p t ((r t).changed v.1 i none)) [] s.path; less = one_more (variant_less t (first_less s.less)) none_left }

-- ---- all types

basic_moves : (big : Bool) (b : Basic) (v : BasicValue b) (k l : ℕ) → l ≤ k → Nearer ((basic_piece big b v).events k) ((basic_piece big b v).events l)
unfolding basic_piece
basic_moves big bool v k l h = kept (moved_event bool_letter (bit v) h) no_event
basic_moves big (number c) v k l h = kept (moved_event (number_letter c) v h) no_event
basic_moves big (text c) v k l h = kept (moved_text (text_letter c) v h) no_event

basic_steady : (big : Bool) (b : Basic) (v : BasicValue b) → Steady (basic_piece big b v)
basic_steady big b v = record { aligns = rw (basic_alignment_lem big b v) (basic_aligned b); alignment = refl; fixed = refl; shorter = omega arith; moves = basic_moves big b v }

-- what may stand elsewhere: every piece
module _ (big : Bool) {Held : Type 0} (held : Held → Piece) (hs : (x : Held) → Steady (held x)) where
  mutual
    unfolding piece_over pieces_over

    steady : (t : Tree) (v : ValueOver Held t) → Steady (piece_over big held t v)
    steady (basic b) v = basic_steady big b v
    steady variant v = hs v
    steady (maybe t) v = maybe_steady (aligned t) (fixed t) (λ x. piece_over big held t x) (steady t) v
    steady (array t) v = array_piece_less array_letter (aligned t) (fixed t) (row_same (all_steady (λ x. piece_over big held t x) (steady t) v))
    steady (dictionary b t) v =
        let al : Aligns (entry_alignment b t) = aligns_max (basic_aligned b) (aligned t) in
        array_piece_less dictionary_letter al (entry_fixed b t)
        (row_same
        (all_steady (λ x. entry_piece (entry_alignment b t) (entry_fixed b t) (basic_piece big b x.0 ∷ piece_over big held t x.1 ∷ []))
        (λ x. entry_piece_less al (entry_fixed b t) (row_same (cons (basic_steady big b x.0) (cons (steady t x.1) nil)))) v))
    steady (structure ts) v = structure_piece_less (fields_aligned ts) (all_fixed ts) (row_same (steadies ts v))

    steadies : (ts : Fields) (v : FieldsOver Held ts) → All Steady (pieces_over big held ts v)
    steadies (last t) v = cons (steady t v) nil
    steadies (next t ts) v = cons (steady t v.0) (steadies ts v.1)

module _ (big : Bool) {Held : Type 0} (held : Held → Piece) (variants : Readings Held) (hs : (x : Held) → Steady (held x)) (hv : Shrink held variants) where
  mutual
    unfolding piece_over readings_over

    shrinks : (t : Tree) → Shrink (λ v. piece_over big held t v) (readings_over big held variants t)
    shrinks (basic b) = none_shrink (λ v. basic_piece big b v)
    shrinks variant = hv
    shrinks (maybe t) = maybe_shrink big held (slot_of t) (aligned t) (readings_over big held variants t) (shrinks t)
    shrinks (array t) =
        array_shrink (aligned t) (map (λ x. piece_over big held t x)) (all_readings (readings_over big held variants t) (λ x. piece_over big held t x))
        (all_row (λ x. piece_over big held t x) (steady big held hs t) (readings_over big held variants t) (shrinks t)) (fixed t) array_letter
    shrinks (dictionary b t) =
        let a : ℕ = entry_alignment b t in
        let fx : Bool = entry_fixed b t in
        let al : Aligns a = aligns_max (basic_aligned b) (aligned t) in
        let entry : BasicValue b × ValueOver Held t → List Piece = λ x. basic_piece big b x.0 ∷ piece_over big held t x.1 ∷ [] in
        let r : Readings (BasicValue b × ValueOver Held t) = two_readings no_readings (λ x. basic_piece big b x) (readings_over big held variants t) in
        let g : ShrinkRow entry r =
        two_row (λ x. basic_piece big b x) (basic_steady big b) no_readings (none_shrink (λ v. basic_piece big b v)) (λ v. piece_over big held t v ∷ []) (λ v. cons (steady big held hs t v) nil)
        (readings_over big held variants t) (shrinks t) in
        array_shrink al (map (λ x. entry_piece a fx (entry x))) (all_readings (in_container a (λ d. d) r) (λ x. entry_piece a fx (entry x)))
        (all_row (λ x. entry_piece a fx (entry x)) (λ x. entry_piece_less al fx (row_same (cons (basic_steady big b x.0) (cons (steady big held hs t x.1) nil)))) (in_container a (λ d. d) r) (entry_shrink al entry r g fx)) fx dictionary_letter
    shrinks (structure ts) = structure_shrink (fields_aligned ts) (λ v. pieces_over big held ts v) (field_readings big held variants ts) (row ts) (all_fixed ts)

    row : (ts : Fields) → ShrinkRow (λ v. pieces_over big held ts v) (field_readings big held variants ts)
    row (last t) = shrinks t
    row (next t ts) =
        two_row (λ x. piece_over big held t x) (steady big held hs t) (readings_over big held variants t) (shrinks t) (λ v. pieces_over big held ts v) (steadies big held hs ts) (field_readings big held variants ts) (row ts)

piece_steady : (big : Bool) (n : ℕ) (t : Tree) (v : Value n t) → Steady (piece big n t v)
unfolding piece
piece_steady big zero t v = steady big (λ x. absurd x) (λ x. absurd x) t v
piece_steady big (suc n) t v = steady big (λ x. variant_piece x.0 (piece big n x.0 x.1)) (λ x. variant_less x.0 (piece_steady big n x.0 x.1)) t v

all_shrink : (big : Bool) (n : ℕ) (t : Tree) → Shrink (λ v. piece big n t v) (readings big n t)
unfolding piece readings
all_shrink big zero t = shrinks big (λ x. absurd x) no_readings (λ x. absurd x) (none_shrink (λ x. absurd x)) t
all_shrink big (suc n) t =
    shrinks big (λ x. variant_piece x.0 (piece big n x.0 x.1)) (variant_readings (λ u. readings big n u)) (λ x. variant_less x.0 (piece_steady big n x.0 x.1))
    (variant_shrink (λ u v. piece big n u v) (λ u. readings big n u) (λ u. all_shrink big n u)) t

-- THE WITHDRAWAL of a reading: in every container round it no part stands further back and no offset is wider, and the frame is no longer
pub withdrawn : (big : Bool) (n : ℕ) (t : Tree) (v : Value n t) (i : ℕ) → i < length (readings_of big n t v) → Withdrawn (piece big n t v ∷ []) (piece big n t (changed big n t v i none) ∷ [])
unfolding readings_of changed
withdrawn big n t v i h = (all_shrink big n t v i h).path

pub no_longer : (big : Bool) (n : ℕ) (t : Tree) (v : Value n t) (i : ℕ) → i < length (readings_of big n t v) → length (written big n t (changed big n t v i none)) ≤ length (written big n t v)
unfolding readings_of changed written
no_longer big n t v i h = (first_less (all_shrink big n t v i h).less).shorter

-- so of all that is read of the frame nothing stands further back
pub nearer : (big : Bool) (n : ℕ) (t : Tree) (v : Value n t) (i : ℕ) → i < length (readings_of big n t v) → Nearer ((piece big n t v).events 0) ((piece big n t (changed big n t v i none)).events 0)
unfolding readings_of changed
nearer big n t v i h = (first_less (all_shrink big n t v i h).less).moves 0 0 (omega arith)
