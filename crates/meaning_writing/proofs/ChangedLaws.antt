-- To change a reading of a value changes no other reading, leaves the bytes before its event as they were, and leaves a value that fits;
-- and the place where it stands is that of its event. By induction over the type. Assumes nothing.
use mathlib.Core.Path.{◌≡◌, refl, sym, ap, ◌∙◌, subst}
use mathlib.Core.List.{List, [], ◌∷◌, ◌++◌, map, append-nil, append_assoc}
use mathlib.Core.Option.{Option, none, some}
use mathlib.Core.Bool.{Bool, true, false, ◌&&◌}
use Prim.Native.Nat.{ℕ, zero, suc, ◌+◌, ◌-◌, ◌^◌, ◌≤◌, ◌<◌}
use native.Mathlib.Nat.{sub-zero, suc-sub-suc, zero-mod, mod_self}
use native.Mathlib.Omega.{arith}
use lib.Dec.{T, ltb, eqb, leb→le}
use lib.ListN.{length, take, set, get_or, length-append, length-replicate}
use lib.Seq.{set-append_left, get_or-append-add, take_at}
use borrow.Author.Tests.{ltb-true, ltb-false}
use Rattle.meaning.specs.Choice.{pick}
use Rattle.meaning.specs.Padding.{padding, zeros}
use Rattle.meaning.specs.Depths as Depth
use Rattle.meaning.specs.Depths.{Depths, depth_refusal, opened}
use Rattle.meaning.specs.Types.{Tree, Fields, basic, variant, maybe, array, dictionary, structure, last, next, number_width, alignment, largest_alignment, fixed, all_fixed, entry_alignment, entry_fixed}
use Rattle.meaning.specs.Letters.{array_letter, dictionary_letter}
use Rattle.meaning.specs.TypeText.{type_text}
use Rattle.meaning.specs.Events.{Event}
use Rattle.meaning.specs.Values.{BasicValue, ValueOver, Value}
use Rattle.meaning.specs.Written.{Piece, fits, stop, layout, events_from, deeper, basic_piece, maybe_piece, array_bytes, array_piece, structure_bytes, structure_piece, entry_piece, variant_piece, piece_over, pieces_over, piece, written}
use Rattle.meaning_writing.specs.Readings.{MaybeNumber, reading_events, Spot, spells, may_stand, Slot, of_bool, of_number, slot_of, slot_type, Readings, no_readings, in_container, as_reading, as_value, changed_slot, list_maybe, spot_maybe, changed_maybe, maybe_readings, spot_two, changed_two, two_readings, list_all, spot_all, changed_all, all_readings, readings_over, field_readings, variant_readings, readings, readings_of, spot_of, changed}
use Rattle.meaning.proofs.Tests.{both, both_left, both_right}
use Rattle.meaning.proofs.FitLaws.{all_fit, all_fit_lem, held_fits, children_fit, variant_fits, fits_by_all, fits_by_held, fits_by_children, fits_by_variant}
use Rattle.meaning.proofs.LayoutLaws.{placed, stop_placed, layout_first}
use Rattle.meaning_writing.proofs.PieceLaws.{maybe_alignment, piece_alignment, deeper_limits, deeper_with, deeper_holds}

-- ---- lists that begin alike

-- a and b have their first m bytes in common
pub record SameFront (m : ℕ) (a b : List ℕ) : Type 0 where
  pub common : List ℕ
  pub left : List ℕ
  pub right : List ℕ
  pub a_is : a ≡ common ++ left
  pub b_is : b ≡ common ++ right
  pub m_is : length common ≡ m

same_none : (a b : List ℕ) → SameFront 0 a b
same_none a b = record { common = []; left = a; right = b; a_is = refl; b_is = refl; m_is = refl }

same_right : {m : ℕ} {a b : List ℕ} → SameFront m a b → (c d : List ℕ) → SameFront m (a ++ c) (b ++ d)
same_right s c d = record {
  common = s.common;
  left = s.left ++ c;
  right = s.right ++ d;
  a_is = ap (λ (x : List ℕ). x ++ c) s.a_is ∙ append_assoc s.common s.left c;
  b_is = ap (λ (x : List ℕ). x ++ d) s.b_is ∙ append_assoc s.common s.right d;
  m_is = s.m_is;
}

same_left : {m : ℕ} {a b : List ℕ} → SameFront m a b → (n : ℕ) (p : List ℕ) → length p + m ≡ n → SameFront n (p ++ a) (p ++ b)
same_left s n p h = record {
  common = p ++ s.common;
  left = s.left;
  right = s.right;
  a_is = ap (λ (x : List ℕ). p ++ x) s.a_is ∙ sym (append_assoc p s.common s.left);
  b_is = ap (λ (x : List ℕ). p ++ x) s.b_is ∙ sym (append_assoc p s.common s.right);
  m_is = length-append p s.common ∙ (let e = s.m_is in omega arith);
}

pub same_take : {m : ℕ} {a b : List ℕ} → SameFront m a b → take m b ≡ take m a
same_take {m} {a} {b} s = rw (s.a_is, s.b_is, take_at s.common s.right m s.m_is, take_at s.common s.left m s.m_is)

same_most : {m : ℕ} {a b : List ℕ} → SameFront m a b → m ≤ length a
same_most {m} {a} {b} s = rw s.a_is (omega (arith, length-append s.common s.left, s.m_is))

same_most_new : {m : ℕ} {a b : List ℕ} → SameFront m a b → m ≤ length b
same_most_new {m} {a} {b} s = rw s.b_is (omega (arith, length-append s.common s.right, s.m_is))

-- ---- events that stand in a list of events

pub record Occurs (es all : List Event) : Type 0 where
  pub front : List Event
  pub back : List Event
  pub is : all ≡ front ++ (es ++ back)

occurs_left : {es all : List Event} → Occurs es all → (fs : List Event) → Occurs es (all ++ fs)
occurs_left {es} s fs = record { front = s.front; back = s.back ++ fs; is = ap (λ (x : List Event). x ++ fs) s.is ∙ simp append_assoc }

occurs_right : {es all : List Event} → (fs : List Event) → Occurs es all → Occurs es (fs ++ all)
occurs_right {es} fs s = record { front = fs ++ s.front; back = s.back; is = ap (λ (x : List Event). fs ++ x) s.is ∙ sym (append_assoc fs s.front (es ++ s.back)) }

-- ---- what a change of the i-th reading moves

-- What is open round the value; the readings before and after; where it stands; what it is put as; the bytes before and after, laid out from the place k of a container
-- that begins at q; whether the value fits before and after; the events.
pub record Move (d : Depths) (before after : List MaybeNumber) (s : Spot) (i : ℕ) (x : MaybeNumber) (q k : ℕ) (old new : List ℕ) (fitted fits : Bool) (es : List Event) : Type 0 where
  pub only : T (spells s.type x) → after ≡ set before i x
  pub far : ℕ
  pub place_is : s.place ≡ q + (k + far)
  pub same : SameFront far old new
  pub fits_still : T fitted → T (spells s.type x) → T (may_stand s.around x) → T fits
  pub nothing_spells : T (spells s.type none)
  pub limits : T fitted → depth_refusal d ≡ 0 → depth_refusal s.around ≡ 0
  pub was_present : T fitted → (n : ℕ) → get_or before i none ≡ some n → T (may_stand s.around (some n))
  pub occurs : Occurs (reading_events s.type (get_or before i none) s.place) es

set_append_right : (l r : List MaybeNumber) (i : ℕ) (x : MaybeNumber) → length l ≤ i → set (l ++ r) i x ≡ l ++ set r (i - length l) x
set_append_right [] r i x h = rw sub-zero
set_append_right (y ∷ l) r zero x h = absurd (omega arith)
set_append_right (y ∷ l) r (suc i) x h = rw suc-sub-suc (ap (λ (z : List MaybeNumber). y ∷ z) (set_append_right l r i x (omega arith)))

get_d_left : (l r : List MaybeNumber) (i : ℕ) (y : MaybeNumber) → i < length l → get_or (l ++ r) i y ≡ get_or l i y
get_d_left [] r i y h = absurd (omega arith)
get_d_left (z ∷ l) r zero y h = refl
get_d_left (z ∷ l) r (suc i) y h = get_d_left l r i y (omega arith)

get_d_right : (l r : List MaybeNumber) (i : ℕ) (y : MaybeNumber) → length l ≤ i → get_or (l ++ r) i y ≡ get_or r (i - length l) y
get_d_right l r i y h = let e : length l + (i - length l) ≡ i = omega arith in ap (λ (n : ℕ). get_or (l ++ r) n y) (sym e) ∙ get_or-append-add l r (i - length l) y

-- in the first child, or in one of the others
module _ {s : Spot} {i : ℕ} {x : MaybeNumber} {q k : ℕ} (d : Depths) (c : Piece) (cs : List Piece) where
  move_first : {L M : List MaybeNumber} (R : List MaybeNumber) (e : Piece) → i < length L
      → Move d L M s i x q k (placed k c) (placed k e) (fits c d) (fits e d) (c.events (q + (k + padding k c.alignment)))
      → Move d (L ++ R) (M ++ R) s i x q k (layout k (c ∷ cs)) (layout k (e ∷ cs)) (all_fit (c ∷ cs) d) (all_fit (e ∷ cs) d) (events_from q k (c ∷ cs))
  unfolding all_fit events_from
  move_first {L} {M} R e h m = record {
    only = λ f. ap (λ (z : List MaybeNumber). z ++ R) (m.only f) ∙ sym (set-append_left L R i x h);
    far = m.far;
    place_is = m.place_is;
    same = rw (layout_first k c cs, layout_first k e cs) (same_right m.same (layout (stop k c) cs) (layout (stop k e) cs));
    fits_still = λ f g o. both (fits e d) (all_fit cs d) (m.fits_still (both_left (fits c d) (all_fit cs d) f) g o) (both_right (fits c d) (all_fit cs d) f);
    nothing_spells = m.nothing_spells;
    limits = λ f z. m.limits (both_left (fits c d) (all_fit cs d) f) z;
    was_present = λ f n z. m.was_present (both_left (fits c d) (all_fit cs d) f) n (sym (get_d_left L R i none h) ∙ z);
    occurs = rw (get_d_left L R i none h) (occurs_left m.occurs (events_from q (stop k c) cs));
  }

  move_next : (L : List MaybeNumber) {R M : List MaybeNumber} (es : List Piece) → length L ≤ i
      → Move d R M s (i - length L) x q (stop k c) (layout (stop k c) cs) (layout (stop k c) es) (all_fit cs d) (all_fit es d) (events_from q (stop k c) cs)
      → Move d (L ++ R) (L ++ M) s i x q k (layout k (c ∷ cs)) (layout k (c ∷ es)) (all_fit (c ∷ cs) d) (all_fit (c ∷ es) d) (events_from q k (c ∷ cs))
  unfolding all_fit events_from
  move_next L {R} {M} es h m = record {
    only = λ f. ap (λ (z : List MaybeNumber). L ++ z) (m.only f) ∙ sym (set_append_right L R i x h);
    far = length (placed k c) + m.far;
    place_is = omega (arith, m.place_is, stop_placed k c);
    same = rw (layout_first k c cs, layout_first k c es) (same_left m.same (length (placed k c) + m.far) (placed k c) refl);
    fits_still = λ f g o. both (fits c d) (all_fit es d) (both_left (fits c d) (all_fit cs d) f) (m.fits_still (both_right (fits c d) (all_fit cs d) f) g o);
    nothing_spells = m.nothing_spells;
    limits = λ f z. m.limits (both_right (fits c d) (all_fit cs d) f) z;
    was_present = λ f n z. m.was_present (both_right (fits c d) (all_fit cs d) f) n (sym (get_d_right L R i none h) ∙ z);
    occurs = rw (get_d_right L R i none h) (occurs_right (c.events (q + (k + padding k c.alignment))) m.occurs);
  }

-- in a container that begins behind n bytes of padding: its bytes begin with those of its children, its events hold theirs
move_inside : {d e : Depths} {L M : List MaybeNumber} {s : Spot} {i : ℕ} {x : MaybeNumber} {q k : ℕ} {a b : List ℕ} {f g f' g' : Bool} {es fs : List Event} (n : ℕ) (y z : List ℕ)
    → (T f' → depth_refusal d ≡ 0 → depth_refusal e ≡ 0) → (T f' → T f) → (T f' → T g → T g') → (Occurs (reading_events s.type (get_or L i none) s.place) es → Occurs (reading_events s.type (get_or L i none) s.place) fs)
    → Move e L M s i x (q + (k + n)) 0 a b f g es → Move d L M s i x q k (zeros n ++ (a ++ y)) (zeros n ++ (b ++ z)) f' g' fs
move_inside n y z hd hf hg he m = record {
  only = m.only;
  far = n + m.far;
  place_is = omega (arith, m.place_is);
  same = same_left (same_right m.same y z) (n + m.far) (zeros n) (rw length-replicate);
  fits_still = λ f o w. hg f (m.fits_still (hf f) o w);
  nothing_spells = m.nothing_spells;
  limits = λ f w. m.limits (hf f) (hd f w);
  was_present = λ f n w. m.was_present (hf f) n w;
  occurs = he m.occurs;
}

-- ---- values, and several laid out one behind another

abbrev pub Moves : {A : Type 0} → (A → Piece) → Readings A → Type 0
Moves {A} p r = (d : Depths) (q k : ℕ) (v : A) (i : ℕ) (x : MaybeNumber) → i < length (r.list v)
    → Move d (r.list v) (r.list (r.changed v i x)) (r.spot d q k v i) i x q k (placed k (p v)) (placed k (p (r.changed v i x))) (fits (p v) d) (fits (p (r.changed v i x)) d)
    ((p v).events (q + (k + padding k (p v).alignment)))

abbrev pub MovesRow : {A : Type 0} → (A → List Piece) → Readings A → Type 0
MovesRow {A} p r = (d : Depths) (q k : ℕ) (v : A) (i : ℕ) (x : MaybeNumber) → i < length (r.list v)
    → Move d (r.list v) (r.list (r.changed v i x)) (r.spot d q k v i) i x q k (layout k (p v)) (layout k (p (r.changed v i x))) (all_fit (p v) d) (all_fit (p (r.changed v i x)) d)
    (events_from q k (p v))

none_moves : {A : Type 0} (p : A → Piece) → Moves p no_readings
none_moves p d q k v i x h = absurd (omega arith)

-- two
module _ {A B : Type 0} (p : A → Piece) (r : Readings A) (g : Moves p r) (ps : B → List Piece) (s : Readings B) (h : MovesRow ps s) where
  two_row : MovesRow (λ (v : A × B). p v.0 ∷ ps v.1) (two_readings r p s)
  unfolding spot_two changed_two
  two_row d q k v i x lt = go (ltb i (length (r.list v.0))) refl
    where
      n : ℕ
      n = length (r.list v.0)

      go : (b : Bool) → ltb i n ≡ b → (let w : A × B = pick b (r.changed v.0 i x, v.1) (v.0, s.changed v.1 (i - n) x) in
          Move d (r.list v.0 ++ s.list v.1) (r.list w.0 ++ s.list w.1) (pick b (r.spot d q k v.0 i) (s.spot d q (stop k (p v.0)) v.1 (i - n))) i x q k
          (layout k (p v.0 ∷ ps v.1)) (layout k (p w.0 ∷ ps w.1)) (all_fit (p v.0 ∷ ps v.1) d) (all_fit (p w.0 ∷ ps w.1) d) (events_from q k (p v.0 ∷ ps v.1)))
      go true e = move_first d (p v.0) (ps v.1) (s.list v.1) (p (r.changed v.0 i x)) (ltb-true i n e) (g d q k v.0 i x (ltb-true i n e))
      go false e =
          let le = ltb-false i n e in
          let m = length-append (r.list v.0) (s.list v.1) in
          move_next d (p v.0) (ps v.1) (r.list v.0) (ps (s.changed v.1 (i - n) x)) le (h d q (stop k (p v.0)) v.1 (i - n) x (omega arith))

one_row : {A : Type 0} (p : A → Piece) (r : Readings A) → Moves p r → MovesRow (λ v. p v ∷ []) r
one_row p r g d q k v i x h =
    let m = move_first d (p v) [] [] (p (r.changed v i x)) h (g d q k v i x h) in
    subst (λ (l : List MaybeNumber). Move d l (r.list (r.changed v i x)) (r.spot d q k v i) i x q k (layout k (p v ∷ [])) (layout k (p (r.changed v i x) ∷ [])) (all_fit (p v ∷ []) d) (all_fit (p (r.changed v i x) ∷ []) d) (events_from q k (p v ∷ []))) (append-nil (r.list v))
    (subst (λ (l : List MaybeNumber). Move d (r.list v ++ []) l (r.spot d q k v i) i x q k (layout k (p v ∷ [])) (layout k (p (r.changed v i x) ∷ [])) (all_fit (p v ∷ []) d) (all_fit (p (r.changed v i x) ∷ []) d) (events_from q k (p v ∷ []))) (append-nil (r.list (r.changed v i x))) m)

-- a list
module _ {A : Type 0} (p : A → Piece) (r : Readings A) (g : Moves p r) where
  all_row : MovesRow (map p) (all_readings r p)
  unfolding list_all spot_all changed_all
  all_row d q k [] i x lt = absurd (omega arith)
  all_row d q k (v ∷ vs) i x lt =
      let m = length-append (r.list v) (list_all r p vs) in
      go (ltb i (length (r.list v))) refl (λ le. all_row d q (stop k (p v)) vs (i - length (r.list v)) x (omega arith))
    where
      n : ℕ
      n = length (r.list v)

      go : (b : Bool) → ltb i n ≡ b
          → (n ≤ i → Move d (list_all r p vs) (list_all r p (changed_all r p vs (i - n) x)) (spot_all r p d q (stop k (p v)) vs (i - n)) (i - n) x q (stop k (p v)) (layout (stop k (p v)) (map p vs)) (layout (stop k (p v)) (map p (changed_all r p vs (i - n) x)))
          (all_fit (map p vs) d) (all_fit (map p (changed_all r p vs (i - n) x)) d) (events_from q (stop k (p v)) (map p vs)))
          → (let w : List A = pick b (r.changed v i x ∷ vs) (v ∷ changed_all r p vs (i - n) x) in
          Move d (r.list v ++ list_all r p vs) (list_all r p w) (pick b (r.spot d q k v i) (spot_all r p d q (stop k (p v)) vs (i - n))) i x q k
          (layout k (p v ∷ map p vs)) (layout k (map p w)) (all_fit (p v ∷ map p vs) d) (all_fit (map p w) d) (events_from q k (p v ∷ map p vs)))
      go true e ih = move_first d (p v) (map p vs) (list_all r p vs) (p (r.changed v i x)) (ltb-true i n e) (g d q k v i x (ltb-true i n e))
      go false e ih = move_next d (p v) (map p vs) (r.list v) (map p (changed_all r p vs (i - n) x)) (ltb-false i n e) (ih (ltb-false i n e))

-- ---- containers

-- the bytes of a container begin with those of its children
pub record Begins (l b : List ℕ) : Type 0 where
  pub rest : List ℕ
  pub is : b ≡ l ++ rest

pub array_begins : (fx : Bool) (cs : List Piece) → Begins (layout 0 cs) (array_bytes fx cs)
unfolding array_bytes
array_begins true cs = record { rest = []; is = sym (append-nil (layout 0 cs)) }
array_begins false cs = record { rest = _; is = refl }

pub structure_begins : (a : ℕ) (fx : Bool) (cs : List Piece) → Begins (layout 0 cs) (structure_bytes a fx cs)
unfolding structure_bytes
structure_begins a true cs = record { rest = _; is = refl }
structure_begins a false cs = record { rest = _; is = refl }

container_move : {d e : Depths} {L M : List MaybeNumber} {s : Spot} {i : ℕ} {x : MaybeNumber} {q k : ℕ} {a b a' b' : List ℕ} {f g f' g' : Bool} {es fs : List Event} (n : ℕ)
    → Begins a a' → Begins b b' → (T f' → depth_refusal d ≡ 0 → depth_refusal e ≡ 0) → (T f' → T f) → (T f' → T g → T g') → (Occurs (reading_events s.type (get_or L i none) s.place) es → Occurs (reading_events s.type (get_or L i none) s.place) fs)
    → Move e L M s i x (q + (k + n)) 0 a b f g es → Move d L M s i x q k (zeros n ++ a') (zeros n ++ b') f' g' fs
container_move n u w hd hf hg he m = rw (u.is, w.is) (move_inside n u.rest w.rest hd hf hg he m)

enclosed_occurs : {es all : List Event} (opens closes : Event) → Occurs es all → Occurs es (opens ∷ (all ++ (closes ∷ [])))
enclosed_occurs opens closes s = occurs_right (opens ∷ []) (occurs_left s (closes ∷ []))

module _ {A : Type 0} (a : ℕ) (p : A → List Piece) (r : Readings A) (g : MovesRow p r) (fx : Bool) where
  array_moves : (kind : ℕ) → Moves (λ v. array_piece kind a fx (p v)) (in_container a (λ d. opened Depth.array d) r)
  unfolding array_piece
  array_moves kind d q k v i x h =
      let w : A = r.changed v i x in
      let e : Depths = opened Depth.array d in
      container_move (padding k a) (array_begins fx (p v)) (array_begins fx (p w)) (λ f z. deeper_limits e (all_fit (p v)) (children_fit (p v) e f)) (λ f. deeper_holds e (all_fit (p v)) (children_fit (p v) e f))
      (λ f o. fits_by_children (p w) e (deeper_with e (all_fit (p v)) (all_fit (p w)) (children_fit (p v) e f) (λ z. o))) (λ s. enclosed_occurs _ _ s) (g e (q + (k + padding k a)) 0 v i x h)

  structure_moves : Moves (λ v. structure_piece a fx (p v)) (in_container a (λ d. opened Depth.structure d) r)
  unfolding structure_piece
  structure_moves d q k v i x h =
      let w : A = r.changed v i x in
      let e : Depths = opened Depth.structure d in
      container_move (padding k a) (structure_begins a fx (p v)) (structure_begins a fx (p w)) (λ f z. deeper_limits e (all_fit (p v)) (children_fit (p v) e f)) (λ f. deeper_holds e (all_fit (p v)) (children_fit (p v) e f))
      (λ f o. fits_by_children (p w) e (deeper_with e (all_fit (p v)) (all_fit (p w)) (children_fit (p v) e f) (λ z. o))) (λ s. enclosed_occurs _ _ s) (g e (q + (k + padding k a)) 0 v i x h)

  entry_moves : Moves (λ v. entry_piece a fx (p v)) (in_container a (λ d. d) r)
  unfolding entry_piece
  entry_moves d q k v i x h =
      container_move (padding k a) (structure_begins a fx (p v)) (structure_begins a fx (p (r.changed v i x))) (λ f z. z) (λ f. all_fit_lem (p v) d f) (λ f o. fits_by_all (p (r.changed v i x)) d o) (λ s. s) (g d (q + (k + padding k a)) 0 v i x h)

-- ---- maybes

-- a reading: a number that spells a value is that value
slot_value : (Held : Type 0) {t : Tree} (s : Slot t) (x : MaybeNumber) → T (spells (slot_type s) x) → as_reading Held s (as_value Held s x) ≡ x
unfolding as_reading as_value spells
slot_value Held of_bool none f = refl
slot_value Held of_bool (some zero) f = refl
slot_value Held of_bool (some (suc zero)) f = refl
slot_value Held of_bool (some (suc (suc n))) f = absurd (let h = leb→le (suc (suc n)) 1 f in omega arith)
slot_value Held (of_number c) none f = refl
slot_value Held (of_number c) (some n) f = refl

module _ (big : Bool) {Held : Type 0} (held : Held → Piece) {t : Tree} (s : Slot t) (a : ℕ) where
  abbrev slot_piece : Option (ValueOver Held t) → Piece
  slot_piece v = maybe_piece a (fixed t) (λ y. piece_over big held t y) v

  slot_fits : (d : Depths) (x : MaybeNumber) → T (spells (slot_type s) x) → T (may_stand d x) → T (fits (slot_piece (as_value Held s x)) d)
  unfolding maybe_piece as_value spells may_stand piece_over basic_piece
  slot_fits d x f o = go s x f o
    where
      go : {t : Tree} (s : Slot t) (x : MaybeNumber) → T (spells (slot_type s) x) → T (may_stand d x) → T (fits (maybe_piece a (fixed t) (λ y. piece_over big held t y) (as_value Held s x)) d)
      go of_bool none f o = tt
      go of_bool (some n) f o = both (eqb (depth_refusal (opened Depth.maybe d)) 0) true o tt
      go (of_number c) none f o = tt
      go (of_number c) (some n) f o = both (ltb n (256 ^ number_width c)) (eqb (depth_refusal (opened Depth.maybe d)) 0 && true) f (both (eqb (depth_refusal (opened Depth.maybe d)) 0) true o tt)

  slot_nothing : T (spells (slot_type s) none)
  slot_nothing = go s
    where
      go : {t : Tree} (s : Slot t) → T (spells (slot_type s) none)
      go of_bool = unfold spells in tt
      go (of_number c) = unfold spells in tt

  slot_present : (d : Depths) (v : Option (ValueOver Held t)) → T (fits (slot_piece v) d) → (n : ℕ) → as_reading Held s v ≡ some n → T (may_stand d (some n))
  unfolding maybe_piece as_reading may_stand
  slot_present d none f n h = absurd (let z : ◌≡◌ {A = ℕ} 0 1 = cc in omega arith)
  slot_present d (some v) f n h =
      let c : Piece = piece_over big held t v in
      let e : Depths = opened Depth.maybe d in
      both_left (eqb (depth_refusal e) 0) (c.shallow e) (both_right c.valid (deeper e c.shallow) f)

  slot_event : (p : ℕ) (v : Option (ValueOver Held t)) → Occurs (reading_events (slot_type s) (as_reading Held s v) p) ((slot_piece v).events p)
  unfolding maybe_piece as_reading piece_over basic_piece
  slot_event p v = go s v
    where
      go : {t : Tree} (s : Slot t) (v : Option (ValueOver Held t)) → Occurs (reading_events (slot_type s) (as_reading Held s v) p) ((maybe_piece a (fixed t) (λ y. piece_over big held t y) v).events p)
      go of_bool none = record { front = []; back = []; is = refl }
      go of_bool (some v) = record { front = []; back = []; is = refl }
      go (of_number c) none = record { front = []; back = []; is = refl }
      go (of_number c) (some v) = record { front = []; back = []; is = refl }

  slot_moves : (r : Readings (ValueOver Held t)) → Moves slot_piece (maybe_readings Held (some s) a r)
  unfolding maybe_readings
  slot_moves r d q k v zero x h = record {
    only = λ f. unfold changed_slot in ap (λ (z : MaybeNumber). let l : List MaybeNumber = z ∷ [] in l) (slot_value Held s x f);
    far = padding k a;
    place_is = refl;
    same =
        let w : Option (ValueOver Held t) = changed_slot (as_value Held s) v zero x in
        rw (maybe_alignment a (fixed t) (λ y. piece_over big held t y) v, maybe_alignment a (fixed t) (λ y. piece_over big held t y) w)
        (same_left (same_none (slot_piece v).bytes (slot_piece w).bytes) (padding k a) (zeros (padding k a)) (rw length-replicate (omega arith)));
    fits_still = λ f g o. unfold changed_slot in slot_fits d x g o;
    nothing_spells = slot_nothing;
    limits = λ f z. z;
    was_present = λ f n z. slot_present d v f n z;
    occurs = rw (maybe_alignment a (fixed t) (λ y. piece_over big held t y) v) (slot_event (q + (k + padding k a)) v);
  }
  slot_moves r d q k v (suc i) x h = absurd (omega arith)

-- another
module _ {A : Type 0} (a : ℕ) (fx : Bool) (p : A → Piece) (r : Readings A) (l : (v : A) → (p v).alignment ≡ a) (g : Moves p r) where
  present_placed : (k : ℕ) (v : A) → Begins (placed k (p v)) (placed k (maybe_piece a fx p (some v)))
  unfolding maybe_piece
  present_placed k v = rw (l v) (go fx)
    where
      go : (fx : Bool) → Begins (zeros (padding k a) ++ (p v).bytes) (zeros (padding k a) ++ pick fx (p v).bytes ((p v).bytes ++ (0 ∷ [])))
      go true = record { rest = []; is = sym (append-nil (zeros (padding k a) ++ (p v).bytes)) }
      go false = record { rest = 0 ∷ []; is = sym (append_assoc (zeros (padding k a)) (p v).bytes (0 ∷ [])) }

  other_moves : (v : Option A) (d : Depths) (q k i : ℕ) (x : MaybeNumber) → i < length (list_maybe r v)
      → Move d (list_maybe r v) (list_maybe r (changed_maybe r v i x)) (spot_maybe r d q k v i) i x q k (placed k (maybe_piece a fx p v)) (placed k (maybe_piece a fx p (changed_maybe r v i x)))
      (fits (maybe_piece a fx p v) d) (fits (maybe_piece a fx p (changed_maybe r v i x)) d) ((maybe_piece a fx p v).events (q + (k + padding k (maybe_piece a fx p v).alignment)))
  unfolding list_maybe spot_maybe changed_maybe
  other_moves none d q k i x h = absurd (omega arith)
  other_moves (some v) d q k i x h =
      let e : Depths = opened Depth.maybe d in
      let w : A = r.changed v i x in
      let m = g e q k v i x h in
      let b = present_placed k v in
      let c = present_placed k w in
      record {
        only = m.only;
        far = m.far;
        place_is = m.place_is;
        same = rw (b.is, c.is) (same_right m.same b.rest c.rest);
        fits_still = λ f o z. unfold maybe_piece in fits_by_held (p w) e (deeper_with e (fits (p v)) (fits (p w)) (held_fits (p v) e (unfold maybe_piece in f)) (λ y. m.fits_still y o z));
        nothing_spells = m.nothing_spells;
        limits = λ f z. m.limits (deeper_holds e (fits (p v)) (held_fits (p v) e (unfold maybe_piece in f))) (deeper_limits e (fits (p v)) (held_fits (p v) e (unfold maybe_piece in f)));
        was_present = λ f n z. m.was_present (deeper_holds e (fits (p v)) (held_fits (p v) e (unfold maybe_piece in f))) n z;
        occurs = unfold maybe_piece in occurs_right (_ ∷ []) (subst (λ (n : ℕ). Occurs (reading_events (r.spot e q k v i).type (get_or (r.list v) i none) (r.spot e q k v i).place) ((p v).events (q + (k + padding k n)))) (l v) m.occurs);
      }

maybe_moves : (big : Bool) {Held : Type 0} (held : Held → Piece) {t : Tree} (s : Option (Slot t)) (a : ℕ) (r : Readings (ValueOver Held t)) → ((v : ValueOver Held t) → (piece_over big held t v).alignment ≡ a)
    → Moves (λ v. piece_over big held t v) r → Moves (maybe_piece a (fixed t) (λ v. piece_over big held t v)) (maybe_readings Held s a r)
unfolding maybe_readings
maybe_moves big held (some s) a r l g = unfold maybe_readings in slot_moves big held s a r
maybe_moves big held {t} none a r l g = λ d q k v i x h. other_moves a (fixed t) (λ v. piece_over big held t v) r l g v d q k i x h

-- ---- variants

pub padding_zero : (a : ℕ) → padding 0 a ≡ 0
unfolding padding
padding_zero a = rw (zero-mod, sub-zero) (mod_self a)

placed_zero : (c : Piece) → placed 0 c ≡ c.bytes
placed_zero c = rw (padding_zero c.alignment)

variant_moves : {Of : Tree → Type 0} (p : (t : Tree) → Of t → Piece) (r : (t : Tree) → Readings (Of t)) → ((t : Tree) → Moves (p t) (r t))
    → Moves (λ (x : (t : Tree) × Of t). variant_piece x.0 (p x.0 x.1)) (variant_readings r)
unfolding variant_piece
variant_moves p r g d q k v i x h =
    let t : Tree = v.0 in
    let e : Depths = opened Depth.variant d in
    let c : Piece = p t v.1 in
    let w : Piece = p t ((r t).changed v.1 i x) in
    let m = g t e (q + (k + padding k 8)) 0 v.1 i x h in
    let z : q + (k + padding k 8) + (0 + padding 0 c.alignment) ≡ q + (k + padding k 8) = omega (arith, padding_zero c.alignment) in
    let s : SameFront m.far c.bytes w.bytes = rw (← placed_zero c, ← placed_zero w) m.same in
    record {
      only = m.only;
      far = padding k 8 + m.far;
      place_is = omega (arith, m.place_is);
      same = same_left (same_right s (0 ∷ type_text t) (0 ∷ type_text t)) (padding k 8 + m.far) (zeros (padding k 8)) (rw length-replicate);
      fits_still = λ f o y.
          let u = variant_fits t c d f in
          fits_by_variant t w d u.short (deeper_with e (fits c) (fits w) u.held (λ u. m.fits_still u o y));
      nothing_spells = m.nothing_spells;
      limits = λ f z.
          let o = (variant_fits t c d f).held in
          m.limits (deeper_holds e (fits c) o) (deeper_limits e (fits c) o);
      was_present = λ f n z. m.was_present (deeper_holds e (fits c) (variant_fits t c d f).held) n z;
      occurs = enclosed_occurs _ _ (occurs_right (_ ∷ []) (rw z at m.occurs));
    }

-- ---- all types

module _ (big : Bool) {Held : Type 0} (held : Held → Piece) (variants : Readings Held) (h8 : (x : Held) → (held x).alignment ≡ 8) (hv : Moves held variants) where
  mutual
    unfolding piece_over readings_over

    moves : (t : Tree) → Moves (λ v. piece_over big held t v) (readings_over big held variants t)
    moves (basic b) = none_moves (λ v. basic_piece big b v)
    moves variant = hv
    moves (maybe t) = maybe_moves big held (slot_of t) (alignment t) (readings_over big held variants t) (piece_alignment big held h8 t) (moves t)
    moves (array t) =
        array_moves (alignment t) (map (λ x. piece_over big held t x)) (all_readings (readings_over big held variants t) (λ x. piece_over big held t x))
        (all_row (λ x. piece_over big held t x) (readings_over big held variants t) (moves t)) (fixed t) array_letter
    moves (dictionary b t) =
        let a : ℕ = entry_alignment b t in
        let fx : Bool = entry_fixed b t in
        let entry : BasicValue b × ValueOver Held t → List Piece = λ x. basic_piece big b x.0 ∷ piece_over big held t x.1 ∷ [] in
        let r : Readings (BasicValue b × ValueOver Held t) = two_readings no_readings (λ x. basic_piece big b x) (readings_over big held variants t) in
        let g : MovesRow entry r =
        two_row (λ x. basic_piece big b x) no_readings (none_moves (λ v. basic_piece big b v)) (λ v. piece_over big held t v ∷ []) (readings_over big held variants t)
        (one_row (λ x. piece_over big held t x) (readings_over big held variants t) (moves t)) in
        array_moves a (map (λ x. entry_piece a fx (entry x))) (all_readings (in_container a (λ d. d) r) (λ x. entry_piece a fx (entry x)))
        (all_row (λ x. entry_piece a fx (entry x)) (in_container a (λ d. d) r) (entry_moves a entry r g fx)) fx dictionary_letter
    moves (structure ts) = structure_moves (largest_alignment ts) (λ v. pieces_over big held ts v) (field_readings big held variants ts) (row ts) (all_fixed ts)

    row : (ts : Fields) → MovesRow (λ v. pieces_over big held ts v) (field_readings big held variants ts)
    row (last t) = one_row (λ x. piece_over big held t x) (readings_over big held variants t) (moves t)
    row (next t ts) =
        two_row (λ x. piece_over big held t x) (readings_over big held variants t) (moves t) (λ v. pieces_over big held ts v) (field_readings big held variants ts) (row ts)

pub variant_alignment : (t : Tree) (c : Piece) → (variant_piece t c).alignment ≡ 8
unfolding variant_piece
variant_alignment t c = refl

pub all_move : (big : Bool) (n : ℕ) (t : Tree) → Moves (λ v. piece big n t v) (readings big n t)
unfolding piece readings
all_move big zero t = moves big (λ x. absurd x) no_readings (λ x. absurd x) (none_moves (λ x. absurd x)) t
all_move big (suc n) t =
    moves big (λ x. variant_piece x.0 (piece big n x.0 x.1)) (variant_readings (λ u. readings big n u)) (λ x. variant_alignment x.0 (piece big n x.0 x.1))
    (variant_moves (λ u v. piece big n u v) (λ u. readings big n u) (λ u. all_move big n u)) t

-- THE CHANGE of the i-th reading of a value, as it is written: of its readings only that one is another; its events stand at the place where it
-- stands, and no byte before that place is another; and the value fits if the number spells one of the type and may stand there
pub record Change (big : Bool) (n : ℕ) (t : Tree) (d : Depths) (v : Value n t) (i : ℕ) (x : MaybeNumber) : Type 0 where
  pub only : T (spells (spot_of big n t d v i).type x) → readings_of big n t (changed big n t v i x) ≡ set (readings_of big n t v) i x
  pub occurs : Occurs (reading_events (spot_of big n t d v i).type (get_or (readings_of big n t v) i none) (spot_of big n t d v i).place) ((piece big n t v).events 0)
  pub before : take (spot_of big n t d v i).place (written big n t (changed big n t v i x)) ≡ take (spot_of big n t d v i).place (written big n t v)
  pub in_old : (spot_of big n t d v i).place ≤ length (written big n t v)
  pub in_new : (spot_of big n t d v i).place ≤ length (written big n t (changed big n t v i x))
  pub fit : T (fits (piece big n t v) d) → T (spells (spot_of big n t d v i).type x) → T (may_stand (spot_of big n t d v i).around x) → T (fits (piece big n t (changed big n t v i x)) d)
  pub nothing_spells : T (spells (spot_of big n t d v i).type none)
  pub limits : T (fits (piece big n t v) d) → depth_refusal d ≡ 0 → depth_refusal (spot_of big n t d v i).around ≡ 0
  pub was_present : T (fits (piece big n t v) d) → (m : ℕ) → get_or (readings_of big n t v) i none ≡ some m → T (may_stand (spot_of big n t d v i).around (some m))

pub change : (big : Bool) (n : ℕ) (t : Tree) (d : Depths) (v : Value n t) (i : ℕ) (x : MaybeNumber) → i < length (readings_of big n t v) → Change big n t d v i x
unfolding readings_of spot_of changed written
change big n t d v i x h =
    let m = all_move big n t d 0 0 v i x h in
    let c : Piece = piece big n t v in
    let w : Piece = piece big n t ((readings big n t).changed v i x) in
    let p : ((readings big n t).spot d 0 0 v i).place ≡ m.far = omega (arith, m.place_is) in
    let s : SameFront m.far c.bytes w.bytes = rw (← placed_zero c, ← placed_zero w) m.same in
    let z : 0 + (0 + padding 0 c.alignment) ≡ 0 = omega (arith, padding_zero c.alignment) in
    record {
      only = m.only;
      occurs = rw z at m.occurs;
      before = rw p (same_take s);
      in_old = rw p (same_most s);
      in_new = rw p (same_most_new s);
      fit = m.fits_still;
      nothing_spells = m.nothing_spells;
      limits = λ f. m.limits f;
      was_present = m.was_present;
    }

-- ---- a reading that is put as what it is

abbrev pub Keeps : {A : Type 0} → Readings A → Type 0
Keeps {A} r = (v : A) (i : ℕ) → i < length (r.list v) → r.changed v i (get_or (r.list v) i none) ≡ v

slot_keeps : (Held : Type 0) {t : Tree} (s : Slot t) (v : Option (ValueOver Held t)) → as_value Held s (as_reading Held s v) ≡ v
unfolding as_reading as_value
slot_keeps Held of_bool none = refl
slot_keeps Held of_bool (some true) = refl
slot_keeps Held of_bool (some false) = refl
slot_keeps Held (of_number c) none = refl
slot_keeps Held (of_number c) (some v) = refl

maybe_keeps : (Held : Type 0) {t : Tree} (s : Option (Slot t)) (a : ℕ) (r : Readings (ValueOver Held t)) → Keeps r → Keeps (maybe_readings Held s a r)
unfolding maybe_readings changed_slot list_maybe changed_maybe
maybe_keeps Held (some s) a r g v zero h = slot_keeps Held s v
maybe_keeps Held (some s) a r g v (suc i) h = absurd (omega arith)
maybe_keeps Held none a r g none i h = absurd (omega arith)
maybe_keeps Held {t} none a r g (some v) i h = ap (λ (w : ValueOver Held t). let o : Option (ValueOver Held t) = some w in o) (g v i h)

two_keeps : {A B : Type 0} (r : Readings A) (p : A → Piece) (s : Readings B) → Keeps r → Keeps s → Keeps (two_readings r p s)
unfolding changed_two
two_keeps {A} {B} r p s g h v i lt = go (ltb i (length (r.list v.0))) refl
  where
    n : ℕ
    n = length (r.list v.0)

    x : MaybeNumber
    x = get_or (r.list v.0 ++ s.list v.1) i none

    go : (b : Bool) → ltb i n ≡ b → pick b (r.changed v.0 i x, v.1) (v.0, s.changed v.1 (i - n) x) ≡ v
    go true e =
        let l = ltb-true i n e in
        ap (λ (w : A). (w, v.1)) (ap (λ (y : MaybeNumber). r.changed v.0 i y) (get_d_left (r.list v.0) (s.list v.1) i none l) ∙ g v.0 i l)
    go false e =
        let l = ltb-false i n e in
        let m = length-append (r.list v.0) (s.list v.1) in
        ap (λ (w : B). (v.0, w)) (ap (λ (y : MaybeNumber). s.changed v.1 (i - n) y) (get_d_right (r.list v.0) (s.list v.1) i none l) ∙ h v.1 (i - n) (omega arith))

all_keeps : {A : Type 0} (r : Readings A) (p : A → Piece) → Keeps r → Keeps (all_readings r p)
unfolding list_all changed_all
all_keeps r p g [] i lt = absurd (omega arith)
all_keeps {A} r p g (v ∷ vs) i lt =
    let m = length-append (r.list v) (list_all r p vs) in
    go (ltb i (length (r.list v))) refl (λ le. all_keeps r p g vs (i - length (r.list v)) (omega arith))
  where
    n : ℕ
    n = length (r.list v)

    x : MaybeNumber
    x = get_or (r.list v ++ list_all r p vs) i none

    go : (b : Bool) → ltb i n ≡ b → (n ≤ i → changed_all r p vs (i - n) (get_or (list_all r p vs) (i - n) none) ≡ vs) → pick b (r.changed v i x ∷ vs) (v ∷ changed_all r p vs (i - n) x) ≡ v ∷ vs
    go true e ih =
        let l = ltb-true i n e in
        ap (λ (w : A). w ∷ vs) (ap (λ (y : MaybeNumber). r.changed v i y) (get_d_left (r.list v) (list_all r p vs) i none l) ∙ g v i l)
    go false e ih =
        let l = ltb-false i n e in
        ap (λ (w : List A). v ∷ w) (ap (λ (y : MaybeNumber). changed_all r p vs (i - n) y) (get_d_right (r.list v) (list_all r p vs) i none l) ∙ ih l)

none_keeps : {A : Type 0} → Keeps (no_readings {A = A})
none_keeps v i h = absurd (omega arith)

module _ (big : Bool) {Held : Type 0} (held : Held → Piece) (variants : Readings Held) (hv : Keeps variants) where
  mutual
    unfolding readings_over

    keeps : (t : Tree) → Keeps (readings_over big held variants t)
    keeps (basic b) = none_keeps
    keeps variant = hv
    keeps (maybe t) = maybe_keeps Held (slot_of t) (alignment t) (readings_over big held variants t) (keeps t)
    keeps (array t) = all_keeps (readings_over big held variants t) (λ x. piece_over big held t x) (keeps t)
    keeps (dictionary b t) =
        all_keeps (in_container (entry_alignment b t) (λ d. d) (two_readings no_readings (λ x. basic_piece big b x) (readings_over big held variants t))) _
        (two_keeps no_readings (λ x. basic_piece big b x) (readings_over big held variants t) none_keeps (keeps t))
    keeps (structure ts) = fields_keep ts

    fields_keep : (ts : Fields) → Keeps (field_readings big held variants ts)
    fields_keep (last t) = keeps t
    fields_keep (next t ts) = two_keeps (readings_over big held variants t) (λ x. piece_over big held t x) (field_readings big held variants ts) (keeps t) (fields_keep ts)

variant_keeps : {Of : Tree → Type 0} (r : (t : Tree) → Readings (Of t)) → ((t : Tree) → Keeps (r t)) → Keeps (variant_readings r)
variant_keeps {Of} r g v i h = ap (λ (w : Of v.0). let x : (t : Tree) × Of t = (v.0, w) in x) (g v.0 v.1 i h)

all_keep : (big : Bool) (n : ℕ) (t : Tree) → Keeps (readings big n t)
unfolding readings
all_keep big zero t = keeps big (λ x. absurd x) no_readings none_keeps t
all_keep big (suc n) t =
    keeps big (λ x. variant_piece x.0 (piece big n x.0 x.1)) (variant_readings (λ u. readings big n u)) (variant_keeps (λ u. readings big n u) (λ u. all_keep big n u)) t

-- A READING THAT IS PUT AS WHAT IT IS leaves the value as it was
pub changed_same : (big : Bool) (n : ℕ) (t : Tree) (v : Value n t) (i : ℕ) → i < length (readings_of big n t v) → changed big n t v i (get_or (readings_of big n t v) i none) ≡ v
unfolding readings_of changed
changed_same big n t v i h = all_keep big n t v i h
