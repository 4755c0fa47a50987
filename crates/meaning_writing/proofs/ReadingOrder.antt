-- READINGS STAND IN READING ORDER: of two readings of a value, the one with the smaller number stands no further behind. Assumes nothing.
use mathlib.Core.Path.{◌≡◌, refl, ap}
use mathlib.Core.List.{List, [], ◌∷◌, ◌++◌, map}
use mathlib.Core.Option.{Option, none, some}
use mathlib.Core.Bool.{Bool, true, false}
use Prim.Native.Nat.{ℕ, zero, suc, ◌+◌, ◌-◌, ◌≤◌, ◌<◌}
use native.Mathlib.Omega.{arith}
use lib.Dec.{ltb}
use lib.ListN.{length, length-append}
use borrow.Author.Tests.{ltb-true, ltb-false}
use Rattle.meaning.specs.Choice.{pick}
use Rattle.meaning.specs.Padding.{padding}
use Rattle.meaning.specs.Depths as Depth
use Rattle.meaning.specs.Depths.{Depths, opened}
use Rattle.meaning.specs.Types.{Tree, Fields, basic, variant, maybe, array, dictionary, structure, last, next, alignment, largest_alignment, fixed, all_fixed, entry_alignment, entry_fixed}
use Rattle.meaning.specs.Letters.{array_letter, dictionary_letter}
use Rattle.meaning.specs.TypeText.{type_text}
use Rattle.meaning.specs.Values.{BasicValue, ValueOver, Value}
use Rattle.meaning.specs.Written.{Piece, stop, layout, basic_piece, maybe_piece, array_piece, structure_piece, entry_piece, variant_piece, piece_over, pieces_over, piece}
use Rattle.meaning_writing.specs.Readings.{Spot, Slot, slot_of, Readings, no_readings, in_container, list_maybe, spot_maybe, maybe_readings, spot_two, two_readings, list_all, spot_all, all_readings, readings_over, field_readings, variant_readings, readings, readings_of, spot_of}
use Rattle.meaning.proofs.LayoutLaws.{length_layout, layout_none}
use Rattle.meaning_writing.proofs.PieceLaws.{maybe_alignment, piece_alignment, stop_is}
use Rattle.meaning_writing.proofs.ChangedLaws.{Begins, array_begins, structure_begins, padding_zero, variant_alignment}

-- n spots, none before the place `least` and none behind the place `most`, each no further behind than the next
pub record Rising (least most : ℕ) (spots : ℕ → Spot) (n : ℕ) : Type 0 where
  pub above : (i : ℕ) → i < n → least ≤ (spots i).place
  pub below : (i : ℕ) → i < n → (spots i).place ≤ most
  pub rises : (i j : ℕ) → i ≤ j → j < n → (spots i).place ≤ (spots j).place

-- the readings of what is written as p says, laid out from the place k of a container that begins at q
abbrev pub Rises : {A : Type 0} → (A → Piece) → Readings A → Type 0
Rises {A} p r = (d : Depths) (q k : ℕ) (v : A) → Rising (q + k) (q + stop k (p v)) (λ i. r.spot d q k v i) (length (r.list v))

abbrev pub RisesRow : {A : Type 0} → (A → List Piece) → Readings A → Type 0
RisesRow {A} p r = (d : Depths) (q k : ℕ) (v : A) → Rising (q + k) (q + (k + length (layout k (p v)))) (λ i. r.spot d q k v i) (length (r.list v))

rising_none : (least most : ℕ) (spots : ℕ → Spot) → Rising least most spots 0
rising_none least most spots = record { above = λ i h. absurd (omega arith); below = λ i h. absurd (omega arith); rises = λ i j l h. absurd (omega arith) }

rising_wider : {a b n : ℕ} {f : ℕ → Spot} (c e : ℕ) → c ≤ a → b ≤ e → Rising a b f n → Rising c e f n
rising_wider c e h g r = record { above = λ i l. (let x = r.above i l in omega arith); below = λ i l. (let x = r.below i l in omega arith); rises = r.rises }

-- those of one, and then those of another behind it
rising_two : (a m b n o : ℕ) (f g : ℕ → Spot) → a ≤ m → m ≤ b → Rising a m f n → Rising m b g o → Rising a b (λ i. pick (ltb i n) (f i) (g (i - n))) (n + o)
rising_two a m b n o f g h k r s = record {
  above = λ i l. above i l (ltb i n) refl;
  below = λ i l. below i l (ltb i n) refl;
  rises = λ i j e l. rises i j e l (ltb i n) (ltb j n) refl refl;
}
  where
    above : (i : ℕ) → i < n + o → (x : Bool) → ltb i n ≡ x → a ≤ (pick x (f i) (g (i - n))).place
    above i l true e = r.above i (ltb-true i n e)
    above i l false e = let z = ltb-false i n e in let y = s.above (i - n) (omega arith) in omega arith

    below : (i : ℕ) → i < n + o → (x : Bool) → ltb i n ≡ x → (pick x (f i) (g (i - n))).place ≤ b
    below i l true e = let y = r.below i (ltb-true i n e) in omega arith
    below i l false e = let z = ltb-false i n e in s.below (i - n) (omega arith)

    rises : (i j : ℕ) → i ≤ j → j < n + o → (x y : Bool) → ltb i n ≡ x → ltb j n ≡ y → (pick x (f i) (g (i - n))).place ≤ (pick y (f j) (g (j - n))).place
    rises i j e l true true p q = r.rises i j e (ltb-true j n q)
    rises i j e l true false p q =
        let z = ltb-false j n q in
        let y = r.below i (ltb-true i n p) in
        let w = s.above (j - n) (omega arith) in
        omega arith
    rises i j e l false true p q = absurd (let z = ltb-false i n p in let y = ltb-true j n q in omega arith)
    rises i j e l false false p q = let z = ltb-false i n p in let y = ltb-false j n q in s.rises (i - n) (j - n) (omega arith) (omega arith)

none_rises : {A : Type 0} (p : A → Piece) → Rises p no_readings
none_rises p d q k v = rising_none _ _ _

-- ---- rows

stop_after : (k : ℕ) (c : Piece) → k ≤ stop k c
stop_after k c = omega (arith, stop_is k c)

module _ {A B : Type 0} (p : A → Piece) (r : Readings A) (g : Rises p r) (ps : B → List Piece) (s : Readings B) (h : RisesRow ps s) where
  two_rise : RisesRow (λ (v : A × B). p v.0 ∷ ps v.1) (two_readings r p s)
  unfolding spot_two
  two_rise d q k v =
      let c : Piece = p v.0 in
      let e = length_layout k c (ps v.1) in
      let z = stop_after k c in
      rw (length-append (r.list v.0) (s.list v.1))
      (rising_two (q + k) (q + stop k c) (q + (k + length (layout k (c ∷ ps v.1)))) (length (r.list v.0)) (length (s.list v.1)) _ _ (omega arith) (omega arith) (g d q k v.0)
      (rising_wider (q + stop k c) (q + (k + length (layout k (c ∷ ps v.1)))) (omega arith) (omega arith) (h d q (stop k c) v.1)))

one_rise : {A : Type 0} (p : A → Piece) (r : Readings A) → Rises p r → RisesRow (λ v. p v ∷ []) r
one_rise p r g d q k v =
    let e = length_layout k (p v) [] in
    let m : length (layout (stop k (p v)) []) ≡ 0 = ap length (layout_none (stop k (p v))) in
    rising_wider (q + k) (q + (k + length (layout k (p v ∷ [])))) (omega arith) (omega arith) (g d q k v)

module _ {A : Type 0} (p : A → Piece) (r : Readings A) (g : Rises p r) where
  all_rise : RisesRow (map p) (all_readings r p)
  unfolding list_all spot_all
  all_rise d q k [] = rising_none _ _ _
  all_rise d q k (v ∷ vs) =
      let c : Piece = p v in
      let e = length_layout k c (map p vs) in
      let z = stop_after k c in
      rw (length-append (r.list v) (list_all r p vs))
      (rising_two (q + k) (q + stop k c) (q + (k + length (layout k (c ∷ map p vs)))) (length (r.list v)) (length (list_all r p vs)) _ _ (omega arith) (omega arith) (g d q k v)
      (rising_wider (q + stop k c) (q + (k + length (layout k (c ∷ map p vs)))) (omega arith) (omega arith) (all_rise d q (stop k c) vs)))

-- ---- containers: their bytes begin with those of their children

begins_length : {l b : List ℕ} → Begins l b → length l ≤ length b
begins_length {l} {b} h = rw h.is (omega (arith, length-append l h.rest))

module _ {A : Type 0} (a : ℕ) (p : A → List Piece) (whole : A → Piece) (r : Readings A) (opens : Depths → Depths) (g : RisesRow p r) (h : (v : A) → (whole v).alignment ≡ a) (b : (v : A) → Begins (layout 0 (p v)) (whole v).bytes) where
  container_rises : Rises whole (in_container a opens r)
  container_rises d q k v =
      let n = begins_length (b v) in
      let e : padding k (whole v).alignment ≡ padding k a = ap (λ (z : ℕ). padding k z) (h v) in
      let s = stop_is k (whole v) in
      rising_wider (q + k) (q + stop k (whole v)) (omega arith) (omega arith) (g (opens d) (q + (k + padding k a)) 0 v)

-- ---- maybes and variants

module _ {A : Type 0} (a : ℕ) (fx : Bool) (p : A → Piece) (r : Readings A) (l : (v : A) → (p v).alignment ≡ a) (g : Rises p r) where
  present_stop : (k : ℕ) (v : A) → stop k (p v) ≤ stop k (maybe_piece a fx p (some v))
  unfolding maybe_piece stop
  present_stop k v = rw (l v) (go fx)
    where
      go : (fx : Bool) → k + padding k a + length (p v).bytes ≤ k + padding k a + length (pick fx (p v).bytes ((p v).bytes ++ (0 ∷ [])))
      go true = omega arith
      go false = omega (arith, length-append (p v).bytes (0 ∷ []))

  other_rises : (d : Depths) (q k : ℕ) (v : Option A) → Rising (q + k) (q + stop k (maybe_piece a fx p v)) (λ i. spot_maybe r d q k v i) (length (list_maybe r v))
  unfolding spot_maybe list_maybe
  other_rises d q k none = rising_none _ _ _
  other_rises d q k (some v) =
      let s = present_stop k v in
      rising_wider (q + k) (q + stop k (maybe_piece a fx p (some v))) (omega arith) (omega arith) (g (opened Depth.maybe d) q k v)

maybe_rises : (big : Bool) {Held : Type 0} (held : Held → Piece) {t : Tree} (s : Option (Slot t)) (a : ℕ) (r : Readings (ValueOver Held t)) → ((v : ValueOver Held t) → (piece_over big held t v).alignment ≡ a)
    → Rises (λ v. piece_over big held t v) r → Rises (maybe_piece a (fixed t) (λ v. piece_over big held t v)) (maybe_readings Held s a r)
unfolding maybe_readings
maybe_rises big held {t} (some s) a r l g d q k v =
    let c : Piece = maybe_piece a (fixed t) (λ v. piece_over big held t v) v in
    let e : padding k c.alignment ≡ padding k a = ap (λ (z : ℕ). padding k z) (maybe_alignment a (fixed t) (λ v. piece_over big held t v) v) in
    let z = stop_is k c in
    record { above = λ i h. omega arith; below = λ i h. omega arith; rises = λ i j h m. omega arith }
maybe_rises big held {t} none a r l g d q k v = other_rises a (fixed t) (λ v. piece_over big held t v) r l g d q k v

variant_rises : {Of : Tree → Type 0} (p : (t : Tree) → Of t → Piece) (r : (t : Tree) → Readings (Of t)) → ((t : Tree) → Rises (p t) (r t))
    → Rises (λ (x : (t : Tree) × Of t). variant_piece x.0 (p x.0 x.1)) (variant_readings r)
variant_rises p r g d q k v =
    let t : Tree = v.0 in
    let c : Piece = p t v.1 in
    let w : Piece = variant_piece t c in
    let n : length w.bytes ≡ length c.bytes + length (0 ∷ type_text t) = unfold variant_piece in length-append c.bytes (0 ∷ type_text t) in
    let e : padding k w.alignment ≡ padding k 8 = ap (λ (z : ℕ). padding k z) (variant_alignment t c) in
    let s = stop_is k w in
    let z = stop_is 0 c in
    let y = padding_zero c.alignment in
    rising_wider (q + k) (q + stop k w) (omega arith) (omega arith) (g t (opened Depth.variant d) (q + (k + padding k 8)) 0 v.1)

-- ---- all types

array_bytes_lem : (kind a : ℕ) (fx : Bool) (cs : List Piece) → Begins (layout 0 cs) (array_piece kind a fx cs).bytes
unfolding array_piece
array_bytes_lem kind a fx cs = array_begins fx cs

array_aligned : (kind a : ℕ) (fx : Bool) (cs : List Piece) → (array_piece kind a fx cs).alignment ≡ a
unfolding array_piece
array_aligned kind a fx cs = refl

module _ (big : Bool) {Held : Type 0} (held : Held → Piece) (variants : Readings Held) (h8 : (x : Held) → (held x).alignment ≡ 8) (hv : Rises held variants) where
  mutual
    unfolding piece_over readings_over structure_piece entry_piece

    rises_over : (t : Tree) → Rises (λ v. piece_over big held t v) (readings_over big held variants t)
    rises_over (basic b) = none_rises (λ v. basic_piece big b v)
    rises_over variant = hv
    rises_over (maybe t) = maybe_rises big held (slot_of t) (alignment t) (readings_over big held variants t) (piece_alignment big held h8 t) (rises_over t)
    rises_over (array t) =
        container_rises (alignment t) (map (λ x. piece_over big held t x)) _ (all_readings (readings_over big held variants t) (λ x. piece_over big held t x)) (λ d. opened Depth.array d)
        (all_rise (λ x. piece_over big held t x) (readings_over big held variants t) (rises_over t)) (λ v. array_aligned array_letter (alignment t) (fixed t) _) (λ v. array_bytes_lem array_letter (alignment t) (fixed t) _)
    rises_over (dictionary b t) =
        let a : ℕ = entry_alignment b t in
        let fx : Bool = entry_fixed b t in
        let entry : BasicValue b × ValueOver Held t → List Piece = λ x. basic_piece big b x.0 ∷ piece_over big held t x.1 ∷ [] in
        let r : Readings (BasicValue b × ValueOver Held t) = two_readings no_readings (λ x. basic_piece big b x) (readings_over big held variants t) in
        let g : RisesRow entry r =
        two_rise (λ x. basic_piece big b x) no_readings (none_rises (λ v. basic_piece big b v)) (λ v. piece_over big held t v ∷ []) (readings_over big held variants t)
        (one_rise (λ x. piece_over big held t x) (readings_over big held variants t) (rises_over t)) in
        container_rises a (map (λ x. entry_piece a fx (entry x))) _ (all_readings (in_container a (λ d. d) r) (λ x. entry_piece a fx (entry x))) (λ d. opened Depth.array d)
        (all_rise (λ x. entry_piece a fx (entry x)) (in_container a (λ d. d) r) (container_rises a entry (λ x. entry_piece a fx (entry x)) r (λ d. d) g (λ v. refl) (λ v. structure_begins a fx (entry v))))
        (λ v. array_aligned dictionary_letter a fx _) (λ v. array_bytes_lem dictionary_letter a fx _)
    rises_over (structure ts) =
        container_rises (largest_alignment ts) (λ v. pieces_over big held ts v) _ (field_readings big held variants ts) (λ d. opened Depth.structure d) (rise_row ts) (λ v. refl)
        (λ v. structure_begins (largest_alignment ts) (all_fixed ts) (pieces_over big held ts v))

    rise_row : (ts : Fields) → RisesRow (λ v. pieces_over big held ts v) (field_readings big held variants ts)
    rise_row (last t) = one_rise (λ x. piece_over big held t x) (readings_over big held variants t) (rises_over t)
    rise_row (next t ts) =
        two_rise (λ x. piece_over big held t x) (readings_over big held variants t) (rises_over t) (λ v. pieces_over big held ts v) (field_readings big held variants ts) (rise_row ts)

all_rises : (big : Bool) (n : ℕ) (t : Tree) → Rises (λ v. piece big n t v) (readings big n t)
unfolding piece readings
all_rises big zero t = rises_over big (λ x. absurd x) no_readings (λ x. absurd x) (none_rises (λ x. absurd x)) t
all_rises big (suc n) t =
    rises_over big (λ x. variant_piece x.0 (piece big n x.0 x.1)) (variant_readings (λ u. readings big n u)) (λ x. variant_alignment x.0 (piece big n x.0 x.1))
    (variant_rises (λ u v. piece big n u v) (λ u. readings big n u) (λ u. all_rises big n u)) t

-- THE ORDER OF READINGS is that of their places
pub readings_rise : (big : Bool) (n : ℕ) (t : Tree) (d : Depths) (v : Value n t) (i j : ℕ) → i ≤ j → j < length (readings_of big n t v) → (spot_of big n t d v i).place ≤ (spot_of big n t d v j).place
unfolding readings_of spot_of
readings_rise big n t d v i j h l = (all_rises big n t d 0 0 v).rises i j h l
