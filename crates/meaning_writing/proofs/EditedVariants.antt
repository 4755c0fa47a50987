-- THE EDIT OF THE BYTES IS THE CHANGE OF THE VALUE: maybes, variants, and so all types. Assumes nothing.
use mathlib.Core.Path.{◌≡◌, refl, sym, ap, ◌∙◌}
use mathlib.Core.List.{List, [], ◌∷◌, ◌++◌}
use mathlib.Core.Option.{Option, none, some}
use mathlib.Core.Bool.{Bool, true, false, ◌&&◌}
use Prim.Native.Nat.{ℕ, zero, suc, ◌+◌, ◌≤◌, ◌<◌}
use native.Mathlib.Omega.{arith}
use lib.Dec.{T, eqb, leb→le}
use lib.ListN.{length, drop, length-append}
use borrow.Author.Tests.{ne_eqb}
use Rattle.meaning.specs.Choice.{pick}
use Rattle.meaning.specs.Limits.{largest_frame}
use Rattle.meaning.specs.Padding.{padding}
use Rattle.meaning.specs.Depths as Depth
use Rattle.meaning.specs.Depths.{Depths, opened}
use Rattle.meaning.specs.Types.{Basic, Tree, Fields, basic, variant, maybe, array, dictionary, structure, last, next, basic_fixed, alignment, largest_alignment, fixed, all_fixed, entry_alignment, entry_fixed}
use Rattle.meaning.specs.Letters.{array_letter, dictionary_letter}
use Rattle.meaning.specs.TypeText.{type_text, type_of}
use Rattle.meaning.specs.Values.{BasicValue, ValueOver, Value}
use Rattle.meaning.specs.Written.{Piece, fits, basic_piece, maybe_piece, entry_piece, variant_piece, piece_over, pieces_over, piece, written}
use Rattle.meaning.specs.Reading.{separator}
use Rattle.meaning_writing.specs.Shapes.{shape_of, basic_shape, all_shapes_fixed}
use Rattle.meaning_writing.specs.Readings.{MaybeNumber, spells, Slot, of_bool, of_number, slot_of, slot_type, Readings, no_readings, in_container, as_value, changed_slot, list_maybe, spot_maybe, changed_maybe, maybe_readings, two_readings, readings_over, field_readings, variant_readings, readings, readings_of, spot_of, changed}
use Rattle.meaning_writing.specs.Edited.{Editor, still, slot_bytes, child_bytes, round_child, count_maybe, maybe_editor, container_editor, array_editor, structure_editor, count_typed, spot_typed, edited_typed, variant_editor, editor_over, editors_over, editor_of, reading_count, reading_spot, edited_frame, editor_shapes}
use Rattle.meaning.proofs.Tests.{impossible}
use Rattle.meaning.proofs.FitLaws.{held_fits, variant_fits}
use Rattle.meaning.proofs.TypeTextLaws.{type_of_type_text}
use Rattle.meaning_writing.proofs.Parts.{last_off}
use Rattle.meaning_writing.proofs.PieceLaws.{maybe_alignment, maybe_fixed, deeper_holds}
use Rattle.meaning_writing.proofs.ShapeLaws.{basic_shaped, loose_shaped}
use Rattle.meaning_writing.proofs.StrictVariants.{variant_separator, variant_type_lem, variant_value_lem}
use Rattle.meaning_writing.proofs.ChangedLaws.{padding_zero}
use Rattle.meaning_writing.proofs.EditedLaws.{Finds, Does, array_does, still_finds, none_there}
use Rattle.meaning_writing.proofs.EditedStructures.{DoesRow, one_does, two_does, entry_does, structure_does}

-- ---- basic values have no reading

basic_does : (big : Bool) (b : Basic) → Does (still (basic_shape b)) (λ v. basic_piece big b v) no_readings
basic_does big b = record {
  shaped = basic_shaped big b;
  quiet = λ h v. refl;
  finds = λ d v f s. still_finds (basic_shape b) (λ v. basic_piece big b v) no_readings d v refl;
}

-- ---- maybes

slot_form : (big : Bool) {Held : Type 0} (held : Held → Piece) {t : Tree} (s : Slot t) (a : ℕ) (x : MaybeNumber) → T (spells (slot_type s) x) → slot_bytes big s x ≡ (maybe_piece a (fixed t) (λ y. piece_over big held t y) (as_value Held s x)).bytes
unfolding slot_bytes maybe_piece piece_over basic_piece as_value spells fixed
slot_form big held of_bool a none f = refl
slot_form big held of_bool a (some zero) f = refl
slot_form big held of_bool a (some (suc zero)) f = refl
slot_form big held of_bool a (some (suc (suc n))) f = absurd (let h = leb→le (suc (suc n)) 1 f in omega arith)
slot_form big held (of_number c) a none f = refl
slot_form big held (of_number c) a (some n) f = refl

-- a maybe that is no reading: of a child that is fixed there is none
module _ {A : Type 0} (a : ℕ) (t : Editor) (p : A → Piece) (r : Readings A) (ha : t.shape.alignment ≡ a) (g : Does t p r) (d : Depths) where
  count_none : (fx : Bool) (l : List ℕ) → t.count (child_bytes fx l) ≡ 0 → count_maybe fx t l ≡ 0
  unfolding count_maybe
  count_none fx l h = go (eqb (length l) 0)
    where
      go : (b : Bool) → pick b 0 (t.count (child_bytes fx l)) ≡ 0
      go true = refl
      go false = h

  count_some : (l : List ℕ) → count_maybe false t (l ++ (0 ∷ [])) ≡ t.count l
  unfolding count_maybe child_bytes
  count_some l =
      let n = length-append l (0 ∷ []) in
      rw (ne_eqb (length (l ++ (0 ∷ []))) 0 (λ q. omega arith), last_off l)

  other_finds : (fx : Bool) → t.shape.fixed ≡ fx → (u : Tree) (big : Bool) (v : Option A) → T (fits (maybe_piece a fx p v) d) → length (maybe_piece a fx p v).bytes ≤ 65536
      → Finds (maybe_editor big {t = u} none a fx t) (maybe_piece a fx p) (record { list = list_maybe r; spot = spot_maybe r; changed = changed_maybe r }) d v
  unfolding maybe_editor maybe_piece list_maybe spot_maybe changed_maybe child_bytes round_child
  other_finds fx hf u big none f s = record { count_is = unfold count_maybe in refl; spot_is = λ q k i h. absurd (omega arith); edited_is = λ q k i x h z. absurd (omega arith) }
  other_finds true hf u big (some v) f s =
      let e : Depths = opened Depth.maybe d in
      let y = g.finds e v (deeper_holds e (fits (p v)) (held_fits (p v) e f)) s in
      let z = ap length (g.quiet hf v) in
      record {
        count_is = count_none true (p v).bytes (y.count_is ∙ z) ∙ sym z;
        spot_is = λ q k i h. none_there (r.list v) i (g.quiet hf v) h;
        edited_is = λ q k i x h o. none_there (r.list v) i (g.quiet hf v) h;
      }
  other_finds false hf u big (some v) f s =
      let e : Depths = opened Depth.maybe d in
      let n = length-append (p v).bytes (0 ∷ []) in
      let y = g.finds e v (deeper_holds e (fits (p v)) (held_fits (p v) e f)) (omega arith) in
      record {
        count_is = count_some (p v).bytes ∙ y.count_is;
        spot_is = λ q k i h.
            ap (λ (l : List ℕ). t.spot e (q + (k + padding k a)) l i) (last_off (p v).bytes)
            ∙ ap (λ (b : ℕ). t.spot e (q + (k + padding k b)) (p v).bytes i) (sym ha) ∙ y.spot_is q k i h;
        edited_is = λ q k i x h o. ap (λ (l : List ℕ). t.edited l i x ++ (0 ∷ [])) (last_off (p v).bytes) ∙ ap (λ (l : List ℕ). l ++ (0 ∷ [])) (y.edited_is q k i x h o);
      }

maybe_does : (big : Bool) {Held : Type 0} (held : Held → Piece) {t : Tree} (s : Option (Slot t)) (a : ℕ) (te : Editor) (r : Readings (ValueOver Held t)) → te.shape.alignment ≡ a → te.shape.fixed ≡ fixed t
    → Does te (λ v. piece_over big held t v) r → Does (maybe_editor big s a (fixed t) te) (maybe_piece a (fixed t) (λ v. piece_over big held t v)) (maybe_readings Held s a r)
unfolding maybe_readings
maybe_does big {Held} held {t} (some s) a te r ha hf g = record {
  shaped = unfold maybe_editor in loose_shaped _ _ (maybe_alignment a (fixed t) (λ v. piece_over big held t v)) (maybe_fixed a (fixed t) (λ v. piece_over big held t v));
  quiet = λ h v. impossible (unfold maybe_editor in h);
  finds = λ d v f b. record { count_is = unfold maybe_editor in refl; spot_is = λ q k i h. unfold maybe_editor in refl; edited_is = λ q k i x h o. unfold maybe_editor in at v i x h o };
}
  where
    at : (v : Option (ValueOver Held t)) (i : ℕ) (x : MaybeNumber) → i < 1 → T (spells (slot_type s) x) → slot_bytes big s x ≡ (maybe_piece a (fixed t) (λ v. piece_over big held t v) (changed_slot (as_value Held s) v i x)).bytes
    at v zero x h o = unfold changed_slot in slot_form big held s a x o
    at v (suc i) x h o = absurd (omega arith)
maybe_does big {Held} held {t} none a te r ha hf g = record {
  shaped = unfold maybe_editor in loose_shaped _ _ (maybe_alignment a (fixed t) (λ v. piece_over big held t v)) (maybe_fixed a (fixed t) (λ v. piece_over big held t v));
  quiet = λ h v. impossible (unfold maybe_editor in h);
  finds = λ d v f s. other_finds a te (λ v. piece_over big held t v) r ha g d (fixed t) hf t big v f s;
}

-- ---- variants

module _ {Of : Tree → Type 0} (editor : Tree → Editor) (p : (t : Tree) → Of t → Piece) (r : (t : Tree) → Readings (Of t)) (g : (t : Tree) → Does (editor t) (p t) (r t)) where
  abbrev held_piece_lem : (t : Tree) × Of t → Piece
  held_piece_lem x = variant_piece x.0 (p x.0 x.1)

  -- what is found behind the separator of a written form
  module _ (t : Tree) (b : List ℕ) (n : length (type_text t) ≤ 255) where
    abbrev whole : List ℕ
    whole = b ++ (0 ∷ type_text t)

    type_found : type_of (drop (length b + 1) whole) ≡ some t
    type_found = ap type_of (variant_type_lem t b) ∙ type_of_type_text t n

    count_found : count_typed editor whole (separator whole) (type_of (drop (separator whole) whole)) ≡ (editor t).count b
    unfolding count_typed
    count_found =
        ap (λ (s : ℕ). count_typed editor whole s (type_of (drop s whole))) (variant_separator t b)
        ∙ ap (λ (o : Option Tree). count_typed editor whole (length b + 1) o) type_found ∙ ap (λ (l : List ℕ). (editor t).count l) (variant_value_lem t b)

    spot_found : (d : Depths) (q i : ℕ) → spot_typed editor whole (separator whole) d q i (type_of (drop (separator whole) whole)) ≡ (editor t).spot (opened Depth.variant d) q b i
    unfolding spot_typed
    spot_found d q i =
        ap (λ (s : ℕ). spot_typed editor whole s d q i (type_of (drop s whole))) (variant_separator t b)
        ∙ ap (λ (o : Option Tree). spot_typed editor whole (length b + 1) d q i o) type_found ∙ ap (λ (l : List ℕ). (editor t).spot (opened Depth.variant d) q l i) (variant_value_lem t b)

    edited_found : (i : ℕ) (x : MaybeNumber) → edited_typed editor whole (separator whole) i x (type_of (drop (separator whole) whole)) ≡ (editor t).edited b i x ++ (0 ∷ type_text t)
    unfolding edited_typed
    edited_found i x =
        ap (λ (s : ℕ). edited_typed editor whole s i x (type_of (drop s whole))) (variant_separator t b)
        ∙ ap (λ (o : Option Tree). edited_typed editor whole (length b + 1) i x o) type_found
        ∙ ap (λ (l : List ℕ). (editor t).edited l i x ++ (0 ∷ drop (length b + 1) whole)) (variant_value_lem t b) ∙ ap (λ (l : List ℕ). (editor t).edited b i x ++ (0 ∷ l)) (variant_type_lem t b)

  variant_finds : (d : Depths) (v : (t : Tree) × Of t) → T (fits (held_piece_lem v) d) → length (held_piece_lem v).bytes ≤ 65536 → Finds (variant_editor editor) held_piece_lem (variant_readings r) d v
  unfolding variant_piece variant_editor
  variant_finds d v f big =
      let t : Tree = v.0 in
      let b : List ℕ = (p t v.1).bytes in
      let e : Depths = opened Depth.variant d in
      let len = length-append b (0 ∷ type_text t) in
      let u = variant_fits t (p t v.1) d f in
      let n = u.short in
      let y = (g t).finds e v.1 (deeper_holds e (fits (p t v.1)) u.held) (omega arith) in
      record {
        count_is = count_found t b n ∙ y.count_is;
        spot_is = λ q k i h.
            let z : q + (k + padding k 8) + (0 + padding 0 (editor t).shape.alignment) ≡ q + (k + padding k 8) = omega (arith, padding_zero (editor t).shape.alignment) in
            spot_found t b n d (q + (k + padding k 8)) i ∙ ap (λ (m : ℕ). (editor t).spot e m b i) (sym z) ∙ y.spot_is (q + (k + padding k 8)) 0 i h;
        edited_is = λ q k i x h o. edited_found t b n i x ∙ ap (λ (l : List ℕ). l ++ (0 ∷ type_text t)) (y.edited_is (q + (k + padding k 8)) 0 i x h o);
      }

  variant_does : Does (variant_editor editor) held_piece_lem (variant_readings r)
  variant_does = record {
    shaped = unfold variant_editor variant_piece in loose_shaped _ _ (λ v. refl) (λ v. refl);
    quiet = λ h v. impossible (unfold variant_editor in h);
    finds = variant_finds;
  }

-- ---- all types

module _ (big : Bool) (variants : Editor) (h8 : variants.shape.alignment ≡ 8) (hx : variants.shape.fixed ≡ false) where
  maybe_is : {t : Tree} (s : Option (Slot t)) (a : ℕ) (fx : Bool) (te : Editor) → ((maybe_editor big s a fx te).shape.alignment ≡ a) × ((maybe_editor big s a fx te).shape.fixed ≡ false)
  unfolding maybe_editor
  maybe_is (some s) a fx te = (refl, refl)
  maybe_is none a fx te = (refl, refl)

  array_is : (a : ℕ) (fx : Bool) (te : Editor) → ((array_editor a fx te).shape.alignment ≡ a) × ((array_editor a fx te).shape.fixed ≡ false)
  unfolding array_editor container_editor
  array_is a true te = (refl, refl)
  array_is a false te = (refl, refl)

  structure_is : (opens : Depths → Depths) (a : ℕ) (fx : Bool) (ts : List Editor) → ((structure_editor opens a fx ts).shape.alignment ≡ a) × ((structure_editor opens a fx ts).shape.fixed ≡ fx)
  unfolding structure_editor container_editor
  structure_is opens a true ts = (refl, refl)
  structure_is opens a false ts = (refl, refl)

  alignment_of : (t : Tree) → (editor_over big variants t).shape.alignment ≡ alignment t
  unfolding editor_over alignment
  alignment_of (basic b) = refl
  alignment_of variant = h8
  alignment_of (maybe t) = (maybe_is (slot_of t) (alignment t) (fixed t) (editor_over big variants t)).0
  alignment_of (array t) = (array_is (alignment t) (fixed t) (editor_over big variants t)).0
  alignment_of (dictionary b t) = (array_is _ _ _).0
  alignment_of (structure ts) = (structure_is _ (largest_alignment ts) (all_fixed ts) (editors_over big variants ts)).0

  fixed_of : (t : Tree) → (editor_over big variants t).shape.fixed ≡ fixed t
  unfolding editor_over fixed
  fixed_of (basic b) = refl
  fixed_of variant = hx
  fixed_of (maybe t) = (maybe_is (slot_of t) (alignment t) (fixed t) (editor_over big variants t)).1
  fixed_of (array t) = (array_is (alignment t) (fixed t) (editor_over big variants t)).1
  fixed_of (dictionary b t) = (array_is _ _ _).1
  fixed_of (structure ts) = (structure_is _ (largest_alignment ts) (all_fixed ts) (editors_over big variants ts)).1

  still_all : (ts : Fields) → all_shapes_fixed (editor_shapes (editors_over big variants ts)) ≡ all_fixed ts
  unfolding editor_over fixed
  still_all (last t) = ap (λ (b : Bool). b && true) (fixed_of t) ∙ one (fixed t)
    where
      one : (b : Bool) → (b && true) ≡ b
      one true = refl
      one false = refl
  still_all (next t ts) = ap (λ (b : Bool). b && all_shapes_fixed (editor_shapes (editors_over big variants ts))) (fixed_of t) ∙ ap (λ (b : Bool). fixed t && b) (still_all ts)

  still_entry : (b : Basic) (t : Tree) → (entry_fixed b t) ≡ true → (basic_fixed b && ((editor_over big variants t).shape.fixed && true)) ≡ true
  still_entry b t h = ap (λ (x : Bool). basic_fixed b && (x && true)) (fixed_of t) ∙ one (basic_fixed b) (fixed t) h
    where
      one : (x y : Bool) → (x && y) ≡ true → (x && (y && true)) ≡ true
      one true true h = refl
      one true false h = h
      one false y h = h

  module _ {Held : Type 0} (held : Held → Piece) (rs : Readings Held) (hv : Does variants held rs) where
    mutual
      unfolding editor_over readings_over piece_over alignment fixed

      does : (t : Tree) → Does (editor_over big variants t) (λ v. piece_over big held t v) (readings_over big held rs t)
      does (basic b) = basic_does big b
      does variant = hv
      does (maybe t) = maybe_does big held (slot_of t) (alignment t) (editor_over big variants t) (readings_over big held rs t) (alignment_of t) (fixed_of t) (does t)
      does (array t) = array_does (editor_over big variants t) (λ v. piece_over big held t v) (readings_over big held rs t) (does t) array_letter (alignment t) (fixed t) (fixed_of t)
      does (dictionary b t) =
          let a : ℕ = entry_alignment b t in
          let fx : Bool = entry_fixed b t in
          let key : Editor = still (basic_shape b) in
          let entry : BasicValue b × ValueOver Held t → List Piece = λ x. basic_piece big b x.0 ∷ piece_over big held t x.1 ∷ [] in
          let r : Readings (BasicValue b × ValueOver Held t) = two_readings no_readings (λ x. basic_piece big b x) (readings_over big held rs t) in
          array_does (structure_editor (λ d. d) a fx (key ∷ editor_over big variants t ∷ [])) (λ x. entry_piece a fx (entry x)) (in_container a (λ d. d) r)
          (entry_does a (key ∷ editor_over big variants t ∷ []) entry r
          (two_does key (λ x. basic_piece big b x) no_readings (basic_does big b) (editor_over big variants t) [] (λ v. piece_over big held t v ∷ []) (readings_over big held rs t)
          (one_does (editor_over big variants t) (λ v. piece_over big held t v) (readings_over big held rs t) (does t))) fx (λ h. still_entry b t h))
          dictionary_letter a fx (structure_is (λ d. d) a fx (key ∷ editor_over big variants t ∷ [])).1
      does (structure ts) =
          structure_does (largest_alignment ts) (editors_over big variants ts) (λ v. pieces_over big held ts v) (field_readings big held rs ts) (rows ts) (all_fixed ts) (λ h. still_all ts ∙ h)

      rows : (ts : Fields) → DoesRow (editors_over big variants ts) (λ v. pieces_over big held ts v) (field_readings big held rs ts)
      rows (last t) = one_does (editor_over big variants t) (λ v. piece_over big held t v) (readings_over big held rs t) (does t)
      rows (next t (last u)) =
          two_does (editor_over big variants t) (λ v. piece_over big held t v) (readings_over big held rs t) (does t) (editor_over big variants u) [] (λ v. pieces_over big held (last u) v) (field_readings big held rs (last u)) (rows (last u))
      rows (next t (next u us)) =
          two_does (editor_over big variants t) (λ v. piece_over big held t v) (readings_over big held rs t) (does t) (editor_over big variants u) (editors_over big variants us) (λ v. pieces_over big held (next u us) v)
          (field_readings big held rs (next u us)) (rows (next u us))

variant_is : (editor : Tree → Editor) → ((variant_editor editor).shape.alignment ≡ 8) × ((variant_editor editor).shape.fixed ≡ false)
unfolding variant_editor
variant_is editor = (refl, refl)

never_does : Does (still (shape_of 8 false 0)) (λ (x : ⊥). absurd x) no_readings
never_does = record {
  shaped = record { alignment_is = λ v. absurd v; fixed_is = λ v. absurd v; size_is = λ h v. absurd v };
  quiet = λ h v. absurd v;
  finds = λ d v f s. absurd v;
}

pub all_does : (big : Bool) (n : ℕ) (t : Tree) → Does (editor_of big n t) (λ v. piece big n t v) (readings big n t)
unfolding editor_of piece readings
all_does big zero t = does big (still (shape_of 8 false 0)) refl refl (λ x. absurd x) no_readings never_does t
all_does big (suc n) t =
    let editor : Tree → Editor = λ u. editor_of big n u in
    does big (variant_editor editor) (variant_is editor).0 (variant_is editor).1 (λ x. variant_piece x.0 (piece big n x.0 x.1)) (variant_readings (λ u. readings big n u))
    (variant_does editor (λ u v. piece big n u v) (λ u. readings big n u) (λ u. all_does big n u)) t

-- THE EDIT OF THE BYTES, of the written form of a value that fits: the readings that are counted in the bytes are those of the value; where one
-- stands in the bytes is where it stands in the value; and the edited bytes are the written form of the changed value
module _ (big : Bool) (n : ℕ) (t : Tree) (d : Depths) (v : Value n t) (f : T (fits (piece big n t v) d)) (s : length (written big n t v) ≤ largest_frame) where
  pub count_is : reading_count big n t (written big n t v) ≡ length (readings_of big n t v)
  unfolding reading_count written readings_of
  count_is = ((all_does big n t).finds d v f s).count_is

  pub spot_is : (i : ℕ) → i < length (readings_of big n t v) → reading_spot big n t d (written big n t v) i ≡ spot_of big n t d v i
  unfolding reading_spot spot_of written readings_of
  spot_is i h =
      let z : 0 + (0 + padding 0 (editor_of big n t).shape.alignment) ≡ 0 = omega (arith, padding_zero (editor_of big n t).shape.alignment) in
      ap (λ (m : ℕ). (editor_of big n t).spot d m (piece big n t v).bytes i) (sym z) ∙ ((all_does big n t).finds d v f s).spot_is 0 0 i h

  pub edited_is : (i : ℕ) (x : MaybeNumber) → i < length (readings_of big n t v) → T (spells (spot_of big n t d v i).type x) → edited_frame big n t (written big n t v) i x ≡ written big n t (changed big n t v i x)
  unfolding edited_frame spot_of changed written readings_of
  edited_is i x h o = ((all_does big n t).finds d v f s).edited_is 0 0 i x h o
