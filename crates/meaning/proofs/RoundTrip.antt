-- THE ROUND TRIP: every value of every type, within the depth limits and 65,536 bytes, in both byte orders, at every position that is
-- a multiple of 8, reads back: done, all bytes used, exactly its events. By induction over the type. Assumes nothing.
use mathlib.Core.Path.{◌≡◌, refl, sym, ◌∙◌}
use mathlib.Core.List.{List, [], ◌∷◌, map}
use mathlib.Core.Option.{Option, none, some}
use mathlib.Core.Bool.{Bool, true, false, ◌&&◌}
use Prim.Native.Nat.{ℕ, zero, suc, ◌+◌, ◌%◌, ◌≤◌, ◌<◌, max}
use native.Mathlib.Omega.{arith}
use lib.Dec.{T}
use lib.ListN.{length, length-append}
use borrow.Author.Tests.{le-leb}
use Rattle.meaning.specs.Numbers.{bytes}
use Rattle.meaning.specs.Depths.{Depths, none_open}
use Rattle.meaning.specs.Types.{Basic, bool, number, text, Tree, Fields, basic, variant, maybe, array, dictionary, structure, last, next, number_width, basic_alignment, basic_fixed, alignment, largest_alignment, fixed, all_fixed}
use Rattle.meaning.specs.TypeText.{type_text}
use Rattle.meaning.specs.Values.{BasicValue, ValueOver, FieldsOver, Value}
use Rattle.meaning.specs.Written.{Piece, fits, layout, basic_piece, maybe_piece, array_piece, structure_bytes, structure_piece, entry_piece, variant_piece, piece_over, pieces_over, piece, written}
use Rattle.meaning.specs.Outcome.{done, refused}
use Rattle.meaning.specs.Reading.{Reader, Field, read_basic, read_maybe, read_array, child_step, entry_step, read_structure, read_variant, read_tree, readers, reading}
use Rattle.meaning.specs.Limits.{largest_frame, most_variants}
use Rattle.meaning.specs.Calls.{frame_of, frame_reading}
use Rattle.meaning.specs.Padding.{Aligns}
use Rattle.meaning.proofs.Tests.{both_left, both_right, from_test}
use Rattle.meaning.proofs.NumberLaws.{length_bytes, length_ordered}
use Rattle.meaning.proofs.PaddingLaws.{aligns_max, aligns_positive, Divides, divides_eight, divides_left, divides_right}
use Rattle.meaning.proofs.TypeLaws.{number_aligned, basic_aligned, aligned, fields_aligned}
use Rattle.meaning.proofs.TypeTextLaws.{type_of_type_text}
use Rattle.meaning.proofs.LayoutLaws.{All, nil, cons, layout_cons}
use Rattle.meaning.proofs.ReadsBack.{Good, reads_here, number_reads, bool_reads, text_reads, maybe_reads, elements_read}
use Rattle.meaning.proofs.ReadsBackStructures.{Row, none, more, structure_reads}
use Rattle.meaning.proofs.ReadsBackDictionaries.{dictionary_reads}
use Rattle.meaning.proofs.ReadsBackVariants.{variant_good}

all_map : {A : Type 0} {P : Piece → Type 0} (f : A → Piece) → ((x : A) → P (f x)) → (xs : List A) → All P (map f xs)
all_map f h [] = nil
all_map f h (x ∷ xs) = cons (h x) (all_map f h xs)

maybe_alignment : {A : Type 0} (a : ℕ) (fx : Bool) (pc : A → Piece) (v : Option A) → (maybe_piece a fx pc v).alignment ≡ a
unfolding maybe_piece
maybe_alignment a fx pc none = refl
maybe_alignment a fx pc (some v) = refl

maybe_fixed : {A : Type 0} (a : ℕ) (fx : Bool) (pc : A → Piece) (v : Option A) → (maybe_piece a fx pc v).fixed ≡ false
unfolding maybe_piece
maybe_fixed a fx pc none = refl
maybe_fixed a fx pc (some v) = refl

module _ (position : ℕ) (big : Bool) where
  basic_good : (b : Basic) (v : BasicValue b) → Good position (read_basic position big b) (basic_alignment b) (basic_fixed b) (basic_piece big b v)
  unfolding basic_piece
  basic_good bool v = record { reads = bool_reads position big v; alignment_is = refl; fixed_is = refl; solid = λ t. omega arith }
  basic_good (number c) v = record {
    reads = number_reads position big c v;
    alignment_is = refl;
    fixed_is = refl;
    solid = λ t. rw (length_ordered big (bytes (number_width c) v), length_bytes (number_width c) v) (aligns_positive (number_aligned c));
  }
  basic_good (text c) v = record { reads = text_reads position big c v; alignment_is = refl; fixed_is = refl; solid = λ t. absurd t }

  maybe_good : {A : Type 0} (read : Reader) (a : ℕ) (al : Aligns a) (fx : Bool) (pc : A → Piece) → ((v : A) → Good position read a fx (pc v)) → (v : Option A)
      → Good position (read_maybe position a fx read) a false (maybe_piece a fx pc v)
  maybe_good read a al fx pc g v =
      record { reads = maybe_reads position read a al pc fx g v; alignment_is = maybe_alignment a fx pc v; fixed_is = maybe_fixed a fx pc v; solid = λ t. absurd t }

  array_good : (read : Reader) (a : ℕ) (al : Aligns a) (fx : Bool) (cs : List Piece) → All (Good position read a fx) cs → Good position (read_array position 97 a fx (child_step read)) a false (array_piece 97 a fx cs)
  unfolding array_piece
  array_good read a al fx cs g = record { reads = elements_read position 97 read a al fx cs g; alignment_is = refl; fixed_is = refl; solid = λ t. absurd t }

  dictionary_good : {A : Type 0} (ak av : ℕ) → Aligns ak → Aligns av → (fk fv : Bool) (key value : Reader) (pk pv : A → Piece) → ((x : A) → Good position key ak fk (pk x)) → ((x : A) → Good position value av fv (pv x)) → (xs : List A)
      → Good position (read_array position 123 (max ak av) (fk && fv) (entry_step position (max ak av) fk (fk && fv) key value)) (max ak av) false
      (array_piece 123 (max ak av) (fk && fv) (map (λ x. entry_piece (max ak av) (fk && fv) (pk x ∷ pv x ∷ [])) xs))
  unfolding array_piece
  dictionary_good ak av lk lv fk fv key value pk pv gk gv xs = record {
    reads = dictionary_reads position (max ak av) ak av (aligns_max lk lv) fk fv key value pk pv gk gv (divides_left lk lv) (divides_right lk lv) xs;
    alignment_is = refl;
    fixed_is = refl;
    solid = λ t. absurd t;
  }

  -- what is known of a structure's fields
  record GoodFields (a : ℕ) (fx : Bool) (fs : List Field) (cs : List Piece) : Type 0 where
    row : Row position a fs cs
    some_field : 0 < length cs
    all_fixed_lem : T fx → All (λ c. c.fixed ≡ true) cs
    solid : T fx → 0 < length (layout 0 cs)

  widen : {a b : ℕ} {fs : List Field} {cs : List Piece} → Divides a b → Row position a fs cs → Row position b fs cs
  widen v none = none
  widen v (more g h u r) = more g h (λ k z. u k (v k z)) (widen v r)

  structure_good : (a : ℕ) (al : Aligns a) (fx : Bool) (fs : List Field) (cs : List Piece) → GoodFields a fx fs cs → Good position (read_structure position a fx fs) a fx (structure_piece a fx cs)
  unfolding structure_piece structure_bytes
  structure_good a al true fs cs g = record {
    reads = structure_reads position a al true fs cs g.row g.some_field g.all_fixed_lem;
    alignment_is = refl;
    fixed_is = refl;
    solid = λ t. simp length-append (omega (arith, g.solid tt));
  }
  structure_good a al false fs cs g = record
      { reads = structure_reads position a al false fs cs g.row g.some_field g.all_fixed_lem; alignment_is = refl; fixed_is = refl; solid = λ t. absurd t }

  last_good : {a : ℕ} {fx : Bool} {read : Reader} {c : Piece} → Good position read a fx c → GoodFields a fx (record { fixed = fx; reader = read } ∷ []) (c ∷ [])
  last_good {a} {fx} {read} {c} g = record {
    row = more g.reads (sym g.fixed_is) (λ k z. rw g.alignment_is z) none;
    some_field = omega arith;
    all_fixed_lem = λ t. cons (g.fixed_is ∙ from_test fx t) nil;
    solid = λ t. rw layout_cons (simp length-append (omega (arith, g.solid t)));
  }

  next_good : {a b : ℕ} {fx fy : Bool} {read : Reader} {c : Piece} {fs : List Field} {cs : List Piece} → Aligns a → Aligns b → Good position read a fx c → GoodFields b fy fs cs
      → GoodFields (max a b) (fx && fy) (record { fixed = fx; reader = read } ∷ fs) (c ∷ cs)
  next_good {a} {b} {fx} {fy} {read} {c} {fs} {cs} la lb g r = record {
    row = more g.reads (sym g.fixed_is) (λ k z. rw g.alignment_is (divides_left la lb k z)) (widen (divides_right la lb) r.row);
    some_field = omega arith;
    all_fixed_lem = λ t. cons (g.fixed_is ∙ from_test fx (both_left fx fy t)) (r.all_fixed_lem (both_right fx fy t));
    solid = λ t. rw layout_cons (simp length-append (omega (arith, g.solid (both_left fx fy t))));
  }

  module _ {Held : Type 0} (held : Held → Piece) (variants : Reader) (hx : (x : Held) → Good position variants 8 false (held x)) where
    mutual
      unfolding piece_over read_tree alignment fixed

      good : (t : Tree) (v : ValueOver Held t) → Good position (read_tree position big variants t) (alignment t) (fixed t) (piece_over big held t v)
      good (basic b) v = basic_good b v
      good variant v = hx v
      good (maybe t) v = maybe_good (read_tree position big variants t) (alignment t) (aligned t) (fixed t) (λ x. piece_over big held t x) (λ x. good t x) v
      good (array t) v =
          array_good (read_tree position big variants t) (alignment t) (aligned t) (fixed t) (map (λ x. piece_over big held t x) v) (all_map (λ x. piece_over big held t x) (λ x. good t x) v)
      good (dictionary b t) v = dictionary_good (basic_alignment b) (alignment t) (basic_aligned b) (aligned t) (basic_fixed b) (fixed t) (read_basic position big b) (read_tree position big variants t)
          (λ x. basic_piece big b x.0) (λ x. piece_over big held t x.1) (λ x. basic_good b x.0) (λ x. good t x.1) v
      good (structure ts) v = structure_good (largest_alignment ts) (fields_aligned ts) (all_fixed ts) (readers position big variants ts) (pieces_over big held ts v) (fields_good ts v)

      fields_good : (ts : Fields) (v : FieldsOver Held ts) → GoodFields (largest_alignment ts) (all_fixed ts) (readers position big variants ts) (pieces_over big held ts v)
      fields_good (last t) v = last_good (good t v)
      fields_good (next t ts) v = next_good (aligned t) (fields_aligned ts) (good t v.0) (fields_good ts v.1)

  -- and over how many variants stand one inside another
  pub all_good : (n : ℕ) (t : Tree) (v : Value n t) → Good position (reading position big n t) (alignment t) (fixed t) (piece big n t v)
  unfolding piece reading
  all_good zero t v = good (λ x. absurd x) (λ d k l. refused 12 k) (λ x. absurd x) t v
  all_good (suc n) t v =
      good (λ x. variant_piece x.0 (piece big n x.0 x.1)) (read_variant position (λ u. reading position big n u))
      (λ x. variant_good position (λ u. reading position big n u) x.0 (piece big n x.0 x.1) (aligned x.0) (all_good n x.0 x.1)) t v

-- by the type, from any depth
pub round_trip : (position : ℕ) (big : Bool) (n : ℕ) (t : Tree) (v : Value n t) (d : Depths) → position % 8 ≡ 0 → T (fits (piece big n t v) d) → length (written big n t v) ≤ largest_frame
    → reading position big n t d 0 (written big n t v) ≡ done (length (written big n t v)) ((piece big n t v).events 0)
unfolding written
round_trip position big n t v d h f s =
    let z : (position + 0) % 8 ≡ 0 = (let e : position + 0 ≡ position = omega arith in rw e h) in
    reads_here position (aligned t) (all_good position big n t v) d 0 f s (divides_eight (aligned t) (position + 0) z)

-- by the type's text, from the start, as the public calls read
pub round_trip_frame : (position : ℕ) (big : Bool) (t : Tree) (v : Value most_variants t) → position % 8 ≡ 0 → position ≤ largest_frame → length (type_text t) ≤ 255
    → T (fits (piece big most_variants t v) none_open) → length (written big most_variants t v) ≤ largest_frame
    → frame_reading (type_text t) big position (written big most_variants t v) ≡ done (length (written big most_variants t v)) ((piece big most_variants t v).events 0)
unfolding frame_reading frame_of
round_trip_frame position big t v z p h f s =
    rw (type_of_type_text t h, le-leb (length (written big most_variants t v)) largest_frame s, le-leb position largest_frame p) (round_trip position big most_variants t v none_open z f s)
