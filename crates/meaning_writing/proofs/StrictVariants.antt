-- THE STRICT TEST holds of the written forms and of nothing else: variants, and so all types. Assumes nothing.
use mathlib.Core.Path.{◌≡◌, refl, sym, ap, ◌∙◌, subst}
use mathlib.Core.List.{List, [], ◌∷◌, ◌++◌, append_assoc}
use mathlib.Core.Option.{Option, none, some}
use mathlib.Core.Bool.{Bool, true, false, ◌&&◌}
use Prim.Native.Nat.{ℕ, zero, suc, ◌+◌, ◌-◌, ◌%◌, ◌≤◌, ◌<◌}
use native.Mathlib.Omega.{arith}
use lib.Dec.{T, eqb}
use lib.ListN.{length, take, drop, get_or, length-append, take-append-drop}
use lib.Seq.{take_at, drop_at, drop-cons}
use borrow.Author.Tests.{eqb-true, eqb-false, ne_eqb}
use Rattle.meaning.specs.Choice.{pick}
use Rattle.meaning.specs.Limits.{largest_frame}
use Rattle.meaning.specs.Depths as Depth
use Rattle.meaning.specs.Depths.{Depths, opened}
use Rattle.meaning.specs.Types.{Basic, Tree, Fields, basic, variant, maybe, array, dictionary, structure, last, next, basic_fixed, alignment, largest_alignment, fixed, all_fixed, entry_alignment, entry_fixed}
use Rattle.meaning.specs.Letters.{array_letter, dictionary_letter}
use Rattle.meaning.specs.TypeText.{type_text, type_of}
use Rattle.meaning.specs.Values.{Value}
use Rattle.meaning.specs.Written.{Piece, fits, basic_piece, entry_piece, variant_piece, piece_over, pieces_over, piece, written}
use Rattle.meaning.specs.Outcome.{Outcome, done}
use Rattle.meaning.specs.Reading.{last_nul, separator, reading}
use Rattle.meaning_writing.specs.Shapes.{all_shapes_fixed}
use Rattle.meaning_writing.specs.Strict.{Test, basic_test, typed_written, variant_written, variant_test, no_variant, maybe_test, array_test, structure_test, entry_test, test_over, tests_over, test_of, is_written, test_shapes}
use Rattle.meaning.proofs.Tests.{impossible, both_true, and_true}
use Rattle.meaning.proofs.FitLaws.{variant_fits, fits_by_variant}
use Rattle.meaning.proofs.NumberLaws.{Bytes}
use Rattle.meaning.proofs.PaddingLaws.{by8, aligns_max}
use Rattle.meaning.proofs.TypeLaws.{basic_aligned, aligned, fields_aligned}
use Rattle.meaning.proofs.TypeTextLaws.{plain_type_text, type_text_positive, type_of_type_text, type_of_sound}
use Rattle.meaning.proofs.ReadsBackVariants.{separator_at}
use Rattle.meaning.proofs.RoundTrip.{round_trip}
use Rattle.meaning_writing.proofs.Parts.{take_bytes}
use Rattle.meaning_writing.proofs.PieceLaws.{deeper_true, deeper_opens, deeper_accepts}
use Rattle.meaning_writing.proofs.ShapeLaws.{loose_shaped}
use Rattle.meaning_writing.proofs.StrictLaws.{FormOf, Judges, basic_judged, maybe_judged, array_judged}
use Rattle.meaning_writing.proofs.StrictStructures.{JudgesRow, last_judged, next_judged, structure_judged, entry_judged}

-- the separator is a nul
last_nul_nul : (i : ℕ) (l : List ℕ) → (last_nul i l ≡ 0 → ⊥) → get_or l (last_nul i l - 1) 1 ≡ 0
unfolding last_nul
last_nul_nul zero l h = absurd (h refl)
last_nul_nul (suc i) l h = go (eqb (get_or l i 1) 0) refl h (λ k. last_nul_nul i l k)
  where
    go : (x : Bool) → eqb (get_or l i 1) 0 ≡ x → (pick x (suc i) (last_nul i l) ≡ 0 → ⊥) → ((last_nul i l ≡ 0 → ⊥) → get_or l (last_nul i l - 1) 1 ≡ 0) → get_or l (pick x (suc i) (last_nul i l) - 1) 1 ≡ 0
    go true q h ih = let e : suc i - 1 ≡ i = omega arith in rw e (eqb-true (get_or l i 1) 0 q)
    go false q h ih = ih h

nul_inside : (l : List ℕ) (i : ℕ) → get_or l i 1 ≡ 0 → i < length l
nul_inside [] i h = absurd (omega arith)
nul_inside (x ∷ l) zero h = omega arith
nul_inside (x ∷ l) (suc i) h = omega (arith, nul_inside l i h)

pub split_at_nul : (l : List ℕ) (s : ℕ) → separator l ≡ s → (s ≡ 0 → ⊥) → l ≡ take (s - 1) l ++ (0 ∷ drop s l)
split_at_nul l s h z =
    let n : get_or l (s - 1) 1 ≡ 0 = rw h at (last_nul_nul (length l - 1) l (λ e. z (sym h ∙ e))) in
    let d : drop (s - 1) l ≡ get_or l (s - 1) 1 ∷ drop (suc (s - 1)) l = drop-cons l (s - 1) 1 (nul_inside l (s - 1) n) in
    let e : suc (s - 1) ≡ s = (let p : 0 < s = positive s z in omega arith) in
    sym (take-append-drop (s - 1) l) ∙ ap (λ (x : List ℕ). take (s - 1) l ++ x) (d ∙ rw (n, e))
  where
    positive : (s : ℕ) → (s ≡ 0 → ⊥) → 0 < s
    positive zero z = absurd (z refl)
    positive (suc s) z = omega arith

-- what is found of a variant's written form
module _ (t : Tree) (b : List ℕ) where
  abbrev pub held_bytes : List ℕ
  held_bytes = b ++ (0 ∷ type_text t)

  pub variant_separator : separator held_bytes ≡ length b + 1
  variant_separator = separator_at b (type_text t) (plain_type_text t) (type_text_positive t)

  pub variant_type_lem : drop (length b + 1) held_bytes ≡ type_text t
  variant_type_lem =
      ap (λ (z : List ℕ). drop (length b + 1) z) (sym (append_assoc b (0 ∷ []) (type_text t)))
      ∙ drop_at (b ++ (0 ∷ [])) (type_text t) (length b + 1) (length-append b (0 ∷ []))

  pub variant_value_lem : take (length b + 1 - 1) held_bytes ≡ b
  variant_value_lem = let e : length b + 1 - 1 ≡ length b = omega arith in rw e (take_at b (0 ∷ type_text t) (length b) refl)

module _ {F : Tree → Type 0} (tests : Tree → Test) (p : (t : Tree) → F t → Piece) (g : (t : Tree) → Judges (tests t) (p t)) where
  abbrev held_piece_lem : (t : Tree) × F t → Piece
  held_piece_lem x = variant_piece x.0 (p x.0 x.1)

  typed_sound : (d : Depths) (l : List ℕ) (s : ℕ) → Bytes l → separator l ≡ s → (s ≡ 0 → ⊥) → (o : Option Tree) → type_of (drop s l) ≡ o → typed_written tests d l s o ≡ true → FormOf held_piece_lem d l
  unfolding typed_written variant_piece
  typed_sound d l s by hs z none ht h = impossible h
  typed_sound d l s by hs z (some t) ht h =
      let e : Depths = opened Depth.variant d in
      let f : Depths → Bool = λ e. (tests t).accepts e (take (s - 1) l) in
      let y = (g t).sound e (take (s - 1) l) (take_bytes (s - 1) by) (deeper_true e f h) in
      let o = type_of_sound (drop s l) t ht in
      let n : length (type_text t) ≤ 255 = subst (λ (z : List ℕ). length z ≤ 255) o.is o.few in
      record {
        v = (t, y.v);
        form = ap (λ (z : List ℕ). z ++ (0 ∷ type_text t)) y.form ∙ ap (λ (z : List ℕ). take (s - 1) l ++ (0 ∷ z)) (sym o.is) ∙ sym (split_at_nul l s hs z);
        fit =
            fits_by_variant t (p t y.v) d n (deeper_opens e f (fits (p t y.v)) h y.fit);
      }

  variant_sound : (d : Depths) (l : List ℕ) → Bytes l → (s : ℕ) → separator l ≡ s → variant_written tests d l s ≡ true → FormOf held_piece_lem d l
  unfolding variant_written
  variant_sound d l by s hs h = go (eqb s 0) refl h
    where
      go : (x : Bool) → eqb s 0 ≡ x → pick x false (typed_written tests d l s (type_of (drop s l))) ≡ true → FormOf held_piece_lem d l
      go true q h = impossible h
      go false q h = typed_sound d l s by hs (eqb-false s 0 q) (type_of (drop s l)) refl h

  variant_complete : (d : Depths) (v : (t : Tree) × F t) → T (fits (held_piece_lem v) d) → length (held_piece_lem v).bytes ≤ 65536 → variant_written tests d (held_piece_lem v).bytes (separator (held_piece_lem v).bytes) ≡ true
  unfolding variant_piece variant_written typed_written
  variant_complete d v f big =
      let t : Tree = v.0 in
      let b : List ℕ = (p t v.1).bytes in
      let e : Depths = opened Depth.variant d in
      let len = length-append b (0 ∷ type_text t) in
      let u = variant_fits t (p t v.1) d f in
      rw (variant_separator t b, ne_eqb (length b + 1) 0 (λ q. omega arith), variant_type_lem t b, type_of_type_text t u.short, variant_value_lem t b)
      (deeper_accepts e (fits (p t v.1)) (λ e. (tests t).accepts e b) u.held (λ k. (g t).complete e v.1 k (omega arith)))

  pub variant_judged : Judges (variant_test tests) held_piece_lem
  unfolding variant_test variant_piece
  variant_judged = record {
    shaped = loose_shaped _ _ (λ v. refl) (λ v. refl);
    solid = λ h. impossible h;
    level = λ h. impossible h;
    aligned = by8;
    sound = λ d l by h. variant_sound d l by (separator l) refl h;
    complete = variant_complete;
  }

-- ---- all types
module _ (variants : Test) (h8 : variants.shape.alignment ≡ 8) (hx : variants.shape.fixed ≡ false) where
  mutual
    unfolding test_over alignment fixed basic_test maybe_test array_test structure_test

    alignment_of : (t : Tree) → (test_over variants t).shape.alignment ≡ alignment t
    alignment_of (basic b) = refl
    alignment_of variant = h8
    alignment_of (maybe t) = refl
    alignment_of (array t) = refl
    alignment_of (dictionary b t) = refl
    alignment_of (structure ts) = refl

    fixed_of : (t : Tree) → (test_over variants t).shape.fixed ≡ fixed t
    fixed_of (basic b) = refl
    fixed_of variant = hx
    fixed_of (maybe t) = refl
    fixed_of (array t) = refl
    fixed_of (dictionary b t) = refl
    fixed_of (structure ts) = refl

  fixed_all : (ts : Fields) → all_shapes_fixed (test_shapes (tests_over variants ts)) ≡ all_fixed ts
  unfolding test_over fixed
  fixed_all (last t) = ap (λ (b : Bool). b && true) (fixed_of t) ∙ one (fixed t)
    where
      one : (b : Bool) → (b && true) ≡ b
      one true = refl
      one false = refl
  fixed_all (next t ts) = ap (λ (b : Bool). b && all_shapes_fixed (test_shapes (tests_over variants ts))) (fixed_of t) ∙ ap (λ (b : Bool). fixed t && b) (fixed_all ts)

  entry_fixed_lem : (b : Basic) (t : Tree) → (entry_fixed b t) ≡ true → all_shapes_fixed (test_shapes (basic_test b ∷ test_over variants t ∷ [])) ≡ true
  unfolding basic_test
  entry_fixed_lem b t h = and_true (basic_test b).shape.fixed ((test_over variants t).shape.fixed && true) (both_true (basic_fixed b) (fixed t) h).0 (and_true (test_over variants t).shape.fixed true (fixed_of t ∙ (both_true (basic_fixed b) (fixed t) h).1) refl)

  entry_alignment_lem : (a : ℕ) (fx : Bool) (ts : List Test) → ((entry_test a fx ts).shape.alignment ≡ a) × ((entry_test a fx ts).shape.fixed ≡ fx)
  unfolding entry_test
  entry_alignment_lem a fx ts = (refl, refl)

  module _ (big : Bool) {Held : Type 0} (held : Held → Piece) (gx : Judges variants held) where
    mutual
      unfolding test_over piece_over alignment fixed

      pub judged : (t : Tree) → Judges (test_over variants t) (piece_over big held t)
      judged (basic b) = basic_judged big b
      judged variant = gx
      judged (maybe t) = maybe_judged (alignment t) (fixed t) (test_over variants t) (piece_over big held t) (alignment_of t) (fixed_of t) (judged t)
      judged (array t) = array_judged array_letter (alignment t) (fixed t) (test_over variants t) (piece_over big held t) (alignment_of t) (fixed_of t) (judged t)
      judged (dictionary b t) =
          let a : ℕ = entry_alignment b t in
          let fx : Bool = entry_fixed b t in
          array_judged dictionary_letter a fx (entry_test a fx (basic_test b ∷ test_over variants t ∷ [])) (λ x. entry_piece a fx (basic_piece big b x.0 ∷ piece_over big held t x.1 ∷ [])) (entry_alignment_lem a fx (basic_test b ∷ test_over variants t ∷ [])).0 (entry_alignment_lem a fx (basic_test b ∷ test_over variants t ∷ [])).1
          (entry_judged a (basic_test b ∷ test_over variants t ∷ []) (λ x. basic_piece big b x.0 ∷ piece_over big held t x.1 ∷ [])
          (next_judged (basic_test b) (basic_piece big b) (basic_judged big b) (test_over variants t) [] (λ v. piece_over big held t v ∷ []) (last_judged (test_over variants t) (piece_over big held t) (judged t)))
          (aligns_max (basic_aligned b) (aligned t)) fx (λ h. entry_fixed_lem b t h))
      judged (structure ts) = structure_judged (largest_alignment ts) (tests_over variants ts) (pieces_over big held ts) (row_judged ts) (fields_aligned ts) (all_fixed ts) (λ h. fixed_all ts ∙ h)

      pub row_judged : (ts : Fields) → JudgesRow (tests_over variants ts) (pieces_over big held ts)
      row_judged (last t) = last_judged (test_over variants t) (piece_over big held t) (judged t)
      row_judged (next t (last u)) = next_judged (test_over variants t) (piece_over big held t) (judged t) (test_over variants u) [] (pieces_over big held (last u)) (row_judged (last u))
      row_judged (next t (next u us)) = next_judged (test_over variants t) (piece_over big held t) (judged t) (test_over variants u) (tests_over variants us) (pieces_over big held (next u us)) (row_judged (next u us))

variant_plain : (tests : Tree → Test) → ((variant_test tests).shape.alignment ≡ 8) × ((variant_test tests).shape.fixed ≡ false)
unfolding variant_test
variant_plain tests = (refl, refl)

never_judged : Judges no_variant (λ (x : ⊥). absurd x)
never_judged = record {
  shaped = record { alignment_is = λ v. absurd v; fixed_is = λ v. absurd v; size_is = λ h v. absurd v };
  solid = λ h. impossible h;
  level = λ h. impossible h;
  aligned = by8;
  sound = λ d l by h. impossible h;
  complete = λ d v f big. absurd v;
}

pub all_judged : (big : Bool) (n : ℕ) (t : Tree) → Judges (test_of n t) (piece big n t)
unfolding test_of piece
all_judged big zero t = judged no_variant refl refl big (λ x. absurd x) never_judged t
all_judged big (suc n) t =
    let tests : Tree → Test = λ u. test_of n u in
    judged (variant_test tests) (variant_plain tests).0 (variant_plain tests).1 big (λ x. variant_piece x.0 (piece big n x.0 x.1)) (variant_judged tests (piece big n) (λ u. all_judged big n u)) t

-- THE STRICT TEST, both ways. Bytes that pass are the written form of a value that fits ..
pub record WrittenForm (big : Bool) (n : ℕ) (t : Tree) (d : Depths) (l : List ℕ) : Type 0 where
  pub v : Value n t
  pub form : written big n t v ≡ l
  pub fit : T (fits (piece big n t v) d)

pub strict_sound : (big : Bool) (n : ℕ) (t : Tree) (d : Depths) (l : List ℕ) → Bytes l → is_written n t d l ≡ true → WrittenForm big n t d l
unfolding is_written written
strict_sound big n t d l by h = let x = (all_judged big n t).sound d l by h in record { v = x.v; form = x.form; fit = x.fit }

-- .. and the written form of a value that fits passes
pub strict_complete : (big : Bool) (n : ℕ) (t : Tree) (v : Value n t) (d : Depths) → T (fits (piece big n t v) d) → length (written big n t v) ≤ largest_frame → is_written n t d (written big n t v) ≡ true
unfolding is_written written
strict_complete big n t v d f s = (all_judged big n t).complete d v f (omega arith)

-- so bytes that pass are read, whatever is open, at every position that is a multiple of 8: done, all bytes used
pub record ReadsWhole (position : ℕ) (big : Bool) (n : ℕ) (t : Tree) (d : Depths) (l : List ℕ) : Type 0 where
  pub refusal_is : (reading position big n t d 0 l).refusal ≡ 0
  pub used_is : (reading position big n t d 0 l).used ≡ length l

pub strict_reads : (position : ℕ) (big : Bool) (n : ℕ) (t : Tree) (d : Depths) (l : List ℕ) → position % 8 ≡ 0 → Bytes l → length l ≤ largest_frame → is_written n t d l ≡ true → ReadsWhole position big n t d l
strict_reads position big n t d l z by s h =
    let w = strict_sound big n t d l by h in
    let s' : length (written big n t w.v) ≤ largest_frame = subst (λ (x : List ℕ). length x ≤ largest_frame) (sym w.form) s in
    let r : reading position big n t d 0 l ≡ done (length (written big n t w.v)) ((piece big n t w.v).events 0) = ap (λ (x : List ℕ). reading position big n t d 0 x) (sym w.form) ∙ round_trip position big n t w.v d z w.fit s' in
    record { refusal_is = ap (λ (o : Outcome). o.refusal) r; used_is = ap (λ (o : Outcome). o.used) r ∙ ap length w.form }
