-- The table of a type text: sizes, for which types any bytes will do, and offsets; what its loops keep, and what it says of a type.
-- Assumes nothing.
use mathlib.Core.Path.{◌≡◌, refl, sym, ap, ◌∙◌}
use mathlib.Core.List.{List, [], ◌∷◌}
use mathlib.Core.Bool.{Bool, true, false, ◌&&◌, false≢true}
use Prim.Native.Nat.{ℕ, zero, suc, ◌+◌, ◌-◌, ◌*◌, ◌%◌}
use native.Mathlib.Omega.{arith}
use native.Mathlib.Nat.{suc-mul, zero-mod}
use lib.Dec.{leb, eqb}
use lib.ListN.{length, length-take, length-drop}
use borrow.Author.Tests.{eqb-true}
use Rattle.meaning.specs.Padding.{padding}
use Rattle.meaning.specs.Depths as Depth
use Rattle.meaning.specs.Depths.{Depths, depth_refusal, opened}
use Rattle.meaning.specs.Offsets.{encoded_width, written_width}
use Rattle.meaning.specs.Types.{Number as NumberType, byte, int16, uint16, int32, uint32, int64, uint64, double, number_width, bool, number, text, Tree, Fields, basic, variant, maybe, array, dictionary, structure, last, next}
use Rattle.meaning.specs.Types.{alignment, largest_alignment, fixed, all_fixed, fixed_size, fields_end, rounded}
use Rattle.meaning_writing.specs.Shapes.{part, one_more, offset_count, last_end, field_end, offsets_left, fixed_end}
use Rattle.meaning_writing.specs.Strict.{Test, test_shapes, all_zero, basic_written, basic_test, child_written, fields_finished, fields_written, offsets_written, structure_written, structure_test, test_of, tests_of}
use Rattle.meaning.proofs.Tests.{both_true}
use Rattle.meaning.proofs.PaddingLaws.{padding_shift, padding_aligned, padding_none}
use Rattle.meaning.proofs.TypeLaws.{aligned, fields_aligned}
use Rattle.meaning_writing.proofs.Parts.{part_none}
use Rattle.meaning_writing.proofs.StrictSteps.{test_basic, test_structure, tests_last, tests_next, test_alignment, test_fixed, test_size}
use Rattle.strict_sizes.specs.Sizes.{any_bytes, any_fields, offsets_in}

-- ---- any bytes will do

mutual
  unfolding any_bytes fixed

  pub any_fixed : (t : Tree) → any_bytes t ≡ true → fixed t ≡ true
  any_fixed (basic bool) h = refl
  any_fixed (basic (number c)) h = refl
  any_fixed (basic (text c)) h = h
  any_fixed variant h = h
  any_fixed (maybe t) h = h
  any_fixed (array t) h = h
  any_fixed (dictionary b t) h = h
  any_fixed (structure ts) h = any_all_fixed 0 ts (both_true (any_fields 0 ts) (eqb (padding (fields_end 0 ts) (largest_alignment ts)) 0) h).0

  any_all_fixed : (k : ℕ) (ts : Fields) → any_fields k ts ≡ true → all_fixed ts ≡ true
  any_all_fixed k (last t) h = any_fixed t (both_true (eqb (padding k (alignment t)) 0) (any_bytes t) h).1
  any_all_fixed k (next t ts) h =
      let p = both_true (eqb (padding k (alignment t)) 0) (any_bytes t && any_fields (rounded k (alignment t) + fixed_size t) ts) h in
      let q = both_true (any_bytes t) (any_fields (rounded k (alignment t) + fixed_size t) ts) p.1 in
      rw (any_fixed t q.0) (any_all_fixed (rounded k (alignment t) + fixed_size t) ts q.1)

-- the test of a type goes by the number of bytes only
abbrev pub ByLength : Test → Type 0
ByLength t = (d : Depths) (l l' : List ℕ) → length l ≡ length l' → t.accepts d l ≡ t.accepts d l'

-- a child in front of which no padding is
child_alike : (t : Test) → ByLength t → (d : Depths) (l l' : List ℕ) (s k e : ℕ) → padding k t.shape.alignment ≡ 0 → length l ≡ length l' → child_written t d l s k e ≡ child_written t d l' s k e
unfolding child_written
child_alike t g d l l' s k e p h =
    let z : k + padding k t.shape.alignment ≡ k = omega arith in
    let u : length (part k e l) ≡ length (part k e l') = unfold part in simp (length-take, length-drop) (rw h) in
    rw z (rw (part_none k k l (omega arith), part_none k k l' (omega arith)) (ap (λ (b : Bool). leb k e && (leb e s && (all_zero [] && b))) (g d (part k e l) (part k e l') u)))

finished_alike : (fx : Bool) (a k b : ℕ) (l l' : List ℕ) → padding k a ≡ 0 → fields_finished fx a k b l ≡ fields_finished fx a k b l'
unfolding fields_finished
finished_alike false a k b l l' p = refl
finished_alike true a k b l l' p = go (eqb (k + padding k a) b) refl
  where
    go : (q : Bool) → eqb (k + padding k a) b ≡ q → (q && all_zero (part k b l)) ≡ (q && all_zero (part k b l'))
    go false e = refl
    go true e =
        let z = eqb-true (k + padding k a) b e in
        rw (part_none k b l (omega arith), part_none k b l' (omega arith))

-- one field, and one in front of others
fields_one : (fx : Bool) (a : ℕ) (d : Depths) (l : List ℕ) (b w : ℕ) (t : Test) (k e : ℕ) → t.shape.fixed ≡ true
    → fields_written fx a d l b w (t ∷ []) k e ≡ (child_written t d l b k (fixed_end k t.shape) && fields_finished fx a (fixed_end k t.shape) b l)
unfolding fields_written
fields_one fx a d l b w t k e h = ap (λ (f : Bool). child_written t d l b k (last_end f (fixed_end k t.shape) b) && fields_finished fx a (last_end f (fixed_end k t.shape) b) b l) h

fields_two : (fx : Bool) (a : ℕ) (d : Depths) (l : List ℕ) (b w : ℕ) (t u : Test) (us : List Test) (k e : ℕ) → t.shape.fixed ≡ true
    → fields_written fx a d l b w (t ∷ u ∷ us) k e ≡ (child_written t d l b k (fixed_end k t.shape) && fields_written fx a d l b w (u ∷ us) (fixed_end k t.shape) e)
unfolding fields_written field_end
fields_two fx a d l b w t u us k e h =
    ap (λ (f : Bool). child_written t d l b k (field_end f l w e (fixed_end k t.shape)) && fields_written fx a d l b w (u ∷ us) (field_end f l w e (fixed_end k t.shape)) (offsets_left f w e)) h

-- a list of tests that is not empty
pub record Some (ts : List Test) : Type 0 where
  pub first : Test
  pub others : List Test
  pub it : ts ≡ first ∷ others

pub some_tests : (n : ℕ) (ts : Fields) → Some (tests_of n ts)
some_tests n (last t) = record { first = test_of n t; others = []; it = tests_last n t }
some_tests n (next t ts) = record { first = test_of n t; others = tests_of n ts; it = tests_next n t ts }

fields_more : (fx : Bool) (a : ℕ) (d : Depths) (l : List ℕ) (b w : ℕ) (t : Test) (us : List Test) (o : Some us) (k e : ℕ) → t.shape.fixed ≡ true
    → fields_written fx a d l b w (t ∷ us) k e ≡ (child_written t d l b k (fixed_end k t.shape) && fields_written fx a d l b w us (fixed_end k t.shape) e)
fields_more fx a d l b w t us o k e h =
    ap (λ (v : List Test). fields_written fx a d l b w (t ∷ v) k e) o.it ∙ fields_two fx a d l b w t o.first o.others k e h
    ∙ ap (λ (v : List Test). child_written t d l b k (fixed_end k t.shape) && fields_written fx a d l b w v (fixed_end k t.shape) e) (sym o.it)

end_of : (n : ℕ) (t : Tree) (k : ℕ) → fixed t ≡ true → fixed_end k (test_of n t).shape ≡ rounded k (alignment t) + fixed_size t
end_of n t k h =
    let p : padding k (test_of n t).shape.alignment ≡ padding k (alignment t) = ap (padding k) (test_alignment n t) in
    omega (arith, test_size n t h)

-- what a structure's test says of bytes goes by what its fields' says
structure_alike : (fx : Bool) (a : ℕ) (ts : List Test) → ((d : Depths) (l l' : List ℕ) (b w e : ℕ) → length l ≡ length l' → fields_written fx a d l b w ts 0 e ≡ fields_written fx a d l' b w ts 0 e)
    → ByLength (structure_test a fx ts)
unfolding structure_test structure_written offsets_written
structure_alike fx a ts g d l l' h =
    let D = opened Depth.structure d in
    let w = encoded_width (length l') in
    let n = offset_count (test_shapes ts) in
    rw h (ap (λ (b : Bool). eqb (depth_refusal D) 0 && (leb (n * w) (length l') && (eqb (written_width (length l' - n * w) n) w && b))) (g D l l' (length l' - n * w) w (length l') h))

number_alike : (n : ℕ) (c : NumberType) → ByLength (test_of n (basic (number c)))
unfolding basic_test basic_written
number_alike n c d l l' h = ap (λ (x : Test). x.accepts d l) (test_basic n (number c)) ∙ ap (λ (m : ℕ). eqb m (number_width c)) h ∙ ap (λ (x : Test). x.accepts d l') (sym (test_basic n (number c)))

pub end_last : (k : ℕ) (t : Tree) → fields_end k (last t) ≡ rounded k (alignment t) + fixed_size t
unfolding fields_end
end_last k t = refl

end_next : (k : ℕ) (t : Tree) (ts : Fields) → fields_end (rounded k (alignment t) + fixed_size t) ts ≡ fields_end k (next t ts)
unfolding fields_end
end_next k t ts = refl

-- the last field, and one in front of others
module _ (n : ℕ) (t : Tree) (k : ℕ) (f : fixed t ≡ true) (p : padding k (alignment t) ≡ 0) (g : ByLength (test_of n t)) (fx : Bool) (a : ℕ) where
  free : padding k (test_of n t).shape.alignment ≡ 0
  free = ap (padding k) (test_alignment n t) ∙ p

  module _ (d : Depths) (l l' : List ℕ) (b w e : ℕ) (h : length l ≡ length l') where
    same_child : (x : ℕ) → child_written (test_of n t) d l b k x ≡ child_written (test_of n t) d l' b k x
    same_child x = child_alike (test_of n t) g d l l' b k x free h

  last_alike : padding (fields_end k (last t)) a ≡ 0 → (d : Depths) (l l' : List ℕ) (b w e : ℕ) → length l ≡ length l'
      → fields_written fx a d l b w (tests_of n (last t)) k e ≡ fields_written fx a d l' b w (tests_of n (last t)) k e
  last_alike z d l l' b w e h =
      let x = fixed_end k (test_of n t).shape in
      let fixes = test_fixed n t ∙ f in
      let y : padding x a ≡ 0 = ap (λ (i : ℕ). padding i a) (end_of n t k f ∙ sym (end_last k t)) ∙ z in
      ap (λ (v : List Test). fields_written fx a d l b w v k e) (tests_last n t) ∙ fields_one fx a d l b w (test_of n t) k e fixes
      ∙ ap (λ (c : Bool). c && fields_finished fx a x b l) (same_child d l l' b w e h x) ∙ ap (λ (c : Bool). child_written (test_of n t) d l' b k x && c) (finished_alike fx a x b l l' y)
      ∙ sym (ap (λ (v : List Test). fields_written fx a d l' b w v k e) (tests_last n t) ∙ fields_one fx a d l' b w (test_of n t) k e fixes)

  next_alike_by : (ts : Fields) (d : Depths) (l l' : List ℕ) (b w e : ℕ) → length l ≡ length l'
      → fields_written fx a d l b w (tests_of n ts) (fixed_end k (test_of n t).shape) e ≡ fields_written fx a d l' b w (tests_of n ts) (fixed_end k (test_of n t).shape) e
      → fields_written fx a d l b w (tests_of n (next t ts)) k e ≡ fields_written fx a d l' b w (tests_of n (next t ts)) k e
  next_alike_by ts d l l' b w e h i =
      let x = fixed_end k (test_of n t).shape in
      let fixes = test_fixed n t ∙ f in
      ap (λ (v : List Test). fields_written fx a d l b w v k e) (tests_next n t ts) ∙ fields_more fx a d l b w (test_of n t) (tests_of n ts) (some_tests n ts) k e fixes
      ∙ ap (λ (c : Bool). c && fields_written fx a d l b w (tests_of n ts) x e) (same_child d l l' b w e h x) ∙ ap (λ (c : Bool). child_written (test_of n t) d l' b k x && c) i
      ∙ sym (ap (λ (v : List Test). fields_written fx a d l' b w v k e) (tests_next n t ts) ∙ fields_more fx a d l' b w (test_of n t) (tests_of n ts) (some_tests n ts) k e fixes)

next_alike : (n : ℕ) (t : Tree) (ts : Fields) (k : ℕ) → fixed t ≡ true → padding k (alignment t) ≡ 0 → ByLength (test_of n t) → (fx : Bool) (a : ℕ) (d : Depths) (l l' : List ℕ) (b w e : ℕ) → length l ≡ length l'
    → fields_written fx a d l b w (tests_of n ts) (rounded k (alignment t) + fixed_size t) e ≡ fields_written fx a d l' b w (tests_of n ts) (rounded k (alignment t) + fixed_size t) e
    → fields_written fx a d l b w (tests_of n (next t ts)) k e ≡ fields_written fx a d l' b w (tests_of n (next t ts)) k e
next_alike n t ts k f p g fx a d l l' b w e h i =
    next_alike_by n t k f p g fx a ts d l l' b w e h
    (ap (λ (x : ℕ). fields_written fx a d l b w (tests_of n ts) x e) (end_of n t k f) ∙ i ∙ ap (λ (x : ℕ). fields_written fx a d l' b w (tests_of n ts) x e) (sym (end_of n t k f)))

mutual
  unfolding any_bytes fixed

  pub any_alike : (n : ℕ) (t : Tree) → any_bytes t ≡ true → ByLength (test_of n t)
  any_alike n (basic bool) h = absurd (false≢true h)
  any_alike n (basic (number c)) h = λ d l l' e. number_alike n c d l l' e
  any_alike n (basic (text c)) h = absurd (false≢true h)
  any_alike n variant h = absurd (false≢true h)
  any_alike n (maybe t) h = absurd (false≢true h)
  any_alike n (array t) h = absurd (false≢true h)
  any_alike n (dictionary b t) h = absurd (false≢true h)
  any_alike n (structure ts) h =
      let p = both_true (any_fields 0 ts) (eqb (padding (fields_end 0 ts) (largest_alignment ts)) 0) h in
      let z = eqb-true (padding (fields_end 0 ts) (largest_alignment ts)) 0 p.1 in
      λ d l l' e.
      ap (λ (x : Test). x.accepts d l) (test_structure n ts)
      ∙ structure_alike (all_fixed ts) (largest_alignment ts) (tests_of n ts) (λ d l l' b w e g. fields_alike n ts 0 p.0 (all_fixed ts) (largest_alignment ts) z d l l' b w e g) d l l' e
      ∙ ap (λ (x : Test). x.accepts d l') (sym (test_structure n ts))

  fields_alike : (n : ℕ) (ts : Fields) (k : ℕ) → any_fields k ts ≡ true → (fx : Bool) (a : ℕ) → padding (fields_end k ts) a ≡ 0 → (d : Depths) (l l' : List ℕ) (b w e : ℕ) → length l ≡ length l'
      → fields_written fx a d l b w (tests_of n ts) k e ≡ fields_written fx a d l' b w (tests_of n ts) k e
  fields_alike n (last t) k h fx a z d l l' b w e g =
      let p = both_true (eqb (padding k (alignment t)) 0) (any_bytes t) h in
      last_alike n t k (any_fixed t p.1) (eqb-true (padding k (alignment t)) 0 p.0) (any_alike n t p.1) fx a z d l l' b w e g
  fields_alike n (next t ts) k h fx a z d l l' b w e g =
      let p = both_true (eqb (padding k (alignment t)) 0) (any_bytes t && any_fields (rounded k (alignment t) + fixed_size t) ts) h in
      let q = both_true (any_bytes t) (any_fields (rounded k (alignment t) + fixed_size t) ts) p.1 in
      next_alike n t ts k (any_fixed t q.0) (eqb-true (padding k (alignment t)) 0 p.0) (any_alike n t q.0) fx a d l l' b w e g
      (fields_alike n ts (rounded k (alignment t) + fixed_size t) q.1 fx a (ap (λ (i : ℕ). padding i a) (end_next k t ts) ∙ z) d l l' b w e g)

-- ---- sizes are multiples of the alignment

number_whole : (c : NumberType) → number_width c % number_width c ≡ 0
number_whole byte = omega arith
number_whole int16 = omega arith
number_whole uint16 = omega arith
number_whole int32 = omega arith
number_whole uint32 = omega arith
number_whole int64 = omega arith
number_whole uint64 = omega arith
number_whole double = omega arith

size_whole : (t : Tree) → fixed t ≡ true → fixed_size t % alignment t ≡ 0
unfolding fixed fixed_size alignment
size_whole (basic bool) h = omega arith
size_whole (basic (number c)) h = number_whole c
size_whole (basic (text c)) h = absurd (false≢true h)
size_whole variant h = absurd (false≢true h)
size_whole (maybe t) h = absurd (false≢true h)
size_whole (array t) h = absurd (false≢true h)
size_whole (dictionary b t) h = absurd (false≢true h)
size_whole (structure ts) h = rw h (padding_aligned (fields_aligned ts) (fields_end 0 ts))

pub close_together : (t : Tree) → fixed t ≡ true → (i : ℕ) → padding (i * fixed_size t) (alignment t) ≡ 0
close_together t h zero =
    let z : 0 * fixed_size t ≡ 0 = omega arith in
    ap (λ (k : ℕ). padding k (alignment t)) z ∙ padding_none (aligned t) 0 (zero-mod (alignment t))
close_together t h (suc i) =
    let s = suc-mul i (fixed_size t) in
    let z : suc i * fixed_size t ≡ fixed_size t + i * fixed_size t = omega arith in
    ap (λ (k : ℕ). padding k (alignment t)) z ∙ padding_shift (fixed_size t) (i * fixed_size t) (alignment t) (size_whole t h) ∙ close_together t h i

-- ---- offsets

pub offsets_count : (n : ℕ) (ts : Fields) → offset_count (test_shapes (tests_of n ts)) ≡ offsets_in ts
unfolding offset_count offsets_in
offsets_count n (last t) = ap (λ (v : List Test). offset_count (test_shapes v)) (tests_last n t)
offsets_count n (next t ts) =
    let o = some_tests n ts in
    ap (λ (v : List Test). offset_count (test_shapes v)) (tests_next n t ts) ∙ ap (λ (v : List Test). offset_count (test_shapes (test_of n t ∷ v))) o.it
    ∙ ap (λ (b : Bool). one_more b (offset_count (test_shapes (o.first ∷ o.others)))) (test_fixed n t)
    ∙ ap (λ (v : List Test). one_more (fixed t) (offset_count (test_shapes v))) (sym o.it) ∙ ap (one_more (fixed t)) (offsets_count n ts)

pub offsets_free : (ts : Fields) → all_fixed ts ≡ true → offsets_in ts ≡ 0
unfolding offsets_in fixed
offsets_free (last t) h = refl
offsets_free (next t ts) h =
    let p = both_true (fixed t) (all_fixed ts) h in
    ap (λ (b : Bool). one_more b (offsets_in ts)) p.0 ∙ offsets_free ts p.1
