-- The clauses of the strict test, type by type and for any number of variants, as a walk over the type's text meets them; its alignment and its
-- size are the type's. Assumes nothing.
use mathlib.Core.Path.{◌≡◌, refl, ap, ◌∙◌}
use mathlib.Core.List.{List, [], ◌∷◌}
use mathlib.Core.Bool.{Bool, true, false}
use Prim.Native.Nat.{ℕ, zero, suc, ◌+◌}
use Rattle.meaning.specs.Padding.{padding}
use Rattle.meaning.specs.Types.{Basic, bool, number, text, Tree, Fields, basic, variant, maybe, array, dictionary, structure, last, next, alignment, largest_alignment, fixed, all_fixed, fixed_size, fields_end, entry_alignment, entry_fixed}
use Rattle.meaning_writing.specs.Shapes.{basic_size, sizes_from}
use Rattle.meaning_writing.specs.Strict.{Test, basic_test, maybe_test, array_test, structure_test, entry_test, variant_test, test_over, test_of, test_shapes, variants_test, tests_of}
use Rattle.meaning.proofs.Tests.{impossible, both_true}

pub test_over_lem : (n : ℕ) (t : Tree) → test_of n t ≡ test_over (variants_test n) t
unfolding test_of variants_test
test_over_lem zero t = refl
test_over_lem (suc n) t = refl

module _ (n : ℕ) where
  pub test_basic : (b : Basic) → test_of n (basic b) ≡ basic_test b
  test_basic b = test_over_lem n (basic b) ∙ (unfold test_over in refl)

  pub test_variant : test_of (suc n) variant ≡ variant_test (λ u. test_of n u)
  unfolding test_of test_over
  test_variant = refl

  pub test_maybe : (t : Tree) → test_of n (maybe t) ≡ maybe_test (alignment t) (fixed t) (test_of n t)
  test_maybe t = rw (test_over_lem n (maybe t), test_over_lem n t) (unfold test_over in refl)

  pub test_array : (t : Tree) → test_of n (array t) ≡ array_test (alignment t) (fixed t) (test_of n t)
  test_array t = rw (test_over_lem n (array t), test_over_lem n t) (unfold test_over in refl)

  pub test_dictionary : (b : Basic) (t : Tree) → test_of n (dictionary b t)
      ≡ array_test (entry_alignment b t) (entry_fixed b t) (entry_test (entry_alignment b t) (entry_fixed b t) (basic_test b ∷ test_of n t ∷ []))
  test_dictionary b t = rw (test_over_lem n (dictionary b t), test_over_lem n t) (unfold test_over in refl)

  pub test_structure : (ts : Fields) → test_of n (structure ts) ≡ structure_test (largest_alignment ts) (all_fixed ts) (tests_of n ts)
  test_structure ts = test_over_lem n (structure ts) ∙ (unfold test_over in refl)

  pub tests_last : (t : Tree) → tests_of n (last t) ≡ test_of n t ∷ []
  tests_last t = rw (test_over_lem n t) (unfold test_over in refl)

  pub tests_next : (t : Tree) (ts : Fields) → tests_of n (next t ts) ≡ test_of n t ∷ tests_of n ts
  tests_next t ts = rw (test_over_lem n t) (unfold test_over in refl)

variants_plain : (n : ℕ) → ((variants_test n).shape.alignment ≡ 8) × ((variants_test n).shape.fixed ≡ false)
unfolding variants_test variant_test
variants_plain zero = (refl, refl)
variants_plain (suc n) = (refl, refl)

-- its alignment is the type's, and so is its size where the type is fixed
pub test_alignment : (n : ℕ) (t : Tree) → (test_of n t).shape.alignment ≡ alignment t
test_alignment n t = ap (λ (x : Test). x.shape.alignment) (test_over_lem n t) ∙ go t
  where
    go : (t : Tree) → (test_over (variants_test n) t).shape.alignment ≡ alignment t
    go (basic b) = unfold test_over alignment basic_test in refl
    go variant = unfold test_over alignment in (variants_plain n).0
    go (maybe t) = unfold test_over alignment maybe_test in refl
    go (array t) = unfold test_over alignment array_test in refl
    go (dictionary b t) = unfold test_over alignment array_test in refl
    go (structure ts) = unfold test_over alignment structure_test in refl

pub test_fixed : (n : ℕ) (t : Tree) → (test_of n t).shape.fixed ≡ fixed t
test_fixed n t = ap (λ (x : Test). x.shape.fixed) (test_over_lem n t) ∙ go t
  where
    go : (t : Tree) → (test_over (variants_test n) t).shape.fixed ≡ fixed t
    go (basic b) = unfold test_over fixed basic_test in refl
    go variant = unfold test_over fixed in (variants_plain n).1
    go (maybe t) = unfold test_over fixed maybe_test in refl
    go (array t) = unfold test_over fixed array_test in refl
    go (dictionary b t) = unfold test_over fixed array_test in refl
    go (structure ts) = unfold test_over fixed structure_test in refl

basic_fixed_size : (b : Basic) → basic_size b ≡ fixed_size (basic b)
unfolding fixed_size
basic_fixed_size bool = refl
basic_fixed_size (number c) = refl
basic_fixed_size (text c) = refl

sizes_one : (k : ℕ) (t : Test) → sizes_from k (test_shapes (t ∷ [])) ≡ k + padding k t.shape.alignment + t.shape.size
unfolding sizes_from
sizes_one k t = refl

sizes_more : (k : ℕ) (t : Test) (ts : List Test) → sizes_from k (test_shapes (t ∷ ts)) ≡ sizes_from (k + padding k t.shape.alignment + t.shape.size) (test_shapes ts)
unfolding sizes_from
sizes_more k t ts = refl

structure_size : (fx : Bool) (xs : List Test) (ts : Fields) → all_fixed ts ≡ true → sizes_from 0 (test_shapes xs) ≡ fields_end 0 ts → (structure_test (largest_alignment ts) fx xs).shape.size ≡ fixed_size (structure ts)
unfolding structure_test fixed_size
structure_size fx xs ts h e = rw (h, e)

basic_test_size : (b : Basic) → (basic_test b).shape.size ≡ fixed_size (basic b)
unfolding basic_test
basic_test_size b = basic_fixed_size b

end_last : (k : ℕ) (t : Tree) → k + padding k (alignment t) + fixed_size t ≡ fields_end k (last t)
unfolding fields_end
end_last k t = refl

end_next : (k : ℕ) (t : Tree) (ts : Fields) → fields_end (k + padding k (alignment t) + fixed_size t) ts ≡ fields_end k (next t ts)
unfolding fields_end
end_next k t ts = refl

mutual
  unfolding fixed

  pub test_size : (n : ℕ) (t : Tree) → fixed t ≡ true → (test_of n t).shape.size ≡ fixed_size t
  test_size n (basic b) h = ap (λ (x : Test). x.shape.size) (test_basic n b) ∙ basic_test_size b
  test_size n variant h = impossible h
  test_size n (maybe t) h = impossible h
  test_size n (array t) h = impossible h
  test_size n (dictionary b t) h = impossible h
  test_size n (structure ts) h = ap (λ (x : Test). x.shape.size) (test_structure n ts) ∙ structure_size (all_fixed ts) (tests_of n ts) ts h (tests_size n ts 0 h)

  pub tests_size : (n : ℕ) (ts : Fields) (k : ℕ) → all_fixed ts ≡ true → sizes_from k (test_shapes (tests_of n ts)) ≡ fields_end k ts
  tests_size n (last t) k h =
      ap (λ (x : List Test). sizes_from k (test_shapes x)) (tests_last n t) ∙ sizes_one k (test_of n t) ∙ ap (λ (a : ℕ). k + padding k a + (test_of n t).shape.size) (test_alignment n t)
      ∙ ap (λ (m : ℕ). k + padding k (alignment t) + m) (test_size n t h) ∙ end_last k t
  tests_size n (next t ts) k h =
      let b = both_true (fixed t) (all_fixed ts) h in
      ap (λ (x : List Test). sizes_from k (test_shapes x)) (tests_next n t ts) ∙ sizes_more k (test_of n t) (tests_of n ts) ∙ ap (λ (a : ℕ). sizes_from (k + padding k a + (test_of n t).shape.size) (test_shapes (tests_of n ts))) (test_alignment n t)
      ∙ ap (λ (m : ℕ). sizes_from (k + padding k (alignment t) + m) (test_shapes (tests_of n ts))) (test_size n t b.0) ∙ tests_size n ts (k + padding k (alignment t) + fixed_size t) b.1 ∙ end_next k t ts
