-- Laws of alignments and fixed sizes. Assumes nothing.
use mathlib.Core.Path.{◌≡◌}
use mathlib.Core.Bool.{true}
use Prim.Native.Nat.{ℕ, ◌+◌, ◌≤◌, ◌<◌}
use native.Mathlib.Omega.{arith}
use Rattle.meaning.specs.Types.{Number, byte, int16, uint16, int32, uint32, int64, uint64, double, Basic, bool, number, text, Tree, Fields, basic, variant, maybe, array, dictionary, structure, last, next, number_width, basic_alignment, alignment, largest_alignment, fixed, all_fixed, rounded, fixed_size, fields_end}
use Rattle.meaning.specs.Padding.{Aligns}
use Rattle.meaning.proofs.PaddingLaws.{by1, by2, by4, by8, by_alignment, aligns_max, aligns_positive}
use Rattle.meaning.proofs.Tests.{both_true}

pub aligns_most : {a : ℕ} → Aligns a → a ≤ 8
aligns_most al = by_alignment (λ a. a ≤ 8) (omega arith) (omega arith) (omega arith) (omega arith) al

pub number_aligned : (n : Number) → Aligns (number_width n)
number_aligned byte = by1
number_aligned int16 = by2
number_aligned uint16 = by2
number_aligned int32 = by4
number_aligned uint32 = by4
number_aligned int64 = by8
number_aligned uint64 = by8
number_aligned double = by8

pub basic_aligned : (b : Basic) → Aligns (basic_alignment b)
basic_aligned bool = by1
basic_aligned (number n) = number_aligned n
basic_aligned (text c) = by1

-- every alignment is 1, 2, 4 or 8
mutual
  unfolding alignment

  pub aligned : (t : Tree) → Aligns (alignment t)
  aligned (basic b) = basic_aligned b
  aligned variant = by8
  aligned (maybe t) = aligned t
  aligned (array t) = aligned t
  aligned (dictionary b t) = aligns_max (basic_aligned b) (aligned t)
  aligned (structure ts) = fields_aligned ts

  pub fields_aligned : (ts : Fields) → Aligns (largest_alignment ts)
  fields_aligned (last t) = aligned t
  fields_aligned (next t ts) = aligns_max (aligned t) (fields_aligned ts)

pub number_positive : (n : Number) → 0 < number_width n
number_positive n = aligns_positive (number_aligned n)

-- where fields end is not before the place from which they are laid out
pub fields_end_least : (place : ℕ) (ts : Fields) → place ≤ fields_end place ts
unfolding fields_end
fields_end_least place (last t) = omega arith
fields_end_least place (next t ts) = omega (arith, fields_end_least (rounded place (alignment t) + fixed_size t) ts)

-- the size of a fixed type is positive
mutual
  unfolding fixed fixed_size

  pub fixed_size_positive : (t : Tree) → fixed t ≡ true → 0 < fixed_size t
  fixed_size_positive (basic bool) h = omega arith
  fixed_size_positive (basic (number n)) h = number_positive n
  fixed_size_positive (basic (text c)) h = let z : ◌≡◌ {A = ℕ} 0 1 = cc in absurd (omega arith)
  fixed_size_positive variant h = let z : ◌≡◌ {A = ℕ} 0 1 = cc in absurd (omega arith)
  fixed_size_positive (maybe t) h = let z : ◌≡◌ {A = ℕ} 0 1 = cc in absurd (omega arith)
  fixed_size_positive (array t) h = let z : ◌≡◌ {A = ℕ} 0 1 = cc in absurd (omega arith)
  fixed_size_positive (dictionary b t) h = let z : ◌≡◌ {A = ℕ} 0 1 = cc in absurd (omega arith)
  fixed_size_positive (structure ts) h = rw h (omega (arith, fields_end_positive 0 ts h))

  pub fields_end_positive : (place : ℕ) (ts : Fields) → all_fixed ts ≡ true → place < fields_end place ts
  fields_end_positive place (last t) h = omega (arith, fixed_size_positive t h)
  fields_end_positive place (next t ts) h =
      omega (arith, fixed_size_positive t (both_true (fixed t) (all_fixed ts) h).0, fields_end_least (rounded place (alignment t) + fixed_size t) ts)
