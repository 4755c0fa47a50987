-- Elements for which any bytes will do: the first of them tells of all. Assumes nothing.
use mathlib.Core.Path.{◌≡◌, refl, sym, ap, ◌∙◌}
use mathlib.Core.List.{List}
use mathlib.Core.Bool.{Bool, true, false, ◌&&◌, false≢true}
use Prim.Native.Nat.{ℕ, zero, suc, ◌+◌, ◌*◌, ◌/◌, ◌≤◌}
use native.Mathlib.Omega.{arith}
use native.Mathlib.Nat.{suc-mul, div-mul-le_self}
use lib.Dec.{eqb}
use lib.ListN.{length, take, length-take}
use borrow.Author.Tests.{le-leb, eq-eqb, ne_eqb}
use Rattle.meaning.specs.Padding.{padding}
use Rattle.meaning.specs.Depths.{Depths}
use Rattle.meaning_writing.specs.Shapes.{part, fixed_end}
use Rattle.meaning_writing.specs.Strict.{Test, all_zero, child_written, element_end, elements_written, array_written}
use Rattle.meaning_writing.proofs.Parts.{part_none, length_part}
use Rattle.strict_sizes.specs.Items.{Known, Alike}
use Rattle.strict_ends.specs.declared.Extent.{Extent}

module _ (x : Extent) (test : ℕ → Test) (g : Known x test) (a : Alike x test) (nested : ℕ) (d : Depths) (l : List ℕ) where
  abbrev t : Test
  t = test nested

  abbrev n : ℕ
  n = x.size

  abbrev first : Bool
  first = t.accepts d (take n l)

  end_is : (i k : ℕ) → k ≡ i * n → (padding k t.shape.alignment ≡ 0) × (fixed_end k t.shape ≡ k + n)
  end_is i k h =
      let p : padding k t.shape.alignment ≡ 0 = rw (g.same_alignment nested, h) (a.close i) in
      let q = g.same_size nested a.fixed in
      (p, omega arith)

  -- the element at a place
  one_is : (i k : ℕ) → k ≡ i * n → k + n ≤ length l → child_written t d l (length l) k (k + n) ≡ first
  unfolding child_written all_zero
  one_is i k h r =
      let p = (end_is i k h).0 in
      let z : k + padding k t.shape.alignment ≡ k = omega arith in
      let u : length (part k (k + n) l) ≡ n = length_part k (k + n) l r ∙ omega arith in
      let v : length (take n l) ≡ n = length-take n l ∙ omega arith in
      rw (z) (rw (le-leb k (k + n) (omega arith), le-leb (k + n) (length l) r, part_none k k l (omega arith)) (a.same nested d (part k (k + n) l) (take n l) (u ∙ sym v)))

  abbrev all : ℕ → ℕ → ℕ → Bool
  all m j k = elements_written true t d l 0 (length l) m j k

  turn_all : (m j i k : ℕ) → k ≡ i * n → k + n ≤ length l → all (suc m) j k ≡ (first && all m (j + 0) (k + n))
  unfolding elements_written element_end
  turn_all m j i k h r = ap (λ (e : ℕ). child_written t d l (length l) k e && all m (j + 0) e) (end_is i k h).1 ∙ ap (λ (b : Bool). b && all m (j + 0) (k + n)) (one_is i k h r)

  none_all : (j k : ℕ) → all 0 j k ≡ eqb k (length l)
  unfolding elements_written
  none_all j k = refl

  alike_all : first ≡ true → (m j i k : ℕ) → k ≡ i * n → k + m * n ≤ length l → all m j k ≡ eqb (k + m * n) (length l)
  alike_all f zero j i k h r = let z : k ≡ k + 0 * n = omega arith in none_all j k ∙ ap (λ (e : ℕ). eqb e (length l)) z
  alike_all f (suc m) j i k h r =
      let s = suc-mul m n in
      let c = suc-mul i n in
      let z : k + n + m * n ≡ k + suc m * n = omega arith in
      turn_all m j i k h (omega arith) ∙ rw f (alike_all f m (j + 0) (suc i) (k + n) (omega arith) (omega arith) ∙ ap (λ (e : ℕ). eqb e (length l)) z)

  -- the whole of an array
  all_is : (fx : Bool) → fx ≡ true → array_written fx t l d ≡ all (length l / n) 0 0
  unfolding array_written
  all_is true h = ap (λ (i : ℕ). all (length l / i) 0 0) (g.same_size nested a.fixed)
  all_is false h = absurd (false≢true h)

  whole : (m : ℕ) → m ≡ length l / n → (b : Bool) → b ≡ all m 0 0 → b ≡ array_written x.fixed t l d
  whole m h b q = q ∙ ap (λ (i : ℕ). all i 0 0) h ∙ sym (all_is x.fixed a.fixed)

  alike_odd : (m : ℕ) → m ≡ length l / n → (m * n ≡ length l → ⊥) → false ≡ all m 0 0
  alike_odd m h z = go m (first) refl (rw h (div-mul-le_self (length l) n)) z
    where
      go : (m : ℕ) (b : Bool) → first ≡ b → m * n ≤ length l → (m * n ≡ length l → ⊥) → false ≡ all m 0 0
      go m true f r z = sym (alike_all f m 0 0 0 (omega arith) (omega arith) ∙ ne_eqb (0 + m * n) (length l) (λ y. z (omega arith)))
      go zero false f r z = sym (none_all 0 0 ∙ ne_eqb 0 (length l) (λ y. z (omega arith)))
      go (suc m) false f r z = let s = suc-mul m n in sym (turn_all m 0 0 0 (omega arith) (omega arith) ∙ rw f)

  alike_none : (m : ℕ) → m * n ≡ length l → m ≡ 0 → true ≡ all m 0 0
  alike_none m h z =
      let q : m * n ≡ 0 * n = ap (λ (i : ℕ). i * n) z in
      let e : 0 ≡ length l = omega arith in
      sym (ap (λ (i : ℕ). all i 0 0) z ∙ none_all 0 0 ∙ eq-eqb 0 (length l) e)

  alike_first : (m : ℕ) → m * n ≡ length l → (m ≡ 0 → ⊥) → (b : Bool) → b ≡ child_written t d l (length l) 0 n → b ≡ all m 0 0
  alike_first zero h z b q = absurd (z refl)
  alike_first (suc m) h z b q = go b refl
    where
      r : 0 + n ≤ length l
      r = let s = suc-mul m n in omega arith

      is : child_written t d l (length l) 0 n ≡ first
      is = let y : 0 + n ≡ n = omega arith in rw y at (one_is 0 0 (omega arith) r)

      go : (c : Bool) → b ≡ c → b ≡ all (suc m) 0 0
      go true e =
          let f = sym is ∙ sym q ∙ e in
          e ∙ sym (alike_all f (suc m) 0 0 0 (omega arith) (omega arith) ∙ eq-eqb (0 + suc m * n) (length l) (omega arith))
      go false e = e ∙ sym (turn_all m 0 0 0 (omega arith) r ∙ rw (sym is ∙ sym q ∙ e))

  -- the ways out: they do not fill the part, there is none, and the first tells of all
  module _ (m : ℕ) (h : m ≡ length l / n) where
    pub any_odd : (m * n ≡ length l → ⊥) → false ≡ array_written x.fixed t l d
    any_odd z = whole m h false (alike_odd m h z)

    pub any_none : m * n ≡ length l → m ≡ 0 → true ≡ array_written x.fixed t l d
    any_none e z = whole m h true (alike_none m e z)

    pub any_first : m * n ≡ length l → (m ≡ 0 → ⊥) → (b : Bool) → b ≡ child_written t d l (length l) 0 n → b ≡ array_written x.fixed t l d
    any_first e z b q = whole m h b (alike_first m e z b q)
