-- Elements one behind another: what a loop over them keeps, and elements that a test judges. Assumes nothing.
use mathlib.Core.Path.{◌≡◌, refl, sym, ap, ◌∙◌}
use mathlib.Core.List.{List}
use mathlib.Core.Bool.{Bool, true, false, ◌&&◌, ◌||◌, false≢true}
use Prim.Native.Nat.{ℕ, suc, ◌+◌, ◌-◌, ◌*◌, ◌≤◌, ◌<◌}
use native.Mathlib.Omega.{arith}
use Rattle.std.proofs.lemmas.Nat.{mul-le}
use lib.Dec.{eqb}
use lib.ListN.{take, drop}
use Rattle.meaning.specs.Choice.{pick}
use Rattle.meaning.specs.Padding.{padding}
use Rattle.meaning.specs.Numbers.{value}
use Rattle.meaning.specs.Depths.{Depths}
use Rattle.meaning_writing.specs.Shapes.{part}
use Rattle.meaning_writing.specs.Strict.{Test, child_written, element_end, elements_written}
use Rattle.strict_ends.specs.Ends.{extent, end_of, Begins, NoStart}
use Rattle.strict_basic.specs.Basics.{reading_of, Judges}
use Rattle.strict_ends.specs.declared.Extent.{Extent}
use Rattle.strict_ends.proofs.EndLaws.{child_within}

-- the offset of a row is there
pub row_room : (i m j w n : ℕ) → i < m → j + m * w ≤ n → j + i * w + w ≤ n
row_room i m j w n h g = let q : (i + 1) * w ≤ m * w = mul-le (i + 1) w m w (omega arith) (omega arith) in omega arith

-- ---- the loop

-- so many elements are passed
pub record ElementsLeft (fx : Bool) (t : Test) (d : Depths) (l : List ℕ) (w s m j i k : ℕ) : Type 0 where
  pub within : i ≤ m
  pub place : k ≤ s
  pub rest : elements_written fx t d l w s m j 0 ≡ elements_written fx t d l w s (m - i) (j + i * w) k

module _ (fx : Bool) (t : Test) (d : Depths) (l : List ℕ) (w s m j : ℕ) where
  pub elements_begin : ElementsLeft fx t d l w s m j 0 0
  elements_begin =
      let e : m - 0 ≡ m = omega arith in
      let f : j + 0 * w ≡ j = omega arith in
      record { within = omega arith; place = omega arith; rest = rw (e, f) }

  end_same : (f : Bool) (j x y : ℕ) → (f ≡ true → x ≡ y) → element_end f l w j x ≡ element_end f l w j y
  unfolding element_end
  end_same true j x y h = h refl
  end_same false j x y h = refl

  module _ (x : Extent) (hf : x.fixed ≡ fx) (ha : t.shape.alignment ≡ x.alignment) (hs : x.fixed ≡ true → t.shape.size ≡ x.size) where
    turn : (n n' j k e : ℕ) → n ≡ suc n' → e ≡ element_end x.fixed l w j (end_of x k)
        → elements_written fx t d l w s n j k ≡ (child_written t d l s k e && elements_written fx t d l w s n' (j + w) e)
    unfolding elements_written
    turn n n' j k e hn he =
        let p : padding k t.shape.alignment ≡ padding k x.alignment = ap (padding k) ha in
        let y : element_end fx l w j (k + padding k t.shape.alignment + t.shape.size) ≡ e =
        end_same fx j (k + padding k t.shape.alignment + t.shape.size) (end_of x k) (λ z. let q = hs (hf ∙ z) in omega arith) ∙ ap (λ (b : Bool). element_end b l w j (end_of x k)) (sym hf) ∙ sym he in
        ap (λ (i : ℕ). elements_written fx t d l w s i j k) hn ∙ ap (λ (i : ℕ). child_written t d l s k i && elements_written fx t d l w s n' (j + w) i) y

    module _ {i k : ℕ} (q : ElementsLeft fx t d l w s m j i k) (h : i < m) (e : ℕ) (he : e ≡ element_end x.fixed l w (j + i * w) (end_of x k)) where
      less : m - i ≡ suc (m - (i + 1))
      less = omega arith

      onward : j + i * w + w ≡ j + (i + 1) * w
      onward = omega arith

      turned : elements_written fx t d l w s m j 0 ≡ (child_written t d l s k e && elements_written fx t d l w s (m - (i + 1)) (j + (i + 1) * w) e)
      turned = q.rest ∙ turn (m - i) (m - (i + 1)) (j + i * w) k e less he ∙ ap (λ (n : ℕ). child_written t d l s k e && elements_written fx t d l w s (m - (i + 1)) n e) onward

      pub elements_stop : child_written t d l s k e ≡ false → false ≡ elements_written fx t d l w s m j 0
      elements_stop z = sym (turned ∙ rw z)

      pub elements_next : child_written t d l s k e ≡ true → ElementsLeft fx t d l w s m j (i + 1) e
      elements_next z = record { within = omega arith; place = child_within t d l s k e z; rest = turned ∙ rw z }

  pub elements_end : {i k : ℕ} → ElementsLeft fx t d l w s m j i k → m ≤ i → eqb k s ≡ elements_written fx t d l w s m j 0
  unfolding elements_written
  elements_end {i} q h = let z : m - i ≡ 0 = omega arith in sym (q.rest ∙ rw z)

-- ---- elements that are not fixed, by all tests that go by the same answers

pub record EachLeft (answers : List ℕ → Bool → Type 0) (a : ℕ) (l : List ℕ) (w s m j i k : ℕ) : Type 0 where
  pub within : i ≤ m
  pub place : k ≤ s
  pub left : (t : Test) (d : Depths) → Judges answers a t d → ElementsLeft false t d l w s m j i k

module _ (answers : List ℕ → Bool → Type 0) (a : ℕ) (l : List ℕ) (w s m j : ℕ) where
  module _ {i k : ℕ} (q : EachLeft answers a l w s m j i k) (h : i < m) (e : ℕ) (he : e ≡ value (part (j + i * w) (j + i * w + w) l)) where
    ends : e ≡ element_end false l w (j + i * w) (k + padding k a + 0)
    unfolding element_end
    ends = he

    pub each_absent : NoStart l s k e a → (t : Test) (d : Depths) → Judges answers a t d → false ≡ elements_written false t d l w s m j 0
    each_absent n t d g = elements_stop false t d l w s m j (extent a false 0) refl g.aligned (λ y. absurd (false≢true y)) (q.left t d g) h e ends (n.is t d g.aligned)

    module _ (at : ℕ) (n : Begins l s k e a at) (b : Bool) (r : answers (take (e - at) (drop at l)) b) where
      judged : (t : Test) (d : Depths) → Judges answers a t d → child_written t d l s k e ≡ b
      unfolding part
      judged t d g = n.is t d g.aligned ∙ sym (g.same (take (e - at) (drop at l)) b r)

      pub each_stop : b ≡ false → (t : Test) (d : Depths) → Judges answers a t d → false ≡ elements_written false t d l w s m j 0
      each_stop z t d g = elements_stop false t d l w s m j (extent a false 0) refl g.aligned (λ y. absurd (false≢true y)) (q.left t d g) h e ends (judged t d g ∙ z)

      pub each_next : b ≡ true → EachLeft answers a l w s m j (i + 1) e
      each_next z = record {
        within = omega arith;
        place = n.within;
        left = λ t d g. elements_next false t d l w s m j (extent a false 0) refl g.aligned (λ y. absurd (false≢true y)) (q.left t d g) h e ends (judged t d g ∙ z);
      }

  pub each_end : {i k : ℕ} → EachLeft answers a l w s m j i k → m ≤ i → (t : Test) (d : Depths) → Judges answers a t d → eqb k s ≡ elements_written false t d l w s m j 0
  each_end q h t d g = elements_end false t d l w s m j (q.left t d g) h

-- ---- readings: by the number of their bytes

pub reading_is : (room : Bool) (w n : ℕ) → (eqb n 0 || (room && eqb n w)) ≡ reading_of room w n
reading_is room w n = go (eqb n 0)
  where
    go : (b : Bool) → (b || (room && eqb n w)) ≡ pick b true (room && eqb n w)
    go true = refl
    go false = refl
