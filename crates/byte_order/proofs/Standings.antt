-- What stands at a place, from the tests of the code. Assumes nothing.
use mathlib.Core.Path.{◌≡◌, refl, sym, ap, ◌∙◌}
use mathlib.Core.List.{List, [], ◌∷◌}
use mathlib.Core.Bool.{Bool, true, false}
use Prim.Native.Nat.{ℕ, ◌+◌, ◌≤◌, ◌<◌}
use native.Mathlib.Omega.{arith}
use lib.ListN.{length, take, drop, length-take}
use borrow.Author.Tests.{le-leb, leb-true, leb-false, ne_eqb}
use Rattle.meaning.specs.Choice.{pick}
use Rattle.meaning.specs.Refusals.{out_of_bounds, no_value}
use Rattle.meaning.specs.Padding.{is_alignment, Aligns}
use Rattle.meaning.specs.Numbers.{ordered, spelled}
use Rattle.meaning.specs.Reading.{number_in}
use Rattle.meaning.specs.Parts.{holds}
use Rattle.utils.specs.Checks.{Checked}
use Rattle.utils.specs.Checks.{passed, failed, told_by}
use Rattle.byte_order.specs.Standing.{number_at, number_of, number_by}

-- a number in closed form
pub number_at_is : (w : ℕ) (big : Bool) (l : List ℕ) (place : ℕ)
    → number_at w big l place ≡ pick (holds l place w) (passed (spelled big w place l)) (failed out_of_bounds)
unfolding number_at number_in
number_at_is w big l place = go (holds l place w) refl
  where
    go : (b : Bool) → holds l place w ≡ b
        → told_by (number_in big 0 w 0 l place) ≡ pick (holds l place w) (passed (spelled big w place l)) (failed out_of_bounds)
    go true e = rw e
    go false e = rw e

module _ (w : ℕ) (big : Bool) (l : List ℕ) (place : ℕ) {b : Bool} (h : b ≡ holds l place w) where
  pub number_passed : {n : ℕ} → b ≡ true → n ≡ spelled big w place l → passed n ≡ number_at w big l place
  number_passed t e = sym (number_at_is w big l place ∙ rw (sym h ∙ t, e))

  pub number_failed : b ≡ false → failed out_of_bounds ≡ number_at w big l place
  number_failed f = sym (number_at_is w big l place ∙ rw (sym h ∙ f))

-- a width that is known, of eight bytes at the most
pub number_known : (w : ℕ) (big : Bool) (l : List ℕ) (place : ℕ) → w ≤ 8 → number_by w big l place ≡ number_at w big l place
number_known w big l place h = rw (le-leb w 8 h)

-- what an answer says of the place
module _ (w : ℕ) (big : Bool) (l : List ℕ) (place : ℕ) {r : Checked} (h : r ≡ number_at w big l place) where
  answered : {b : Bool} → holds l place w ≡ b → r ≡ pick b (passed (spelled big w place l)) (failed out_of_bounds)
  answered e = h ∙ number_at_is w big l place ∙ rw e

  pub number_inside : r.refusal ≡ 0 → place + w ≤ length l
  number_inside z = go (holds l place w) refl
    where
      go : (b : Bool) → holds l place w ≡ b → place + w ≤ length l
      go true e = leb-true (place + w) (length l) e
      go false e = absurd (let q : r.refusal ≡ out_of_bounds = ap (λ (x : Checked). x.refusal) (answered e) in omega arith)

  pub number_outside : (r.refusal ≡ 0 → ⊥) → length l < place + w
  number_outside z = go (holds l place w) refl
    where
      go : (b : Bool) → holds l place w ≡ b → length l < place + w
      go true e = absurd (z (ap (λ (x : Checked). x.refusal) (answered e)))
      go false e = leb-false (place + w) (length l) e

  pub number_value : r.refusal ≡ 0 → r.value ≡ spelled big w place l
  number_value z = ap (λ (x : Checked). x.value) (answered (le-leb (place + w) (length l) (number_inside z)))

-- one byte is the same in either byte order
byte_ordered : (big : Bool) (l : List ℕ) → length l ≤ 1 → ordered big l ≡ l
byte_ordered false l h = refl
byte_ordered true [] h = refl
byte_ordered true (x ∷ []) h = refl
byte_ordered true (x ∷ y ∷ l) h = absurd (omega arith)

pub byte_number : (big : Bool) (l : List ℕ) (place : ℕ) → number_at 1 false l place ≡ number_at 1 big l place
byte_number big l place =
    let h : length (take 1 (drop place l)) ≤ 1 = simp length-take (omega arith) in
    number_at_is 1 false l place ∙ sym (number_at_is 1 big l place ∙ rw (byte_ordered big (take 1 (drop place l)) h))

-- the number of a width that there is, and of any other
module _ {w : ℕ} (big : Bool) (l : List ℕ) (place : ℕ) where
  pub number_of_is : Aligns w → number_of w big l place ≡ number_at w big l place
  unfolding number_of
  number_of_is al = rw al.listed

  pub number_of_not : (w ≡ 1 → ⊥) → (w ≡ 2 → ⊥) → (w ≡ 4 → ⊥) → (w ≡ 8 → ⊥) → failed no_value ≡ number_of w big l place
  unfolding number_of is_alignment
  number_of_not a b c d = rw (ne_eqb w 1 a, ne_eqb w 2 b, ne_eqb w 4 c, ne_eqb w 8 d)
