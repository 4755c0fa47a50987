-- The padding leaf's answers, from the tests of the code. Assumes nothing.
use mathlib.Core.Path.{◌≡◌, refl, sym, ◌∙◌}
use mathlib.Core.List.{List}
use mathlib.Core.Bool.{Bool, true, false}
use Prim.Native.Nat.{ℕ, ◌+◌, ◌-◌, ◌^◌, ◌≤◌, ◌<◌}
use native.Mathlib.Omega.{arith}
use lib.Dec.{leb, ltb, eqb}
use lib.ListN.{length, drop, length-drop}
use borrow.Author.Tests.{lt-ltb, le-ltb, leb-true, leb-false, eqb-true, eqb-false, eq-eqb, ne_eqb}
use Rattle.meaning.specs.Choice.{pick}
use Rattle.meaning.specs.Limits.{largest_number}
use Rattle.meaning.specs.Refusals.{out_of_bounds, padding_not_zero, no_value}
use Rattle.meaning.specs.Padding.{is_alignment, padding, leading_zeros}
use Rattle.meaning.specs.Reading.{padding_of, pad}
use Rattle.meaning.specs.Parts.{holds}
use Rattle.utils.specs.Checks.{Checked}
use Rattle.utils.specs.Checks.{passed, failed, used_by, padding_for}
use Rattle.de.specs.Parts.{padding_at}

-- the padding that is due, as code goes: a refused alignment has none due and stays
unfoldable pub padding_in : Checked → ℕ → List ℕ → Checked
padding_in due place l =
    pick (eqb due.value 0) due
    (pick (holds l place due.value) (pick (leb due.value (leading_zeros (drop place l))) due (failed padding_not_zero)) (failed out_of_bounds))

padding_in_lem : (n k place : ℕ) (l : List ℕ) → used_by (padding_of n k (drop place l)) ≡ padding_in (passed n) place l
unfolding padding_of padding_in
padding_in_lem n k place l = go (eqb n 0) (holds l place n) (leb n (leading_zeros (drop place l))) refl refl refl
  where
    room : length (drop place l) ≡ length l - place
    room = length-drop place l

    go : (x y z : Bool) → eqb n 0 ≡ x → holds l place n ≡ y → leb n (leading_zeros (drop place l)) ≡ z
        → used_by (padding_of n k (drop place l)) ≡ pick x (passed n) (pick y (pick z (passed n) (failed padding_not_zero)) (failed out_of_bounds))
    go true y z a b c =
        let e = eqb-true n 0 a in
        rw (le-ltb (length (drop place l)) n (omega arith), le-ltb (leading_zeros (drop place l)) n (omega arith))
    go false true true a b c =
        let f = leb-true (place + n) (length l) b in
        rw (le-ltb (length (drop place l)) n (omega (arith, room)), le-ltb (leading_zeros (drop place l)) n (leb-true n (leading_zeros (drop place l)) c))
    go false true false a b c =
        let f = leb-true (place + n) (length l) b in
        rw (le-ltb (length (drop place l)) n (omega (arith, room)), lt-ltb (leading_zeros (drop place l)) n (leb-false n (leading_zeros (drop place l)) c))
    go false false z a b c =
        let f = leb-false (place + n) (length l) b in
        let e = eqb-false n 0 a in
        rw (lt-ltb (length (drop place l)) n (positive e (omega (arith, room))))
      where
        positive : (n ≡ 0 → ⊥) → (0 < n → length (drop place l) < n) → length (drop place l) < n
        positive p q = q (omega arith)

-- in closed form
pub padding_at_is : (position place a : ℕ) (l : List ℕ)
    → padding_at position place a l ≡ pick (ltb largest_number (position + place)) (failed out_of_bounds) (padding_in (padding_for (position + place) a) place l)
unfolding padding_at pad padding_for padding_in
padding_at_is position place a l = go (is_alignment a) refl
  where
    go : (b : Bool) → is_alignment a ≡ b
        → pick (ltb largest_number (position + place)) (failed out_of_bounds) (pick b (used_by (padding_of (padding (position + place) a) place (drop place l))) (failed no_value))
        ≡ pick (ltb largest_number (position + place)) (failed out_of_bounds) (padding_in (padding_for (position + place) a) place l)
    go true e = rw (e, padding_in_lem (padding (position + place) a) place place l)
    go false e = rw e

module _ (position place a : ℕ) (l : List ℕ) (fits : position < 2 ^ 64) where
  pub sum_past : largest_number - position < place → failed out_of_bounds ≡ padding_at position place a l
  sum_past h = sym (padding_at_is position place a l ∙ rw (lt-ltb largest_number (position + place) (omega arith)))

  pub sum_within : {due : Checked} → place ≤ largest_number - position → due ≡ padding_for (position + place) a
      → padding_in due place l ≡ padding_at position place a l
  sum_within h e = sym (padding_at_is position place a l ∙ rw (le-ltb largest_number (position + place) (omega arith), e))

module _ (due : Checked) (place : ℕ) (l : List ℕ) where
  pub none_due : due.value ≡ 0 → due ≡ padding_in due place l
  unfolding padding_in
  none_due e = rw (eq-eqb due.value 0 e)

  module _ {b : Bool} (n : due.value ≡ 0 → ⊥) (h : b ≡ holds l place due.value) where
    pub due_short : b ≡ false → failed out_of_bounds ≡ padding_in due place l
    unfolding padding_in
    due_short f = rw (ne_eqb due.value 0 n, sym h ∙ f)

    pub due_there : {z : Bool} → b ≡ true → z ≡ leb due.value (leading_zeros (drop place l)) → z ≡ true
        → due ≡ padding_in due place l
    unfolding padding_in
    due_there t e z = rw (ne_eqb due.value 0 n, sym h ∙ t, sym e ∙ z)

    pub due_not_zero : {z : Bool} → b ≡ true → z ≡ leb due.value (leading_zeros (drop place l)) → z ≡ false
        → failed padding_not_zero ≡ padding_in due place l
    unfolding padding_in
    due_not_zero t e z = rw (ne_eqb due.value 0 n, sym h ∙ t, sym e ∙ z)
