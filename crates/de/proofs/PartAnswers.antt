-- What stands at a place of a part, from the tests of the code. Assumes nothing.
use mathlib.Core.Path.{◌≡◌, refl, sym, ap, ◌∙◌}
use mathlib.Core.List.{List, [], ◌∷◌}
use mathlib.Core.Bool.{Bool, true, false, not}
use Prim.Native.Nat.{ℕ, suc, ◌+◌, ◌-◌, ◌≤◌, ◌<◌}
use native.Mathlib.Omega.{arith}
use lib.Dec.{eqb}
use lib.ListN.{length, take, drop, get_or, drop_of_length-le}
use lib.Seq.{drop-cons}
use borrow.Author.Tests.{leb-true, leb-false, ne_eqb}
use Rattle.meaning.specs.Choice.{pick}
use Rattle.meaning.specs.Refusals.{out_of_bounds}
use Rattle.meaning.specs.Depths.{none_open}
use Rattle.meaning.specs.Reading.{read_bool}
use Rattle.meaning.specs.Parts.{holds, part_at}
use Rattle.utils.specs.Checks.{Checked, passed, failed, told_by}
use Rattle.std.specs.Prelude.{Result, Ok, Err}
use Rattle.meaning.specs.declared.refusals.Refusal.{Refusal}
use Rattle.meaning.proofs.RefusalLaws.{number_not_0, number_one}
use Rattle.de.specs.Parts.{place_after, bool_at, bool_checked}

-- a bool in closed form
pub bool_at_is : (l : List ℕ) (place : ℕ) → bool_at l place ≡ pick (holds l place 1) (passed (pick (eqb (get_or l place 0) 0) 0 1)) (failed out_of_bounds)
unfolding bool_at read_bool
bool_at_is l place = go (holds l place 1) refl
  where
    go : (b : Bool) → holds l place 1 ≡ b
        → told_by (read_bool none_open 0 (drop place l)) ≡ pick b (passed (pick (eqb (get_or l place 0) 0) 0 1)) (failed out_of_bounds)
    go true e =
        let inside = leb-true (place + 1) (length l) e in
        rw (drop-cons l place 0 (omega arith), ne_eqb (length (get_or l place 0 ∷ drop (suc place) l)) 0 (λ z. omega arith))
    go false e =
        let outside = leb-false (place + 1) (length l) e in
        rw (drop_of_length-le l (past outside))
      where
        past : length l < place + 1 → length l ≤ place
        past h = omega arith

module _ (l : List ℕ) (place : ℕ) {b : Bool} (h : b ≡ holds l place 1) where
  pub bool_there : b ≡ true → passed (pick (not (eqb (get_or l place 0) 0)) 1 0) ≡ bool_at l place
  bool_there t = go (eqb (get_or l place 0) 0) refl
    where
      go : (z : Bool) → eqb (get_or l place 0) 0 ≡ z → passed (pick (not (eqb (get_or l place 0) 0)) 1 0) ≡ bool_at l place
      go true e = rw e (sym (bool_at_is l place ∙ rw (sym h ∙ t, e)))
      go false e = rw e (sym (bool_at_is l place ∙ rw (sym h ∙ t, e)))

  pub bool_failed : b ≡ false → failed out_of_bounds ≡ bool_at l place
  bool_failed f = sym (bool_at_is l place ∙ rw (sym h ∙ f))

module _ (l : List ℕ) (place len : ℕ) {b : Bool} (h : b ≡ holds l place len) where
  pub place_passed : b ≡ true → passed (place + len) ≡ place_after l place len
  unfolding place_after
  place_passed t = rw (sym h ∙ t)

  pub place_failed : b ≡ false → failed out_of_bounds ≡ place_after l place len
  unfolding place_after
  place_failed f = rw (sym h ∙ f)

  pub part_passed : b ≡ true → take (place + len - place) (drop place l) ≡ part_at l place len
  unfolding part_at
  part_passed t =
      let e : place + len - place ≡ len = omega arith in
      rw (sym h ∙ t, e)

  pub part_failed : b ≡ false → [] ≡ part_at l place len
  unfolding part_at
  part_failed f = rw (sym h ∙ f)

pub bool_checked_one : (x y : Result Bool Refusal) → bool_checked x ≡ bool_checked y → x ≡ y
bool_checked_one (Ok true) (Ok true) h = refl
bool_checked_one (Ok false) (Ok false) h = refl
bool_checked_one (Ok true) (Ok false) h = absurd (let e : 1 ≡ 0 = ap (λ (c : Checked). c.value) h in omega arith)
bool_checked_one (Ok false) (Ok true) h = absurd (let e : 0 ≡ 1 = ap (λ (c : Checked). c.value) h in omega arith)
bool_checked_one (Ok a) (Err r) h = absurd (number_not_0 r (sym (ap (λ (c : Checked). c.refusal) h)))
bool_checked_one (Err r) (Ok a) h = absurd (number_not_0 r (ap (λ (c : Checked). c.refusal) h))
bool_checked_one (Err r) (Err s) h = ap Err (number_one r s (ap (λ (c : Checked). c.refusal) h))
