-- What the judge says of a text, and whether a field is the last. Assumes nothing.
use mathlib.Core.Path.{◌≡◌, refl, ap, ◌∙◌}
use mathlib.Core.List.{List, [], ◌∷◌}
use mathlib.Core.Option.{Option, none, some}
use mathlib.Core.Bool.{Bool, true, false}
use Prim.Native.Nat.{ℕ, ◌-◌, ◌≤◌, ◌<◌}
use native.Mathlib.Omega.{arith}
use lib.Dec.{leb, eqb}
use lib.ListN.{length, drop, length-drop}
use borrow.Author.Tests.{eqb-true, le-leb, lt-leb, eq-eqb, ne_eqb}
use Rattle.meaning.specs.Choice.{pick}
use Rattle.meaning.specs.Types.{Tree}
use Rattle.meaning.specs.TypeText.{basic_among, Found, found, first_type, nothing_behind, type_of}
use Rattle.meaning.proofs.TypeTextLaws.{type_of_sound}
use Rattle.signature.specs.Places.{there_is, is_type, letter_of, letter_by, letter_in, letter_at, type_at, no_child, child_by, child_at, closed_by, field_at}
use Rattle.signature.specs.Places.{Field}
use Rattle.signature.specs.declared.Letter.TheVariants.{CloseStructure}
use Rattle.signature.proofs.Letters.{cut}
use Rattle.signature.proofs.Children.{type_at_is, Stands}

-- ---- a text of more than 255 characters

pub child_long : (l : List ℕ) (at : ℕ) → 255 < length l → no_child (letter_at l at) ≡ child_at l at
unfolding child_at type_at child_by
child_long l at h = rw (lt-leb (length l) 255 h)

-- ---- the judge

pub judge_missing : (l : List ℕ) → (child_at l 0).found ≡ false → false ≡ is_type l
unfolding child_at type_at child_by type_of nothing_behind
judge_missing l h = go (leb (length l) 255) (first_type l) h
  where
    go : (q : Bool) (x : Found Tree) → (child_by (letter_at l 0) (length l) (pick q x none)).found ≡ false → false ≡ there_is (pick q (nothing_behind x) none)
    go false x e = refl
    go true none e = refl
    go true (some g) e = let z : ◌≡◌ {A = ℕ} 0 1 = cc in absurd (omega arith)

pub judge_found : (l : List ℕ) → Stands l 0 (child_at l 0) → eqb (child_at l 0).next (length l) ≡ is_type l
unfolding type_of nothing_behind
judge_found l s = rw (le-leb (length l) 255 s.few) (rw s.type (go (drop (child_at l 0).next l) (length-drop (child_at l 0).next l)))
  where
    go : (r : List ℕ) → length r ≡ length l - (child_at l 0).next → eqb (child_at l 0).next (length l) ≡ there_is (nothing_behind (found s.it r))
    go [] e = eq-eqb (child_at l 0).next (length l) (omega (arith, s.within))
    go (x ∷ r) e = ne_eqb (child_at l 0).next (length l) (λ p. omega arith)

-- both ways: the judge says yes exactly of the texts of a type
pub judged : (l : List ℕ) (t : Tree) → type_of l ≡ some t → is_type l ≡ true
judged l t h = ap there_is h

pub not_judged : (l : List ℕ) → type_of l ≡ none → is_type l ≡ false
not_judged l h = ap there_is h

pub record Judged (l : List ℕ) : Type 0 where
  pub it : Tree
  pub type : type_of l ≡ some it
  pub few : length l ≤ 255
  pub start : first_type (drop 0 l) ≡ found it []

pub judged_type : (l : List ℕ) → is_type l ≡ true → Judged l
judged_type l h = go (type_of l) refl h
  where
    go : (x : Option Tree) → type_of l ≡ x → there_is x ≡ true → Judged l
    go none e p = let z : ◌≡◌ {A = ℕ} 0 1 = cc in absurd (omega arith)
    go (some t) e p = let s = type_of_sound l t e in record { it = t; type = e; few = s.few; start = s.alone }

pub judged_none : (l : List ℕ) → is_type l ≡ false → type_of l ≡ none
judged_none l h = go (type_of l) h
  where
    go : (x : Option Tree) → there_is x ≡ false → x ≡ none
    go none p = refl
    go (some t) p = let z : ◌≡◌ {A = ℕ} 0 1 = cc in absurd (omega arith)

-- ---- fields

module _ (l : List ℕ) (at : ℕ) (s : Stands l at (child_at l at)) where
  typed : type_at l at ≡ found s.it (drop (child_at l at).next l)
  typed = type_at_is l at s.few ∙ s.type

  pub field_last : letter_at l (child_at l at).next ≡ CloseStructure → ◌≡◌ {A = Field} (record { child = child_at l at; last = true }) (field_at l at)
  unfolding field_at closed_by
  field_last h =
      let c = cut l (child_at l at).next CloseStructure 41 h refl in
      rw (typed, c.is)

  pub field_next : (letter_at l (child_at l at).next ≡ CloseStructure → ⊥) → ◌≡◌ {A = Field} (record { child = child_at l at; last = false }) (field_at l at)
  unfolding field_at closed_by letter_in letter_by basic_among
  field_next h = rw typed (go (drop (child_at l at).next l) h)
    where
      test : (x : ℕ) (q : Bool) → eqb x 41 ≡ q → (letter_of x ≡ CloseStructure → ⊥) → false ≡ q
      test x true p e = absurd (e (ap letter_of (eqb-true x 41 p)))
      test x false p e = refl

      go : (r : List ℕ) → (letter_in r ≡ CloseStructure → ⊥) → ◌≡◌ {A = Field} (record { child = child_at l at; last = false }) (record { child = child_at l at; last = closed_by (found s.it r) })
      go [] e = refl
      go (x ∷ r) e = ap (λ q. record { child = child_at l at; last = q }) (test x (eqb x 41) refl e)
