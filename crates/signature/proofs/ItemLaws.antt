-- What an array or a dictionary repeats: a law for each way out of the code, and what it is. Assumes nothing.
use mathlib.Core.Path.{◌≡◌, refl, sym, ap, ◌∙◌}
use mathlib.Core.Logic.{◌⊎◌, inl, inr}
use mathlib.Core.List.{List}
use mathlib.Core.Bool.{Bool, true, false, false≢true}
use Prim.Native.Nat.{ℕ, ◌+◌, ◌≤◌, ◌<◌}
use native.Mathlib.Omega.{arith}
use lib.ListN.{drop}
use borrow.Author.Tests.{le-leb, lt-leb}
use Rattle.meaning.specs.Types.{fixed, alignment}
use Rattle.meaning.specs.TypeText.{first_type}
use Rattle.signature.specs.Places.{letter_at}
use Rattle.signature.specs.Steps.{key_fixed}
use Rattle.signature.specs.Shapes.{unpacked, shape_in}
use Rattle.signature.specs.Trees.{tree_at, behind_by, Described}
use Rattle.signature.specs.Items.{held_number, opens_entry, entry_item, element_item, item_in, EntryOf, ElementOf}
use Rattle.signature.specs.declared.Letter.{Letter}
use Rattle.signature.specs.declared.Letter.TheVariants.{End, Bad, Boolean, Number, Text, Variant, Maybe, Array, OpenStructure, CloseStructure, OpenEntry, CloseEntry}
use Rattle.signature.specs.declared.shapes.Shape.{Shape}
use Rattle.signature.proofs.Dispatch.{is_array, is_dictionary}
use Rattle.signature.proofs.TreeLaws.{tree_by_lem, described_by, described_alignment, described_fixed}
use Rattle.signature.proofs.Children.{key_fixed_lem}

-- ---- by a letter

opens_none : (k : Letter) → (k ≡ OpenEntry → ⊥) → opens_entry k ≡ false
opens_none End h = refl
opens_none Bad h = refl
opens_none Boolean h = refl
opens_none (Number c w) h = refl
opens_none (Text c) h = refl
opens_none Variant h = refl
opens_none Maybe h = refl
opens_none Array h = refl
opens_none OpenStructure h = refl
opens_none CloseStructure h = refl
opens_none OpenEntry h = absurd (h refl)
opens_none CloseEntry h = refl

-- a letter opens an entry, or does not
pub opens : {A : Type 0} (k : Letter) → (k ≡ OpenEntry → A) → ((k ≡ OpenEntry → ⊥) → A) → A
opens {A} k f g = go (opens_entry k) refl
  where
    only : (j : Letter) → opens_entry j ≡ true → j ≡ OpenEntry
    only OpenEntry h = refl
    only End h = absurd (false≢true h)
    only Bad h = absurd (false≢true h)
    only Boolean h = absurd (false≢true h)
    only (Number c w) h = absurd (false≢true h)
    only (Text c) h = absurd (false≢true h)
    only Variant h = absurd (false≢true h)
    only Maybe h = absurd (false≢true h)
    only Array h = absurd (false≢true h)
    only OpenStructure h = absurd (false≢true h)
    only CloseStructure h = absurd (false≢true h)
    only CloseEntry h = absurd (false≢true h)

    go : (b : Bool) → opens_entry k ≡ b → A
    go true h = f (only k h)
    go false h = g (λ e. false≢true (sym h ∙ ap opens_entry e))

-- a number is the type, or what it holds
pub number_held : (k b : Letter) (c w : ℕ) → held_number k b ≡ Number c w → (k ≡ Number c w) ⊎ ((k ≡ Maybe) × (b ≡ Number c w))
number_held End b c w h = inl h
number_held Bad b c w h = inl h
number_held Boolean b c w h = inl h
number_held (Number c' w') b c w h = inl h
number_held (Text c') b c w h = inl h
number_held Variant b c w h = inl h
number_held Maybe b c w h = inr (refl, h)
number_held Array b c w h = inl h
number_held OpenStructure b c w h = inl h
number_held CloseStructure b c w h = inl h
number_held OpenEntry b c w h = inl h
number_held CloseEntry b c w h = inl h

-- ---- the ways out

module _ (l t : List ℕ) (s : Shape) where
  pub item_far : 255 < s.at → (u : Shape) → u ≡ unpacked 0 End 0 → element_item 0 u End ≡ item_in l t s
  unfolding item_in
  item_far h u e = rw (e, lt-leb s.at 255 h)

  module _ (n : s.at ≤ 255) (inner second : Letter) (hi : inner ≡ letter_at l (s.at + 1)) (hs : second ≡ letter_at l (s.at + 2)) where
    pub item_entry : inner ≡ OpenEntry → (v : Shape) → v ≡ shape_in l t (s.at + 3) → entry_item s.alignment second v ≡ item_in l t s
    unfolding item_in
    item_entry h v e = rw (le-leb s.at 255 n, ← hi, h, hs, e)

    pub item_element : (inner ≡ OpenEntry → ⊥) → (v : Shape) → v ≡ shape_in l t (s.at + 1) → element_item s.alignment v second ≡ item_in l t s
    unfolding item_in
    item_element h v e =
        let o : opens_entry (letter_at l (s.at + 1)) ≡ false = ap opens_entry (sym hi) ∙ opens_none inner h in
        rw (le-leb s.at 255 n, o, hs, e)

-- ---- what it is

module _ (l t : List ℕ) (s : Shape) (d : Described l t s) (first : letter_at l s.at ≡ Array) where
  short : s.at ≤ 255
  short = omega (arith, d.typed.short, (Rattle.signature.proofs.Letters.cut l s.at Array 97 first refl).within)

  pub entry_of : letter_at l (s.at + 1) ≡ OpenEntry → EntryOf l t s.at (item_in l t s)
  unfolding alignment
  entry_of second =
      let m = is_dictionary l s.at (tree_at l s.at) (behind_by (first_type (drop s.at l))) d.typed.found first second in
      let v = described_by l t (s.at + 3) m.it _ d.table m.value in
      rw (← item_entry l t s short OpenEntry _ (sym second) refl refl _ refl) (record {
        key = m.key;
        it = m.it;
        tree = m.type;
        value = tree_by_lem l (s.at + 3) m.it _ m.value;
        child = v;
        entry = refl;
        same_key = m.letter;
        same_keyed = ap key_fixed m.letter ∙ key_fixed_lem m.key;
        same_alignment = described_alignment d ∙ ap alignment m.type;
        same_fixed = rw (ap key_fixed m.letter ∙ key_fixed_lem m.key, described_fixed v ∙ ap fixed (tree_by_lem l (s.at + 3) m.it _ m.value));
        same_number = refl;
      })

  pub element_of : (letter_at l (s.at + 1) ≡ OpenEntry → ⊥) → ElementOf l t s.at (item_in l t s)
  unfolding alignment
  element_of second =
      let m = is_array l s.at (tree_at l s.at) (behind_by (first_type (drop s.at l))) d.typed.found first second in
      let v = described_by l t (s.at + 1) m.it _ d.table m.child in
      rw (← item_element l t s short (letter_at l (s.at + 1)) _ refl refl second _ refl) (record {
        it = m.it;
        tree = m.type;
        value = tree_by_lem l (s.at + 1) m.it _ m.child;
        child = v;
        entry = refl;
        same_key = refl;
        same_alignment = described_alignment d ∙ ap alignment m.type;
        same_fixed = described_fixed v ∙ ap fixed (tree_by_lem l (s.at + 1) m.it _ m.child);
        same_number = ap (λ (x : ℕ). held_number (letter_at l (s.at + 1)) (letter_at l x)) {x = s.at + 2} {y = s.at + 1 + 1} (omega arith);
      })
