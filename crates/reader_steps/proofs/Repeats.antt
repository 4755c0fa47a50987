-- What an array or a dictionary repeats, by its text and its table. Assumes nothing.
use Rattle.std.proofs.Common.{◌≡◌, ℕ, ◌+◌, ◌%◌, ◌<◌, ◌≤◌, Bool, true, false, ◌&&◌, eqb, leb, List, length, get_or, sym, refl, ap, ◌∙◌, subst, arith, eq-eqb, ne_eqb, eqb-true}
use mathlib.Core.Path.{subst⁻¹}
use borrow.Author.Tests.{eqb-false}
use Rattle.meaning.specs.Choice.{pick}
use Rattle.meaning.specs.Reading.{child}
use Rattle.signature.specs.Places.{letter_at, letter_of}
use Rattle.signature.specs.Steps.{key_fixed, width_by, is_text}
use Rattle.signature.specs.Shapes.{shape_in}
use Rattle.signature.specs.Items.{held_number, item_in}
use Rattle.signature.specs.Trees.{tree_at, Described}
use Rattle.signature.specs.declared.Letter.{Letter}
use Rattle.signature.specs.declared.Letter.TheVariants.{End, Number, Text, Maybe, Array, OpenEntry}
use Rattle.signature.proofs.Letters.{letter_some, cut}
use Rattle.signature.proofs.Dispatch.{is_array}
use Rattle.signature.proofs.TreeLaws.{typed_by}
use Rattle.signature.proofs.ItemLaws.{item_entry, item_element, opens}
use Rattle.reader_basic.specs.Answers.{Between}
use Rattle.meaning.specs.Calls.{Counts}
use Rattle.reader_basic.specs.declared.Context.{Context}
use Rattle.reader_steps.specs.Codes.{Held}
use Rattle.reader_steps.specs.Places.{value_in, step_in, element_kind, item_by, item_of, Repeated, ItemAt}
use Rattle.reader_steps.proofs.Characters.{number_code, text_code, typed_within, mark_code, code_entry}
use Rattle.reader_steps.proofs.Entries.{step_child}
use Rattle.reader_steps.proofs.ItemLaws.{item_at}

-- ---- of an array or a dictionary that stands at a place

module _ (l t : List ℕ) (at : ℕ) (d : Described l t (shape_in l t at)) (first : letter_at l at ≡ Array) where
  behind_it : at + 1 < length l
  behind_it =
      opens (letter_at l (at + 1)) (λ h. (cut l (at + 1) OpenEntry 123 h refl).within)
      (λ h. let m = is_array l at _ _ d.typed.found first h in typed_within (typed_by l (at + 1) m.it _ d.typed.short m.child))

  item_is : item_of l t at ≡ item_in l t (shape_in l t at)
  item_is = go (eqb (get_or l (at + 1) 0) 123) refl
    where
      short : at ≤ 255
      short = omega (arith, d.typed.short, behind_it)

      go : (b : Bool) → eqb (get_or l (at + 1) 0) 123 ≡ b → item_by b l t at ≡ item_in l t (shape_in l t at)
      go true e = item_entry l t (shape_in l t at) short _ _ refl refl (code_entry l (at + 1) behind_it (eqb-true _ _ e)) _ refl
      go false e = item_element l t (shape_in l t at) short _ _ refl refl (λ h. eqb-false _ _ e (mark_code l (at + 1) OpenEntry 123 h refl)) _ refl

  pub repeats : ItemAt l t at (item_of l t at)
  repeats = item_at l t (shape_in l t at) d first (item_of l t at) item_is

-- ---- where its characters and shapes stand

pub value_within : (l t : List ℕ) (at : ℕ) → Repeated l t (item_by true l t at) → at + 3 < length l
value_within l t at r = typed_within r.child.typed

pub item_within : (l t : List ℕ) (at : ℕ) (b : Bool) → Repeated l t (item_by b l t at) → at + 1 < length l
item_within l t at true r = omega (arith, typed_within r.child.typed)
item_within l t at false r = typed_within r.child.typed

-- ---- by its characters

module _ (l t : List ℕ) (at : ℕ) (within : at + 1 < length l) where
  pub item_number : (w : ℕ) → w ≡ width_by (letter_of (get_or l (at + 1) 0)) → (w ≡ 0 → ⊥) → (item_of l t at).number ≡ Number (get_or l (at + 1) 0) w
  item_number w q h = go (eqb (get_or l (at + 1) 0) 123) refl
    where
      here : letter_at l (at + 1) ≡ Number (get_or l (at + 1) 0) w
      here = letter_some l (at + 1) within ∙ number_code (get_or l (at + 1) 0) w q h

      go : (b : Bool) → eqb (get_or l (at + 1) 0) 123 ≡ b → pick b End (held_number (letter_at l (at + 1)) (letter_at l (at + 2))) ≡ Number (get_or l (at + 1) 0) w
      go true e =
          let y : OpenEntry ≡ Number (get_or l (at + 1) 0) w = sym (code_entry l (at + 1) within (eqb-true _ _ e)) ∙ here in
          let z : ◌≡◌ {A = ℕ} 0 1 = cc in absurd (omega arith)
      go false e = ap (λ (x : Letter). held_number x (letter_at l (at + 2))) here

  pub item_held : (w : ℕ) → Held l (at + 1) w → (item_of l t at).number ≡ Number (get_or l (at + 2) 0) w
  item_held w h = go (eqb (get_or l (at + 1) 0) 123) refl
    where
      here : letter_at l (at + 2) ≡ Number (get_or l (at + 2) 0) w
      here = let two : at + 1 + 1 ≡ at + 2 = omega arith in rw two at h.number

      go : (b : Bool) → eqb (get_or l (at + 1) 0) 123 ≡ b → pick b End (held_number (letter_at l (at + 1)) (letter_at l (at + 2))) ≡ Number (get_or l (at + 2) 0) w
      go true e = absurd (omega (arith, eqb-true (get_or l (at + 1) 0) 123 e, mark_code l (at + 1) Maybe 109 h.maybe refl))
      go false e = ap (λ (x : Letter). held_number x (letter_at l (at + 2))) h.maybe ∙ here

  pub item_text : true ≡ is_text (letter_of (get_or l (at + 1) 0)) → Text (get_or l (at + 1) 0) ≡ element_kind (item_of l t at)
  item_text q = go (eqb (get_or l (at + 1) 0) 123) refl
    where
      here : letter_at l (at + 1) ≡ Text (get_or l (at + 1) 0)
      here = letter_some l (at + 1) within ∙ text_code (get_or l (at + 1) 0) q

      go : (b : Bool) → eqb (get_or l (at + 1) 0) 123 ≡ b → Text (get_or l (at + 1) 0) ≡ pick b End (letter_at l (pick b (at + 3) (at + 1)))
      go true e =
          let y : OpenEntry ≡ Text (get_or l (at + 1) 0) = sym (code_entry l (at + 1) within (eqb-true _ _ e)) ∙ here in
          let z : ◌≡◌ {A = ℕ} 0 1 = cc in absurd (omega arith)
      go false e = sym here

-- ---- whether it is fixed

module _ (l t : List ℕ) (at : ℕ) (r : Repeated l t (item_of l t at)) (h : get_or l (at + 1) 0 ≡ 123) where
  pub entry_there : at + 3 < length l
  entry_there = value_within l t at (subst (λ (b : Bool). Repeated l t (item_by b l t at)) (eq-eqb (get_or l (at + 1) 0) 123 h) r)

  entry_fixed_lem : {k f : Bool} → k ≡ key_fixed (letter_of (get_or l (at + 2) 0)) → f ≡ leb 16 (get_or t (at + 3) 0 % 32) → (k && f) ≡ (item_of l t at).fixed
  entry_fixed_lem {k} {f} e g =
      let x : k ≡ key_fixed (letter_at l (at + 2)) = e ∙ ap key_fixed (sym (letter_some l (at + 2) (omega (arith, entry_there)))) in
      rw (eq-eqb (get_or l (at + 1) 0) 123 h, ← x, ← g)

  pub fixed_entry : {f : Bool} → true ≡ key_fixed (letter_of (get_or l (at + 2) 0)) → f ≡ leb 16 (get_or t (at + 3) 0 % 32) → f ≡ (item_of l t at).fixed
  fixed_entry e g = entry_fixed_lem e g

  pub fixed_text_entry : false ≡ key_fixed (letter_of (get_or l (at + 2) 0)) → false ≡ (item_of l t at).fixed
  fixed_text_entry e = entry_fixed_lem e refl

pub fixed_element : (l t : List ℕ) (at : ℕ) → (get_or l (at + 1) 0 ≡ 123 → ⊥) → {f : Bool} → f ≡ leb 16 (get_or t (at + 1) 0 % 32) → f ≡ (item_of l t at).fixed
fixed_element l t at h g = rw (ne_eqb (get_or l (at + 1) 0) 123 h) g

-- a key by its character
pub keyed_as : (l : List ℕ) (at : ℕ) → at + 2 < length l → {k : Bool} → k ≡ key_fixed (letter_of (get_or l (at + 2) 0)) → k ≡ key_fixed (letter_at l (at + 2))
keyed_as l at h e = e ∙ ap key_fixed (sym (letter_some l (at + 2) h))

-- an entry whose key is fixed is as its value is
pub and_second : {k f r x : Bool} → k ≡ true → r ≡ f → r ≡ x → (k && f) ≡ x
and_second a b c = rw a (sym b ∙ c)

-- ---- an entry or an element, by what the code found

module _ (l t : List ℕ) (at : ℕ) {b x : Bool} (h : b ≡ x) where
  pub repeated_as : Repeated l t (item_by b l t at) → Repeated l t (item_by x l t at)
  repeated_as r = subst (λ (y : Bool). Repeated l t (item_by y l t at)) h r

  pub fixed_as : {f : Bool} → (item_by b l t at).fixed ≡ f → (item_by x l t at).fixed ≡ f
  fixed_as {f} r = subst (λ (y : Bool). (item_by y l t at).fixed ≡ f) h r

module _ (c : Context) (l t : List ℕ) (at : ℕ) (b : Bool) (place : ℕ) (part : List ℕ) (s j e n : ℕ) (o o' : List ℕ) (r : Counts) where
  pub step_entry : b ≡ true → Between (step_in c l (item_by true l t at) place part s j e) part j e n o o' r → Between (step_in c l (item_by b l t at) place part s j e) part j e n o o' r
  step_entry h g = subst⁻¹ (λ (x : Bool). Between (step_in c l (item_by x l t at) place part s j e) part j e n o o' r) h g

  pub step_element : b ≡ false → Between (child (value_in c (tree_at l (at + 1))) place part j e) part j e n o o' r → Between (step_in c l (item_by b l t at) place part s j e) part j e n o o' r
  step_element h g =
      subst⁻¹ (λ (x : Bool). Between (step_in c l (item_by x l t at) place part s j e) part j e n o o' r) h
      (step_child c l (item_by false l t at) place part s j e n o o' r refl g)
