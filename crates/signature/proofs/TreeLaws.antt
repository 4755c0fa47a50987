-- The type and the fields at a place of a text, from the letters and the shape there. Assumes nothing.
use mathlib.Core.Path.{◌≡◌, refl, sym, ap, subst⁻¹, ◌∙◌}
use mathlib.Core.List.{List, []}
use mathlib.Core.Option.{some}
use mathlib.Core.Bool.{Bool, true, false}
use Prim.Native.Nat.{ℕ, ◌+◌, ◌-◌, ◌≤◌, ◌<◌}
use native.Mathlib.Omega.{arith}
use lib.ListN.{length, drop}
use Rattle.meaning.specs.Padding.{Aligns}
use Rattle.meaning.specs.Types.{Tree, Fields, maybe, structure, last, next, alignment, largest_alignment, fixed, all_fixed, fixed_size}
use Rattle.meaning.specs.TypeText.{found, first_type, first_fields, type_of}
use Rattle.meaning.proofs.TypeLaws.{aligned}
use Rattle.signature.specs.Places.{is_type, letter_at, child_of, child_at, field_at}
use Rattle.signature.specs.Shapes.{Shaped, shape_in}
use Rattle.signature.specs.Trees.{tree_by, tree_at, behind_by, Typed, fields_by, fields_at, Rowed, Described}
use Rattle.signature.specs.declared.Letter.{Letter}
use Rattle.signature.specs.declared.Letter.TheVariants.{Maybe, OpenStructure, CloseStructure}
use Rattle.signature.specs.Places.{Child}
use Rattle.signature.specs.Places.{Field}
use Rattle.signature.specs.declared.shapes.Shape.{Shape}
use Rattle.signature.proofs.Children.{child_is, child_found}
use Rattle.signature.proofs.Dispatch.{is_maybe, is_structure, after_field, is_last, is_next}
use Rattle.signature.proofs.Answers.{judged_type, field_last, field_next}
use Rattle.signature.proofs.ShapeLaws.{looked}

-- ---- a type, or a row of fields, that was found

pub typed_by : (l : List ℕ) (at : ℕ) (t : Tree) (r : List ℕ) → length l ≤ 255 → first_type (drop at l) ≡ found t r → Typed l at
unfolding tree_by behind_by
typed_by l at t r n h = record { short = n; found = h ∙ (rw h) }

pub tree_by_lem : (l : List ℕ) (at : ℕ) (t : Tree) (r : List ℕ) → first_type (drop at l) ≡ found t r → tree_at l at ≡ t
unfolding tree_by
tree_by_lem l at t r h = rw h

pub rowed_by : (l : List ℕ) (at : ℕ) (ts : Fields) (r : List ℕ) → length l ≤ 255 → first_fields (drop at l) ≡ found ts r → Rowed l at
unfolding fields_by behind_by
rowed_by l at ts r n h = record { short = n; found = h ∙ (rw h) }

pub row_by : (l : List ℕ) (at : ℕ) (ts : Fields) (r : List ℕ) → first_fields (drop at l) ≡ found ts r → fields_at l at ≡ ts
unfolding fields_by
row_by l at ts r h = rw h

-- ---- a shape

pub described_as : {l t : List ℕ} {s u : Shape} → s ≡ u → Described l t u → Described l t s
described_as {l} {t} e d = subst⁻¹ (λ (x : Shape). Described l t x) e d

-- what a table says of a type that was found
pub described_by : (l t : List ℕ) (at : ℕ) (u : Tree) (r : List ℕ) → Shaped l t → first_type (drop at l) ≡ found u r → Described l t (shape_in l t at)
described_by l t at u r w h = record {
  typed = typed_by l at u r w.few h;
  is = looked l t at w (ap (λ (c : Child). c.found) (child_is l at u r w.few h));
  table = w;
}

module _ {l t : List ℕ} {s : Shape} (d : Described l t s) where
  child_here : child_at l s.at
      ≡ child_of (letter_at l s.at) true (length l - length (behind_by (first_type (drop s.at l)))) (alignment (tree_at l s.at)) (fixed (tree_at l s.at)) (fixed_size (tree_at l s.at))
  child_here = child_is l s.at (tree_at l s.at) (behind_by (first_type (drop s.at l))) d.typed.short d.typed.found

  pub described_kind : s.kind ≡ letter_at l s.at
  described_kind = ap (λ (x : Shape). x.kind) d.is ∙ ap (λ (c : Child). c.kind) child_here

  pub described_alignment : s.alignment ≡ alignment (tree_at l s.at)
  described_alignment = ap (λ (x : Shape). x.alignment) d.is ∙ ap (λ (c : Child). c.alignment) child_here

  pub described_fixed : s.fixed ≡ fixed (tree_at l s.at)
  described_fixed = ap (λ (x : Shape). x.fixed) d.is ∙ ap (λ (c : Child). c.fixed) child_here

  pub described_aligned : Aligns s.alignment
  described_aligned = rw described_alignment (aligned (tree_at l s.at))

-- a text that is one type: that type stands at its front
pub record Front (l : List ℕ) : Type 0 where
  pub start : first_type (drop 0 l) ≡ found (tree_at l 0) []
  pub type : type_of l ≡ some (tree_at l 0)

pub front : (l : List ℕ) → is_type l ≡ true → Front l
front l h =
    let j = judged_type l h in
    let e = sym (tree_by_lem l 0 j.it [] j.start) in
    record { start = j.start ∙ ap (λ (x : Tree). found x []) e; type = j.type ∙ ap some e }

pub front_described : (l t : List ℕ) → Shaped l t → Front l → Described l t (shape_in l t 0)
front_described l t w f = described_by l t 0 (tree_at l 0) [] w f.start

-- ---- what a maybe holds

module _ (l : List ℕ) (at : ℕ) (t : Typed l at) (e : letter_at l at ≡ Maybe) where
  pub maybe_tree : tree_at l at ≡ maybe (tree_at l (at + 1))
  maybe_tree = let m = is_maybe l at _ _ t.found e in m.type ∙ ap maybe (sym (tree_by_lem l (at + 1) m.it _ m.child))

  pub maybe_described : (s : List ℕ) → Shaped l s → Described l s (shape_in l s (at + 1))
  maybe_described s w = let m = is_maybe l at _ _ t.found e in described_by l s (at + 1) m.it _ w m.child

-- ---- the fields of a structure

module _ {l t : List ℕ} {s : Shape} (d : Described l t s) (e : letter_at l s.at ≡ OpenStructure) where
  pub structure_rowed : Rowed l (s.at + 1)
  structure_rowed = let m = is_structure l s.at _ _ d.typed.found e in rowed_by l (s.at + 1) m.it _ d.typed.short m.fields

  pub structure_tree : tree_at l s.at ≡ structure (fields_at l (s.at + 1))
  structure_tree = let m = is_structure l s.at _ _ d.typed.found e in m.type ∙ ap structure (sym (row_by l (s.at + 1) m.it _ m.fields))

  pub structure_fixed : s.fixed ≡ all_fixed (fields_at l (s.at + 1))
  unfolding fixed
  structure_fixed = described_fixed d ∙ ap fixed structure_tree

  pub structure_alignment : s.alignment ≡ largest_alignment (fields_at l (s.at + 1))
  unfolding alignment
  structure_alignment = described_alignment d ∙ ap alignment structure_tree

-- the field at a place is the last
pub record LastField (l t : List ℕ) (i : ℕ) (s : Shape) : Type 0 where
  pub shape : Described l t s
  pub same_fixed : s.fixed ≡ fixed (tree_at l s.at)
  pub fields : fields_at l i ≡ last (tree_at l s.at)

-- or others follow it
pub record NextField (l t : List ℕ) (i : ℕ) (s : Shape) : Type 0 where
  pub shape : Described l t s
  pub same_fixed : s.fixed ≡ fixed (tree_at l s.at)
  pub fields : fields_at l i ≡ next (tree_at l s.at) (fields_at l s.next)
  pub rowed : Rowed l s.next
  pub onward : i < s.next
  pub within : s.next ≤ length l

-- a type stands where fields do
field_found : (l : List ℕ) (i : ℕ) → Rowed l i → (child_at l i).found ≡ true
field_found l i w = go (field_at l i).last refl
  where
    known : (u : Tree) (k : List ℕ) → first_type (drop i l) ≡ found u k → (child_at l i).found ≡ true
    known u k h = ap (λ (c : Child). c.found) (child_is l i u k w.short h)

    go : (b : Bool) → (field_at l i).last ≡ b → (child_at l i).found ≡ true
    go true e = let s = is_last l i _ _ w.short w.found e in known s.it _ s.child
    go false e = let s = is_next l i _ _ w.short w.found e in known s.it _ s.child

module _ (l t : List ℕ) (i : ℕ) (w : Rowed l i) (z : Shaped l t) (b : Letter) (e : b ≡ letter_at l (shape_in l t i).next) where
  next_here : (shape_in l t i).next ≡ (child_at l i).next
  next_here = ap (λ (x : Shape). x.next) (looked l t i z (field_found l i w))

  behind_here : b ≡ letter_at l (child_at l i).next
  behind_here = e ∙ ap (λ (x : ℕ). letter_at l x) next_here

  last_field_is : b ≡ CloseStructure → LastField l t i (shape_in l t i)
  last_field_is h =
      let q = field_last l i (child_found l i (field_found l i w)) (sym behind_here ∙ h) in
      let s = is_last l i (fields_at l i) (behind_by (first_fields (drop i l))) w.short w.found (ap (λ (x : Field). x.last) (sym q)) in
      let u = tree_by_lem l i s.it (drop (after_field l i) l) s.child in
      let d = described_by l t i s.it (drop (after_field l i) l) z s.child in
      record { shape = d; same_fixed = described_fixed d; fields = s.type ∙ ap last (sym u) }

  next_field_is : (b ≡ CloseStructure → ⊥) → NextField l t i (shape_in l t i)
  next_field_is h =
      let r = behind_by (first_fields (drop i l)) in
      let q = field_next l i (child_found l i (field_found l i w)) (λ y. h (behind_here ∙ y)) in
      let s = is_next l i (fields_at l i) r w.short w.found (ap (λ (x : Field). x.last) (sym q)) in
      let k = drop (after_field l i) l in
      let u = tree_by_lem l i s.it k s.child in
      let d = described_by l t i s.it k z s.child in
      let x : (shape_in l t i).next ≡ after_field l i = next_here ∙ ap (λ (y : Field). y.child.next) q in
      let y : (shape_in l t i).next ≡ length l - length k = next_here ∙ ap (λ (c : Child). c.next) (child_is l i s.it k w.short s.child) in
      let o = s.onward in
      record {
        shape = d;
        same_fixed = described_fixed d;
        fields = s.type ∙ ap (λ (y : Tree). next y s.others) (sym u) ∙ ap (next (tree_at l i)) (sym (row_by l (after_field l i) s.others r s.fields) ∙ ap (fields_at l) (sym x));
        rowed = rw x (rowed_by l (after_field l i) s.others r w.short s.fields);
        onward = omega arith;
        within = omega arith;
      }

-- the same of a shape that the code found
module _ (l t : List ℕ) (i : ℕ) (w : Rowed l i) (z : Shaped l t) (s : Shape) (q : s ≡ shape_in l t i) (b : Letter) (e : b ≡ letter_at l s.next) where
  looked_behind : b ≡ letter_at l (shape_in l t i).next
  looked_behind = e ∙ ap (λ (x : Shape). letter_at l x.next) q

  pub last_field_of : b ≡ CloseStructure → LastField l t i s
  last_field_of h = subst⁻¹ (λ (x : Shape). LastField l t i x) q (last_field_is l t i w z b looked_behind h)

  pub next_field_of : (b ≡ CloseStructure → ⊥) → NextField l t i s
  next_field_of h = subst⁻¹ (λ (x : Shape). NextField l t i x) q (next_field_is l t i w z b looked_behind h)
