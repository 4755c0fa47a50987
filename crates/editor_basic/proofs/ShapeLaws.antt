-- Two shapes of one type: those that code, editors and tests have of it are the type's own. So the fields of a structure as code finds them
-- are the definition's. Assumes nothing.
use mathlib.Core.Path.{◌≡◌, refl, sym, ap, ◌∙◌}
use mathlib.Core.List.{List, [], ◌∷◌}
use mathlib.Core.Option.{Option, none, some}
use mathlib.Core.Bool.{Bool, true, false}
use Prim.Native.Nat.{ℕ, zero, suc, ◌+◌, ◌<◌}
use native.Mathlib.Omega.{arith}
use lib.ListN.{length}
use Rattle.meaning.specs.Padding.{padding}
use Rattle.meaning.specs.Depths as Depth
use Rattle.meaning.specs.Depths.{Depths, opened}
use Rattle.meaning.specs.Types.{Basic, bool, number, text, Tree, Fields, basic, variant, maybe, array, dictionary, structure, last, next, alignment, largest_alignment, fixed, all_fixed, fixed_size, fields_end}
use Rattle.meaning.specs.Written.{Piece}
use Rattle.meaning.proofs.Tests.{impossible, both_true}
use Rattle.meaning_writing.specs.Shapes.{Shape, shape_of, basic_shape, part, behind_padding, fixed_end, last_end, field_end, offsets_left, sizes_from, structure_shape}
use Rattle.meaning_writing.specs.Strict.{test_of}
use Rattle.meaning_writing.specs.Readings.{Slot, slot_of}
use Rattle.meaning_writing.specs.Edited.{Editor, editor_shapes, maybe_editor, array_editor, structure_editor, container_editor, variant_editor, editor_over, editor_of, found_piece, fields_from, variants_editor, editors_of}
use Rattle.meaning_writing.proofs.StrictSteps.{test_alignment, test_fixed, test_size}
use Rattle.meaning_writing.proofs.EditedSteps.{editor_over_lem, editor_basic, editor_maybe, editor_array, editor_dictionary, editor_structure, editors_last, editors_next}
use Rattle.editor_basic.specs.Rows.{type_shape, field_piece, last_stop, next_stop, row_pieces}

-- ---- what is known of both before bytes are looked at

pub record Same (s u : Shape) : Type 0 where
  pub same_alignment : s.alignment ≡ u.alignment
  pub same_fixed : s.fixed ≡ u.fixed
  pub same_size : s.fixed ≡ true → s.size ≡ u.size

module _ {s u : Shape} (h : Same s u) where
  pub same_start : (k : ℕ) → behind_padding k s ≡ behind_padding k u
  same_start k = ap (λ (a : ℕ). k + padding k a) h.same_alignment

  same_end : (k : ℕ) → s.fixed ≡ true → fixed_end k s ≡ fixed_end k u
  same_end k f = rw (h.same_alignment, h.same_size f)

  pub same_last : (b k : ℕ) → last_end s.fixed (fixed_end k s) b ≡ last_end u.fixed (fixed_end k u) b
  same_last b k = go s.fixed refl
    where
      go : (y : Bool) → s.fixed ≡ y → last_end s.fixed (fixed_end k s) b ≡ last_end u.fixed (fixed_end k u) b
      go true e = ap (λ (n : ℕ). last_end s.fixed n b) (same_end k e) ∙ ap (λ (y : Bool). last_end y (fixed_end k u) b) h.same_fixed
      go false e = ap (λ (y : Bool). last_end y (fixed_end k s) b) e ∙ ap (λ (y : Bool). last_end y (fixed_end k u) b) (sym e ∙ h.same_fixed)

  pub same_next : (l : List ℕ) (w e k : ℕ) → field_end s.fixed l w e (fixed_end k s) ≡ field_end u.fixed l w e (fixed_end k u)
  unfolding field_end
  same_next l w e k = go s.fixed refl
    where
      go : (y : Bool) → s.fixed ≡ y → field_end s.fixed l w e (fixed_end k s) ≡ field_end u.fixed l w e (fixed_end k u)
      go true q = ap (λ (n : ℕ). field_end s.fixed l w e n) (same_end k q) ∙ ap (λ (y : Bool). field_end y l w e (fixed_end k u)) h.same_fixed
      go false q = ap (λ (y : Bool). field_end y l w e (fixed_end k s)) q ∙ ap (λ (y : Bool). field_end y l w e (fixed_end k u)) (sym q ∙ h.same_fixed)

  same_piece : (l : List ℕ) (k i j : ℕ) → i ≡ j → found_piece s.alignment s.fixed (part (behind_padding k s) i l) ≡ found_piece u.alignment u.fixed (part (behind_padding k u) j l)
  same_piece l k i j e = rw (h.same_alignment, h.same_fixed, e)

-- ---- tests and editors

pub test_same : (n : ℕ) (t : Tree) → Same (test_of n t).shape (type_shape t)
test_same n t = record { same_alignment = test_alignment n t; same_fixed = test_fixed n t; same_size = λ h. test_size n t (sym (test_fixed n t) ∙ h) }

loose : {s : Shape} (a n : ℕ) → s ≡ shape_of a false 0 → Same s (shape_of a false n)
loose a n h = rw h (record { same_alignment = refl; same_fixed = refl; same_size = λ z. impossible z })

maybe_shape : (big : Bool) {t : Tree} (s : Option (Slot t)) (a : ℕ) (fx : Bool) (e : Editor) → (maybe_editor big s a fx e).shape ≡ shape_of a false 0
unfolding maybe_editor
maybe_shape big (some s) a fx e = refl
maybe_shape big none a fx e = refl

array_shape : (a : ℕ) (fx : Bool) (e : Editor) → (array_editor a fx e).shape ≡ shape_of a false 0
unfolding array_editor container_editor
array_shape a true e = refl
array_shape a false e = refl

variants_shape : (big : Bool) (n : ℕ) → (variants_editor big n).shape ≡ shape_of 8 false 0
unfolding variants_editor variant_editor
variants_shape big zero = refl
variants_shape big (suc n) = refl

variant_shape : (big : Bool) (n : ℕ) → (editor_of big n variant).shape ≡ shape_of 8 false 0
variant_shape big n = ap (λ (e : Editor). e.shape) (editor_over_lem big n variant) ∙ (unfold editor_over in variants_shape big n)

structure_size : (ss : List Shape) (ts : Fields) → all_fixed ts ≡ true → sizes_from 0 ss ≡ fields_end 0 ts
    → (structure_shape (largest_alignment ts) true ss).size ≡ fixed_size (structure ts)
unfolding fixed_size
structure_size ss ts h e = rw (h, e)

structure_same : (opens : Depths → Depths) (es : List Editor) (ts : Fields) (fx : Bool) → all_fixed ts ≡ fx → (all_fixed ts ≡ true → sizes_from 0 (editor_shapes es) ≡ fields_end 0 ts)
    → Same (structure_editor opens (largest_alignment ts) fx es).shape (shape_of (largest_alignment ts) fx (fixed_size (structure ts)))
structure_same opens es ts true e h =
    unfold structure_editor in record { same_alignment = refl; same_fixed = refl; same_size = λ z. structure_size (editor_shapes es) ts e (h e) }
structure_same opens es ts false e h = unfold structure_editor container_editor in loose (largest_alignment ts) (fixed_size (structure ts)) refl

basic_same : (b : Basic) → Same (basic_shape b) (type_shape (basic b))
unfolding alignment fixed fixed_size
basic_same bool = record { same_alignment = refl; same_fixed = refl; same_size = λ h. refl }
basic_same (number c) = record { same_alignment = refl; same_fixed = refl; same_size = λ h. refl }
basic_same (text c) = record { same_alignment = refl; same_fixed = refl; same_size = λ h. refl }

sizes_one : (k : ℕ) (e : Editor) → sizes_from k (editor_shapes (e ∷ [])) ≡ fixed_end k e.shape
unfolding sizes_from
sizes_one k e = refl

sizes_more : (k : ℕ) (e : Editor) (es : List Editor) → sizes_from k (editor_shapes (e ∷ es)) ≡ sizes_from (fixed_end k e.shape) (editor_shapes es)
unfolding sizes_from
sizes_more k e es = refl

module _ (big : Bool) (n : ℕ) where
  mutual
    unfolding alignment fixed fields_end

    pub editor_same : (t : Tree) → Same (editor_of big n t).shape (type_shape t)
    editor_same (basic b) = rw (editor_basic big n b) (basic_same b)
    editor_same variant = loose 8 (fixed_size variant) (variant_shape big n)
    editor_same (maybe t) =
        loose (alignment t) (fixed_size (maybe t)) (ap (λ (e : Editor). e.shape) (editor_maybe big n t) ∙ maybe_shape big (slot_of t) (alignment t) (fixed t) (editor_of big n t))
    editor_same (array t) = loose (alignment t) (fixed_size (array t)) (ap (λ (e : Editor). e.shape) (editor_array big n t) ∙ array_shape (alignment t) (fixed t) (editor_of big n t))
    editor_same (dictionary b t) = loose _ (fixed_size (dictionary b t)) (ap (λ (e : Editor). e.shape) (editor_dictionary big n b t) ∙ array_shape _ _ _)
    editor_same (structure ts) =
        rw (editor_structure big n ts) (structure_same (λ d. opened Depth.structure d) (editors_of big n ts) ts (all_fixed ts) refl (λ h. editors_size ts 0 h))

    editors_size : (ts : Fields) (k : ℕ) → all_fixed ts ≡ true → sizes_from k (editor_shapes (editors_of big n ts)) ≡ fields_end k ts
    editors_size (last t) k h =
        let g = editor_same t in
        ap (λ (es : List Editor). sizes_from k (editor_shapes es)) (editors_last big n t) ∙ sizes_one k (editor_of big n t) ∙ same_end g k (g.same_fixed ∙ h)
    editors_size (next t ts) k h =
        let b = both_true (fixed t) (all_fixed ts) h in
        let g = editor_same t in
        ap (λ (es : List Editor). sizes_from k (editor_shapes es)) (editors_next big n t ts) ∙ sizes_more k (editor_of big n t) (editors_of big n ts)
        ∙ ap (λ (i : ℕ). sizes_from i (editor_shapes (editors_of big n ts))) (same_end g k (g.same_fixed ∙ b.0))
        ∙ editors_size ts (fixed_end k (type_shape t)) b.1

  pub editor_alignment : (t : Tree) → (editor_of big n t).shape.alignment ≡ alignment t
  editor_alignment t = (editor_same t).same_alignment

  pub editor_fixed : (t : Tree) → (editor_of big n t).shape.fixed ≡ fixed t
  editor_fixed t = (editor_same t).same_fixed

-- ---- the fields of a structure

fields_one : (l : List ℕ) (b w : ℕ) (t : Editor) (k e : ℕ) → fields_from l b w (t ∷ []) k e
    ≡ found_piece t.shape.alignment t.shape.fixed (part (behind_padding k t.shape) (last_end t.shape.fixed (fixed_end k t.shape) b) l) ∷ []
unfolding fields_from
fields_one l b w t k e = refl

fields_more : (l : List ℕ) (b w : ℕ) (t : Editor) (es : List Editor) (k e : ℕ) → 0 < length es → fields_from l b w (t ∷ es) k e
    ≡ found_piece t.shape.alignment t.shape.fixed (part (behind_padding k t.shape) (field_end t.shape.fixed l w e (fixed_end k t.shape)) l)
    ∷ fields_from l b w es (field_end t.shape.fixed l w e (fixed_end k t.shape)) (offsets_left t.shape.fixed w e)
unfolding fields_from
fields_more l b w t [] k e h = absurd (omega arith)
fields_more l b w t (u ∷ es) k e h = refl

some_editors : (big : Bool) (n : ℕ) (ts : Fields) → 0 < length (editors_of big n ts)
some_editors big n (last t) = rw (editors_last big n t) (omega arith)
some_editors big n (next t ts) = rw (editors_next big n t ts) (omega arith)

pub pieces_are : (big : Bool) (n : ℕ) (l : List ℕ) (b w : ℕ) (ts : Fields) (k e : ℕ) → row_pieces l b w ts k e ≡ fields_from l b w (editors_of big n ts) k e
unfolding row_pieces
pieces_are big n l b w (last t) k e =
    let g = editor_same big n t in
    sym (ap (λ (es : List Editor). fields_from l b w es k e) (editors_last big n t) ∙ fields_one l b w (editor_of big n t) k e
    ∙ ap (λ (c : Piece). c ∷ []) (same_piece g l k _ (last_stop t b k) (same_last g b k)))
pieces_are big n l b w (next t ts) k e =
    let g = editor_same big n t in
    let v : Editor = editor_of big n t in
    let i : ℕ = field_end v.shape.fixed l w e (fixed_end k v.shape) in
    let q : i ≡ next_stop t l w e k = same_next g l w e k in
    let o : offsets_left v.shape.fixed w e ≡ offsets_left (fixed t) w e = ap (λ (x : Bool). offsets_left x w e) g.same_fixed in
    sym (ap (λ (es : List Editor). fields_from l b w es k e) (editors_next big n t ts) ∙ fields_more l b w v (editors_of big n ts) k e (some_editors big n ts)
    ∙ ap (λ (c : Piece). c ∷ fields_from l b w (editors_of big n ts) i (offsets_left v.shape.fixed w e)) (same_piece g l k i (next_stop t l w e k) q)
    ∙ ap (λ (x : ℕ). field_piece t l k (next_stop t l w e k) ∷ fields_from l b w (editors_of big n ts) x (offsets_left v.shape.fixed w e)) q
    ∙ ap (λ (x : ℕ). field_piece t l k (next_stop t l w e k) ∷ fields_from l b w (editors_of big n ts) (next_stop t l w e k) x) o
    ∙ ap (λ (cs : List Piece). field_piece t l k (next_stop t l w e k) ∷ cs) (sym (pieces_are big n l b w ts (next_stop t l w e k) (offsets_left (fixed t) w e))))
