-- The clauses of the editor, type by type; and the edit of a container as a walk makes it: the child that holds the reading is found by counting,
-- what stands in front of it stays, it is edited, those behind it are laid out anew, and then come the new ends. Assumes nothing.
use mathlib.Core.Path.{◌≡◌, refl, sym, ap, ◌∙◌}
use mathlib.Core.List.{List, [], ◌∷◌, ◌++◌, append_assoc}
use mathlib.Core.Bool.{Bool, true, false}
use Prim.Native.Nat.{ℕ, zero, suc, ◌+◌, ◌*◌, ◌<◌}
use native.Mathlib.Omega.{arith}
use lib.ListN.{length, length-append}
use Rattle.meaning.specs.Padding.{padding, zeros}
use Rattle.meaning.specs.Offsets.{written_width, table, back_table}
use Rattle.meaning.specs.Depths as Depth
use Rattle.meaning.specs.Depths.{opened}
use Rattle.meaning.specs.Types.{Basic, Tree, Fields, basic, variant, maybe, array, dictionary, structure, last, next, alignment, largest_alignment, fixed, all_fixed, entry_alignment, entry_fixed}
use Rattle.meaning.specs.Written.{Piece, stop, layout, ends, field_ends, unless, array_bytes, structure_bytes}
use Rattle.meaning_writing.specs.Shapes.{basic_shape}
use Rattle.meaning_writing.specs.Readings.{slot_of}
use Rattle.meaning_writing.specs.Edited.{still, maybe_editor, array_editor, structure_editor, variant_editor, editor_over, editor_of, variants_editor, editors_of}
use Rattle.meaning.proofs.LayoutLaws.{placed, layout_cons, stop_placed, length_table, length_back_table, length_ends, layout_first}
use Rattle.meaning_writing.proofs.PieceLaws.{field_ends_more}

-- ---- the clauses

pub editor_over_lem : (big : Bool) (n : ℕ) (t : Tree) → editor_of big n t ≡ editor_over big (variants_editor big n) t
unfolding editor_of variants_editor
editor_over_lem big zero t = refl
editor_over_lem big (suc n) t = refl

module _ (big : Bool) (n : ℕ) where
  pub editor_basic : (b : Basic) → editor_of big n (basic b) ≡ still (basic_shape b)
  editor_basic b = editor_over_lem big n (basic b) ∙ (unfold editor_over in refl)

  pub editor_variant : editor_of big (suc n) variant ≡ variant_editor (λ u. editor_of big n u)
  unfolding editor_of editor_over
  editor_variant = refl

  pub editor_maybe : (t : Tree) → editor_of big n (maybe t) ≡ maybe_editor big (slot_of t) (alignment t) (fixed t) (editor_of big n t)
  editor_maybe t = rw (editor_over_lem big n (maybe t), editor_over_lem big n t) (unfold editor_over in refl)

  pub editor_array : (t : Tree) → editor_of big n (array t) ≡ array_editor (alignment t) (fixed t) (editor_of big n t)
  editor_array t = rw (editor_over_lem big n (array t), editor_over_lem big n t) (unfold editor_over in refl)

  pub editor_dictionary : (b : Basic) (t : Tree) → editor_of big n (dictionary b t)
      ≡ array_editor (entry_alignment b t) (entry_fixed b t)
      (structure_editor (λ d. d) (entry_alignment b t) (entry_fixed b t) (still (basic_shape b) ∷ editor_of big n t ∷ []))
  editor_dictionary b t = rw (editor_over_lem big n (dictionary b t), editor_over_lem big n t) (unfold editor_over in refl)

  pub editor_structure : (ts : Fields) → editor_of big n (structure ts) ≡ structure_editor (λ d. opened Depth.structure d) (largest_alignment ts) (all_fixed ts) (editors_of big n ts)
  editor_structure ts = editor_over_lem big n (structure ts) ∙ (unfold editor_over in refl)

  pub editors_last : (t : Tree) → editors_of big n (last t) ≡ editor_of big n t ∷ []
  editors_last t = rw (editor_over_lem big n t) (unfold editor_over in refl)

  pub editors_next : (t : Tree) (ts : Fields) → editors_of big n (next t ts) ≡ editor_of big n t ∷ editors_of big n ts
  editors_next t ts = rw (editor_over_lem big n t) (unfold editor_over in refl)

-- ---- children, by counting

-- where children end that are laid out from the place k
abbrev pub end_of : ℕ → List Piece → ℕ
end_of k cs = k + length (layout k cs)

pub end_of_cons : (k : ℕ) (c : Piece) (cs : List Piece) → end_of k (c ∷ cs) ≡ end_of (stop k c) cs
end_of_cons k c cs =
    let a = ap length (layout_cons k c cs ∙ sym (append_assoc (zeros (padding k c.alignment)) c.bytes (layout (stop k c) cs))) in
    let b = length-append (placed k c) (layout (stop k c) cs) in
    let d = stop_placed k c in
    omega arith

pub end_of_none : (k : ℕ) → end_of k [] ≡ k
unfolding layout
end_of_none k = omega arith

-- ---- one child among others: what is written in front of it does not go by it; those behind it and their ends begin where it stops

pub layout_among : (k : ℕ) (xs : List Piece) (c : Piece) (ys : List Piece) → layout k (xs ++ (c ∷ ys)) ≡ layout k xs ++ (placed (end_of k xs) c ++ layout (stop (end_of k xs) c) ys)
layout_among k [] c ys = layout_first k c ys ∙ ap (λ (e : ℕ). placed e c ++ layout (stop e c) ys) (sym (end_of_none k)) ∙ layout_none k (placed (end_of k []) c ++ layout (stop (end_of k []) c) ys)
  where
    layout_none : (k : ℕ) (l : List ℕ) → l ≡ layout k [] ++ l
    layout_none k l = unfold layout in refl
layout_among k (x ∷ xs) c ys =
    layout_first k x (xs ++ (c ∷ ys)) ∙ ap (λ (l : List ℕ). placed k x ++ l) (layout_among (stop k x) xs c ys)
    ∙ ap (λ (e : ℕ). placed k x ++ (layout (stop k x) xs ++ (placed e c ++ layout (stop e c) ys))) (sym (end_of_cons k x xs))
    ∙ sym (append_assoc (placed k x) (layout (stop k x) xs) (placed (end_of k (x ∷ xs)) c ++ layout (stop (end_of k (x ∷ xs)) c) ys))
    ∙ ap (λ (l : List ℕ). l ++ (placed (end_of k (x ∷ xs)) c ++ layout (stop (end_of k (x ∷ xs)) c) ys)) (sym (layout_first k x xs))

pub ends_among : (k : ℕ) (xs : List Piece) (c : Piece) (ys : List Piece) → ends k (xs ++ (c ∷ ys)) ≡ ends k xs ++ (stop (end_of k xs) c ∷ ends (stop (end_of k xs) c) ys)
unfolding ends
ends_among k [] c ys = ap (λ (e : ℕ). stop e c ∷ ends (stop e c) ys) (sym (end_of_none k))
ends_among k (x ∷ xs) c ys =
    ap (λ (l : List ℕ). stop k x ∷ l) (ends_among (stop k x) xs c ys)
    ∙ ap (λ (e : ℕ). stop k x ∷ (ends (stop k x) xs ++ (stop e c ∷ ends (stop e c) ys))) (sym (end_of_cons k x xs))

-- of fields: the ends of those in front, none of which is last, and the ends from the child on
unfoldable pub ends_before : ℕ → List Piece → List ℕ
ends_before k [] = []
ends_before k (x ∷ xs) = unless x.fixed (stop k x) (ends_before (stop k x) xs)

unless_append : (b : Bool) (e : ℕ) (xs ys : List ℕ) → unless b e (xs ++ ys) ≡ unless b e xs ++ ys
unless_append true e xs ys = refl
unless_append false e xs ys = refl

some_behind : (xs : List Piece) (c : Piece) (ys : List Piece) → 0 < length (xs ++ (c ∷ ys))
some_behind [] c ys = omega arith
some_behind (x ∷ xs) c ys = omega arith

pub field_ends_among : (k : ℕ) (xs : List Piece) (c : Piece) (ys : List Piece) → field_ends k (xs ++ (c ∷ ys)) ≡ ends_before k xs ++ field_ends (end_of k xs) (c ∷ ys)
unfolding ends_before
field_ends_among k [] c ys = ap (λ (e : ℕ). field_ends e (c ∷ ys)) (sym (end_of_none k))
field_ends_among k (x ∷ xs) c ys =
    field_ends_more k x (xs ++ (c ∷ ys)) (some_behind xs c ys)
    ∙ ap (λ (l : List ℕ). unless x.fixed (stop k x) l) (field_ends_among (stop k x) xs c ys ∙ ap (λ (e : ℕ). ends_before (stop k x) xs ++ field_ends e (c ∷ ys)) (sym (end_of_cons k x xs)))
    ∙ unless_append x.fixed (stop k x) (ends_before (stop k x) xs) (field_ends (end_of k (x ∷ xs)) (c ∷ ys))

pub end_of_among : (k : ℕ) (xs : List Piece) (c : Piece) (ys : List Piece) → end_of k (xs ++ (c ∷ ys)) ≡ end_of (stop (end_of k xs) c) ys
end_of_among k [] c ys = end_of_cons k c ys ∙ ap (λ (e : ℕ). end_of (stop e c) ys) (sym (end_of_none k))
end_of_among k (x ∷ xs) c ys =
    end_of_cons k x (xs ++ (c ∷ ys)) ∙ end_of_among (stop k x) xs c ys ∙ ap (λ (e : ℕ). end_of (stop e c) ys) (sym (end_of_cons k x xs))

-- ---- a container with one child changed: what stands up to the child's end; then the children behind it, laid out from there; then the table, whose
-- width is chosen anew

module _ (xs : List Piece) (c : Piece) (ys : List Piece) where
  -- what stands up to the child's end, and where that is
  abbrev pub up_to : List ℕ
  up_to = layout 0 xs ++ placed (end_of 0 xs) c

  abbrev pub up_to_end : ℕ
  up_to_end = stop (end_of 0 xs) c

  body_is : layout 0 (xs ++ (c ∷ ys)) ≡ up_to ++ layout up_to_end ys
  body_is = layout_among 0 xs c ys ∙ sym (append_assoc (layout 0 xs) (placed (end_of 0 xs) c) (layout up_to_end ys))

  body_end : length (layout 0 (xs ++ (c ∷ ys))) ≡ end_of up_to_end ys
  body_end = let e = end_of_among 0 xs c ys in omega arith

  pub array_rewritten : array_bytes false (xs ++ (c ∷ ys))
      ≡ up_to ++ (layout up_to_end ys ++ table (written_width (end_of up_to_end ys) (length (xs ++ (c ∷ ys)))) (ends 0 xs ++ (up_to_end ∷ ends up_to_end ys)))
  unfolding array_bytes
  array_rewritten =
      ap (λ (n : ℕ). layout 0 (xs ++ (c ∷ ys)) ++ table (written_width n (length (xs ++ (c ∷ ys)))) (ends 0 (xs ++ (c ∷ ys)))) body_end
      ∙ ap (λ (es : List ℕ). layout 0 (xs ++ (c ∷ ys)) ++ table (written_width (end_of up_to_end ys) (length (xs ++ (c ∷ ys)))) es) (ends_among 0 xs c ys)
      ∙ ap (λ (l : List ℕ). l ++ table (written_width (end_of up_to_end ys) (length (xs ++ (c ∷ ys)))) (ends 0 xs ++ (up_to_end ∷ ends up_to_end ys))) body_is
      ∙ append_assoc up_to (layout up_to_end ys) (table (written_width (end_of up_to_end ys) (length (xs ++ (c ∷ ys)))) (ends 0 xs ++ (up_to_end ∷ ends up_to_end ys)))

  -- the offsets of a structure, the last in front
  abbrev pub offsets_now : List ℕ
  offsets_now = ends_before 0 xs ++ field_ends (end_of 0 xs) (c ∷ ys)

  pub structure_rewritten : (a : ℕ) → structure_bytes a false (xs ++ (c ∷ ys)) ≡ up_to ++ (layout up_to_end ys ++ back_table (written_width (end_of up_to_end ys) (length offsets_now)) offsets_now)
  unfolding structure_bytes
  structure_rewritten a =
      ap (λ (n : ℕ). layout 0 (xs ++ (c ∷ ys)) ++ back_table (written_width n (length (field_ends 0 (xs ++ (c ∷ ys))))) (field_ends 0 (xs ++ (c ∷ ys)))) body_end
      ∙ ap (λ (es : List ℕ). layout 0 (xs ++ (c ∷ ys)) ++ back_table (written_width (end_of up_to_end ys) (length es)) es) (field_ends_among 0 xs c ys)
      ∙ ap (λ (l : List ℕ). l ++ back_table (written_width (end_of up_to_end ys) (length offsets_now)) offsets_now) body_is
      ∙ append_assoc up_to (layout up_to_end ys) (back_table (written_width (end_of up_to_end ys) (length offsets_now)) offsets_now)

  -- and its length
  pub array_length : length (array_bytes false (xs ++ (c ∷ ys))) ≡ end_of up_to_end ys + length (xs ++ (c ∷ ys)) * written_width (end_of up_to_end ys) (length (xs ++ (c ∷ ys)))
  unfolding array_bytes
  array_length =
      let cs : List Piece = xs ++ (c ∷ ys) in
      length-append (layout 0 cs) (table (written_width (length (layout 0 cs)) (length cs)) (ends 0 cs))
      ∙ ap (λ (n : ℕ). length (layout 0 cs) + n) (length_table (written_width (length (layout 0 cs)) (length cs)) (ends 0 cs) ∙ ap (λ (n : ℕ). n * written_width (length (layout 0 cs)) (length cs)) (length_ends 0 cs))
      ∙ ap (λ (n : ℕ). n + length cs * written_width n (length cs)) body_end

  pub structure_length : (a : ℕ) → length (structure_bytes a false (xs ++ (c ∷ ys))) ≡ end_of up_to_end ys + length offsets_now * written_width (end_of up_to_end ys) (length offsets_now)
  unfolding structure_bytes
  structure_length a =
      let cs : List Piece = xs ++ (c ∷ ys) in
      length-append (layout 0 cs) (back_table (written_width (length (layout 0 cs)) (length (field_ends 0 cs))) (field_ends 0 cs))
      ∙ ap (λ (n : ℕ). length (layout 0 cs) + n) (length_back_table (written_width (length (layout 0 cs)) (length (field_ends 0 cs))) (field_ends 0 cs))
      ∙ ap (λ (n : ℕ). n + length (field_ends 0 cs) * written_width n (length (field_ends 0 cs))) body_end
      ∙ ap (λ (es : List ℕ). end_of up_to_end ys + length es * written_width (end_of up_to_end ys) (length es)) (field_ends_among 0 xs c ys)
