-- The edited frame as a function of the old frame's bytes: the readings in it, counted, where one stands, and the frame with it changed.
-- Assumes nothing: these are definitions.
use Rattle.std.specs.Prelude.{List, [], ◌∷◌, ◌++◌, Bool, true, false, ℕ, zero, suc, ◌+◌, ◌-◌, ◌*◌, ◌/◌, ltb, eqb, length, take, drop}
use Rattle.std.proofs.Math.Option.{Option, none, some}
use Rattle.meaning.specs.Choice.{pick}
use Rattle.meaning.specs.Numbers.{bytes, value, ordered}
use Rattle.meaning.specs.Padding.{padding}
use Rattle.meaning.specs.Offsets.{encoded_width, last_offset}
use Rattle.meaning.specs.Depths as Depth
use Rattle.meaning.specs.Depths.{Depths, opened}
use Rattle.meaning.specs.Types.{Tree, Fields, basic, variant, maybe, array, dictionary, structure, last, next, number_width, alignment, largest_alignment, fixed, all_fixed, entry_alignment, entry_fixed}
use Rattle.meaning.specs.TypeText.{type_of}
use Rattle.meaning.specs.Written.{Piece, stop, array_bytes, structure_bytes}
use Rattle.meaning.specs.Reading.{separator}
use Rattle.meaning_writing.specs.Shapes.{Shape, shape_of, basic_shape, behind_padding, fixed_end, offset_count, last_end, field_end, offsets_left, structure_shape, part}
use Rattle.meaning_writing.specs.Readings.{MaybeNumber, Spot, spot_at, nowhere, Slot, of_bool, of_number, slot_of, slot_type}

-- Of a type: its shape. Of a written form of it: how many readings it has; where the i-th stands, if so many containers are open and its
-- first byte has a place in the frame; and the written form with the i-th changed.
pub record Editor : Type 0 where
  pub shape : Shape
  pub count : List ℕ → ℕ
  pub spot : Depths → ℕ → List ℕ → ℕ → Spot
  pub edited : List ℕ → ℕ → MaybeNumber → List ℕ

abbrev pub editor_shapes : List Editor → List Shape
editor_shapes [] = []
editor_shapes (t ∷ ts) = t.shape ∷ editor_shapes ts

-- a type that has no readings
abbrev pub still : Shape → Editor
still s =
    record { shape = s; count = λ l. 0; spot = λ d p l i. nowhere; edited = λ l i x. l }

-- a reading's bytes: a nothing has none
unfoldable pub slot_bytes : Bool → {t : Tree} → Slot t → MaybeNumber → List ℕ
slot_bytes big s none = []
slot_bytes big of_bool (some n) = n ∷ []
slot_bytes big (of_number c) (some n) = ordered big (bytes (number_width c) n)

-- another maybe: the child's bytes in its own, and its own round the child's
unfoldable pub child_bytes : Bool → List ℕ → List ℕ
child_bytes true l = l
child_bytes false l = take (length l - 1) l

unfoldable pub round_child : Bool → List ℕ → List ℕ
round_child true l = l
round_child false l = l ++ (0 ∷ [])

unfoldable pub count_maybe : Bool → Editor → List ℕ → ℕ
count_maybe fx t l = pick (eqb (length l) 0) 0 (t.count (child_bytes fx l))

unfoldable pub maybe_editor : Bool → {t : Tree} → Option (Slot t) → ℕ → Bool → Editor → Editor
maybe_editor big (some s) a fx t = record {
  shape = shape_of a false 0;
  count = λ l. 1;
  spot = λ d p l i. spot_at (slot_type s) p d;
  edited = λ l i x. slot_bytes big s x;
}
maybe_editor big none a fx t = record {
  shape = shape_of a false 0;
  count = λ l. count_maybe fx t l;
  spot = λ d p l i. t.spot (opened Depth.maybe d) p (child_bytes fx l) i;
  edited = λ l i x. round_child fx (t.edited (child_bytes fx l) i x);
}

-- children as they stand in the bytes
abbrev pub found_piece : ℕ → Bool → List ℕ → Piece
found_piece a fx l = record { alignment = a; fixed = fx; bytes = l; events = λ k. []; valid = true; shallow = λ d. true }

-- so many elements from the place k on, their offsets of width w from j on
unfoldable pub elements_from : ℕ → Bool → List ℕ → ℕ → ℕ → ℕ → ℕ → List Piece
elements_from a fx l w zero j k = []
elements_from a fx l w (suc m) j k =
    found_piece a fx (part (k + padding k a) (value (part j (j + w) l)) l) ∷ elements_from a fx l w m (j + w) (value (part j (j + w) l))

-- those of an array whose body has s bytes
unfoldable pub elements_before : ℕ → Bool → List ℕ → ℕ → ℕ → List Piece
elements_before a fx l w s = elements_from a fx l w ((length l - s) / w) s 0

abbrev pub elements_of : Editor → List ℕ → List Piece
elements_of t l =
    elements_before t.shape.alignment t.shape.fixed l (encoded_width (length l)) (last_offset (encoded_width (length l)) l)

-- fields from the place k on, their offsets up to e and their body up to b
unfoldable pub fields_from : List ℕ → ℕ → ℕ → List Editor → ℕ → ℕ → List Piece
fields_from l b w [] k e = []
fields_from l b w (t ∷ []) k e =
    found_piece t.shape.alignment t.shape.fixed (part (behind_padding k t.shape) (last_end t.shape.fixed (fixed_end k t.shape) b) l) ∷ []
fields_from l b w (t ∷ u ∷ ts) k e =
    found_piece t.shape.alignment t.shape.fixed (part (behind_padding k t.shape) (field_end t.shape.fixed l w e (fixed_end k t.shape)) l)
    ∷ fields_from l b w (u ∷ ts) (field_end t.shape.fixed l w e (fixed_end k t.shape)) (offsets_left t.shape.fixed w e)

abbrev pub fields_of : List Editor → List ℕ → List Piece
fields_of ts l =
    fields_from l (length l - offset_count (editor_shapes ts) * encoded_width (length l)) (encoded_width (length l)) ts 0 (length l)

-- children with their editors, laid out from the place k of a container that begins at p: their readings counted; where the i-th stands;
-- and the children with it changed
pub record Child : Type 0 where
  pub editor : Editor
  pub piece : Piece

abbrev pub child_count : Child → ℕ
child_count c = c.editor.count c.piece.bytes

abbrev pub child_spot : Depths → ℕ → ℕ → Child → ℕ → Spot
child_spot d p k c i = c.editor.spot d (p + (k + padding k c.piece.alignment)) c.piece.bytes i

abbrev pub child_edited : Child → ℕ → MaybeNumber → Piece
child_edited c i x = found_piece c.piece.alignment c.piece.fixed (c.editor.edited c.piece.bytes i x)

unfoldable pub count_in : List Child → ℕ
count_in [] = 0
count_in (c ∷ cs) = child_count c + count_in cs

unfoldable pub spot_in : Depths → ℕ → ℕ → List Child → ℕ → Spot
spot_in d p k [] i = nowhere
spot_in d p k (c ∷ cs) i =
    pick (ltb i (child_count c)) (child_spot d p k c i) (spot_in d p (stop k c.piece) cs (i - child_count c))

unfoldable pub pieces_of : List Child → List Piece
pieces_of [] = []
pieces_of (c ∷ cs) = c.piece ∷ pieces_of cs

unfoldable pub edited_in : List Child → ℕ → MaybeNumber → List Piece
edited_in [] i x = []
edited_in (c ∷ cs) i x =
    pick (ltb i (child_count c)) (child_edited c i x ∷ pieces_of cs) (c.piece ∷ edited_in cs (i - child_count c) x)

-- elements all have one editor, fields each their own
unfoldable pub alike : Editor → List Piece → List Child
alike t [] = []
alike t (c ∷ cs) = record { editor = t; piece = c } ∷ alike t cs

unfoldable pub each : List Editor → List Piece → List Child
each [] cs = []
each (t ∷ ts) [] = []
each (t ∷ ts) (c ∷ cs) = record { editor = t; piece = c } ∷ each ts cs

-- a container of readings, from its children and from its bytes with other children
unfoldable pub container_editor : ℕ → (Depths → Depths) → (List ℕ → List Child) → (List Piece → List ℕ) → Editor
container_editor a opens children_in written = record {
  shape = shape_of a false 0;
  count = λ l. count_in (children_in l);
  spot = λ d p l i. spot_in (opens d) p 0 (children_in l) i;
  edited = λ l i x. written (edited_in (children_in l) i x);
}

unfoldable pub array_editor : ℕ → Bool → Editor → Editor
array_editor a true t = still (shape_of a false 0)
array_editor a false t = container_editor a (λ d. opened Depth.array d) (λ l. alike t (elements_of t l)) (λ cs. array_bytes false cs)

-- a structure, or a dictionary's entry, which opens nothing
unfoldable pub structure_editor : (Depths → Depths) → ℕ → Bool → List Editor → Editor
structure_editor opens a true ts = still (structure_shape a true (editor_shapes ts))
structure_editor opens a false ts = container_editor a opens (λ l. each ts (fields_of ts l)) (λ cs. structure_bytes a false cs)

-- a variant: the value in front of the separator, which with the type's text stays
module _ (editor : Tree → Editor) (l : List ℕ) (s : ℕ) where
  unfoldable pub count_typed : Option Tree → ℕ
  count_typed none = 0
  count_typed (some t) = (editor t).count (take (s - 1) l)

  unfoldable pub spot_typed : Depths → ℕ → ℕ → Option Tree → Spot
  spot_typed d p i none = nowhere
  spot_typed d p i (some t) = (editor t).spot (opened Depth.variant d) p (take (s - 1) l) i

  unfoldable pub edited_typed : ℕ → MaybeNumber → Option Tree → List ℕ
  edited_typed i x none = l
  edited_typed i x (some t) = (editor t).edited (take (s - 1) l) i x ++ (0 ∷ drop s l)

unfoldable pub variant_editor : (Tree → Editor) → Editor
variant_editor editor = record {
  shape = shape_of 8 false 0;
  count = λ l. count_typed editor l (separator l) (type_of (drop (separator l) l));
  spot = λ d p l i. spot_typed editor l (separator l) d p i (type_of (drop (separator l) l));
  edited = λ l i x. edited_typed editor l (separator l) i x (type_of (drop (separator l) l));
}

module _ (big : Bool) (variants : Editor) where
  unfoldable mutual
    pub editor_over : Tree → Editor
    editor_over (basic b) = still (basic_shape b)
    editor_over variant = variants
    editor_over (maybe t) = maybe_editor big (slot_of t) (alignment t) (fixed t) (editor_over t)
    editor_over (array t) = array_editor (alignment t) (fixed t) (editor_over t)
    editor_over (dictionary b t) =
        array_editor (entry_alignment b t) (entry_fixed b t)
        (structure_editor (λ d. d) (entry_alignment b t) (entry_fixed b t)
        (still (basic_shape b) ∷ editor_over t ∷ []))
    editor_over (structure ts) = structure_editor (λ d. opened Depth.structure d) (largest_alignment ts) (all_fixed ts) (editors_over ts)

    pub editors_over : Fields → List Editor
    editors_over (last t) = editor_over t ∷ []
    editors_over (next t ts) = editor_over t ∷ editors_over ts

unfoldable pub editor_of : Bool → ℕ → Tree → Editor
editor_of big zero t = editor_over big (still (shape_of 8 false 0)) t
editor_of big (suc n) t = editor_over big (variant_editor (λ u. editor_of big n u)) t

-- the editor of variants, and those of fields, where so many may stand one inside another
unfoldable pub variants_editor : Bool → ℕ → Editor
variants_editor big zero = still (shape_of 8 false 0)
variants_editor big (suc n) = variant_editor (λ u. editor_of big n u)

abbrev pub editors_of : Bool → ℕ → Fields → List Editor
editors_of big n ts = editors_over big (variants_editor big n) ts

-- THE EDITED FRAME: how many readings a frame has; where the i-th stands; the frame with it changed, whose length is the new length
unfoldable pub reading_count : Bool → ℕ → Tree → List ℕ → ℕ
reading_count big n t l = (editor_of big n t).count l

unfoldable pub reading_spot : Bool → ℕ → Tree → Depths → List ℕ → ℕ → Spot
reading_spot big n t d l i = (editor_of big n t).spot d 0 l i

unfoldable pub edited_frame : Bool → ℕ → Tree → List ℕ → ℕ → MaybeNumber → List ℕ
edited_frame big n t l i x = (editor_of big n t).edited l i x
