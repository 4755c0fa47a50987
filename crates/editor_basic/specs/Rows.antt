-- The fields of a structure from one of them on. Assumes nothing: these are definitions.
use Rattle.std.specs.Prelude.{◌≡◌, List, [], ◌∷◌, ◌++◌, reverse, Bool, true, false, ◌&&◌, ℕ, ◌+◌, ◌-◌, ◌*◌, ◌/◌, ◌≤◌, ◌<◌, leb, length, drop}
use Rattle.meaning.specs.Limits.{largest_frame}
use Rattle.meaning.specs.Padding.{Aligns}
use Rattle.meaning.specs.Offsets.{written_width, back_table, entries}
use Rattle.meaning.specs.Types.{Tree, Fields, last, next, alignment, fixed, fixed_size}
use Rattle.meaning.specs.Written.{Piece, layout, field_ends}
use Rattle.meaning_writing.specs.Shapes.{Shape, shape_of, part, behind_padding, fixed_end, last_end, field_end, offsets_left}
use Rattle.meaning_writing.specs.Edited.{found_piece}
use Rattle.signature.specs.Trees.{tree_at, fields_at, Rowed}
use Rattle.strict_sizes.specs.Sizes.{offsets_in, Tabled}
use Rattle.strict_ends.specs.declared.Extent.{Extent}
use Rattle.editor_basic.specs.declared.fields.Row.{Row}
use Rattle.editor_basic.specs.declared.fields.Field.{Field}

-- how a type lies among others; its size counts where it is fixed
abbrev pub type_shape : Tree → Shape
type_shape t = shape_of (alignment t) (fixed t) (fixed_size t)

-- a field from the place k on that ends at e
abbrev pub field_piece : Tree → List ℕ → ℕ → ℕ → Piece
field_piece t l k e = found_piece (alignment t) (fixed t) (part (behind_padding k (type_shape t)) e l)

-- where the last ends, and where another does, whose offset ends at e
abbrev pub last_stop : Tree → ℕ → ℕ → ℕ
last_stop t b k = last_end (fixed t) (fixed_end k (type_shape t)) b

abbrev pub next_stop : Tree → List ℕ → ℕ → ℕ → ℕ → ℕ
next_stop t l w e k = field_end (fixed t) l w e (fixed_end k (type_shape t))

-- fields from the place k on, their offsets up to e and their body up to b
module _ (l : List ℕ) (b w : ℕ) where
  unfoldable pub row_pieces : Fields → ℕ → ℕ → List Piece
  row_pieces (last t) k e = field_piece t l k (last_stop t b k) ∷ []
  row_pieces (next t ts) k e = field_piece t l k (next_stop t l w e k) ∷ row_pieces ts (next_stop t l w e k) (offsets_left (fixed t) w e)

  -- none of them ends before it begins or behind the structure
  abbrev pub between : Tree → ℕ → ℕ → Bool
  between t k e = leb (behind_padding k (type_shape t)) e && leb e (length l)

  unfoldable pub row_rises : Fields → ℕ → ℕ → Bool
  row_rises (last t) k e = between t k (last_stop t b k)
  row_rises (next t ts) k e = between t k (next_stop t l w e k) && row_rises ts (next_stop t l w e k) (offsets_left (fixed t) w e)

abbrev pub fields_in : List ℕ → Row → List ℕ → List Piece
fields_in text r l = row_pieces l r.body r.width (fields_at text r.at) r.place r.end

pub record StandingRow (text tables : List ℕ) (r : Row) (l : List ℕ) : Type 0 where
  pub rowed : Rowed text r.at
  pub table : Tabled text tables
  pub short : length l ≤ largest_frame
  pub wide : Aligns r.width
  pub inside : r.place ≤ length l
  pub body_inside : r.body ≤ length l
  pub end_inside : r.end ≤ length l
  pub room : offsets_in (fields_at text r.at) * r.width ≤ r.end
  pub up : row_rises l r.body r.width (fields_at text r.at) r.place r.end ≡ true

abbrev pub behind_field : Row → Field → Row
behind_field r f = record { at = f.next; place = f.stop; end = f.left; body = r.body; width = r.width }

-- a field as code makes it, from how it lies among others
abbrev pub field_of : Bool → Extent → ℕ → ℕ → ℕ → ℕ → Field
field_of final x start stop behind left =
    record { last = final; fixed = x.fixed; alignment = x.alignment; start = start; stop = stop; next = behind; left = left }

abbrev pub found_field : Field → List ℕ → Piece
found_field f l = found_piece f.alignment f.fixed (part f.start f.stop l)

-- the type of the first of them
abbrev pub type_at : List ℕ → Row → Tree
type_at text r = tree_at text r.at

-- a field that is the last
pub record LastOf (text : List ℕ) (r : Row) (f : Field) : Type 0 where
  pub fields : fields_at text r.at ≡ last (type_at text r)
  pub stop_is : f.stop ≡ last_stop (type_at text r) r.body r.place

-- those behind a field that is not the last
pub record RestOf (text tables : List ℕ) (r : Row) (l : List ℕ) (f : Field) : Type 0 where
  pub fields : fields_at text r.at ≡ next (type_at text r) (fields_at text f.next)
  pub stop_is : f.stop ≡ next_stop (type_at text r) l r.width r.end r.place
  pub left_is : f.left ≡ offsets_left (fixed (type_at text r)) r.width r.end
  pub pieces : fields_in text r l ≡ found_field f l ∷ fields_in text (behind_field r f) l
  pub stands : StandingRow text tables (behind_field r f) l
  pub onward : r.at < f.next
  pub within : f.next ≤ length text

-- the first of them
pub record FirstField (text tables : List ℕ) (r : Row) (l : List ℕ) (f : Field) : Type 0 where
  pub aligned : Aligns f.alignment
  pub same_alignment : f.alignment ≡ alignment (type_at text r)
  pub same_fixed : f.fixed ≡ fixed (type_at text r)
  pub start_is : f.start ≡ behind_padding r.place (type_shape (type_at text r))
  pub after : r.place ≤ f.start
  pub order : f.start ≤ f.stop
  pub inside : f.stop ≤ length l
  pub final : f.last ≡ true → LastOf text r f
  pub alone : f.last ≡ true → fields_in text r l ≡ found_field f l ∷ []
  pub rest : f.last ≡ false → RestOf text tables r l f

-- The ends of the fields in front of one whose offset ends at e, if it has one: their offsets stand from there on, the last in front.
abbrev pub kept_ends : ℕ → ℕ → List ℕ → List ℕ
kept_ends e w l = reverse (entries ((length l - e) / w) w (drop e l))

-- A structure whose last field ends at the place `to` now: the width of its offsets, what stands behind that place, and its length.
module _ (e w : ℕ) (l : List ℕ) (to : ℕ) where
  abbrev pub last_width : ℕ
  last_width = written_width to (length (kept_ends e w l))

  abbrev pub last_now : List ℕ
  last_now = back_table last_width (kept_ends e w l)

  abbrev pub last_length_now : ℕ
  last_length_now = to + length (kept_ends e w l) * last_width

-- The same of a structure whose changed field has others behind it, which are laid out from there.
module _ (text : List ℕ) (rest : Row) (l : List ℕ) (to : ℕ) where
  abbrev pub row_ends : List ℕ
  row_ends = kept_ends (rest.end + rest.width) rest.width l ++ (to ∷ field_ends to (fields_in text rest l))

  abbrev pub row_body : ℕ
  row_body = to + length (layout to (fields_in text rest l))

  abbrev pub row_width : ℕ
  row_width = written_width row_body (length row_ends)

  abbrev pub row_now : List ℕ
  row_now = layout to (fields_in text rest l) ++ back_table row_width row_ends

  abbrev pub row_length_now : ℕ
  row_length_now = row_body + length row_ends * row_width
