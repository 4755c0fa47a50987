-- The elements of an array from one of them on, where they are not fixed and their ends stand in a table. Assumes nothing: these are
-- definitions.
use Rattle.std.specs.Prelude.{◌≡◌, List, ◌∷◌, ◌++◌, Bool, true, false, ◌&&◌, ℕ, zero, suc, ◌+◌, ◌-◌, ◌*◌, ◌≤◌, leb, length}
use Rattle.meaning.specs.Limits.{largest_frame}
use Rattle.meaning.specs.Numbers.{value}
use Rattle.meaning.specs.Padding.{Aligns, padding}
use Rattle.meaning.specs.Offsets.{written_width, table}
use Rattle.meaning.specs.Written.{Piece, layout, ends}
use Rattle.meaning_writing.specs.Shapes.{part}
use Rattle.meaning_writing.specs.Edited.{elements_from}
use Rattle.framing_offset_size.specs.Widths.{width_of}
use Rattle.editor_basic.specs.declared.elements.Elements.{Elements}
use Rattle.editor_basic.specs.declared.elements.Child.{Child}

-- as they stand in the array's bytes
abbrev pub elements_in : Elements → List ℕ → List Piece
elements_in e l = elements_from e.alignment false l (width_of e.size) e.count e.from e.place

-- where the first of them begins and ends, and those behind it
abbrev pub start_of : Elements → ℕ
start_of e = e.place + padding e.place e.alignment

abbrev pub end_in : Elements → List ℕ → ℕ
end_in e l = value (part e.from (e.from + width_of e.size) l)

abbrev pub behind_of : Elements → ℕ → Elements
behind_of e end =
    record { alignment = e.alignment; size = e.size; count = e.count - 1; from = e.from + width_of e.size; place = end }

-- none of them ends before it begins or behind the array
unfoldable pub rises : ℕ → List ℕ → ℕ → ℕ → ℕ → ℕ → Bool
rises a l w zero j k = true
rises a l w (suc m) j k =
    leb (k + padding k a) (value (part j (j + w) l))
    && (leb (value (part j (j + w) l)) (length l) && rises a l w m (j + w) (value (part j (j + w) l)))

pub record Standing (e : Elements) (l : List ℕ) : Type 0 where
  pub aligned : Aligns e.alignment
  pub short : length l ≤ largest_frame
  pub inside : e.place ≤ length l
  pub room : e.from + e.count * width_of e.size ≤ length l
  pub up : rises e.alignment l (width_of e.size) e.count e.from e.place ≡ true

-- the first of them
pub record FirstOf (e : Elements) (l : List ℕ) (c : Child) : Type 0 where
  pub start : c.start ≡ start_of e
  pub end : c.end ≡ end_in e l
  pub order : c.start ≤ c.end
  pub inside : c.end ≤ length l
  pub behind : Standing (behind_of e c.end) l

-- An array whose elements in front stay, whose next one ends at the place `to` now, and whose rest is laid out from there: how many elements
-- it has, where they end, and the width of its offsets.
module _ (front rest : Elements) (l : List ℕ) (to : ℕ) where
  abbrev pub count_now : ℕ
  count_now = front.count + (rest.count + 1)

  abbrev pub body_now : ℕ
  body_now = to + length (layout to (elements_in rest l))

  abbrev pub width_now : ℕ
  width_now = written_width body_now count_now

  -- what stands behind that place, and the array's length
  abbrev pub rest_now : List ℕ
  rest_now = layout to (elements_in rest l) ++ table width_now (ends 0 (elements_in front l) ++ (to ∷ ends to (elements_in rest l)))

  abbrev pub length_now : ℕ
  length_now = body_now + count_now * width_now
