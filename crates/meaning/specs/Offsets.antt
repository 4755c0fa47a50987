-- Framing offsets: their width, and their table as it is written and as it is read where it stands. Assumes nothing: these are
-- definitions. Offsets are little-endian in either byte order.
use Rattle.std.specs.Prelude.{List, [], ◌∷◌, ◌++◌, Bool, true, ◌&&◌, ℕ, zero, suc, ◌+◌, ◌*◌, ◌-◌, ◌/◌, ◌%◌, ◌^◌, leb, eqb, length, take, drop}
use Rattle.meaning.specs.Choice.{pick}
use Rattle.meaning.specs.Numbers.{bytes, value}

-- the largest number of a width
abbrev pub largest : ℕ → ℕ
largest w = 256 ^ w - 1

-- the first of some widths that holds the length of a body with its `count` offsets of that width, or else `other`
unfoldable pub first_width : ℕ → List ℕ → ℕ → ℕ → ℕ
first_width other [] body count = other
first_width other (w ∷ ws) body count =
    pick (leb (body + count * w) (largest w)) w (first_width other ws body count)

-- the width for a length, table included: 1 up to 255, 2 up to 65,535, 4 up to 4,294,967,295, else 8
unfoldable pub encoded_width : ℕ → ℕ
encoded_width len = first_width 8 (1 ∷ 2 ∷ 4 ∷ []) len 0

-- the width of a written table: the smallest that fits a body and its offsets, 8 where no smaller one does
unfoldable pub written_width : ℕ → ℕ → ℕ
written_width body count = first_width 8 (1 ∷ 2 ∷ 4 ∷ []) body count

-- the same, and 0 where not even 8 fits
unfoldable pub bare_width : ℕ → ℕ → ℕ
bare_width body count = first_width 0 (1 ∷ 2 ∷ 4 ∷ 8 ∷ []) body count

-- a table as it is written: in order behind an array's elements, from the back behind a structure's fields
unfoldable pub table : ℕ → List ℕ → List ℕ
table w [] = []
table w (e ∷ es) = bytes w e ++ table w es

unfoldable pub back_table : ℕ → List ℕ → List ℕ
back_table w [] = []
back_table w (e ∷ es) = back_table w es ++ bytes w e

-- the offset of a width that ends at a place of a container
abbrev pub offset_before : ℕ → ℕ → List ℕ → ℕ
offset_before w end l = value (take w (drop (end - w) l))

-- the last offset of a container, 0 if it is empty
abbrev pub last_offset : ℕ → List ℕ → ℕ
last_offset w l = offset_before w (length l) l

-- `count` numbers one behind another
unfoldable pub entries : ℕ → ℕ → List ℕ → List ℕ
entries zero w l = []
entries (suc n) w l = value (take w l) ∷ entries n w (drop w l)

unfoldable pub none_above : ℕ → List ℕ → Bool
none_above n [] = true
none_above n (e ∷ es) = leb e n && none_above n es

-- the table of an array or dictionary: it begins at the container's last offset and runs to its end
pub record Table : Type 0 where
  pub start : ℕ
  pub count : ℕ
  pub width : ℕ

unfoldable pub table_from : ℕ → ℕ → List ℕ → Table
table_from w start l = record { start = start; count = (length l - start) / w; width = w }

unfoldable pub table_of : List ℕ → Table
table_of l = table_from (encoded_width (length l)) (last_offset (encoded_width (length l)) l) l

-- the ends that a table gives
unfoldable pub ends_of : Table → List ℕ → List ℕ
ends_of t l = entries t.count t.width (drop t.start l)

-- a table is refused where it starts past the container, has a leftover piece, or an entry above its start
unfoldable pub table_stands : Table → List ℕ → Bool
table_stands t l =
    leb t.start (length l)
    && (eqb ((length l - t.start) % t.width) 0 && none_above t.start (ends_of t l))
