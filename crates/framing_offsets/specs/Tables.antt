-- A table of framing offsets as code holds it, and what the leaves over it answer. Assumes nothing: these are definitions.
use Rattle.std.specs.Prelude.{◌≡◌, List, ℕ, ◌+◌, ◌*◌, leb, get_or, Result, Ok, Err}
use Rattle.meaning.specs.Choice.{pick}
use Rattle.meaning.specs.Refusals.{out_of_bounds}
use Rattle.meaning.specs.Offsets.{Table, table_from, table_of, ends_of, table_stands}
use Rattle.meaning.specs.Parts.{holds}
use Rattle.utils.specs.Checks.{Checked}
use Rattle.framing_offsets.specs.declared.OffsetTable.{OffsetTable}
use Rattle.meaning.specs.declared.refusals.Refusal.{Refusal}
use Rattle.meaning.specs.Refused.{number_of}
use Rattle.utils.specs.Checks.{passed, failed}
use Rattle.framing_offset_size.specs.declared.FramingOffsetSize.TheVariants.{U8}
use Rattle.framing_offset_size.specs.Widths.{width_of}

abbrev pub table_in : OffsetTable → Table
table_in t = record { start = t.start; count = t.count; width = width_of t.size }

abbrev pub count_from : ℕ → ℕ → List ℕ → ℕ
count_from w start l = (table_from w start l).count

abbrev pub empty_table : Table
empty_table = record { start = 0; count = 0; width = 1 }

-- a refusal's number, 0 where there is none, and the table, an empty one where it is refused
pub record EncodedArray : Type 0 where
  pub refusal : ℕ
  pub offsets : OffsetTable

-- what a table is answered with
abbrev pub encoded_in : Result OffsetTable Refusal → EncodedArray
encoded_in (Ok t) = record { refusal = 0; offsets = t }
encoded_in (Err r) = record { refusal = number_of r; offsets = record { start = 0; count = 0; size = U8 } }

-- the table of a whole array or dictionary; every fault in it is 3
pub record Encoded (l : List ℕ) (r : EncodedArray) : Type 0 where
  pub refusal : r.refusal ≡ pick (table_stands (table_of l) l) 0 out_of_bounds
  pub table : table_in r.offsets ≡ pick (table_stands (table_of l) l) (table_of l) empty_table

-- an offset by its number: 3 behind the last one, and where the table is longer than the container
unfoldable pub offset_in : Table → ℕ → List ℕ → Checked
offset_in t i l =
    pick (leb t.count i) (failed out_of_bounds)
    (pick (holds l (t.start + i * t.width) t.width) (passed (get_or (ends_of t l) i 0)) (failed out_of_bounds))
