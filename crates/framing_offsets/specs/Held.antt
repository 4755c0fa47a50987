-- A table of framing offsets by its own bytes. Assumes nothing: these are definitions.
use Rattle.std.specs.Prelude.{List, [], ℕ, drop}
use Rattle.meaning.specs.Choice.{pick}
use Rattle.meaning.specs.Offsets.{Table, table_from, table_of, table_stands}

-- the table that the bytes themselves are
abbrev pub held_table : ℕ → List ℕ → Table
held_table w l = table_from w 0 l

-- the bytes of the table of a whole array or dictionary, none where it is refused
unfoldable pub table_bytes : List ℕ → List ℕ
table_bytes l = pick (table_stands (table_of l) l) (drop (table_of l).start l) []
