-- A container from the end of its changed child on: what stands behind the child is put, or the child's answer is handed on. Assumes nothing:
-- these are definitions.
use Rattle.std.specs.Prelude.{◌≡◌, List, Bool, true, false, ◌&&◌, ℕ, ◌+◌, ◌-◌, ◌*◌, ◌≤◌, ◌<◌, eqb, length}
use Rattle.meaning.specs.Choice.{pick}
use Rattle.meaning.specs.Limits.{largest_frame}
use Rattle.meaning.specs.Padding.{Aligns}
use Rattle.framing_offset_size.specs.Widths.{width_of}
use Rattle.signature.specs.Trees.{fields_at}
use Rattle.strict_sizes.specs.Sizes.{offsets_in}
use Rattle.editor_basic.specs.declared.elements.Elements.{Elements}
use Rattle.editor_basic.specs.declared.fields.Row.{Row}
use Rattle.editor_basic.specs.declared.fields.Field.{Field}
use Rattle.editor_basic.specs.Elements.{behind_of, Standing}
use Rattle.editor_basic.specs.Rows.{behind_field, StandingRow, last_now, row_now}
use Rattle.editor_basic.specs.Puts.{over}
use Rattle.editor_steps.specs.Walked.{Walked, edited_as}

abbrev pub edits : Walked → Bool
edits w = w.found && eqb w.refusal 0

-- a changed child that begins at a place of its container, which begins at p
pub record Fits (p start : ℕ) (w : Walked) : Type 0 where
  pub after : p + start ≤ w.place
  pub inside : w.place ≤ p + start + w.length
  pub short : start + w.length ≤ 250000000

-- where it ends in the container, and in the tail
abbrev pub end_now : ℕ → Walked → ℕ
end_now start w = start + w.length

abbrev pub end_in : ℕ → ℕ → Walked → ℕ
end_in p start w = end_now start w - (w.place - p)

pub record Closes (p start : ℕ) (rest : List ℕ) (more : ℕ) (w : Walked) (out out' : List ℕ) (r : Walked) : Type 0 where
  pub same : edits w ≡ false → r ≡ w
  pub kept : edits w ≡ false → out' ≡ out
  pub answer : edits w ≡ true → r ≡ edited_as w.place (end_now start w + length rest)
  pub bytes : edits w ≡ true → out' ≡ over out (end_in p start w) rest
  pub few : edits w ≡ true → length rest ≤ more

-- so many of an array's first elements
abbrev pub front_of : Elements → ℕ → Elements
front_of all n = record { alignment = all.alignment; size = all.size; count = n; from = all.from; place = all.place }

-- the elements of an array, and those from its changed one on, which ended at a place
pub record Behind (all rest : Elements) (end : ℕ) (l : List ℕ) : Type 0 where
  pub whole : Standing all l
  pub behind : Standing (behind_of rest end) l
  pub some : 0 < rest.count
  pub fewer : rest.count ≤ all.count
  pub near : rest.from + width_of rest.size < 1000000

-- a structure's changed field, and those behind it
pub record FieldBehind (text tables : List ℕ) (row : Row) (f : Field) (l : List ℕ) : Type 0 where
  pub short : length l ≤ largest_frame
  pub wide : Aligns row.width
  pub end_inside : row.end ≤ length l
  pub rest : f.last ≡ false → StandingRow text tables (behind_field row f) l
  pub room : f.last ≡ false → f.left + row.width ≤ length l
  pub exact : f.last ≡ false → row.body + offsets_in (fields_at text f.next) * row.width ≡ f.left

abbrev pub field_rest : List ℕ → Row → Field → List ℕ → ℕ → List ℕ
field_rest text row f l to = pick f.last (last_now row.end row.width l to) (row_now text (behind_field row f) l to)
