-- The depth record and its three limits. Assumes nothing: these are definitions.
use Rattle.std.specs.Prelude.{ℕ, ◌+◌, ◌-◌, ltb}
use Rattle.meaning.specs.Choice.{pick}
use Rattle.meaning.specs.Limits.{most_structures, most_arrays, most_containers}
use Rattle.meaning.specs.Refusals.{structures_too_deep, arrays_too_deep, containers_too_deep}

-- how many containers of each kind are open; dictionaries count as arrays
pub record Depths : Type 0 where
  pub structure : ℕ
  pub array : ℕ
  pub variant : ℕ
  pub maybe : ℕ

pub data Opened : Type 0 where
  structure array variant maybe : Opened

abbrev pub depths : ℕ → ℕ → ℕ → ℕ → Depths
depths s a v m = record { structure = s; array = a; variant = v; maybe = m }

abbrev pub none_open : Depths
none_open = depths 0 0 0 0

abbrev pub total : Depths → ℕ
total d = d.structure + d.array + d.variant + d.maybe

-- structure 32, array 32, total 64: one more is refused, in that order
unfoldable pub depth_refusal : Depths → ℕ
depth_refusal d =
    pick (ltb most_structures d.structure) structures_too_deep
    (pick (ltb most_arrays d.array) arrays_too_deep
    (pick (ltb most_containers (total d)) containers_too_deep
    0))

-- one more container is open, or one less; lowering a 0 leaves 0
abbrev pub opened : Opened → Depths → Depths
opened structure d = depths (d.structure + 1) d.array d.variant d.maybe
opened array d = depths d.structure (d.array + 1) d.variant d.maybe
opened variant d = depths d.structure d.array (d.variant + 1) d.maybe
opened maybe d = depths d.structure d.array d.variant (d.maybe + 1)

abbrev pub closed : Opened → Depths → Depths
closed structure d = depths (d.structure - 1) d.array d.variant d.maybe
closed array d = depths d.structure (d.array - 1) d.variant d.maybe
closed variant d = depths d.structure d.array (d.variant - 1) d.maybe
closed maybe d = depths d.structure d.array d.variant (d.maybe - 1)
