-- Parts of a frame where they stand. Assumes nothing: these are definitions.
use Rattle.std.specs.Prelude.{List, [], Bool, ℕ, ◌+◌, leb, length, take, drop}
use Rattle.meaning.specs.Choice.{pick}

-- so many bytes stand at a place; a sum past 64 bits is past every frame
abbrev pub holds : List ℕ → ℕ → ℕ → Bool
holds l place len = leb (place + len) (length l)

-- these bytes, none where they do not all stand there
unfoldable pub part_at : List ℕ → ℕ → ℕ → List ℕ
part_at l place len = pick (holds l place len) (take len (drop place l)) []
