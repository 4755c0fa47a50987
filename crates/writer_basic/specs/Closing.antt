-- What stands round children that are written: from the children's answer r, whatever was to be written, to the answer q of what holds them.
-- Assumes nothing: these are definitions.
use Rattle.std.specs.Prelude.{◌≡◌, List, [], Bool, true, ℕ, ◌+◌, ◌<◌, length}
use Rattle.meaning.specs.Types.{Tree}
use Rattle.meaning.specs.TypeText.{type_text}
use Rattle.meaning.specs.Written.{Piece, field_ends, array_piece}
use Rattle.meaning_writing.specs.Writing.{Built, built, mapped, sealed}
use Rattle.writer_basic.specs.Wrote.{Answer, Run, Done, DoneAll, marks_of, around_child, around_value, Structured}

-- a maybe round its child
abbrev pub RoundChild : Bool → ℕ → List ℕ → List ℕ → Answer → Answer → Type 0
RoundChild fixed start out out' r q =
    (x : Built Piece) (ns : List ℕ) (a i top : ℕ) (l s s' : List ℕ) → length out ≡ length l → Done x ns (i + 3) start top l out s s' r
    → Done (around_child a fixed x) ns i start top l out' s s' q

-- the event that closes behind a row
abbrev pub BehindRow : List ℕ → Run → Run → Type 0
BehindRow ns r q =
    (m : ℕ → List Piece → List ℕ) (x : Built (List Piece)) (i base top k j : ℕ) (l l' s s' : List ℕ) → DoneAll m x ns i base top k j l l' s s' r
    → DoneAll m (sealed x) ns i base top k j l l' s s' q

-- an array round its elements
abbrev pub RoundElements : Bool → ℕ → ℕ → List ℕ → List ℕ → List ℕ → List ℕ → Run → Answer → Type 0
RoundElements fixed start top out out' ends ends' r q =
    (x : Built (List Piece)) (ns : List ℕ) (kind a i : ℕ) (l s : List ℕ) → length out ≡ length l → length ends ≡ length s
    → DoneAll (marks_of fixed) x ns (i + 3) start top 0 0 l out s ends r
    → Done (mapped (array_piece kind a fixed) x) ns i start top l out' s ends' q

-- a structure, or an entry, round its fields; one that is fixed keeps no ends
abbrev pub RoundFields : Bool → ℕ → ℕ → ℕ → List ℕ → List ℕ → List ℕ → Run → Answer → Type 0
RoundFields fixed alignment start top out out' ends r q =
    (P : List Piece → Piece) (x : Built (List Piece)) (ns : List ℕ) (i k : ℕ) (l s : List ℕ) → Structured alignment fixed P
    → (fixed ≡ true → (cs : List Piece) (rest : List ℕ) → x ≡ built cs rest → field_ends 0 cs ≡ []) → (r.refusal ≡ 0 → i < r.next)
    → length out ≡ length l → length ends ≡ length s → DoneAll field_ends x ns k start top 0 0 l out s ends r
    → Done (mapped P x) ns i start top l out' s ends q

-- a variant round its value, of a type with that text
abbrev pub RoundValue : List ℕ → List ℕ → ℕ → List ℕ → List ℕ → Answer → Answer → Type 0
RoundValue text ns start out out' r q =
    (x : Built Piece) (t : Tree) (i top : ℕ) (l s s' : List ℕ) → type_text t ≡ text → length out ≡ length l
    → Done x ns (i + 6) start top l out s s' r → Done (around_value t x) ns i start top l out' s s' q
