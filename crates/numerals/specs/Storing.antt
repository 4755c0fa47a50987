-- Texts stored in a slice: at its front, or from a place on. Assumes nothing: these are definitions.
use Rattle.std.specs.Prelude.{◌≡◌, List, ◌++◌, Bool, ℕ, ◌+◌, leb, length, drop}
use Rattle.std.proofs.lemmas.List.Edits.{sets}
use Rattle.meaning.specs.Choice.{pick}

-- a text at the front of a slice; what is left of the slice is unchanged
abbrev pub over : List ℕ → List ℕ → List ℕ
over text out = text ++ drop (length text) out

-- a text stored in a slice from a place on, and the place behind it
pub record Puts (out out' : List ℕ) (at : ℕ) (text : List ℕ) (r : ℕ) : Type 0 where
  pub next : r ≡ at + length text
  pub slice : out' ≡ sets out at text

-- does a text have room in a slice from a place on?
abbrev pub has_room : List ℕ → ℕ → List ℕ → Bool
has_room out at text = leb (at + length text) (length out)

-- the same where the text has room there; else nothing is stored
pub record Stores (out out' : List ℕ) (at : ℕ) (text : List ℕ) (r : ℕ) : Type 0 where
  pub next : r ≡ pick (has_room out at text) (at + length text) at
  pub slice : out' ≡ pick (has_room out at text) (sets out at text) out
