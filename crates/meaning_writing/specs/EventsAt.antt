-- The event at a place of a list of numbers: one of a kind that carries only 0, one that views a text, or why it is neither. Assumes nothing:
-- these are definitions.
use Rattle.std.specs.Prelude.{◌≡◌, List, ℕ, ◌+◌, ◌≤◌, ◌<◌, length, take, drop, get_or}

pub record PlainAt (kind : ℕ) (ns : List ℕ) (i : ℕ) : Type 0 where
  pub whole : i + 3 ≤ length ns
  pub kind_is : get_or ns i 0 ≡ kind
  pub carries : get_or ns (i + 2) 0 ≡ 0

pub data NotPlain (kind : ℕ) (ns : List ℕ) (i : ℕ) : Type 0 where
  short : length ns < i + 3 → NotPlain kind ns i
  other : i + 3 ≤ length ns → (get_or ns i 0 ≡ kind → ⊥) → NotPlain kind ns i
  carrying : i + 3 ≤ length ns → get_or ns i 0 ≡ kind → (get_or ns (i + 2) 0 ≡ 0 → ⊥) → NotPlain kind ns i

-- the text that the event at a place views
abbrev pub viewed : List ℕ → List ℕ → ℕ → List ℕ
viewed texts ns i = take (get_or ns (i + 2) 0) (drop (get_or ns (i + 1) 0) texts)

pub record TextAt (texts : List ℕ) (kind : ℕ) (ns : List ℕ) (i : ℕ) : Type 0 where
  pub whole : i + 3 ≤ length ns
  pub kind_is : get_or ns i 0 ≡ kind
  pub contained : get_or ns (i + 1) 0 + get_or ns (i + 2) 0 ≤ length texts

pub data NotText (texts : List ℕ) (kind : ℕ) (ns : List ℕ) (i : ℕ) : Type 0 where
  short : length ns < i + 3 → NotText texts kind ns i
  other : i + 3 ≤ length ns → (get_or ns i 0 ≡ kind → ⊥) → NotText texts kind ns i
  outside : i + 3 ≤ length ns → get_or ns i 0 ≡ kind → length texts < get_or ns (i + 1) 0 + get_or ns (i + 2) 0 → NotText texts kind ns i
