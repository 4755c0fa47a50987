-- The ends that are kept: where they stand, and what was stored of a value with them. Assumes nothing: these are definitions.
use Rattle.std.specs.Prelude.{ℕ, ◌+◌, ◌-◌, ◌*◌, ◌≤◌, ◌<◌, min, ◌≡◌, List, [], ◌∷◌, ◌++◌, Bool, true, false, ltb, length, take, get_or}
use Rattle.meaning.specs.Choice.{pick}
use Rattle.meaning.specs.Limits.{largest_frame}
use Rattle.writer_store.specs.Stores.{sum}

-- how many bytes of the frame's tail the ends up to one of a number take: those behind the first 128 have two each
abbrev pub tail : ℕ → ℕ
tail i = 2 * (i - 127)

-- the end of a number: in the slice s, or in the tail of the frame l
unfoldable pub end_at : List ℕ → List ℕ → ℕ → ℕ
end_at l s i = pick (ltb i 128) (get_or s i 0) (get_or l (length l - tail i) 0 + 256 * get_or l (length l - tail i + 1) 0)

-- what was stored: bytes from a place on, with all in front of them as it was; of the ends the first n are as they were, and es behind them
pub record Stored (l s l' s' : List ℕ) (place : ℕ) (bytes : List ℕ) (n : ℕ) (es : List ℕ) : Type 0 where
  pub bytes_are : take (place + length bytes) l' ≡ take place l ++ bytes
  pub same : (i : ℕ) → i < n → end_at l' s' i ≡ end_at l s i
  pub has : (i : ℕ) → i < length es → end_at l' s' (n + i) ≡ get_or es i 0

-- There is room for n bytes from start on, where so many ends are kept, and for all ends that are kept while they are written.
-- An end that is kept has two bytes of a table to come, or one in a container of at most 255 bytes.
pub record Room (l s : List ℕ) (start n top : ℕ) : Type 0 where
  pub inside : start + n + (min n 255 + 2 * top - 255) ≤ length l
  pub limit : length l ≤ largest_frame
  pub ready : 128 ≤ length s

-- ---- what the functions answer

pub record EndAt (i : ℕ) (l s : List ℕ) (r : ℕ) : Type 0 where
  pub is : tail i ≤ length l → 128 ≤ length s → r ≡ end_at l s i
  pub small : r < 65536

-- an end is stored: the others are as they were, and so is what stands in front of it
pub record PutEnd (i end : ℕ) (l l' s s' : List ℕ) : Type 0 where
  pub is : tail i ≤ length l → 128 ≤ length s → end < 65536 → end_at l' s' i ≡ end
  pub others : tail i ≤ length l → (k : ℕ) → (k ≡ i → ⊥) → tail k ≤ length l → end_at l' s' k ≡ end_at l s k
  pub front : tail i ≤ length l → (place : ℕ) → place + tail i ≤ length l → take place l' ≡ take place l

-- an end is kept behind so many others, or skipped; their number afterwards
pub record Kept (top j end : ℕ) (skip : Bool) (l l' s s' : List ℕ) (r : ℕ) : Type 0 where
  pub skips : skip ≡ true → (r ≡ j) × ((l' ≡ l) × (s' ≡ s))
  pub counts : skip ≡ false → r ≡ sum j 1
  pub keeps : skip ≡ false → (place : ℕ) → place + tail (top + j) ≤ length l → 128 ≤ length s → end < 65536 → Stored l s l' s' place [] (top + j) (end ∷ [])

-- two ends are exchanged: the others are as they were, and so is what stands in front of them
pub record Swapped (i j : ℕ) (l l' s s' : List ℕ) : Type 0 where
  pub first : tail j ≤ length l → 128 ≤ length s → end_at l' s' i ≡ end_at l s j
  pub last : tail j ≤ length l → 128 ≤ length s → end_at l' s' j ≡ end_at l s i
  pub others : tail j ≤ length l → (k : ℕ) → (k ≡ i → ⊥) → (k ≡ j → ⊥) → tail k ≤ length l → end_at l' s' k ≡ end_at l s k
  pub front : tail j ≤ length l → (place : ℕ) → place + tail j ≤ length l → take place l' ≡ take place l

-- so many ends are turned round
pub record Turned (top count : ℕ) (l l' s s' : List ℕ) : Type 0 where
  pub each : 2 * (top + count - 128) ≤ length l → 128 ≤ length s → (k : ℕ) → k < count → end_at l' s' (top + k) ≡ end_at l s (top + (count - 1 - k))
  pub below : 2 * (top + count - 128) ≤ length l → 128 ≤ length s → (k : ℕ) → k < top → end_at l' s' k ≡ end_at l s k
  pub front : 2 * (top + count - 128) ≤ length l → 128 ≤ length s → (place : ℕ) → place + 2 * (top + count - 128) ≤ length l → take place l' ≡ take place l

-- there is room for a table of so many ends at a place, in front of the ends that it is made of and of those below them
pub record TableRoom (l s : List ℕ) (at width top count : ℕ) (es : List ℕ) : Type 0 where
  pub many : length es ≡ count
  pub has : (i : ℕ) → i < length es → end_at l s (top + i) ≡ get_or es i 0
  pub before : at + 2 * (top + count - 128) ≤ length l
  pub behind : at + count * width + 2 * (top - 128) ≤ length l
  pub narrow : 0 < count → width ≤ 2
  pub ready : 128 ≤ length s

pub record TableFrom (T : List ℕ → List ℕ) (at width top count : ℕ) (l l' s s' : List ℕ) : Type 0 where
  pub stored : (es : List ℕ) → TableRoom l s at width top count es → Stored l s l' s' at (T es) top []
