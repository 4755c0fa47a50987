-- Numbers that show events, as a caller hands them to a write. Assumes nothing: these are definitions.
use Rattle.std.specs.Prelude.{◌≡◌, List, [], ◌∷◌, ℕ, ◌+◌, ◌≤◌, T, length, take, drop}
use Rattle.meaning.specs.Choice.{pick}
use Rattle.meaning.specs.Letters.{is_text_letter}
use Rattle.meaning.specs.Events.{Event}

-- Three numbers in front of r show an event: its kind, a place, its payload. Places matter only for texts: place and payload of a text
-- are a view of it inside the slice.
pub record ShowsOne (texts l : List ℕ) (e : Event) (r : List ℕ) : Type 0 where
  pub place : ℕ
  pub is : l ≡ e.kind ∷ place ∷ e.payload ∷ r
  pub contained : T (is_text_letter e.kind) → place + e.payload ≤ length texts
  pub same : T (is_text_letter e.kind) → take e.payload (drop place texts) ≡ e.text

-- the numbers l are events, one behind another, and then r
pub data Shows (texts : List ℕ) : List ℕ → List Event → List ℕ → Type 0 where
  ended : {r : List ℕ} → Shows texts r [] r
  more : {l m r : List ℕ} {e : Event} {es : List Event} → ShowsOne texts l e m → Shows texts m es r → Shows texts l (e ∷ es) r

-- the same numbers, with place 0 for every event that is no text
unfoldable pub unplaced : List ℕ → List ℕ
unplaced [] = []
unplaced (k ∷ []) = k ∷ []
unplaced (k ∷ p ∷ []) = k ∷ p ∷ []
unplaced (k ∷ p ∷ n ∷ r) = k ∷ pick (is_text_letter k) p 0 ∷ n ∷ unplaced r
