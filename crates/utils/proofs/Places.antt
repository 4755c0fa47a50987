-- Whether bytes stand at a place, from the tests of the code. Assumes nothing.
use Rattle.std.proofs.lemmas.List.{get_or-take, get_or-drop}
use Rattle.std.proofs.Common.{◌≡◌, ℕ, ◌+◌, ◌-◌, ◌<◌, ◌≤◌, Bool, true, false, leb, List, length, take, drop, get_or, length-take, length-drop, sym, refl, ◌∙◌, arith, le-leb, leb-false, leb-true}
use borrow.Author.Tests.{lt-leb}
use Rattle.meaning.specs.Parts.{holds}

pub holds_not : (l : List ℕ) (place len : ℕ) → length l < place → false ≡ holds l place len
holds_not l place len h = sym (lt-leb (place + len) (length l) (omega arith))

pub holds_rest : (l : List ℕ) (place len : ℕ) → place ≤ length l → leb len (length l - place) ≡ holds l place len
holds_rest l place len h = go (leb len (length l - place)) refl
  where
    go : (b : Bool) → leb len (length l - place) ≡ b → leb len (length l - place) ≡ holds l place len
    go true e = e ∙ sym (le-leb (place + len) (length l) (omega (arith, leb-true len (length l - place) e)))
    go false e = e ∙ sym (lt-leb (place + len) (length l) (omega (arith, leb-false len (length l - place) e)))

pub within : (l : List ℕ) (place len : ℕ) {b : Bool} → b ≡ holds l place len → b ≡ true → place + len ≤ length l
within l place len h t = leb-true (place + len) (length l) (sym h ∙ t)

-- the bytes from a place on, one by one
module _ (l : List ℕ) (place count : ℕ) where
  pub part_length : place + count ≤ length l → length (take (place + count - place) (drop place l)) ≡ count
  part_length h = simp (length-take, length-drop) (omega arith)

  pub part_item : {i : ℕ} → i < count → get_or (take (place + count - place) (drop place l)) i 0 ≡ get_or l (place + i) 0
  part_item {i} h = get_or-take (place + count - place) (drop place l) i 0 (omega arith) ∙ get_or-drop place l i 0
