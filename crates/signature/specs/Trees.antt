-- The types and the rows of fields that stand at a place of a type text. Assumes nothing: these are definitions.
use Rattle.std.specs.Prelude.{◌≡◌, List, [], ℕ, ◌≤◌, length, drop}
use Rattle.std.proofs.Math.Option.{none, some}
use Rattle.meaning.specs.Types.{bool, Tree, Fields, basic, last}
use Rattle.meaning.specs.TypeText.{Found, found, first_type, first_fields}
use Rattle.meaning.specs.Limits.{longest_type}
use Rattle.signature.specs.Places.{child_at}
use Rattle.signature.specs.Shapes.{Shaped, shape}
use Rattle.signature.specs.declared.shapes.Shape.{Shape}

-- the type at a place of a text, where there is one
unfoldable pub tree_by : Found Tree → Tree
tree_by none = basic bool
tree_by (some g) = g.it

abbrev pub tree_at : List ℕ → ℕ → Tree
tree_at text at = tree_by (first_type (drop at text))

unfoldable pub behind_by : {A : Type 0} → Found A → List ℕ
behind_by none = []
behind_by (some g) = g.behind

-- there is one, in a text that is not too long
pub record Typed (text : List ℕ) (at : ℕ) : Type 0 where
  pub short : length text ≤ longest_type
  pub found : first_type (drop at text) ≡ found (tree_at text at) (behind_by (first_type (drop at text)))

-- the fields from a place of a text on, where there are some
unfoldable pub fields_by : Found Fields → Fields
fields_by none = last (basic bool)
fields_by (some g) = g.it

abbrev pub fields_at : List ℕ → ℕ → Fields
fields_at text at = fields_by (first_fields (drop at text))

pub record Rowed (text : List ℕ) (at : ℕ) : Type 0 where
  pub short : length text ≤ longest_type
  pub found : first_fields (drop at text) ≡ found (fields_at text at) (behind_by (first_fields (drop at text)))

-- what there is to say of the type at a place
abbrev pub shaped_at : List ℕ → ℕ → Shape
shaped_at text at = shape at (child_at text at)

-- a type stands where a shape says, and is as it says; and the table has the shapes of its text
pub record Described (text shapes : List ℕ) (s : Shape) : Type 0 where
  pub typed : Typed text s.at
  pub is : s ≡ shaped_at text s.at
  pub table : Shaped text shapes
