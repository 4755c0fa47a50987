-- The text of a type, and the type of a text. Assumes nothing: these are definitions.
use Rattle.std.specs.Prelude.{List, [], ◌∷◌, ◌++◌, ℕ, zero, suc, ◌+◌, ◌*◌, leb, eqb, length}
use Rattle.std.proofs.Math.Option.{Option, none, some}
use Rattle.meaning.specs.Choice.{pick}
use Rattle.meaning.specs.Limits.{longest_type}
use Rattle.meaning.specs.Types.{byte, int16, uint16, int32, uint32, int64, uint64, double, string, object_path, signature, Basic, bool, number, text, Tree, Fields, basic, variant, maybe, array, dictionary, structure, last, next}
use Rattle.meaning.specs.Letters.{basic_letter, variant_letter, maybe_letter, array_letter, dictionary_letter, entry_end, structure_letter, container_end}

-- the grammar: a basic letter; v; m or a and a type; a{ with a key, a type and }; ( with one or more types and )
unfoldable mutual
  pub type_text : Tree → List ℕ
  type_text (basic b) = basic_letter b ∷ []
  type_text variant = variant_letter ∷ []
  type_text (maybe t) = maybe_letter ∷ type_text t
  type_text (array t) = array_letter ∷ type_text t
  type_text (dictionary b t) = array_letter ∷ dictionary_letter ∷ basic_letter b ∷ (type_text t ++ (entry_end ∷ []))
  type_text (structure ts) = structure_letter ∷ fields_text ts

  pub fields_text : Fields → List ℕ
  fields_text (last t) = type_text t ++ (container_end ∷ [])
  fields_text (next t ts) = type_text t ++ fields_text ts

-- what a text begins with, and what is left behind it
pub record Begun (A : Type 0) : Type 0 where
  pub it : A
  pub behind : List ℕ

abbrev pub Found : Type 0 → Type 0
Found A = Option (Begun A)

abbrev pub found : {A : Type 0} → A → List ℕ → Found A
found a l = some (record { it = a; behind = l })

abbrev pub basics : List Basic
basics =
    bool ∷
    number byte ∷
    number int16 ∷
    number uint16 ∷
    number int32 ∷
    number uint32 ∷
    number int64 ∷
    number uint64 ∷
    number double ∷
    text string ∷
    text object_path ∷
    text signature ∷
    []

unfoldable pub basic_among : ℕ → List Basic → Option Basic
basic_among c [] = none
basic_among c (b ∷ bs) = pick (eqb c (basic_letter b)) (some b) (basic_among c bs)

abbrev pub basic_of : ℕ → Option Basic
basic_of c = basic_among c basics

unfoldable pub made : {A B : Type 0} → (A → B) → Found A → Found B
made f none = none
made f (some g) = found (f g.it) g.behind

-- what was found, where this character stands behind it
unfoldable pub ended_by : {A : Type 0} → ℕ → Found A → Found A
ended_by c none = none
ended_by c (some g) = elim g.behind [ [] ↦ none | x ∷ l ↦ pick (eqb x c) (found g.it l) none ]

unfoldable pub basic_tree : List ℕ → Option Basic → Found Tree
basic_tree l none = none
basic_tree l (some b) = found (basic b) l

-- behind `a{`: a basic key, a type and `}`
unfoldable pub entry_by : Found Tree → Option Basic → Found Tree
entry_by value none = none
entry_by value (some b) = made (dictionary b) (ended_by entry_end value)

-- the type that a text begins with, by the readers of a type and of fields
unfoldable pub entry_begun : (List ℕ → Found Tree) → List ℕ → Found Tree
entry_begun a_type [] = none
entry_begun a_type (c ∷ l) = entry_by (a_type l) (basic_of c)

unfoldable pub array_begun : (List ℕ → Found Tree) → List ℕ → Found Tree
array_begun a_type [] = none
array_begun a_type (c ∷ l) = pick (eqb c dictionary_letter) (entry_begun a_type l) (made array (a_type (c ∷ l)))

unfoldable pub type_begun : (List ℕ → Found Tree) → (List ℕ → Found Fields) → List ℕ → Found Tree
type_begun a_type some_fields [] = none
type_begun a_type some_fields (c ∷ l) =
    pick (eqb c variant_letter) (found variant l)
    (pick (eqb c maybe_letter) (made maybe (a_type l))
    (pick (eqb c array_letter) (array_begun a_type l)
    (pick (eqb c structure_letter) (made structure (some_fields l))
    (basic_tree l (basic_of c)))))

-- one or more types and `)`, of which the first is given
unfoldable pub fields_begun : (List ℕ → Found Fields) → Found Tree → Found Fields
fields_begun some_fields none = none
fields_begun some_fields (some g) = elim g.behind [
  | [] ↦ none
  | c ∷ l ↦ pick (eqb c container_end) (found (last g.it) l) (made (next g.it) (some_fields g.behind))
]

-- the number falls with each step: twice the text's length is enough, since the step from fields to the first of them takes no character
unfoldable mutual
  pub type_within : ℕ → List ℕ → Found Tree
  type_within zero l = none
  type_within (suc f) l = type_begun (λ r. type_within f r) (λ r. fields_within f r) l

  pub fields_within : ℕ → List ℕ → Found Fields
  fields_within zero l = none
  fields_within (suc f) l = fields_begun (λ r. fields_within f r) (type_within f l)

-- the type that a text begins with
unfoldable pub first_type : List ℕ → Found Tree
first_type l = type_within (2 * length l) l

-- the fields that a text begins with
unfoldable pub first_fields : List ℕ → Found Fields
first_fields l = fields_within (2 * length l + 1) l

unfoldable pub nothing_behind : Found Tree → Option Tree
nothing_behind none = none
nothing_behind (some g) = elim g.behind [ [] ↦ some g.it | x ∷ l ↦ none ]

-- one complete type, of 1 to 255 characters
unfoldable pub type_of : List ℕ → Option Tree
type_of l = pick (leb (length l) longest_type) (nothing_behind (first_type l)) none
