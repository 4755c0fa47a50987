-- What a writer is asked to write: a type by its place in a text, at a depth. Assumes nothing: these are definitions.
use Rattle.std.specs.Prelude.{◌≡◌, List, Bool, true, false, ℕ, ◌-◌, ◌≤◌}
use Rattle.meaning.specs.Choice.{pick}
use Rattle.meaning.specs.Limits.{most_variants, most_containers}
use Rattle.meaning.specs.Padding.{Aligns}
use Rattle.meaning.specs.Types.{Tree, Fields, basic, variant, maybe, alignment, fixed, basic_fixed}
use Rattle.meaning.specs.Written.{Piece}
use Rattle.meaning_writing.specs.Writing.{Built, Builder}
use Rattle.meaning_writing.specs.Emitting.{emit_basic, emit_array, emit_entry, emit_variant, emit_fields, emit}
use Rattle.container_depths.specs.Opening.{depths_of}
use Rattle.signature.specs.Trees.{tree_at, Described}
use Rattle.signature.specs.declared.Letter.{Letter}
use Rattle.signature.specs.declared.Letter.TheVariants.{Number}
use Rattle.signature.specs.declared.items.Item.{Item}
use Rattle.signature.specs.Items.{item_kind}
use Rattle.writer_basic.specs.Wrote.{key_basic, IsKey, many_of}
use Rattle.writer_basic.specs.declared.Context.{Context}

-- what a type is written as where so many variants are nested, and what fields are
abbrev pub value_of : List ℕ → Bool → ℕ → Tree → Builder Piece
value_of texts big nested t = emit texts big (most_variants - nested) t

abbrev pub fields_of : List ℕ → Bool → ℕ → Fields → Builder (List Piece)
fields_of texts big nested ts = emit_fields texts big (emit_variant texts big (λ u. emit texts big (most_containers - nested) u)) ts

-- what is repeated in an array or a dictionary
unfoldable pub item_of : List ℕ → Bool → ℕ → List ℕ → Item → Builder Piece
item_of texts big nested text i =
    pick i.entry
    (emit_entry i.alignment i.fixed (emit_basic texts big (key_basic i.key)) (value_of texts big nested (tree_at text i.child.at)))
    (value_of texts big nested (tree_at text i.child.at))

-- what is repeated is a number: plain where it is fixed, in a maybe where it is not
pub record NumberItem (text : List ℕ) (i : Item) (k : Letter) : Type 0 where
  pub key : IsKey k
  pub whole : basic_fixed (key_basic k) ≡ true
  pub plain : i.fixed ≡ true → tree_at text i.child.at ≡ basic (key_basic k)
  pub held : i.fixed ≡ false → tree_at text i.child.at ≡ maybe (basic (key_basic k))

-- what is known of it: its type stands in the text, its alignment is one; of an entry, that its key is one
pub record Repeated (text shapes : List ℕ) (i : Item) : Type 0 where
  pub child : Described text shapes i.child
  pub aligned : Aligns i.alignment
  pub key : i.entry ≡ true → IsKey i.key
  pub keyed : i.entry ≡ true → i.keyed ≡ basic_fixed (key_basic i.key)
  pub whole : i.entry ≡ true → i.fixed ≡ true → basic_fixed (key_basic i.key) ≡ true
  pub alone : i.entry ≡ false → i.alignment ≡ alignment (tree_at text i.child.at)
  pub loose : i.entry ≡ false → i.fixed ≡ fixed (tree_at text i.child.at)
  pub number : i.entry ≡ false → (c w : ℕ) → i.number ≡ Number c w → NumberItem text i (Number c w)

-- and that it is what the array or dictionary at a place repeats
pub record ItemAt (text shapes : List ℕ) (at : ℕ) (i : Item) : Type 0 where
  pub repeated : Repeated text shapes i
  pub body : (texts : List ℕ) (big : Bool) (nested : ℕ) → nested ≤ most_containers → value_of texts big nested (tree_at text at) ≡ emit_array (item_kind i) i.alignment i.fixed (item_of texts big nested text i)

-- the same by what rides along: a value, the fields of a structure, one of what is repeated, and all of it
abbrev pub value_in : Context → List ℕ → Tree → List ℕ → Built Piece
value_in c texts t = value_of texts c.big c.depths.variant t (depths_of c.depths)

abbrev pub fields_in : Context → List ℕ → Fields → List ℕ → Built (List Piece)
fields_in c texts ts = fields_of texts c.big c.depths.variant ts (depths_of c.depths)

abbrev pub item_in : Context → List ℕ → List ℕ → Item → List ℕ → Built Piece
item_in c texts text i = item_of texts c.big c.depths.variant text i (depths_of c.depths)

abbrev pub items_in : Context → List ℕ → List ℕ → Item → List ℕ → Built (List Piece)
items_in c texts text i = many_of (item_in c texts text i)

abbrev pub variant_tree : Tree
variant_tree = variant
