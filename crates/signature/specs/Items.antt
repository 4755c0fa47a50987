-- What an array or a dictionary repeats, from the letters and the shapes behind its own. Assumes nothing: these are definitions.
use Rattle.std.specs.Prelude.{◌≡◌, List, Bool, true, false, ◌&&◌, ℕ, ◌+◌, leb}
use Rattle.meaning.specs.Choice.{pick}
use Rattle.meaning.specs.Letters.{array_letter, dictionary_letter}
use Rattle.meaning.specs.Limits.{longest_type}
use Rattle.meaning.specs.Types.{Basic, Tree, array, dictionary, basic_fixed, fixed, alignment}
use Rattle.signature.specs.Places.{basic_kind, letter_at}
use Rattle.signature.specs.Steps.{key_fixed}
use Rattle.signature.specs.Shapes.{unpacked, shape_in}
use Rattle.signature.specs.Trees.{tree_at, Described}
use Rattle.signature.specs.declared.Letter.{Letter}
use Rattle.signature.specs.declared.Letter.TheVariants.{End, Bad, Boolean, Number, Text, Variant, Maybe, Array, OpenStructure, CloseStructure, OpenEntry, CloseEntry}
use Rattle.signature.specs.declared.shapes.Shape.{Shape}
use Rattle.signature.specs.declared.items.Item.{Item}

-- the number that a type is, or that it holds in a maybe, from its letter and the one behind it; another letter where there is none
abbrev pub held_number : Letter → Letter → Letter
held_number End b = End
held_number Bad b = Bad
held_number Boolean b = Boolean
held_number (Number c w) b = Number c w
held_number (Text c) b = Text c
held_number Variant b = Variant
held_number Maybe b = b
held_number Array b = Array
held_number OpenStructure b = OpenStructure
held_number CloseStructure b = CloseStructure
held_number OpenEntry b = OpenEntry
held_number CloseEntry b = CloseEntry

abbrev pub opens_entry : Letter → Bool
opens_entry End = false
opens_entry Bad = false
opens_entry Boolean = false
opens_entry (Number c w) = false
opens_entry (Text c) = false
opens_entry Variant = false
opens_entry Maybe = false
opens_entry Array = false
opens_entry OpenStructure = false
opens_entry CloseStructure = false
opens_entry OpenEntry = true
opens_entry CloseEntry = false

-- an entry, by its key's letter and its value's shape; its alignment is the dictionary's
abbrev pub entry_item : ℕ → Letter → Shape → Item
entry_item a key value = record { entry = true; child = value; key = key; keyed = key_fixed key; alignment = a; fixed = key_fixed key && value.fixed; number = End }

-- an element, by its shape and the letter behind its first one
abbrev pub element_item : ℕ → Shape → Letter → Item
element_item a element behind = record { entry = false; child = element; key = End; keyed = false; alignment = a; fixed = element.fixed; number = held_number element.kind behind }

-- of the array or dictionary of a shape, in a text and by its table
unfoldable pub item_in : List ℕ → List ℕ → Shape → Item
item_in l t s =
    pick (leb s.at longest_type)
    (pick (opens_entry (letter_at l (s.at + 1)))
    (entry_item s.alignment (letter_at l (s.at + 2)) (shape_in l t (s.at + 3)))
    (element_item s.alignment (shape_in l t (s.at + 1)) (letter_at l (s.at + 2))))
    (element_item 0 (unpacked 0 End 0) End)

-- what an item says of a dictionary's entry
pub record EntryOf (text shapes : List ℕ) (at : ℕ) (i : Item) : Type 0 where
  pub key : Basic
  pub it : Tree
  pub tree : tree_at text at ≡ dictionary key it
  pub value : tree_at text i.child.at ≡ it
  pub child : Described text shapes i.child
  pub entry : i.entry ≡ true
  pub same_key : i.key ≡ basic_kind key
  pub same_keyed : i.keyed ≡ basic_fixed key
  pub same_alignment : i.alignment ≡ alignment (dictionary key it)
  pub same_fixed : i.fixed ≡ (basic_fixed key && fixed it)
  pub same_number : i.number ≡ End

-- and of an array's element: the number that it is or holds is told by its letters
pub record ElementOf (text shapes : List ℕ) (at : ℕ) (i : Item) : Type 0 where
  pub it : Tree
  pub tree : tree_at text at ≡ array it
  pub value : tree_at text i.child.at ≡ it
  pub child : Described text shapes i.child
  pub entry : i.entry ≡ false
  pub same_key : i.key ≡ End
  pub same_alignment : i.alignment ≡ alignment it
  pub same_fixed : i.fixed ≡ fixed it
  pub same_number : i.number ≡ held_number (letter_at text i.child.at) (letter_at text (i.child.at + 1))

-- the kind of an array's first event, or of a dictionary's
abbrev pub item_kind : Item → ℕ
item_kind i = pick i.entry dictionary_letter array_letter
