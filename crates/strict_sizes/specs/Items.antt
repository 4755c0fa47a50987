-- A child as the walk is asked to test it: a type by its place in a text, or what an array repeats. Assumes nothing: these are definitions.
use Rattle.std.specs.Prelude.{◌≡◌, List, [], ◌∷◌, Bool, true, ℕ, ◌+◌, ◌-◌, ◌*◌, ◌<◌, length, ⊤}
use Rattle.meaning.specs.Choice.{pick}
use Rattle.meaning.specs.Limits.{most_variants}
use Rattle.meaning.specs.Padding.{padding, Aligns}
use Rattle.meaning.specs.Depths.{Depths}
use Rattle.meaning_writing.specs.Strict.{Test, array_test, entry_test, test_of}
use Rattle.signature.specs.Steps.{is_text}
use Rattle.signature.specs.Trees.{tree_at, Described}
use Rattle.signature.specs.declared.Letter.{Letter}
use Rattle.signature.specs.declared.Letter.TheVariants.{End, Bad, Boolean, Number, Text, Variant, Maybe, Array, OpenStructure, CloseStructure, OpenEntry, CloseEntry}
use Rattle.signature.specs.declared.shapes.Shape.{Shape}
use Rattle.strict_basic.specs.Basics.{letter_extent, letter_test, text_test, reading_test}
use Rattle.strict_ends.specs.Ends.{Laid, end_of}
use Rattle.strict_sizes.specs.Sizes.{Tabled}
use Rattle.strict_ends.specs.declared.Extent.{Extent}
use Rattle.strict_sizes.specs.declared.items.Item.{Item}
use Rattle.strict_sizes.specs.declared.items.Repeats.{Repeats}
use Rattle.strict_sizes.specs.declared.items.Repeats.TheVariants as repeats

-- a type stands where a shape says, and is as it says; and the table has what there is to say of its text
pub record Placed (text tables : List ℕ) (s : Shape) : Type 0 where
  pub shape : Described text tables s
  pub table : Tabled text tables

-- the test of the type at a place, where so many variants are open
abbrev pub tree_test : ℕ → List ℕ → ℕ → Test
tree_test nested text at = test_of (most_variants - nested) (tree_at text at)

-- what is repeated: a type, or a dictionary's entry
abbrev pub repeated_test : ℕ → List ℕ → Shape → Extent → Repeats → Test
repeated_test nested text child x (repeats.Entries key) = entry_test x.alignment x.fixed (letter_test key ∷ tree_test nested text child.at ∷ [])
repeated_test nested text child x repeats.AnyBytes = tree_test nested text child.at
repeated_test nested text child x repeats.Texts = tree_test nested text child.at
repeated_test nested text child x (repeats.Readings w) = tree_test nested text child.at
repeated_test nested text child x repeats.Others = tree_test nested text child.at

unfoldable pub item_test : ℕ → List ℕ → Item → Test
item_test nested text i = repeated_test nested text i.child i.extent i.repeats

-- what elements are: readings are not fixed
abbrev pub reads : Letter → Repeats
reads End = repeats.Others
reads Bad = repeats.Others
reads Boolean = repeats.Others
reads (Number c w) = repeats.Readings w
reads (Text c) = repeats.Others
reads Variant = repeats.Others
reads Maybe = repeats.Others
reads Array = repeats.Others
reads OpenStructure = repeats.Others
reads CloseStructure = repeats.Others
reads OpenEntry = repeats.Others
reads CloseEntry = repeats.Others

abbrev pub repeats_of : Letter → Bool → Bool → Letter → Repeats
repeats_of kind any fixed number = pick any repeats.AnyBytes (pick (is_text kind) repeats.Texts (pick fixed repeats.Others (reads number)))

-- the size of an entry that is fixed
abbrev pub entry_end : Letter → Extent → ℕ
entry_end key value = end_of value (end_of (letter_extent key) 0)

abbrev pub entry_size : Letter → Extent → ℕ → ℕ
entry_size key value a = entry_end key value + padding (entry_end key value) a

-- how a child lies is as its test says, whatever is open
pub record Known (x : Extent) (test : ℕ → Test) : Type 0 where
  pub laid : Laid x
  pub positive : x.fixed ≡ true → 0 < x.size
  pub same_alignment : (nested : ℕ) → (test nested).shape.alignment ≡ x.alignment
  pub same_fixed : (nested : ℕ) → (test nested).shape.fixed ≡ x.fixed
  pub same_size : (nested : ℕ) → x.fixed ≡ true → (test nested).shape.size ≡ x.size

-- any bytes will do: only their number matters, and where one stands another may stand behind it
pub record Alike (x : Extent) (test : ℕ → Test) : Type 0 where
  pub fixed : x.fixed ≡ true
  pub close : (i : ℕ) → padding (i * x.size) x.alignment ≡ 0
  pub same : (nested : ℕ) (d : Depths) (l l' : List ℕ) → length l ≡ length l' → (test nested).accepts d l ≡ (test nested).accepts d l'

-- a reading of a number of a width
pub record Reads (w : ℕ) (test : ℕ → Test) : Type 0 where
  pub aligned : Aligns w
  pub is : (nested : ℕ) → test nested ≡ reading_test w

-- what is known of what is repeated
abbrev pub Told : Extent → (ℕ → Test) → Repeats → Type 0
Told x test (repeats.Entries key) = Laid (letter_extent key)
Told x test repeats.AnyBytes = Alike x test
Told x test repeats.Texts = (nested : ℕ) → test nested ≡ text_test
Told x test (repeats.Readings w) = Reads w test
Told x test repeats.Others = ⊤

pub record Repeated (text tables : List ℕ) (i : Item) : Type 0 where
  pub child : Placed text tables i.child
  pub known : Known i.extent (λ n. item_test n text i)
  pub told : Told i.extent (λ n. item_test n text i) i.repeats

-- and that it is what the array or dictionary at a place repeats
pub record ItemAt (text tables : List ℕ) (at : ℕ) (i : Item) : Type 0 where
  pub repeated : Repeated text tables i
  pub repeats : (nested : ℕ) → tree_test nested text at ≡ array_test i.extent.alignment i.extent.fixed (item_test nested text i)
