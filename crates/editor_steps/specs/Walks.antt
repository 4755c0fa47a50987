-- What the functions of the edit's walk are asked and answer. Assumes nothing: these are definitions.
use Rattle.std.specs.Prelude.{◌≡◌, Option, None, Some, List, [], ◌∷◌, Bool, true, false, ℕ, ◌+◌, ◌-◌, ◌*◌, ◌≤◌, ◌<◌, length, drop}
use Rattle.std.proofs.Math.Option.{none, some}
use Rattle.meaning.specs.Choice.{pick}
use Rattle.meaning.specs.Limits.{largest_frame, most_variants}
use Rattle.meaning.specs.Refusals.{containers_too_deep, no_value}
use Rattle.meaning.specs.Padding.{Aligns}
use Rattle.meaning.specs.Depths.{Depths, depth_refusal}
use Rattle.meaning.specs.Types.{variant}
use Rattle.meaning.specs.Written.{array_bytes}
use Rattle.meaning_writing.specs.Strict.{Test, array_written, entry_test, test_of}
use Rattle.meaning_writing.specs.Readings.{MaybeNumber, Spot, spells, may_stand}
use Rattle.meaning_writing.specs.Edited.{Editor, still, alike, elements_of, container_editor, structure_editor, editor_of}
use Rattle.container_depths.specs.Opening.{depths_of, level}
use Rattle.container_depths.specs.declared.ContainerDepths.{ContainerDepths}
use Rattle.signature.specs.Trees.{tree_at}
use Rattle.signature.specs.declared.Letter.{Letter}
use Rattle.signature.specs.declared.items.Item.{Item}
use Rattle.strict_basic.specs.Basics.{letter_extent, letter_test}
use Rattle.strict_ends.specs.Ends.{shaped, Laid}
use Rattle.strict_sizes.specs.Items.{Placed, tree_test}
use Rattle.editor_basic.specs.Puts.{over}
use Rattle.editor_steps.specs.Walked.{Walked}

-- what a reading is put as
abbrev pub new_of : Option ℕ → MaybeNumber
new_of None = none
new_of (Some n) = some n

-- why a reading that stands at a spot may not be put so: 17, then 12
unfoldable pub barred : Spot → MaybeNumber → ℕ
barred s x = pick (spells s.type x) (pick (may_stand s.around x) 0 containers_too_deep) no_value

-- the editor of the type at a place, where so many variants are open
abbrev pub tree_editor : Bool → ℕ → List ℕ → ℕ → Editor
tree_editor big nested text at = editor_of big (most_variants - nested) (tree_at text at)

-- THE WALK over the bytes l of a value, which stand at the place p of the frame where d is open, to the i-th of its readings, which is put
-- as x; `out` is the frame's tail from the reading on. The reading is not among those of l: how many they are.
pub record Past (e : Editor) (l : List ℕ) (i : ℕ) (out out' : List ℕ) (r : Walked) : Type 0 where
  pub count_is : r.length ≡ e.count l
  pub beyond : r.length ≤ i
  pub kept : out' ≡ out

-- it is put: where it stands, how long the value's bytes are now, not more than m, and the tail with them
pub record Made (e : Editor) (d : Depths) (p : ℕ) (l : List ℕ) (i : ℕ) (x : MaybeNumber) (m : ℕ) (out out' : List ℕ) (r : Walked) : Type 0 where
  pub place_is : r.place ≡ (e.spot d p l i).place
  pub after : p ≤ r.place
  pub inside : r.place ≤ p + r.length
  pub length_is : r.length ≡ length (e.edited l i x)
  pub short : r.length ≤ m
  pub bytes_is : out' ≡ over out 0 (drop (r.place - p) (e.edited l i x))

-- it is among them
pub record Here (e : Editor) (d : Depths) (p : ℕ) (l : List ℕ) (i : ℕ) (x : MaybeNumber) (m : ℕ) (out out' : List ℕ) (r : Walked) : Type 0 where
  pub within : i < e.count l
  pub refusal_is : r.refusal ≡ barred (e.spot d p l i) x
  pub kept : (r.refusal ≡ 0 → ⊥) → out' ≡ out
  pub made : r.refusal ≡ 0 → Made e d p l i x m out out' r

pub record Walks (e : Editor) (d : Depths) (p : ℕ) (l : List ℕ) (i : ℕ) (x : MaybeNumber) (m : ℕ) (out out' : List ℕ) (r : Walked) : Type 0 where
  pub past : r.found ≡ false → Past e l i out out' r
  pub here : r.found ≡ true → Here e d p l i x m out out' r

-- more than the new bytes of a value can be, where so many containers may yet be opened: crude, so that sums stay small
abbrev pub container_most : ℕ
container_most = 3800000

abbrev pub entry_most : ℕ
entry_most = 700000

abbrev pub most : ContainerDepths → ℕ
most d = container_most * (level d + 1)

-- bytes of a frame that a test accepts where so many containers are open
pub record Ready (t : Test) (d : ContainerDepths) (p : ℕ) (l : List ℕ) : Type 0 where
  pub shallow : depth_refusal (depths_of d) ≡ 0
  pub near : p + length l ≤ largest_frame
  pub written : t.accepts (depths_of d) l ≡ true

-- a variant of any type
abbrev pub variant_test : ContainerDepths → Test
variant_test d = test_of (most_variants - d.variant) variant

abbrev pub variant_editor : Bool → ContainerDepths → Editor
variant_editor big d = editor_of big (most_variants - d.variant) variant

-- what an array or a dictionary repeats
abbrev pub letter_editor : Letter → Editor
letter_editor k = still (shaped (letter_extent k))

abbrev pub entry_editors : Bool → ℕ → List ℕ → Item → List Editor
entry_editors big nested text i = letter_editor i.key ∷ tree_editor big nested text i.child.at ∷ []

abbrev pub entry_tests : ℕ → List ℕ → Item → List Test
entry_tests nested text i = letter_test i.key ∷ tree_test nested text i.child.at ∷ []

unfoldable pub item_editor : Bool → ℕ → List ℕ → Item → Editor
item_editor big nested text i =
    pick i.entry (structure_editor (λ d. d) i.alignment i.fixed (entry_editors big nested text i)) (tree_editor big nested text i.child.at)

unfoldable pub item_test : ℕ → List ℕ → Item → Test
item_test nested text i =
    pick i.entry (entry_test i.alignment i.fixed (entry_tests nested text i)) (tree_test nested text i.child.at)

pub record Repeats (text tables : List ℕ) (i : Item) : Type 0 where
  pub child : Placed text tables i.child
  pub aligned : Aligns i.alignment
  pub loose : i.fixed ≡ false
  pub key : Laid (letter_extent i.key)
  pub test_alignment : (nested : ℕ) → (item_test nested text i).shape.alignment ≡ i.alignment
  pub editor_alignment : (big : Bool) (nested : ℕ) → (item_editor big nested text i).shape.alignment ≡ i.alignment
  pub editor_fixed : (big : Bool) (nested : ℕ) → (item_editor big nested text i).shape.fixed ≡ false

-- the elements of an array that is open already; the fields of a structure that is, as a dictionary's entry, which opens nothing
abbrev pub elements_test : Test → Test
elements_test t = record { shape = t.shape; accepts = λ d l. array_written false t l d }

abbrev pub elements_editor : Editor → Editor
elements_editor t = container_editor 1 (λ d. d) (λ l. alike t (elements_of t l)) (λ cs. array_bytes false cs)

abbrev pub row_test : ℕ → List Test → Test
row_test a ts = entry_test a false ts

abbrev pub row_editor : ℕ → List Editor → Editor
row_editor a ts = structure_editor (λ d. d) a false ts
