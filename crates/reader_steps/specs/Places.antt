-- What a reader is asked to read: a type by its place in a text, at a depth. Assumes nothing: these are definitions.
use Rattle.std.specs.Prelude.{◌≡◌, ℕ, ◌+◌, ◌-◌, ◌%◌, ◌<◌, ◌≤◌, Bool, true, false, ◌&&◌, List, length, ◌==◌, nat_le, slice_index}
use Rattle.meaning.specs.Choice.{pick}
use Rattle.meaning.specs.Depths.{Depths}
use Rattle.meaning.specs.Types.{Tree, Fields, basic, variant, maybe, array, dictionary, structure, largest_alignment, fixed, all_fixed, basic_fixed, entry_alignment, entry_fixed}
use Rattle.meaning.specs.Outcome as outcome
use Rattle.meaning.specs.Outcome.{Outcome}
use Rattle.meaning.specs.Offsets.{encoded_width}
use Rattle.meaning.specs.Reading.{Reader, Step, Field, read_number, read_basic, read_maybe, maybe_in, array_in, child_step, entry_step, structure_in, variant_in, readers, read_variant, reading, elements, fixed_key, text_key, fields_in}
use Rattle.meaning.specs.Padding.{Aligns}
use Rattle.meaning.specs.Limits.{most_variants, most_containers}
use Rattle.meaning.specs.Letters.{array_letter, dictionary_letter}
use Rattle.meaning.specs.Refusals.{type_refused}
use Rattle.container_depths.specs.Opening.{depths_of}
use Rattle.container_depths.specs.declared.ContainerDepths.{ContainerDepths}
use Rattle.framing_offsets.specs.declared.OffsetTable.{OffsetTable}
use Rattle.signature.specs.Places.{letter_at}
use Rattle.signature.specs.Steps.{key_fixed}
use Rattle.signature.specs.Shapes.{shape_in}
use Rattle.signature.specs.Trees.{tree_at, fields_at, Described}
use Rattle.signature.specs.Items.{held_number, item_kind}
use Rattle.signature.specs.declared.shapes.Shape.{Shape}
use Rattle.signature.specs.declared.Letter.{Letter}
use Rattle.signature.specs.declared.Letter.TheVariants.{Number, End}
use Rattle.reader_basic.specs.Parts.{key_reader, KeyAligned, elements_by}
use Rattle.signature.specs.declared.items.Item.{Item}
use Rattle.reader_basic.specs.declared.Context.{Context}

-- the reading of a type where so many variants are nested
abbrev pub reader_of : ℕ → Bool → ℕ → Tree → Reader
reader_of position big nested t = reading position big (most_variants - nested) t

abbrev pub readers_of : ℕ → Bool → ℕ → Fields → List Field
readers_of position big nested ts = readers position big (read_variant position (λ u. reading position big (most_containers - nested) u)) ts

-- what stands in a container of a type, behind n bytes of padding
unfoldable pub body_in : ℕ → Bool → ℕ → Tree → ContainerDepths → ℕ → List ℕ → ℕ → Outcome
body_in position big nested (basic b) d k l n = outcome.refused type_refused 0
body_in position big nested variant d k l n = variant_in (λ u. reading position big (most_containers - nested) u) (depths_of d) k l n
body_in position big nested (maybe t) d k l n = maybe_in (fixed t) (reader_of position big nested t) (depths_of d) k l n
body_in position big nested (array t) d k l n = array_in array_letter (fixed t) (child_step (reader_of position big nested t)) (depths_of d) k l n
body_in position big nested (dictionary b t) d k l n =
    array_in dictionary_letter (entry_fixed b t)
    (entry_step position (entry_alignment b t) (basic_fixed b) (entry_fixed b t) (read_basic position big b) (reader_of position big nested t))
    (depths_of d) k l n
body_in position big nested (structure ts) d k l n = structure_in position (largest_alignment ts) (all_fixed ts) (readers_of position big nested ts) (depths_of d) k l n

-- what the array or the dictionary at a place repeats, by its text and its table: an entry, or an element
abbrev pub item_by : Bool → List ℕ → List ℕ → ℕ → Item
item_by entry text shapes at = record {
  entry = entry;
  child = shape_in text shapes (pick entry (at + 3) (at + 1));
  key = pick entry (letter_at text (at + 2)) End;
  keyed = pick entry (key_fixed (letter_at text (at + 2))) false;
  alignment = slice_index shapes at % 16;
  fixed = pick entry (key_fixed (letter_at text (at + 2)) && nat_le 16 (slice_index shapes (at + 3) % 32)) (nat_le 16 (slice_index shapes (at + 1) % 32));
  number = pick entry End (held_number (letter_at text (at + 1)) (letter_at text (at + 2)));
}

abbrev pub item_of : List ℕ → List ℕ → ℕ → Item
item_of text shapes at = item_by (slice_index text (at + 1) == dictionary_letter) text shapes at

abbrev pub entry_of : List ℕ → List ℕ → ℕ → Item
entry_of text shapes at = item_by true text shapes at

-- what is repeated in an array or a dictionary: its step
abbrev pub item_step : ℕ → Bool → ℕ → List ℕ → Item → Step
item_step position big nested text i =
    pick i.entry
    (entry_step position i.alignment i.keyed i.fixed (key_reader position big i.key) (reader_of position big nested (tree_at text i.child.at)))
    (child_step (reader_of position big nested (tree_at text i.child.at)))

-- what is repeated is a number: plain where it is fixed, in a maybe where it is not
pub record NumberStep (text : List ℕ) (i : Item) (c w : ℕ) : Type 0 where
  pub aligned : Aligns w
  pub plain : i.fixed ≡ true → (position : ℕ) (big : Bool) (nested : ℕ) → item_step position big nested text i ≡ child_step (read_number position big c w)
  pub held : i.fixed ≡ false → (position : ℕ) (big : Bool) (nested : ℕ) → item_step position big nested text i ≡ child_step (read_maybe position w true (read_number position big c w))

-- what is known of what is repeated: its type stands in the text, its alignment is one; where it is fixed, so is its key, and a step
-- that is done uses a byte
pub record Repeated (text shapes : List ℕ) (i : Item) : Type 0 where
  pub child : Described text shapes i.child
  pub aligned : Aligns i.alignment
  pub key : KeyAligned i.key
  pub keyed : i.fixed ≡ true → i.entry ≡ true → i.keyed ≡ true
  pub number : (c w : ℕ) → i.number ≡ Number c w → NumberStep text i c w
  pub pays : i.fixed ≡ true → (position : ℕ) (big : Bool) (nested : ℕ) (d : Depths) (k : ℕ) (l : List ℕ) (b j : ℕ) → j ≤ length l
      → (item_step position big nested text i d k l b j (length l)).refusal ≡ 0 → 0 < (item_step position big nested text i d k l b j (length l)).used

-- the same of what stands at a place: a type; what an array repeats; what a dictionary does
abbrev pub DescribedAt : List ℕ → List ℕ → ℕ → Type 0
DescribedAt text shapes at = Described text shapes (shape_in text shapes at)

abbrev pub RepeatedAt : List ℕ → List ℕ → ℕ → Type 0
RepeatedAt text shapes at = Repeated text shapes (item_of text shapes at)

abbrev pub EntriesAt : List ℕ → List ℕ → ℕ → Type 0
EntriesAt text shapes at = Repeated text shapes (entry_of text shapes at)

-- and that it is what the array or dictionary at a place repeats
pub record ItemAt (text shapes : List ℕ) (at : ℕ) (i : Item) : Type 0 where
  pub repeated : Repeated text shapes i
  pub body : (position : ℕ) (big : Bool) (nested : ℕ) (d : ContainerDepths) (k : ℕ) (l : List ℕ) (n : ℕ)
      → body_in position big nested (tree_at text at) d k l n ≡ array_in (item_kind i) i.fixed (item_step position big nested text i) (depths_of d) k l n

-- the same by what rides along: a value, the fields of a structure, what stands in a container, a step of what is repeated
abbrev pub value_at : Context → Tree → Reader
value_at c t = reader_of c.position c.big c.depths.variant t

abbrev pub value_in : Context → Tree → ℕ → List ℕ → Outcome
value_in c t = value_at c t (depths_of c.depths)

abbrev pub readers_in : Context → Fields → List Field
readers_in c ts = readers_of c.position c.big c.depths.variant ts

abbrev pub inside_of : Context → Tree → ℕ → List ℕ → ℕ → Outcome
inside_of c t k l n = body_in c.position c.big c.depths.variant t c.depths k l n

abbrev pub step_in : Context → List ℕ → Item → ℕ → List ℕ → ℕ → ℕ → ℕ → Outcome
step_in c text i = item_step c.position c.big c.depths.variant text i (depths_of c.depths)

-- the elements of an array, or a dictionary's entries: fixed, or by a table; an entry by its key; the fields of a structure
abbrev pub elements_of : Context → List ℕ → Item → ℕ → List ℕ → ℕ → Outcome
elements_of c text i k l n = elements (length l) (step_in c text i k l (length l)) (length l) n

abbrev pub element_kind : Item → Letter
element_kind i = pick i.entry End i.child.kind

abbrev pub framed_of : Context → List ℕ → Item → OffsetTable → ℕ → List ℕ → ℕ → Outcome
framed_of c text i t k l n = elements_by (step_in c text i k l (n + t.start)) t l n

abbrev pub fixed_key_in : Context → List ℕ → Item → ℕ → List ℕ → ℕ → ℕ → ℕ → Outcome
fixed_key_in c text i =
    fixed_key c.position i.alignment i.fixed (key_reader c.position c.big i.key) (value_at c (tree_at text i.child.at)) (depths_of c.depths)

abbrev pub text_key_in : Context → List ℕ → Item → ℕ → List ℕ → ℕ → ℕ → ℕ → Outcome
text_key_in c text i =
    text_key c.position i.alignment i.fixed (key_reader c.position c.big i.key) (value_at c (tree_at text i.child.at)) (depths_of c.depths)

abbrev pub fields_of : Context → List ℕ → Shape → ℕ → List ℕ → ℕ → Outcome
fields_of c text s k l n =
    fields_in c.position s.fixed s.alignment k l n (encoded_width (length l - n)) (depths_of c.depths)
    (readers_in c (fields_at text (s.at + 1))) (length l) n

-- a container's type
abbrev pub Contains : Tree → Type 0
Contains (basic b) = ⊥
Contains variant = Unit {0}
Contains (maybe t) = Unit {0}
Contains (array t) = Unit {0}
Contains (dictionary b t) = Unit {0}
Contains (structure ts) = Unit {0}

abbrev pub variant_tree : Tree
variant_tree = variant
