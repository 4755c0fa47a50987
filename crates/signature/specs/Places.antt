-- What stands at a place of a type text. Assumes nothing: these are definitions.
use Rattle.std.specs.Prelude.{◌≡◌, List, [], ◌∷◌, Bool, true, false, ℕ, ◌+◌, ◌-◌, leb, eqb, length, drop}
use Rattle.std.proofs.Math.Option.{Option, none, some}
use Rattle.meaning.specs.Choice.{pick}
use Rattle.meaning.specs.Types.{Basic, bool, number, text, Tree, basic, variant, maybe, array, dictionary, structure, number_width, alignment, fixed, fixed_size, entry_alignment, entry_fixed}
use Rattle.meaning.specs.Letters.{number_letter, text_letter, variant_letter, maybe_letter, array_letter, structure_letter, container_end, dictionary_letter, entry_end}
use Rattle.meaning.specs.TypeText.{Found, basic_of, first_type, type_of}
use Rattle.meaning.specs.Limits.{longest_type}
use Rattle.signature.specs.declared.Letter.{Letter}
use Rattle.signature.specs.declared.Letter.TheVariants.{End, Bad, Boolean, Number, Text, Variant, Maybe, Array, OpenStructure, CloseStructure, OpenEntry, CloseEntry}

-- is a text one complete type of 1 to 255 characters?
abbrev pub there_is : {A : Type 0} → Option A → Bool
there_is none = false
there_is (some a) = true

abbrev pub is_type : List ℕ → Bool
is_type l = there_is (type_of l)

-- the letter that a text begins with: a number has its code and its width, a text its code
abbrev pub basic_kind : Basic → Letter
basic_kind bool = Boolean
basic_kind (number n) = Number (number_letter n) (number_width n)
basic_kind (text x) = Text (text_letter x)

unfoldable pub letter_by : ℕ → Option Basic → Letter
letter_by c (some b) = basic_kind b
letter_by c none =
    pick (eqb c variant_letter) Variant
    (pick (eqb c maybe_letter) Maybe
    (pick (eqb c array_letter) Array
    (pick (eqb c structure_letter) OpenStructure
    (pick (eqb c container_end) CloseStructure
    (pick (eqb c dictionary_letter) OpenEntry
    (pick (eqb c entry_end) CloseEntry
    Bad))))))

-- of a character
abbrev pub letter_of : ℕ → Letter
letter_of c = letter_by c (basic_of c)

unfoldable pub letter_in : List ℕ → Letter
letter_in [] = End
letter_in (c ∷ l) = letter_of c

abbrev pub letter_at : List ℕ → ℕ → Letter
letter_at l at = letter_in (drop at l)

-- the type that begins at a place of a text, and what is left behind it; none in a text of more than 255 characters
unfoldable pub type_at : List ℕ → ℕ → Found Tree
type_at l at = pick (leb (length l) longest_type) (first_type (drop at l)) none

-- what there is to say of the type at a place: its first letter, whether there is one, the place behind it, its alignment, whether it is
-- fixed, and its fixed size
pub record Child : Type 0 where
  pub kind : Letter
  pub found : Bool
  pub next : ℕ
  pub alignment : ℕ
  pub fixed : Bool
  pub size : ℕ

abbrev pub child_of : Letter → Bool → ℕ → ℕ → Bool → ℕ → Child
child_of k found next a f n = record { kind = k; found = found; next = next; alignment = a; fixed = f; size = n }

abbrev pub no_child : Letter → Child
no_child k = child_of k false 0 0 false 0

unfoldable pub child_by : Letter → ℕ → Found Tree → Child
child_by k len none = no_child k
child_by k len (some g) = child_of k true (len - length g.behind) (alignment g.it) (fixed g.it) (fixed_size g.it)

unfoldable pub child_at : List ℕ → ℕ → Child
child_at l at = child_by (letter_at l at) (length l) (type_at l at)

-- whether a structure's type ends at a place
pub record ClosesAt (l : List ℕ) (at : ℕ) (r : Bool) : Type 0 where
  pub there : r ≡ true → letter_at l at ≡ CloseStructure
  pub missing : r ≡ false → letter_at l at ≡ CloseStructure → ⊥

-- the field at a place is the last where `)` stands behind it
unfoldable pub closed_by : Found Tree → Bool
closed_by none = false
closed_by (some g) = elim g.behind [ [] ↦ false | c ∷ l ↦ eqb c container_end ]

pub record Field : Type 0 where
  pub child : Child
  pub last : Bool

unfoldable pub field_at : List ℕ → ℕ → Field
field_at l at = record { child = child_at l at; last = closed_by (type_at l at) }

-- the key and the value of the dictionary at a place, and its entry's alignment and whether that is fixed
pub record Entry : Type 0 where
  pub found : Bool
  pub key : Letter
  pub place : ℕ
  pub value : Child
  pub alignment : ℕ
  pub fixed : Bool
  pub next : ℕ

abbrev pub no_entry : Entry
no_entry = record { found = false; key = End; place = 0; value = no_child End; alignment = 0; fixed = false; next = 0 }

unfoldable pub entry_of : List ℕ → ℕ → ℕ → Tree → Entry
entry_of l at next (basic b) = no_entry
entry_of l at next variant = no_entry
entry_of l at next (maybe t) = no_entry
entry_of l at next (array t) = no_entry
entry_of l at next (dictionary b t) = record {
  found = true;
  key = basic_kind b;
  place = at + 3;
  value = child_of (letter_at l (at + 3)) true (next - 1) (alignment t) (fixed t) (fixed_size t);
  alignment = entry_alignment b t;
  fixed = entry_fixed b t;
  next = next;
}
entry_of l at next (structure ts) = no_entry

unfoldable pub entry_by : List ℕ → ℕ → Found Tree → Entry
entry_by l at none = no_entry
entry_by l at (some g) = entry_of l at (length l - length g.behind) g.it

unfoldable pub entry_at : List ℕ → ℕ → Entry
entry_at l at = entry_by l at (type_at l at)
