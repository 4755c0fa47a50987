-- Where children end by an offset; a variant of one letter. Assumes nothing: these are definitions.
use Rattle.std.specs.Prelude.{◌≡◌, ℕ, ◌+◌, ◌-◌, ◌<◌, ◌≤◌, Bool, ◌&&◌, List, length, take, drop, ◌==◌, ◌≢◌, nat_le, Result, Ok, Err}
use Rattle.meaning.specs.Choice.{pick}
use Rattle.meaning.specs.Offsets.{encoded_width, last_offset}
use Rattle.meaning.specs.Reading.{offset_stands, field_offset, separator}
use Rattle.meaning.specs.Refusals.{out_of_bounds}
use Rattle.signature.specs.Places.{letter_at, letter_of}
use Rattle.signature.specs.Steps.{key_alignment}
use Rattle.signature.specs.declared.Letter.{Letter}
use Rattle.signature.specs.declared.Letter.TheVariants.{End}
use Rattle.meaning.specs.Refused.{number_of}
use Rattle.meaning.specs.declared.refusals.Refusal.{Refusal}
use Rattle.reader_steps.specs.declared.ends.Ends as found

-- where a child ends by an offset, and the offset's width; or that none stands there
pub record Ends : Type 0 where
  pub refusal : ℕ
  pub child : ℕ
  pub width : ℕ

abbrev pub ends_at : ℕ → ℕ → Ends
ends_at e w = record { refusal = 0; child = e; width = w }

abbrev pub ends_missing : ℕ → Ends
ends_missing k = record { refusal = k; child = 0; width = 0 }

abbrev pub ends_in : Result found.Ends Refusal → Ends
ends_in (Ok e) = ends_at e.child e.width
ends_in (Err r) = ends_missing (number_of r)

-- where the key of an entry from j to e ends, by the offset at the entry's end
abbrev pub key_end : List ℕ → ℕ → ℕ → ℕ
key_end l j e = j + last_offset (encoded_width (e - j)) (take (e - j) (drop j l))

unfoldable pub key_ends : List ℕ → ℕ → ℕ → ℕ → Ends
key_ends l b j e = pick (nat_le j e && nat_le (key_end l j e) b) (ends_at (key_end l j e) (encoded_width (e - j))) (ends_missing out_of_bounds)

-- where a field ends that is not the last, in a structure that begins at n and whose table, of offsets of width w, reaches to e
unfoldable pub field_ends : ℕ → ℕ → Bool → ℕ → List ℕ → Ends
field_ends n w fx e l =
    pick fx (ends_at e 0)
    (pick (offset_stands n w e) (ends_at (n + field_offset n w e l) w) (ends_missing out_of_bounds))

unfoldable pub only_letter : List ℕ → Letter
only_letter l = pick (length l == 1) (letter_at l 0) End

-- a character is that of a text that has one alone, of a basic type
abbrev pub OnlyBasic : List ℕ → ℕ → Type 0
OnlyBasic l c = (letter_of c ≡ only_letter l) × (key_alignment (letter_of c) ≢ 0)

-- a variant behind n bytes of padding whose type, at a place, is one basic letter
pub record HoldsBasic (l : List ℕ) (n from : ℕ) (kind : Letter) : Type 0 where
  pub type : from ≡ n + separator (drop n l)
  pub there : n < from
  pub inside : from ≤ length l
  pub one : kind ≡ only_letter (drop from l)
  pub basic : key_alignment kind ≡ 0 → ⊥
