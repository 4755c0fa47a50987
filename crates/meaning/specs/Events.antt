-- Events, three numbers each in the lent slice. Assumes nothing: these are definitions.
use Rattle.std.specs.Prelude.{List, [], ◌∷◌, ℕ, length}
use Rattle.meaning.specs.Letters.{is_text_letter, container_end, maybe_letter, nothing_letter}
use Rattle.meaning.specs.Choice.{pick}
use Rattle.meaning.specs.Parts.{part_at}

-- A text's event also has the text itself here; the slice holds its length, and the text is part of the frame.
pub record Event : Type 0 where
  pub kind : ℕ
  pub place : ℕ
  pub payload : ℕ
  pub text : List ℕ

abbrev pub event : ℕ → ℕ → ℕ → Event
event k p v = record { kind = k; place = p; payload = v; text = [] }

abbrev pub text_event : ℕ → ℕ → List ℕ → Event
text_event k p t = record { kind = k; place = p; payload = length t; text = t }

-- v a { ( open a container that `)` closes; m and N are a maybe that is present or nothing
abbrev pub opening : ℕ → ℕ → Event
opening k p = event k p 0

abbrev pub closing : ℕ → Event
closing p = event container_end p 0

abbrev pub present : ℕ → Event
present p = event maybe_letter p 0

abbrev pub nothing : ℕ → Event
nothing p = event nothing_letter p 0

-- what an event says of the text that it is of: the part of the frame that its place and payload name; nothing where it is of no text
unfoldable pub text_named : List ℕ → Event → List ℕ
text_named frame e = pick (is_text_letter e.kind) (part_at frame e.place e.payload) []

-- the events as they stand in the slice
unfoldable pub triples : List Event → List ℕ
triples [] = []
triples (e ∷ es) = e.kind ∷ e.place ∷ e.payload ∷ triples es
