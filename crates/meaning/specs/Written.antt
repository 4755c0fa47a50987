-- The written form of a value, as the paper has it, at a position that is a multiple of 8; and the events that it reads as.
-- Assumes nothing: these are definitions.
use Rattle.std.specs.Prelude.{List, [], ◌∷◌, ◌++◌, map, Bool, true, false, ◌&&◌, ℕ, zero, suc, ◌+◌, ◌^◌, leb, ltb, eqb, length}
use Rattle.std.proofs.Math.Option.{Option, none, some}
use Rattle.meaning.specs.Choice.{pick}
use Rattle.meaning.specs.Limits.{longest_type}
use Rattle.meaning.specs.Numbers.{bytes, ordered}
use Rattle.meaning.specs.Padding.{padding, zeros}
use Rattle.meaning.specs.Offsets.{written_width, table, back_table}
use Rattle.meaning.specs.Texts.{text_refusal}
use Rattle.meaning.specs.Depths as Depth
use Rattle.meaning.specs.Depths.{Depths, depth_refusal, opened}
use Rattle.meaning.specs.Types.{Basic, bool, number, text, Tree, Fields, basic, variant, maybe, array, dictionary, structure, last, next, number_width, alignment, largest_alignment, fixed, all_fixed, entry_alignment, entry_fixed}
use Rattle.meaning.specs.Letters.{bool_letter, number_letter, text_letter, signature_letter, variant_letter, array_letter, dictionary_letter, structure_letter}
use Rattle.meaning.specs.TypeText.{type_text}
use Rattle.meaning.specs.Values.{BasicValue, ValueOver, FieldsOver, Value}
use Rattle.meaning.specs.Events.{Event, event, text_event, opening, closing, present, nothing}

-- A written value: its alignment, whether its type is fixed in size, its bytes, and the events that it reads as from a place on;
-- whether it is a value (its numbers fit their widths, its texts are UTF-8 without a nul, its variants' types have at most 255
-- characters), and whether its depth may be read where so many containers are open.
pub record Piece : Type 0 where
  pub alignment : ℕ
  pub fixed : Bool
  pub bytes : List ℕ
  pub events : ℕ → List Event
  pub valid : Bool
  pub shallow : Depths → Bool

-- a value that may be written and read where so many containers are open
abbrev pub fits : Piece → Depths → Bool
fits c d = c.valid && c.shallow d

-- where a child ends that is laid out from the place k
unfoldable pub stop : ℕ → Piece → ℕ
stop k c = k + padding k c.alignment + length c.bytes

-- children laid out from the place k: their bytes; their events, where place 0 is p; the places where they end
unfoldable pub layout : ℕ → List Piece → List ℕ
layout k [] = []
layout k (c ∷ cs) = zeros (padding k c.alignment) ++ (c.bytes ++ layout (stop k c) cs)

unfoldable pub events_from : ℕ → ℕ → List Piece → List Event
events_from p k [] = []
events_from p k (c ∷ cs) = c.events (p + (k + padding k c.alignment)) ++ events_from p (stop k c) cs

unfoldable pub ends : ℕ → List Piece → List ℕ
ends k [] = []
ends k (c ∷ cs) = stop k c ∷ ends (stop k c) cs

-- of a structure's fields: the ends of those that are neither fixed in size nor last
abbrev pub unless : Bool → ℕ → List ℕ → List ℕ
unless true e es = es
unless false e es = e ∷ es

unfoldable pub field_ends : ℕ → List Piece → List ℕ
field_ends k [] = []
field_ends k (c ∷ []) = []
field_ends k (c ∷ g ∷ cs) = unless c.fixed (stop k c) (field_ends (stop k c) (g ∷ cs))

unfoldable pub all_valid : List Piece → Bool
all_valid [] = true
all_valid (c ∷ cs) = c.valid && all_valid cs

unfoldable pub all_shallow : List Piece → Depths → Bool
all_shallow [] d = true
all_shallow (c ∷ cs) d = c.shallow d && all_shallow cs d

-- one more container may be open, and so may what is in it
abbrev pub deeper : Depths → (Depths → Bool) → Bool
deeper d inside = eqb (depth_refusal d) 0 && inside d

abbrev pub bit : Bool → ℕ
bit true = 1
bit false = 0

-- basic values: a bool is 0 or 1, a number stands in its width and byte order, a text is its bytes and one nul
unfoldable pub basic_piece : Bool → (b : Basic) → BasicValue b → Piece
basic_piece big bool v =
    record { alignment = 1; fixed = true; bytes = bit v ∷ []; events = λ k. event bool_letter k (bit v) ∷ []; valid = true; shallow = λ d. true }
basic_piece big (number n) v = record {
  alignment = number_width n;
  fixed = true;
  bytes = ordered big (bytes (number_width n) v);
  events = λ k. event (number_letter n) k v ∷ [];
  valid = ltb v (256 ^ number_width n);
  shallow = λ d. true;
}
basic_piece big (text c) v = record {
  alignment = 1;
  fixed = false;
  bytes = v ++ (0 ∷ []);
  events = λ k. text_event (text_letter c) k v ∷ [];
  valid = eqb (text_refusal v) 0;
  shallow = λ d. true;
}

-- a maybe: nothing is no byte; a child that is not fixed has a byte of 0 behind it
unfoldable pub maybe_piece : {A : Type 0} → ℕ → Bool → (A → Piece) → Option A → Piece
maybe_piece a fx child none =
    record { alignment = a; fixed = false; bytes = []; events = λ k. nothing k ∷ []; valid = true; shallow = λ d. true }
maybe_piece a fx child (some v) = record {
  alignment = a;
  fixed = false;
  bytes = pick fx (child v).bytes ((child v).bytes ++ (0 ∷ []));
  events = λ k. present k ∷ (child v).events k;
  valid = (child v).valid;
  shallow = λ d. deeper (opened Depth.maybe d) (child v).shallow;
}

-- the events of a container of a kind that starts at k, holds es and takes n bytes
abbrev pub enclosing : ℕ → ℕ → ℕ → List Event → List Event
enclosing kind k n es = opening kind k ∷ (es ++ (closing (k + n) ∷ []))

-- the body of an array, with the table of its elements' ends unless they are fixed in size
unfoldable pub array_bytes : Bool → List Piece → List ℕ
array_bytes true cs = layout 0 cs
array_bytes false cs = layout 0 cs ++ table (written_width (length (layout 0 cs)) (length cs)) (ends 0 cs)

-- kind: an array's or a dictionary's
unfoldable pub array_piece : ℕ → ℕ → Bool → List Piece → Piece
array_piece kind a fx cs = record {
  alignment = a;
  fixed = false;
  bytes = array_bytes fx cs;
  events = λ k. enclosing kind k (length (array_bytes fx cs)) (events_from k 0 cs);
  valid = all_valid cs;
  shallow = λ d. deeper (opened Depth.array d) (all_shallow cs);
}

-- the fields of a structure: padding at the end of one that is fixed in size, else the offsets, the last in front
unfoldable pub structure_bytes : ℕ → Bool → List Piece → List ℕ
structure_bytes a true cs = layout 0 cs ++ zeros (padding (length (layout 0 cs)) a)
structure_bytes a false cs =
    layout 0 cs ++ back_table (written_width (length (layout 0 cs)) (length (field_ends 0 cs))) (field_ends 0 cs)

unfoldable pub structure_piece : ℕ → Bool → List Piece → Piece
structure_piece a fx cs = record {
  alignment = a;
  fixed = fx;
  bytes = structure_bytes a fx cs;
  events = λ k. enclosing structure_letter k (length (structure_bytes a fx cs)) (events_from k 0 cs);
  valid = all_valid cs;
  shallow = λ d. deeper (opened Depth.structure d) (all_shallow cs);
}

-- a dictionary's entry: laid out as a structure, with no event and no depth of its own
unfoldable pub entry_piece : ℕ → Bool → List Piece → Piece
entry_piece a fx cs = record {
  alignment = a;
  fixed = fx;
  bytes = structure_bytes a fx cs;
  events = λ k. events_from k 0 cs;
  valid = all_valid cs;
  shallow = all_shallow cs;
}

-- a variant: the value, a nul, and the text of its type
unfoldable pub variant_piece : Tree → Piece → Piece
variant_piece t c = record {
  alignment = 8;
  fixed = false;
  bytes = c.bytes ++ (0 ∷ type_text t);
  events = λ k.
      enclosing variant_letter k (length (c.bytes ++ (0 ∷ type_text t)))
      (text_event signature_letter (k + (length c.bytes + 1)) (type_text t) ∷ c.events k);
  valid = leb (length (type_text t)) longest_type && c.valid;
  shallow = λ d. deeper (opened Depth.variant d) c.shallow;
}

module _ (big : Bool) {Held : Type 0} (held : Held → Piece) where
  unfoldable mutual
    pub piece_over : (t : Tree) → ValueOver Held t → Piece
    piece_over (basic b) v = basic_piece big b v
    piece_over variant v = held v
    piece_over (maybe t) v = maybe_piece (alignment t) (fixed t) (λ x. piece_over t x) v
    piece_over (array t) v = array_piece array_letter (alignment t) (fixed t) (map (λ x. piece_over t x) v)
    piece_over (dictionary b t) v = array_piece dictionary_letter (entry_alignment b t) (entry_fixed b t)
        (map (λ x. entry_piece (entry_alignment b t) (entry_fixed b t) (basic_piece big b x.0 ∷ piece_over t x.1 ∷ [])) v)
    piece_over (structure ts) v = structure_piece (largest_alignment ts) (all_fixed ts) (pieces_over ts v)

    pub pieces_over : (ts : Fields) → FieldsOver Held ts → List Piece
    pieces_over (last t) v = piece_over t v ∷ []
    pieces_over (next t ts) v = piece_over t v.0 ∷ pieces_over ts v.1

unfoldable pub piece : Bool → (n : ℕ) (t : Tree) → Value n t → Piece
piece big zero t v = piece_over big (λ x. absurd x) t v
piece big (suc n) t v = piece_over big (λ x. variant_piece x.0 (piece big n x.0 x.1)) t v

-- THE WRITTEN FORM
unfoldable pub written : Bool → (n : ℕ) (t : Tree) → Value n t → List ℕ
written big n t v = (piece big n t v).bytes
