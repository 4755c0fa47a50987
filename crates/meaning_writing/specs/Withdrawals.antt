-- What a withdrawal does to a written form: in every container round the reading no part stands further back, and no offset is wider. And what it
-- does to the events of a frame.
-- Assumes nothing: these are definitions.
use Rattle.std.specs.Prelude.{◌≡◌, List, [], ◌∷◌, Bool, ℕ, ◌+◌, ◌≤◌, length}
use Rattle.std.proofs.Math.Option.{some}
use Rattle.meaning.specs.Padding.{padding}
use Rattle.meaning.specs.Offsets.{written_width}
use Rattle.meaning.specs.Types.{Tree}
use Rattle.meaning.specs.Events.{Event, event, present, nothing}
use Rattle.meaning.specs.Written.{Piece, stop, layout, ends, field_ends, maybe_piece, array_piece, structure_piece, entry_piece, variant_piece}
use Rattle.meaning_writing.specs.Emitting.{itself}

-- where children begin that are laid out from the place k
unfoldable pub starts : ℕ → List Piece → List ℕ
starts k [] = []
starts k (c ∷ cs) = (k + padding k c.alignment) ∷ starts (stop k c) cs

-- places before and after: as many, and none further back
pub data NoneLater : List ℕ → List ℕ → Type 0 where
  no_more : NoneLater [] []
  each : {p q : ℕ} {ps qs : List ℕ} → q ≤ p → NoneLater ps qs → NoneLater (p ∷ ps) (q ∷ qs)

-- a container's children before and after: none begins further back, and the width of the offsets is no larger
pub record NoFurther (offsets : ℕ → List Piece → List ℕ) (before after : List Piece) : Type 0 where
  pub begin : NoneLater (starts 0 before) (starts 0 after)
  pub width : written_width (length (layout 0 after)) (length (offsets 0 after)) ≤ written_width (length (layout 0 before)) (length (offsets 0 before))

-- Children before and after the withdrawal of a reading that one of them is or holds. The reading becomes no bytes; in each container round
-- it nothing stands further back; all other children are the same.
pub data Withdrawn : List Piece → List Piece → Type 0 where
  behind : (c : Piece) {cs ds : List Piece} → Withdrawn cs ds → Withdrawn (c ∷ cs) (c ∷ ds)
  reading : (c d : Piece) (cs : List Piece) → d.bytes ≡ [] → Withdrawn (c ∷ cs) (d ∷ cs)
  in_maybe : (a : ℕ) (fx : Bool) (c d : Piece) (cs : List Piece) → Withdrawn (c ∷ []) (d ∷ []) → Withdrawn (maybe_piece a fx itself (some c) ∷ cs) (maybe_piece a fx itself (some d) ∷ cs)
  in_variant : (t : Tree) (c d : Piece) (cs : List Piece) → Withdrawn (c ∷ []) (d ∷ []) → Withdrawn (variant_piece t c ∷ cs) (variant_piece t d ∷ cs)
  in_array : (kind a : ℕ) (fx : Bool) (es fs cs : List Piece) → Withdrawn es fs → NoFurther ends es fs → Withdrawn (array_piece kind a fx es ∷ cs) (array_piece kind a fx fs ∷ cs)
  in_structure : (a : ℕ) (fx : Bool) (es fs cs : List Piece) → Withdrawn es fs → NoFurther field_ends es fs → Withdrawn (structure_piece a fx es ∷ cs) (structure_piece a fx fs ∷ cs)
  in_entry : (a : ℕ) (fx : Bool) (es fs cs : List Piece) → Withdrawn es fs → NoFurther field_ends es fs → Withdrawn (entry_piece a fx es ∷ cs) (entry_piece a fx fs ∷ cs)

-- an event before and after: the same but for its place, which is no further back
pub record Moved (e f : Event) : Type 0 where
  pub kind : f.kind ≡ e.kind
  pub payload : f.payload ≡ e.payload
  pub text : f.text ≡ e.text
  pub place : f.place ≤ e.place

-- the events of a frame before and after: the same ones, none further back, but where a reading is gone and a nothing stands in its place
pub data Nearer : List Event → List Event → Type 0 where
  no_event : Nearer [] []
  kept : {e f : Event} {es fs : List Event} → Moved e f → Nearer es fs → Nearer (e ∷ es) (f ∷ fs)
  gone : (kind v : ℕ) {p q : ℕ} {es fs : List Event} → q ≤ p → Nearer es fs → Nearer (present p ∷ event kind p v ∷ es) (nothing q ∷ fs)
