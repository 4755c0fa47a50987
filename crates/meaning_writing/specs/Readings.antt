-- The readings of a value, which are its maybes of b y n q i u x t d in reading order, and the value with one of them changed.
-- Assumes nothing: these are definitions.
use Rattle.std.specs.Prelude.{List, [], ◌∷◌, ◌++◌, Bool, true, false, not, ℕ, zero, suc, ◌+◌, ◌-◌, ◌^◌, leb, ltb, eqb, length}
use Rattle.std.proofs.Math.Option.{Option, none, some}
use Rattle.meaning.specs.Choice.{pick}
use Rattle.meaning.specs.Padding.{padding}
use Rattle.meaning.specs.Depths as Depth
use Rattle.meaning.specs.Depths.{Depths, none_open, depth_refusal, opened}
use Rattle.meaning.specs.Types.{Number, string, Basic, bool, number, text, Tree, Fields, basic, variant, maybe, array, dictionary, structure, last, next, number_width, alignment, largest_alignment, entry_alignment, entry_fixed}
use Rattle.meaning.specs.Letters.{basic_letter}
use Rattle.meaning.specs.Events.{Event, event, present, nothing}
use Rattle.meaning.specs.Values.{ValueOver, FieldsOver, Value}
use Rattle.meaning.specs.Written.{Piece, stop, bit, basic_piece, entry_piece, variant_piece, piece_over, piece}

-- what a reading is or is put as: nothing, or a number as its bits
abbrev pub MaybeNumber : Type 0
MaybeNumber = Option ℕ

-- the events of a reading of a type that stands at a place: nothing, or present and the number
abbrev pub reading_events : Basic → MaybeNumber → ℕ → List Event
reading_events b none p = nothing p ∷ []
reading_events b (some n) p = present p ∷ event (basic_letter b) p n ∷ []

-- where a reading stands: the type inside the maybe, the place of its events, and the containers that are open round it
pub record Spot : Type 0 where
  pub type : Basic
  pub place : ℕ
  pub around : Depths

abbrev pub spot_at : Basic → ℕ → Depths → Spot
spot_at b p d = record { type = b; place = p; around = d }

-- of a reading that there is not
abbrev pub nowhere : Spot
nowhere = spot_at (text string) 0 none_open

-- a number spells a value of the type if it is not too wide, a bool if it is not above 1; a nothing always does
unfoldable pub spells : Basic → MaybeNumber → Bool
spells bool none = true
spells bool (some n) = leb n 1
spells (number c) none = true
spells (number c) (some n) = ltb n (256 ^ number_width c)
spells (text c) x = false

-- a reading may be present where so many containers are open round it; a nothing opens nothing
unfoldable pub may_stand : Depths → MaybeNumber → Bool
may_stand d none = true
may_stand d (some n) = eqb (depth_refusal (opened Depth.maybe d)) 0

-- the types whose maybe is a reading
pub data Slot : Tree → Type 0 where
  of_bool : Slot (basic bool)
  of_number : (c : Number) → Slot (basic (number c))

unfoldable pub slot_of : (t : Tree) → Option (Slot t)
slot_of (basic bool) = some of_bool
slot_of (basic (number c)) = some (of_number c)
slot_of (basic (text c)) = none
slot_of variant = none
slot_of (maybe t) = none
slot_of (array t) = none
slot_of (dictionary b t) = none
slot_of (structure ts) = none

abbrev pub slot_type : {t : Tree} → Slot t → Basic
slot_type of_bool = bool
slot_type (of_number c) = number c

-- The readings of the values of A: all of them, in reading order; where the i-th stands, of a value that is laid out from the place k of
-- a container that begins at p, where so many containers are open; and the value with the i-th changed.
pub record Readings (A : Type 0) : Type 0 where
  pub list : A → List MaybeNumber
  pub spot : Depths → ℕ → ℕ → A → ℕ → Spot
  pub changed : A → ℕ → MaybeNumber → A

abbrev pub no_readings : {A : Type 0} → Readings A
no_readings = record { list = λ v. []; spot = λ d p k v i. nowhere; changed = λ v i x. v }

-- a container of alignment a, whose children are laid out from its own start
abbrev pub in_container : {A : Type 0} → ℕ → (Depths → Depths) → Readings A → Readings A
in_container a opens r =
    record { list = r.list; spot = λ d p k v i. r.spot (opens d) (p + (k + padding k a)) 0 v i; changed = r.changed }

-- a maybe of a number or a bool is a reading
unfoldable pub as_reading : (Held : Type 0) {t : Tree} → Slot t → Option (ValueOver Held t) → MaybeNumber
as_reading Held s none = none
as_reading Held of_bool (some v) = some (bit v)
as_reading Held (of_number c) (some v) = some v

unfoldable pub as_value : (Held : Type 0) {t : Tree} → Slot t → MaybeNumber → Option (ValueOver Held t)
as_value Held s none = none
as_value Held of_bool (some n) = some (not (eqb n 0))
as_value Held (of_number c) (some n) = some n

unfoldable pub changed_slot : {A : Type 0} → (MaybeNumber → A) → A → ℕ → MaybeNumber → A
changed_slot f v zero x = f x
changed_slot f v (suc i) x = v

-- another maybe has its child's
unfoldable pub list_maybe : {A : Type 0} → Readings A → Option A → List MaybeNumber
list_maybe r none = []
list_maybe r (some v) = r.list v

unfoldable pub spot_maybe : {A : Type 0} → Readings A → Depths → ℕ → ℕ → Option A → ℕ → Spot
spot_maybe r d p k none i = nowhere
spot_maybe r d p k (some v) i = r.spot (opened Depth.maybe d) p k v i

unfoldable pub changed_maybe : {A : Type 0} → Readings A → Option A → ℕ → MaybeNumber → Option A
changed_maybe r none i x = none
changed_maybe r (some v) i x = some (r.changed v i x)

unfoldable pub maybe_readings : (Held : Type 0) {t : Tree} → Option (Slot t) → ℕ → Readings (ValueOver Held t) → Readings (Option (ValueOver Held t))
maybe_readings Held (some s) a r = record {
  list = λ v. as_reading Held s v ∷ [];
  spot = λ d p k v i. spot_at (slot_type s) (p + (k + padding k a)) d;
  changed = λ v i x. changed_slot (as_value Held s) v i x;
}
maybe_readings Held none a r = record { list = list_maybe r; spot = spot_maybe r; changed = changed_maybe r }

-- of two, one behind the other; the first is written as a piece
module _ {A B : Type 0} (r : Readings A) (written : A → Piece) (s : Readings B) where
  unfoldable pub spot_two : Depths → ℕ → ℕ → A × B → ℕ → Spot
  spot_two d p k v i =
      pick (ltb i (length (r.list v.0))) (r.spot d p k v.0 i)
      (s.spot d p (stop k (written v.0)) v.1 (i - length (r.list v.0)))

  unfoldable pub changed_two : A × B → ℕ → MaybeNumber → A × B
  changed_two v i x =
      pick (ltb i (length (r.list v.0))) (r.changed v.0 i x, v.1)
      (v.0, s.changed v.1 (i - length (r.list v.0)) x)

  abbrev pub two_readings : Readings (A × B)
  two_readings = record { list = λ v. r.list v.0 ++ s.list v.1; spot = spot_two; changed = changed_two }

-- of a list, one element behind the other
module _ {A : Type 0} (r : Readings A) (written : A → Piece) where
  unfoldable pub list_all : List A → List MaybeNumber
  list_all [] = []
  list_all (v ∷ vs) = r.list v ++ list_all vs

  unfoldable pub spot_all : Depths → ℕ → ℕ → List A → ℕ → Spot
  spot_all d p k [] i = nowhere
  spot_all d p k (v ∷ vs) i =
      pick (ltb i (length (r.list v))) (r.spot d p k v i) (spot_all d p (stop k (written v)) vs (i - length (r.list v)))

  unfoldable pub changed_all : List A → ℕ → MaybeNumber → List A
  changed_all [] i x = []
  changed_all (v ∷ vs) i x =
      pick (ltb i (length (r.list v))) (r.changed v i x ∷ vs) (v ∷ changed_all vs (i - length (r.list v)) x)

  abbrev pub all_readings : Readings (List A)
  all_readings = record { list = list_all; spot = spot_all; changed = changed_all }

module _ (big : Bool) {Held : Type 0} (held : Held → Piece) (variants : Readings Held) where
  unfoldable mutual
    pub readings_over : (t : Tree) → Readings (ValueOver Held t)
    readings_over (basic b) = no_readings
    readings_over variant = variants
    readings_over (maybe t) = maybe_readings Held (slot_of t) (alignment t) (readings_over t)
    readings_over (array t) = in_container (alignment t) (λ d. opened Depth.array d) (all_readings (readings_over t) (λ x. piece_over big held t x))
    -- an entry is no container that counts
    readings_over (dictionary b t) =
        in_container (entry_alignment b t) (λ d. opened Depth.array d)
        (all_readings (in_container (entry_alignment b t) (λ d. d) (two_readings no_readings (λ x. basic_piece big b x) (readings_over t)))
        (λ x. entry_piece (entry_alignment b t) (entry_fixed b t) (basic_piece big b x.0 ∷ piece_over big held t x.1 ∷ [])))
    readings_over (structure ts) = in_container (largest_alignment ts) (λ d. opened Depth.structure d) (field_readings ts)

    pub field_readings : (ts : Fields) → Readings (FieldsOver Held ts)
    field_readings (last t) = readings_over t
    field_readings (next t ts) = two_readings (readings_over t) (λ x. piece_over big held t x) (field_readings ts)

-- a variant has its value's
abbrev pub variant_readings : {Of : Tree → Type 0} → ((t : Tree) → Readings (Of t)) → Readings ((t : Tree) × Of t)
variant_readings r = record {
  list = λ x. (r x.0).list x.1;
  spot = λ d p k x i. (r x.0).spot (opened Depth.variant d) (p + (k + padding k 8)) 0 x.1 i;
  changed = λ x i y. (x.0, (r x.0).changed x.1 i y);
}

unfoldable pub readings : Bool → (n : ℕ) (t : Tree) → Readings (Value n t)
readings big zero t = readings_over big (λ x. absurd x) no_readings t
readings big (suc n) t = readings_over big (λ x. variant_piece x.0 (piece big n x.0 x.1)) (variant_readings (λ u. readings big n u)) t

-- THE READINGS of a value; where the i-th stands in its written form; the value with the i-th changed
unfoldable pub readings_of : Bool → (n : ℕ) (t : Tree) → Value n t → List MaybeNumber
readings_of big n t v = (readings big n t).list v

unfoldable pub spot_of : Bool → (n : ℕ) (t : Tree) → Depths → Value n t → ℕ → Spot
spot_of big n t d v i = (readings big n t).spot d 0 0 v i

unfoldable pub changed : Bool → (n : ℕ) (t : Tree) → Value n t → ℕ → MaybeNumber → Value n t
changed big n t v i x = (readings big n t).changed v i x
