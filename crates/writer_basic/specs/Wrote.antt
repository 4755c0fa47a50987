-- What the code's answers say of the definitions. Assumes nothing: these are definitions.
use Rattle.std.specs.Prelude.{ℕ, ◌+◌, ◌≤◌, ◌<◌, min, ◌≡◌, List, [], Bool, true, false, length, drop, get_or, Result, Ok, Err}
use Rattle.std.proofs.Math.Option.{Option, none, some}
use Rattle.meaning.specs.Depths.{depth_refusal}
use Rattle.meaning.specs.Refusals.{no_value}
use Rattle.meaning.specs.Refused.{number_of}
use Rattle.meaning.specs.Types.{Basic, bool, Tree, basic_alignment}
use Rattle.meaning.specs.Texts.{text_refusal}
use Rattle.meaning.specs.TypeText.{basic_of}
use Rattle.meaning.specs.Written.{Piece, layout, ends, maybe_piece, structure_bytes}
use Rattle.meaning_writing.specs.Writing.{Built, Builder, built, fault, mapped, sealed, build_many}
use Rattle.meaning_writing.specs.Emitting.{emit_basic, emit_maybe, itself, variant_of}
use Rattle.meaning_writing.specs.EventsAt.{PlainAt, NotPlain, TextAt, NotText, viewed}
use Rattle.container_depths.specs.Opening.{depths_of}
use Rattle.signature.specs.Places.{basic_kind}
use Rattle.signature.specs.declared.Letter.{Letter}
use Rattle.signature.specs.declared.Letter.TheVariants.{End, Bad, Boolean, Number, Text, Variant, Maybe, Array, OpenStructure, CloseStructure, OpenEntry, CloseEntry}
use Rattle.writer_store.specs.Stores.{cap}
use Rattle.writer_ends.specs.Ends.{Stored, Room}
use Rattle.writer_basic.specs.declared.Context.{Context}
use Rattle.writer_basic.specs.declared.Row.{Row}
use Rattle.writer_basic.specs.declared.Spot.{Spot}
use Rattle.writer_basic.specs.declared.Wrote.{Wrote}
use Rattle.meaning.specs.declared.refusals.Refusal.{Refusal}

-- ---- events

pub record Opens (kind : ℕ) (ns : List ℕ) (i : ℕ) (r : Bool) : Type 0 where
  pub here : r ≡ true → PlainAt kind ns i
  pub not : r ≡ false → NotPlain kind ns i

-- the event is of a kind and carries a number, or is not
pub record Carries (kind : ℕ) (ns : List ℕ) (i x : ℕ) : Type 0 where
  pub whole : i + 3 ≤ length ns
  pub kind_is : get_or ns i 0 ≡ kind
  pub is : x ≡ get_or ns (i + 2) 0

pub data Absent (kind : ℕ) (ns : List ℕ) (i n : ℕ) : Type 0 where
  too_short : length ns < i + 3 → n ≡ no_value → Absent kind ns i n
  other_kind : i + 3 ≤ length ns → (get_or ns i 0 ≡ kind → ⊥) → n ≡ no_value → Absent kind ns i n

abbrev pub Carried : ℕ → List ℕ → ℕ → Result ℕ Refusal → Type 0
Carried kind ns i (Ok x) = Carries kind ns i x
Carried kind ns i (Err r) = Absent kind ns i (number_of r)

-- a text is what the event views
pub record Taken (texts : List ℕ) (kind : ℕ) (ns : List ℕ) (i : ℕ) (text : List ℕ) : Type 0 where
  pub at : TextAt texts kind ns i
  pub sound : text_refusal (viewed texts ns i) ≡ 0
  pub is : text ≡ viewed texts ns i

-- or it is refused
pub data Untaken (texts : List ℕ) (kind : ℕ) (ns : List ℕ) (i n : ℕ) : Type 0 where
  unseen : NotText texts kind ns i → n ≡ no_value → Untaken texts kind ns i n
  unsound : TextAt texts kind ns i → n ≡ text_refusal (viewed texts ns i) → (n ≡ 0 → ⊥) → Untaken texts kind ns i n

-- the type of a value that takes one event, by its letter
abbrev pub or_bool : Option Basic → Basic
or_bool none = bool
or_bool (some b) = b

abbrev pub key_basic : Letter → Basic
key_basic End = bool
key_basic Bad = bool
key_basic Boolean = bool
key_basic (Number c w) = or_bool (basic_of c)
key_basic (Text c) = or_bool (basic_of c)
key_basic Variant = bool
key_basic Maybe = bool
key_basic Array = bool
key_basic OpenStructure = bool
key_basic CloseStructure = bool
key_basic OpenEntry = bool
key_basic CloseEntry = bool

pub record IsKey (k : Letter) : Type 0 where
  pub is : basic_kind (key_basic k) ≡ k

-- ---- answers

-- what the writing of a value comes to: the refusal's number, 0 if done; the number of the next event's first number; the bytes written
pub record Answer : Type 0 where
  pub refusal : ℕ
  pub next : ℕ
  pub size : ℕ

-- the same of children in a row, and how many ends are kept of them
pub record Run : Type 0 where
  pub refusal : ℕ
  pub next : ℕ
  pub size : ℕ
  pub count : ℕ

abbrev pub done : Wrote → Answer
done w = record { refusal = 0; next = w.next; size = w.size }

abbrev pub answer_in : Result Wrote Refusal → Answer
answer_in (Ok w) = done w
answer_in (Err r) = record { refusal = number_of r; next = 0; size = 0 }

abbrev pub ran : Row → Run
ran w = record { refusal = 0; next = w.next; size = w.size; count = w.count }

abbrev pub run_in : Result Row Refusal → Run
run_in (Ok w) = ran w
run_in (Err r) = record { refusal = number_of r; next = 0; size = 0; count = 0 }

pub record Faulted (n k : ℕ) : Type 0 where
  pub refusal : k ≡ n
  pub real : n ≡ 0 → ⊥

-- the answer r for a piece c that is to be written from start on, its events from number i of the numbers on, where so many ends are
-- kept: the output was l and is l', the slice of ends was s and is s'
pub record Made (c : Piece) (rest ns : List ℕ) (i start top : ℕ) (l l' s s' : List ℕ) (r : Answer) : Type 0 where
  pub refusal : r.refusal ≡ 0
  pub behind : rest ≡ drop r.next ns
  pub forward : i < r.next
  pub within : r.next ≤ length ns
  pub size : r.size ≡ min (length c.bytes) cap
  pub stored : Room l s start (length c.bytes) top → Stored l s l' s' start c.bytes top []

abbrev pub Says : Built Piece → List ℕ → ℕ → ℕ → ℕ → List ℕ → List ℕ → List ℕ → List ℕ → Answer → Type 0
Says (built c rest) ns i start top l l' s s' r = Made c rest ns i start top l l' s s' r
Says (fault n) ns i start top l l' s s' r = Faulted n r.refusal

-- the contract: a record, so that a proof's `_` finds its arguments
pub record Done (x : Built Piece) (ns : List ℕ) (i start top : ℕ) (l l' s s' : List ℕ) (r : Answer) : Type 0 where
  pub says : Says x ns i start top l l' s s' r

-- which ends are kept of elements: none where they are fixed in size
abbrev pub marks_of : Bool → ℕ → List Piece → List ℕ
marks_of true k cs = []
marks_of false k cs = ends k cs

-- the same for children in a row, of which the ends m are kept: j are kept already, and the row has taken k bytes from base on
pub record MadeAll (m : ℕ → List Piece → List ℕ) (cs : List Piece) (rest ns : List ℕ) (i base top k j : ℕ) (l l' s s' : List ℕ) (r : Run) : Type 0 where
  pub refusal : r.refusal ≡ 0
  pub behind : rest ≡ drop r.next ns
  pub forward : i ≤ r.next
  pub within : r.next ≤ length ns
  pub size : r.size ≡ min (k + length (layout k cs)) cap
  pub count : r.count ≡ min (j + length (m k cs)) cap
  pub stored : Room l s base (k + length (layout k cs)) (top + (j + length (m k cs))) → Stored l s l' s' (base + k) (layout k cs) (top + j) (m k cs)

abbrev pub SaysAll : (ℕ → List Piece → List ℕ) → Built (List Piece) → List ℕ → ℕ → ℕ → ℕ → ℕ → ℕ → List ℕ → List ℕ → List ℕ → List ℕ → Run → Type 0
SaysAll m (built cs rest) ns i base top k j l l' s s' r = MadeAll m cs rest ns i base top k j l l' s s' r
SaysAll m (fault n) ns i base top k j l l' s s' r = Faulted n r.refusal

pub record DoneAll (m : ℕ → List Piece → List ℕ) (x : Built (List Piece)) (ns : List ℕ) (i base top k j : ℕ) (l l' s s' : List ℕ) (r : Run) : Type 0 where
  pub says : SaysAll m x ns i base top k j l l' s s' r

-- the answer for a value, or for children in a row, whose events and bytes begin at a spot
abbrev pub WroteAt : (List ℕ → Built Piece) → List ℕ → Spot → List ℕ → List ℕ → List ℕ → List ℕ → Answer → Type 0
WroteAt b ns p l l' s s' r = Done (b (drop p.next ns)) ns p.next p.start p.top l l' s s' r

abbrev pub RowAt : (ℕ → List Piece → List ℕ) → (List ℕ → Built (List Piece)) → List ℕ → Spot → List ℕ → List ℕ → List ℕ → List ℕ → Run → Type 0
RowAt m b ns p l l' s s' r = DoneAll m (b (drop p.next ns)) ns p.next p.start p.top 0 0 l l' s s' r

-- a value that takes one event, by its letter; the same in a maybe; and as many as there are
abbrev pub key_of : List ℕ → Bool → Letter → Builder Piece
key_of texts big k = emit_basic texts big (key_basic k)

abbrev pub reading_of : List ℕ → Bool → Letter → Builder Piece
reading_of texts big k = emit_maybe (basic_alignment (key_basic k)) true (key_of texts big k)

abbrev pub many_of : (List ℕ → Built Piece) → List ℕ → Built (List Piece)
many_of b l = build_many (length l) b l

-- a maybe round its child, and a variant round its value
unfoldable pub around_child : ℕ → Bool → Built Piece → Built Piece
around_child a fx x = mapped (maybe_piece a fx itself) (mapped some x)

unfoldable pub around_value : Tree → Built Piece → Built Piece
around_value t x = mapped variant_of (sealed (mapped {B = (u : Tree) × Piece} (λ v. (t, v)) x))

-- a structure or an entry: a piece whose bytes are a structure's
pub record Structured (a : ℕ) (fx : Bool) (P : List Piece → Piece) : Type 0 where
  pub bytes_are : (cs : List Piece) → (P cs).bytes ≡ structure_bytes a fx cs

-- so many containers are nested, within their limits
pub record Shallow (c : Context) : Type 0 where
  pub is : depth_refusal (depths_of c.depths) ≡ 0

-- where a value is to be written
pub record Placed (n : ℕ) (p : Spot) : Type 0 where
  pub within : p.next ≤ n
  pub near : p.start ≤ cap
  pub few : p.top ≤ cap
