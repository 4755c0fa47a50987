-- What an edit answers, and what the walk over a whole frame is asked and finds. Assumes nothing: these are definitions.
use Rattle.std.specs.Prelude.{◌≡◌, Result, Ok, Err, List, Bool, true, ℕ, ◌≤◌, ◌<◌, length, take}
use Rattle.meaning.specs.Depths.{none_open}
use Rattle.meaning.specs.Limits.{largest_frame, most_variants}
use Rattle.meaning_writing.specs.Strict.{is_written}
use Rattle.meaning_writing.specs.Readings.{MaybeNumber}
use Rattle.meaning_writing.specs.Edited.{editor_of, reading_count, reading_spot, edited_frame}
use Rattle.meaning_writing.specs.Editing.{length_refusal, EditAnswer, edit_answer, edit, edit_buffer}
use Rattle.container_depths.specs.declared.ContainerDepths.{ContainerDepths}
use Rattle.signature.specs.Places.{is_type}
use Rattle.signature.specs.Trees.{tree_at}
use Rattle.strict_sizes.specs.Sizes.{Tabled}
use Rattle.editor_steps.specs.Walks.{new_of, barred, Walks, most}
use Rattle.editor_steps.specs.Walked.{Walked}
use Rattle.editor_steps.specs.declared.answers.Aim.{Aim}
use Rattle.meaning.specs.Refused.{number_of}
use Rattle.meaning.specs.declared.refusals.Refusal.{Refusal}
use Rattle.editor_change.specs.declared.Target.{Target}

-- the new frame's length, or a refusal, which has the length 0
abbrev pub answer_of : Result ℕ Refusal → EditAnswer
answer_of (Ok n) = edit_answer 0 n
answer_of (Err r) = edit_answer (number_of r) 0

-- an answer, and the buffer afterwards
abbrev pub Edits : List ℕ → List ℕ → ℕ → ℕ → Aim → List ℕ → Result ℕ Refusal → Type 0
Edits type buffer used i a buffer' r = (answer_of r ≡ edit type a.big buffer used i (new_of a.new)) × (buffer' ≡ edit_buffer type a.big buffer used i (new_of a.new))

-- a frame that is a written form of a type, by the type's table
pub record WrittenFrame (type tables frame : List ℕ) : Type 0 where
  pub typed : is_type type ≡ true
  pub table : Tabled type tables
  pub short : length frame ≤ largest_frame
  pub written : is_written most_variants (tree_at type 0) none_open frame ≡ true

-- a buffer whose used part is such a frame
pub record Held (type tables buffer : List ℕ) (used : ℕ) : Type 0 where
  pub roomy : used ≤ length buffer
  pub frame : WrittenFrame type tables (take used buffer)

-- nothing is open
abbrev pub fresh : ContainerDepths
fresh = record { structure = 0; array = 0; variant = 0; maybe = 0 }

-- the walk over a whole frame
abbrev pub WalksFrame : List ℕ → Bool → List ℕ → ℕ → MaybeNumber → List ℕ → List ℕ → Walked → Type 0
WalksFrame type big frame i x out out' r = Walks (editor_of big most_variants (tree_at type 0)) none_open 0 frame i x (most fresh) out out' r

-- what it found: the reading is there and may be put so; where it stands, and how long the new frame is
pub record Found (type : List ℕ) (big : Bool) (frame : List ℕ) (i : ℕ) (x : MaybeNumber) (place new : ℕ) : Type 0 where
  pub within : i < reading_count big most_variants (tree_at type 0) frame
  pub allowed : barred (reading_spot big most_variants (tree_at type 0) none_open frame i) x ≡ 0
  pub place_is : place ≡ (reading_spot big most_variants (tree_at type 0) none_open frame i).place
  pub inside : place ≤ new
  pub length_is : new ≡ length (edited_frame big most_variants (tree_at type 0) frame i x)

pub record Changing (type tables buffer : List ℕ) (used : ℕ) (t : Target) : Type 0 where
  pub held : Held type tables buffer used
  pub found : Found type t.aim.big (take used buffer) t.number (new_of t.aim.new) t.place t.length

-- and there is room for the new frame
pub record Storing (type tables buffer : List ℕ) (used : ℕ) (t : Target) : Type 0 where
  pub is : Changing type tables buffer used t
  pub fits : length_refusal t.length (length buffer) ≡ 0
