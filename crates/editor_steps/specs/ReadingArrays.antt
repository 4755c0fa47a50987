-- Arrays whose elements are readings: the elements from one of them on, found directly. Assumes nothing: these are definitions.
use Rattle.std.specs.Prelude.{◌≡◌, List, Bool, ℕ, zero, suc, ◌+◌, ◌-◌, ◌*◌}
use Rattle.std.proofs.Math.Option.{some}
use Rattle.meaning.specs.Numbers.{value}
use Rattle.meaning.specs.Padding.{Aligns}
use Rattle.meaning.specs.Types.{Tree}
use Rattle.meaning_writing.specs.Shapes.{part}
use Rattle.meaning_writing.specs.Strict.{Test}
use Rattle.meaning_writing.specs.Readings.{Slot, slot_type}
use Rattle.meaning_writing.specs.Edited.{Editor, maybe_editor}
use Rattle.container_depths.specs.Opening.{depths_of}
use Rattle.container_depths.specs.declared.ContainerDepths.{ContainerDepths}
use Rattle.framing_offset_size.specs.Widths.{width_of}
use Rattle.signature.specs.Places.{basic_kind}
use Rattle.signature.specs.declared.Letter.{Letter}
use Rattle.editor_basic.specs.declared.elements.Elements.{Elements}
use Rattle.editor_steps.specs.declared.answers.Aim.{Aim}
use Rattle.editor_steps.specs.Walked.{Walked}
use Rattle.editor_steps.specs.Walks.{new_of, Walks, container_most, most, Ready, elements_test, elements_editor}

-- so many elements passed: the one in front of the rest ends where its own offset says
unfoldable pub from_nth : Elements → ℕ → List ℕ → Elements
from_nth e zero l = e
from_nth e (suc n) l = record {
  alignment = e.alignment;
  size = e.size;
  count = e.count - suc n;
  from = e.from + suc n * width_of e.size;
  place = value (part (e.from + n * width_of e.size) (e.from + n * width_of e.size + width_of e.size) l);
}

-- a letter whose maybe is a reading
pub record Slotted (kind : Letter) : Type 0 where
  pub tree : Tree
  pub slot : Slot tree
  pub is : kind ≡ basic_kind (slot_type slot)

-- the bytes of an open array of such maybes
pub record ReadyEach (kind : Letter) (a : ℕ) (d : ContainerDepths) (p : ℕ) (l : List ℕ) : Type 0 where
  pub slotted : Slotted kind
  pub test : Test
  pub tested : test.shape.alignment ≡ a
  pub aligned : Aligns a
  pub ready : Ready (elements_test test) d p l

-- the walk over them
pub record ReadsEach (kind : Letter) (a : ℕ) (aim : Aim) (d : ContainerDepths) (p : ℕ) (l : List ℕ) (i : ℕ) (out out' : List ℕ) (r : Walked) : Type 0 where
  pub is : (u : Tree) (s : Slot u) → kind ≡ basic_kind (slot_type s) → (fx : Bool) (t : Editor)
      → Walks (elements_editor (maybe_editor aim.big (some s) a fx t)) (depths_of d) p l i (new_of aim.new) (most d + container_most) out out' r
