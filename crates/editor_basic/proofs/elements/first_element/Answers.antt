-- `first_element` meets its contract.
use mathlib.Core.Path.{ap, ◌∙◌}
use Prim.Native.Nat.{ℕ, ◌+◌}
use Rattle.meaning.specs.Numbers.{value}
use Rattle.meaning_writing.specs.Shapes.{part}
use Rattle.framing_offset_size.proofs.WidthLaws.{width_aligns}
use Rattle.editor_basic.proofs.ElementLaws.{offset_inside, first_of}
use Rattle.editor_basic.proofs.elements.first_element.Goals as goal

pub offset_at-end-requires : goal.offset_at-end-requires
offset_at-end-requires c =
    let e = c.args.elements in
    rw c.width.ensures (offset_inside e _ c.requires.0 c.requires.1, width_aligns e.size)

pub returns : goal.returns
returns c =
    let e = c.args.elements in
    let begins = ap (λ (n : ℕ). e.place + n) c.due.ensures.0 in
    let ends = c.offset_at-end.ensures ∙ ap (λ (w : ℕ). value (part e.from (e.from + w) c.args.part.now)) c.width.ensures in
    first_of e _ _ c.requires.0 c.requires.1 begins ends
