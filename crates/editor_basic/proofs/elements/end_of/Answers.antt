-- `end_of` meets its contract.
use mathlib.Core.Path.{ap, ◌∙◌}
use Prim.Native.Nat.{ℕ, ◌+◌, ◌-◌, ◌*◌}
use native.Mathlib.Omega.{arith}
use Rattle.meaning.specs.Numbers.{value}
use Rattle.meaning_writing.specs.Shapes.{part}
use Rattle.framing_offset_size.proofs.WidthLaws.{width_aligns}
use Rattle.editor_basic.proofs.StayLaws.{none_stays, last_inside, last_stays}
use Rattle.editor_basic.proofs.elements.end_of.Goals as goal

pub returns-then-count-eq0 : goal.returns-then-count-eq0
returns-then-count-eq0 c = none_stays c.args.elements c.args.part.now c.if-count-eq0.true

pub offset_at-requires : goal.offset_at-requires
offset_at-requires c = rw c.width-width.ensures (last_inside c.args.elements c.args.part.now c.requires c.if-count-eq0.false, width_aligns c.args.elements.size)

pub returns : goal.returns
returns c =
    let e = c.args.elements in
    c.offset_at.ensures
    ∙ ap (λ (w : ℕ). value (part (e.from + (e.count - 1) * w) (e.from + (e.count - 1) * w + w) c.args.part.now)) c.width-width.ensures
    ∙ last_stays (e.count - 1) e c.args.part.now (omega (arith, c.if-count-eq0.false)) c.requires
