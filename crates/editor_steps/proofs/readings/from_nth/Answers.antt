-- `from_nth` meets its contract.
use mathlib.Core.Path.{refl, sym, subst}
use Rattle.meaning.specs.Padding.{Aligns}
use Rattle.framing_offset_size.proofs.WidthLaws.{width_aligns}
use Rattle.editor_steps.proofs.ReadingsLaws.{nth_inside, nth_first, nth_made}
use Rattle.editor_steps.proofs.readings.from_nth.Goals as goal

pub returns-then-number-eq0 : goal.returns-then-number-eq0
returns-then-number-eq0 c = nth_first c.args.all c.args.number c.args.part.now c.if-number-eq0.true

pub offset_at-place-requires : goal.offset_at-place-requires
offset_at-place-requires c =
    ((nth_inside c.args.all c.args.part.now c.args.number c.width-width.result c.requires.0 c.requires.1 c.if-number-eq0.false c.width-width.ensures).0, subst Aligns (sym c.width-width.ensures) (width_aligns c.args.all.size))

pub returns : goal.returns
returns c =
    nth_made c.args.all c.args.number c.args.part.now _ _ _ c.if-number-eq0.false c.width-width.ensures refl c.offset_at-place.ensures
