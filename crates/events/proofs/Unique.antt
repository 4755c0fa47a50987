-- Each public contract leaves one answer. Assumes nothing.
use mathlib.Core.Path.{refl, sym, ◌∙◌}
use Rattle.meaning.specs.OneAnswer.{OneAnswer, OneView}
use Rattle.events.proofs.emit.Kinds as emit_kinds
use Rattle.events.proofs.emit.Reads as emit
use Rattle.events.proofs.event_text.Kinds as event_text_kinds
use Rattle.events.proofs.event_text.Reads as event_text

pub emit_unique : OneAnswer emit_kinds.ps emit_kinds.r emit.Learnt
emit_unique κs a z z' w w' p q =
    let slice = p.1 ∙ sym q.1 in
    (p.0 ∙ sym q.0, λ i. (slice i, (tt, (tt, (tt, (tt, tt))))))

pub event_text_unique : OneView event_text_kinds.ps event_text_kinds.r (λ κs z. z.now) event_text.Learnt
event_text_unique κs a z z' w w' p q = (p ∙ sym q, refl)
