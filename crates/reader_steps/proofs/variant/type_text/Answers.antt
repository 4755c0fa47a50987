-- `reader_steps::variant::type_text` meets its contract. Assumes nothing.
use Rattle.reader_basic.proofs.Answers.{refused_at, told_by}
use Rattle.reader_steps.proofs.Variants.{type_text_refused, type_text_there}
use Rattle.meaning.specs.Texts.{text_refusal}
use Rattle.meaning.proofs.RefusalLaws.{number_not_0}
use Rattle.std.proofs.Common.{sym, ap, ◌∙◌}
use Rattle.reader_steps.proofs.variant.type_text.Goals as goal

pub returns-in_err-or_stop : goal.returns-in_err-or_stop
returns-in_err-or_stop c =
    let s = c.in_err-or_stop.ensures in
    refused_at _ _ c.from_residual.ensures s (type_text_refused _ _ _ _ _ _ _ c.emit-m.ensures.counted c.emit-m.ensures.written _
    (rw s.refusal at c.check.ensures ∙ ap text_refusal c.text-letters.ensures) (number_not_0 _))

pub returns : goal.returns
returns c =
    told_by c.done.ensures (type_text_there _ _ _ _ _ _ _ c.emit-m.ensures.counted c.emit-m.ensures.written _ _
    (sym (rw c.in_ok-or_stop.ensures at c.check.ensures ∙ ap text_refusal c.text-letters.ensures)) c.emit-g.ensures.counted
    (rw c.text-letters.ensures at c.emit-g.ensures.written))
