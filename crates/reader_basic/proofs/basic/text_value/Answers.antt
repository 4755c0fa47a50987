-- `reader_basic::basic::text_value` meets its contract. Assumes nothing.
use mathlib.Core.Path.{refl, ◌∙◌}
use Rattle.meaning.proofs.RefusalLaws.{number_not_0}
use Rattle.reader_basic.proofs.Answers.{refused_at}
use Rattle.reader_basic.proofs.Leaves.{text_refused, text_there}
use Rattle.reader_basic.proofs.basic.text_value.Goals as goal

pub returns-in_err-or_stop : goal.returns-in_err-or_stop
returns-in_err-or_stop c =
    let s = c.in_err-or_stop.ensures in
    λ d. refused_at _ _ c.from_residual.ensures s (text_refused _ d _ _ _ _ _ _ c.text-letters.ensures (rw s.refusal at c.check.ensures) (number_not_0 _))

pub returns : goal.returns
returns c =
    λ d. rw c.done.ensures (text_there _ d _ _ _ _ _ _ c.text-letters.ensures (rw c.in_ok-or_stop.ensures at c.check.ensures) _ _ refl c.emit-count.ensures.counted (c.emit-count.ensures.written ∙ rw c.from.ensures))
