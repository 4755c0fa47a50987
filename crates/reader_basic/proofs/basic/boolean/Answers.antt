-- `reader_basic::basic::boolean` meets its contract. Assumes nothing.
use mathlib.Core.Path.{refl, ◌∙◌}
use Rattle.meaning.proofs.RefusalLaws.{number_not_0}
use Rattle.reader_basic.proofs.Answers.{refused_at}
use Rattle.reader_basic.proofs.Leaves.{bool_missing, bool_there, bool_told}
use Rattle.reader_basic.proofs.basic.boolean.Goals as goal

pub returns-in_err-found : goal.returns-in_err-found
returns-in_err-found c =
    let s = c.in_err-found.ensures in
    λ d. refused_at _ _ c.from_residual.ensures s (bool_missing d _ _ _ _ _ (rw s.refusal at c.read_bool.ensures) (number_not_0 _))

pub returns : goal.returns
returns c =
    λ d. rw c.done.ensures (bool_there d _ _ _ _ _ (rw c.in_ok-found.ensures at c.read_bool.ensures) _ _ refl c.emit-count.ensures.counted (c.emit-count.ensures.written ∙ rw (c.from.ensures ∙ bool_told c.in_ok-found.found)))
