-- `reader_basic::basic::byte` meets its contract. Assumes nothing.
use mathlib.Core.Path.{refl, ◌∙◌}
use native.Mathlib.Nat.{add-zero}
use Rattle.meaning.proofs.RefusalLaws.{number_not_0}
use Rattle.byte_order.proofs.Standings.{byte_number}
use Rattle.reader_basic.proofs.Answers.{refused_at}
use Rattle.reader_basic.proofs.Leaves.{byte_pads, number_short, number_there}
use Rattle.reader_basic.proofs.basic.byte.Goals as goal

pub returns-in_err-found : goal.returns-in_err-found
returns-in_err-found c =
    let s = c.in_err-found.ensures in
    λ position big d. refused_at _ _ c.from_residual.ensures s
    (number_short position big _ 1 d _ _ _ _ _ (byte_pads position _ _) _ refl (rw s.refusal at c.number.ensures ∙ byte_number _ _ _) (number_not_0 _))

pub returns : goal.returns
returns c =
    λ position big d. rw c.done.ensures (number_there position big _ 1 d _ _ _ _ _ (byte_pads position _ _) _ refl (rw c.in_ok-found.ensures at c.number.ensures ∙ byte_number _ _ _)
    _ _ refl c.emit-count.ensures.counted (c.emit-count.ensures.written ∙ rw (c.from.ensures, add-zero c.args.place)))
