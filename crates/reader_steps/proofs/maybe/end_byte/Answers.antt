-- `reader_steps::maybe::end_byte` meets its contract. Assumes nothing.
use Rattle.meaning.proofs.RefusalLaws.{number_not_0}
use Rattle.reader_basic.proofs.Answers.{handed_on, told_by}
use Rattle.reader_steps.proofs.Maybes.{end_byte_stop, end_byte_other, end_byte_zero}
use Rattle.std.proofs.Common.{refl, arith}
use Rattle.reader_steps.proofs.maybe.end_byte.Goals as goal

pub returns-in_err-read : goal.returns-in_err-read
returns-in_err-read c =
    λ o place n l l' d. handed_on _ _ c.from_residual.ensures (end_byte_stop o _ _ place n l l' _ (rw c.in_err-read.was at d) (number_not_0 _))

pub overflow_add-lead : goal.overflow_add-lead
overflow_add-lead c =
    omega (arith, (rw c.in_ok-read.was at c.requires.3) refl, c.requires.0, c.requires.1)

pub bounds-part-lead : goal.bounds-part-lead
bounds-part-lead c =
    omega (arith, c.requires.0, (rw c.in_ok-read.was at c.requires.3) refl)

pub returns-then-part-lead-ne0 : goal.returns-then-part-lead-ne0
returns-then-part-lead-ne0 c =
    λ o place n l l' d. told_by c.refused.ensures (end_byte_other o _ _ place n l l' _ (rw c.in_ok-read.was at d) c.requires.0 refl c.if-part-lead-ne0.true)

pub overflow_add-read : goal.overflow_add-read
overflow_add-read c =
    omega (arith, c.requires.0, c.requires.1, (rw c.in_ok-read.was at c.requires.3) refl)

pub returns : goal.returns
returns c =
    λ o place n l l' d. told_by c.done.ensures (end_byte_zero o _ _ place n l l' _ (rw c.in_ok-read.was at d) c.requires.0 refl c.if-part-lead-ne0.false)
