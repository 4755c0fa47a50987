-- `reader::read_once` meets its contract. Assumes nothing.
use mathlib.Core.Path.{refl, sym, ◌∙◌}
use native.Mathlib.Omega.{arith}
use Rattle.meaning.proofs.RefusalLaws.{number_not_0}
use Rattle.reader_basic.proofs.Answers.{handed}
use Rattle.reader.proofs.Frames.{once_refused, once_small, once_again, once_held}
use Rattle.reader.proofs.read_once.Goals as goal

pub returns-in_err-walked : goal.returns-in_err-walked
returns-in_err-walked c =
    let w = once_refused _ _ _ _ _ c.in_err-walked.ensures (number_not_0 _) in
    record { answer = rw (handed _ _ c.from_residual.ensures) w.0; slice = w.1 }

pub returns-then-out-walked : goal.returns-then-out-walked
returns-then-out-walked c =
    let w = once_small _ _ _ _ _ c.in_ok-walked.ensures refl c.if-out-walked.true in
    record { answer = w.0; slice = w.1 }

pub returns-in_err-whole : goal.returns-in_err-whole
returns-in_err-whole c = absurd (number_not_0 _ (c.in_err-whole.ensures.refusal ∙ sym c.in_ok-walked.ensures.refusal))

pub returns-then-walked-gt640 : goal.returns-then-walked-gt640
returns-then-walked-gt640 c =
    let w = once_again _ _ _ _ _ c.in_ok-walked.ensures refl c.if-out-walked.false _ _ c.in_ok-whole.ensures in
    record { answer = w.0; slice = w.1 }

pub returns : goal.returns
returns c =
    let w = once_held _ _ _ _ _ c.in_ok-walked.ensures refl c.if-out-walked.false (omega (arith, c.if-walked-gt640.false)) in
    record { answer = w.0; slice = rw c.copy_from_slice.ensures.after w.1 }
