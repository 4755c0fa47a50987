-- `reader::read_twice` meets its contract. Assumes nothing.
use native.Mathlib.Omega.{arith}
use mathlib.Core.Path.{refl, sym, ◌∙◌}
use Rattle.meaning.proofs.RefusalLaws.{number_not_0}
use Rattle.reader_basic.proofs.Answers.{handed, made}
use Rattle.reader.proofs.Frames.{read_refused, slice_refused, read_small, slice_small, read_done, slice_done, same_refusal}
use Rattle.reader.proofs.read_twice.Goals as goal

pub returns-in_err-size : goal.returns-in_err-size
returns-in_err-size c =
    let known = rw (made c.in_err-size.was c.sized-sizing.result (grind arith)) at c.sized-sizing.ensures in
    record {
      answer = rw (handed _ _ c.from_residual.ensures) (read_refused _ _ _ _ _ _ known (number_not_0 _));
      slice = slice_refused _ _ _ _ _ _ known (number_not_0 _);
    }

pub returns-then-out-size : goal.returns-then-out-size
returns-then-out-size c =
    let known = rw (made c.in_ok-size.was c.sized-sizing.result (grind arith)) at c.sized-sizing.ensures in
    record { answer = read_small _ _ _ _ _ _ known c.if-out-size.true; slice = slice_small _ _ _ _ _ _ known c.if-out-size.true }

pub returns-in_err-whole : goal.returns-in_err-whole
returns-in_err-whole c =
    let known = rw (made c.in_ok-size.was c.sized-sizing.result (grind arith)) at c.sized-sizing.ensures in
    absurd (number_not_0 _ (c.in_err-whole.ensures.refusal ∙ sym (same_refusal _ _ _ _ c.args.out.now _ known)))

pub returns : goal.returns
returns c =
    let known = rw (made c.in_ok-size.was c.sized-sizing.result (grind arith)) at c.sized-sizing.ensures in
    record {
      answer = read_done _ _ _ _ _ _ known refl c.if-out-size.false _ _ c.in_ok-whole.ensures;
      slice = slice_done _ _ _ _ _ _ known refl c.if-out-size.false _ _ c.in_ok-whole.ensures;
    }
