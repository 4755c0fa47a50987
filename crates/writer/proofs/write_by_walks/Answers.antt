-- `writer::write_by_walks` meets its contract. Assumes nothing.
use lib.Seq.{length-take-le}
use native.Mathlib.Omega.{arith}
use mathlib.Core.Path.{refl, sym, ◌∙◌}
use Rattle.meaning.proofs.RefusalLaws.{number_not_0}
use Rattle.writer_basic.proofs.Answers.{handed}
use Rattle.writer.specs.Answers.{faulty}
use Rattle.writer.proofs.Frames.{write_refused, judged_good, write_again, write_held, held_fits}
use Rattle.writer.proofs.write_by_walks.Goals as goal

pub returns-in_err-walked : goal.returns-in_err-walked
returns-in_err-walked c =
    let known = rw (◌∙◌ {a = c.whole-walk.result} (grind arith) c.in_err-walked.was) at c.whole-walk.ensures in
    let whole = write_refused _ _ _ _ _ c.requires.0 _ _ _ known _ (faulty (number_not_0 _) refl) (number_not_0 _) in
    rw (handed _ _ c.from_residual.ensures) (record { answer = whole.0; slice = whole.1 })

pub returns-in_err-judge : goal.returns-in_err-judge
returns-in_err-judge c =
    let known = rw (◌∙◌ {a = c.whole-walk.result} (grind arith) c.in_ok-walked.was) at c.whole-walk.ensures in
    let whole = write_refused _ _ _ _ _ c.requires.0 _ _ _ known _ c.in_err-judge.ensures (number_not_0 _) in
    rw (handed _ _ c.from_residual-in_err-judge.ensures) (record { answer = whole.0; slice = whole.1 })

pub slice_bounds-whole-end : goal.slice_bounds-whole-end
slice_bounds-whole-end c = (judged_good _ _ _ _ c.in_ok-judge.ensures refl).fits

pub slice_bounds-whole-end-then-held-length : goal.slice_bounds-whole-end-then-held-length
slice_bounds-whole-end-then-held-length c = sym (length-take-le _ _ (judged_good _ _ _ _ c.in_ok-judge.ensures refl).fits)

pub returns-then-held-length : goal.returns-then-held-length
returns-then-held-length c =
    let known = rw (◌∙◌ {a = c.whole-walk.result} (grind arith) c.in_ok-walked.was) at c.whole-walk.ensures in
    let g = judged_good _ _ _ _ c.in_ok-judge.ensures refl in
    let whole = write_again _ _ _ _ _ c.requires.0 _ _ _ known g.refusal g.all g.short g.fits _ _ _ (length-take-le _ _ g.fits) (omega arith) c.whole.ensures in
    record { answer = whole.0; slice = whole.1 }

pub slice_bounds-copy_all-end-2 : goal.slice_bounds-copy_all-end-2
slice_bounds-copy_all-end-2 c = sym (length-take-le _ _ (omega (arith, c.if-held-length.false)))

pub copy_all-requires : goal.copy_all-requires
copy_all-requires c = held_fits _ _ _ (omega (arith, c.if-held-length.false)) (judged_good _ _ _ _ c.in_ok-judge.ensures refl).fits

pub returns : goal.returns
returns c =
    let known = rw (◌∙◌ {a = c.whole-walk.result} (grind arith) c.in_ok-walked.was) at c.whole-walk.ensures in
    let g = judged_good _ _ _ _ c.in_ok-judge.ensures refl in
    let whole = write_held _ _ _ _ _ c.requires.0 _ _ _ known g.refusal g.all g.short g.fits _ (omega (arith, c.if-held-length.false)) c.requires.2 c.copy_all.ensures in
    record { answer = whole.0; slice = whole.1 }
