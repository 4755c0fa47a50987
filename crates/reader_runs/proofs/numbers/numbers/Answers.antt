-- `reader_runs::numbers::numbers` meets its contract. Assumes nothing.
use Rattle.reader_basic.proofs.Leaves.{within_child}
use native.Mathlib.Omega.{arith}
use lib.ListN.{length, length-take, length-drop}
use Rattle.meaning.specs.Depths.{none_open}
use mathlib.Core.Path.{refl}
use Rattle.meaning.proofs.RefusalLaws.{number_not_0}
use Rattle.reader_basic.proofs.Answers.{handed_on}
use Rattle.meaning.proofs.Lists.{tail}
use Rattle.reader_runs.proofs.NumberLaws.{numbers_none, numbers_stop, numbers_on}
use Rattle.reader_runs.proofs.numbers.numbers.Goals as goal

pub returns-then-part-lead : goal.returns-then-part-lead
returns-then-part-lead c =
    λ d b. rw c.done.ensures (numbers_none c.args.context.position c.args.context.big c.args.code c.args.width c.requires.2 d c.args.place c.args.part.now b c.args.lead c.args.n c.args.out.now c.if-part-lead.true)

pub number-requires : goal.number-requires
number-requires c =
    (within_child c.args.part.now c.args.lead (length c.args.part.now) c.requires.0 c.requires.1 (omega arith), c.requires.2)

pub returns-in_err-first : goal.returns-in_err-first
returns-in_err-first c =
    λ d b. handed_on _ _ c.from_residual.ensures (numbers_stop _ _ _ _ c.requires.2 d _ _ b _ _ _ c.if-part-lead.false _ _ (rw (tail c.args.lead c.args.part.now) at (c.in_err-first.ensures d)) (number_not_0 _))

pub overflow_add-lead : goal.overflow_add-lead
overflow_add-lead c =
    let f = simp (length-take, length-drop) at (c.in_ok-first.ensures none_open).fits in omega arith

pub run_of-r-requires : goal.run_of-r-requires
run_of-r-requires c =
    let f = simp (length-take, length-drop) at (c.in_ok-first.ensures none_open).fits in
    (c.requires.0.in_frame, omega arith, c.requires.2)

pub behind-requires : goal.behind-requires
behind-requires c =
    let f = simp (length-take, length-drop) at (c.in_ok-first.ensures none_open).fits in
    let g = c.run_of-r.ensures.fits in
    omega arith

pub returns : goal.returns
returns c =
    λ d b. rw c.behind.ensures
    (numbers_on _ _ _ _ c.requires.2 d _ _ b _ _ _ c.if-part-lead.false _ _ (rw (tail c.args.lead c.args.part.now) at (c.in_ok-first.ensures d)) _ _ refl c.run_of-r.ensures)
