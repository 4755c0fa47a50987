-- `reader_runs::elements::each` meets its contract. Assumes nothing.
use mathlib.Core.Path.{ap, sym, ◌∙◌}
use native.Mathlib.Omega.{arith}
use Rattle.meaning.specs.Calls.{Counts}
use Rattle.meaning.proofs.RefusalLaws.{number_not_0}
use Rattle.reader_basic.proofs.Answers.{handed}
use Rattle.reader_runs.proofs.Turns.{body_ends, left_begin, left_passes, left_end, turn_of, turn_starts, turn_ends, turn_fits, turn_stop, turn_next}
use Rattle.reader_runs.proofs.elements.each.Goals as goal

pub overflow_add-body_end : goal.overflow_add-body_end
overflow_add-body_end g c =
    omega (arith, body_ends c.requires.1, c.requires.0)

pub loop-i-init : goal.loop-i-init
loop-i-init g c =
    left_begin _ c.args.offsets _ _ _ _

pub overflow_add-end : goal.overflow_add-end
overflow_add-end g c =
    omega (arith, turn_ends (turn_of _ c.requires.1 c.loop-i.invariant c.loop-i-test.true c.next.ensures c.unwrap_or.ensures), c.requires.0)

pub overflow_add-lead : goal.overflow_add-lead
overflow_add-lead g c =
    omega (arith, turn_starts (turn_of _ c.requires.1 c.loop-i.invariant c.loop-i-test.true c.next.ensures c.unwrap_or.ensures), c.requires.0)

pub child-r-requires : goal.child-r-requires
child-r-requires g c =
    (c.requires.0, turn_ends (turn_of _ c.requires.1 c.loop-i.invariant c.loop-i-test.true c.next.ensures c.unwrap_or.ensures), λ h. c.requires.2 _ _ h (turn_ends (turn_of _ c.requires.1 c.loop-i.invariant c.loop-i-test.true c.next.ensures c.unwrap_or.ensures)))

pub behind-requires : goal.behind-requires
behind-requires g c =
    omega (arith, turn_fits (turn_of _ c.requires.1 c.loop-i.invariant c.loop-i-test.true c.next.ensures c.unwrap_or.ensures) _ c.child-r.ensures, c.requires.0)

pub returns-in_err-read : goal.returns-in_err-read
returns-in_err-read g c =
    let e = c.in_err-read.ensures in
    rw (handed _ _ c.from_residual.ensures, e) (turn_stop (turn_of _ c.requires.1 c.loop-i.invariant c.loop-i-test.true c.next.ensures c.unwrap_or.ensures) _ c.child-r.ensures (λ z. number_not_0 _ (ap (λ (x : Counts). x.refusal) e ∙ z)))

pub loop-i-preserved : goal.loop-i-preserved
loop-i-preserved g c =
    let e = c.in_ok-read.ensures in
    rw (ap (λ (x : Counts). x.used) e, ap (λ (x : Counts). x.count) e) (turn_next (turn_of _ c.requires.1 c.loop-i.invariant c.loop-i-test.true c.next.ensures c.unwrap_or.ensures) _ c.child-r.ensures (sym (ap (λ (x : Counts). x.refusal) e)))

pub overflow_sub-part : goal.overflow_sub-part
overflow_sub-part g c =
    omega (arith, body_ends c.requires.1)

pub overflow_add-read : goal.overflow_add-read
overflow_add-read g c =
    omega (arith, left_passes c.requires.1 c.loop-i.invariant, c.requires.0)

pub returns : goal.returns
returns g c =
    rw c.done.ensures (left_end c.requires.1 c.loop-i.invariant c.loop-i-test.false)
