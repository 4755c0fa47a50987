-- `move_elements` meets its contract.
use mathlib.Core.Path.{◌≡◌, refl, sym, ◌∙◌}
use mathlib.Core.List.{List}
use Prim.Native.Nat.{ℕ, ◌+◌, ◌-◌, ◌<◌}
use native.Mathlib.Omega.{arith}
use lib.ListN.{length}
use Rattle.meaning.specs.Written.{layout}
use Rattle.editor_basic.specs.Puts.{over}
use Rattle.editor_basic.specs.Elements.{elements_in, behind_of}
use Rattle.editor_basic.proofs.PutLaws.{over_beyond}
use Rattle.editor_basic.proofs.ElementLaws.{left}
use Rattle.editor_basic.proofs.StayLaws.{elements_kept}
use Rattle.editor_basic.proofs.RewriteLaws.{reaching_most}
use Rattle.editor_basic.proofs.RunLaws.{Running, running_begin, running_joined, running_broken, running_end}
use Rattle.editor_basic.proofs.rewriter.move_elements.Goals as goal
use Rattle.editor_basic.proofs.rewriter.move_elements.Goals.{then-padding-gt0, else-padding-gt0+else-rest-start}

pub overflow_add-result : goal.overflow_add-result
overflow_add-result c =
    let e = c.args.elements in
    omega (arith, reaching_most e c.args.old.now c.args.to c.requires.0, elements_kept e c.args.old.now _ _ c.requires.0 c.if-due.true c.due.ensures.0 c.due-then-out-at.ensures.0 c.end_of.ensures, c.requires.1)

pub returns-then-due-clause-bytes : goal.returns-then-due-clause-bytes
returns-then-due-clause-bytes c = sym (over_beyond _ _ _ c.if-out-at.true)

pub returns-then-due-clause-end : goal.returns-then-due-clause-end
returns-then-due-clause-end c =
    elements_kept c.args.elements c.args.old.now _ _ c.requires.0 c.if-due.true c.due.ensures.0 c.due-then-out-at.ensures.0 c.end_of.ensures

pub loop-init : goal.loop-init
loop-init c = (running_begin _ _ _ _ _ c.requires.0 (omega (arith, c.requires.1)), omega arith, refl, omega arith)

pub loop-preserved : goal.loop-preserved
loop-preserved c =
    let l = c.loop in
    let b = c.if-padding-gt0 in
    let f = c.first_element-start in
    let e = f.result in
    let h : 0 < l.rest.count = left l.invariant.3 c.loop-test.true in
    let pad = c.due-padding in
    let whole : List ℕ = layout c.args.to (elements_in c.args.elements c.args.old.now) in
    let turned : Running (behind_of l.rest e.end) c.args.old.now (l.place + (pad.result + (e.end - e.start))) (c.args.to + length whole) b.out (over c.args.out.now c.args.at whole) b.next b.gap b.from
    × (b.next + b.gap + (e.end - b.from) + c.args.to ≡ c.args.at + (l.place + (pad.result + (e.end - e.start)))) = elim b.branch [
      | then-padding-gt0 w ↦ rw (w.out-is, w.next-is, w.gap-is, w.from-is) (
        running_broken l.rest c.args.old.now e l.place _ _ _ _ _ _ l.invariant.0 f.ensures h _ pad.ensures.0 _ pad.ensures.1 w.move_run.ensures,
        omega (arith, l.invariant.1),
      )
      | else-padding-gt0+else-rest-start w ↦ rw (w.out-is, w.next-is, w.gap-is, w.from-is) (
        running_joined l.rest c.args.old.now e l.place _ _ _ _ _ _ l.invariant.0 f.ensures h _ pad.ensures.0 (omega (arith, w.if-padding-gt0.false)) (omega (arith, w.if-rest-start.false, f.ensures.start)),
        omega (arith, l.invariant.1, l.invariant.0.order, w.if-padding-gt0.false, w.if-rest-start.false, f.ensures.start, f.ensures.order),
      )
    ] in
    rw c.behind-rest.ensures (turned.0, turned.1, b.auto.out ∙ l.invariant.2, omega (arith, l.invariant.3, c.loop-test.true))

pub returns : goal.returns
returns c =
    let l = c.loop in
    let e = running_end l.rest c.args.old.now l.place _ _ _ _ _ _ _ l.invariant.0 (omega (arith, l.invariant.3, c.loop-test.false)) c.move_part.ensures in
    record { bytes = e.0; end = e.1 }
