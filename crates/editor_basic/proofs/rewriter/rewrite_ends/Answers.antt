-- `rewrite_ends` meets its contract.
use mathlib.Core.Path.{refl, sym, ap, ◌∙◌}
use mathlib.Core.List.{List}
use Prim.Native.Nat.{ℕ}
use native.Mathlib.Omega.{arith}
use Rattle.meaning_writing.proofs.Parts.{bytes_from}
use Rattle.editor_basic.specs.Puts.{over}
use Rattle.editor_basic.proofs.PutLaws.{over_beyond}
use Rattle.editor_basic.proofs.ElementLaws.{left}
use Rattle.editor_basic.proofs.RewriteLaws.{reaching_begin, listing_turn, listing_end}
use Rattle.editor_basic.proofs.StayLaws.{offsets_kept}
use Rattle.editor_basic.proofs.rewriter.rewrite_ends.Goals as goal

pub returns-then-out-at : goal.returns-then-out-at
returns-then-out-at c = sym (over_beyond _ _ _ c.if-out-at.true)

pub returns-then-width : goal.returns-then-width
returns-then-width c =
    let e = c.args.elements in
    let old = c.args.old.now in
    let kept = offsets_kept e old c.args.to c.args.width c.requires.0 (bytes_from old (λ i. omega (arith, c.type_inv.old i))) c.if-to-elements.true (c.if-width.true ∙ c.width.ensures) in
    c.put_part.ensures ∙ ap (λ (l : List ℕ). over c.args.out.now c.args.at l) kept

pub loop-init : goal.loop-init
loop-init c = (reaching_begin _ _ _ c.requires.0 (omega (arith, c.requires.1)), refl, omega arith, refl, omega arith)

pub loop-preserved : goal.loop-preserved
loop-preserved c =
    let f = c.first_element-child in
    let l = c.loop in
    let t = listing_turn l.rest c.args.old.now f.result l.place _ l.invariant.0 f.ensures (left c.loop.invariant.4 c.loop-test.true) _ c.behind-rest.ensures _ c.due.ensures.0 _ _ _ _ _ c.put_low_first.ensures l.invariant.1 in (
      t.0,
      t.1,
      rw c.behind-rest.ensures (omega (arith, l.invariant.2, l.invariant.4, c.requires.2, c.loop-test.true)),
      c.put_low_first.auto.out ∙ l.invariant.3,
      rw c.behind-rest.ensures (omega (arith, l.invariant.4, c.loop-test.true)),
    )

pub returns : goal.returns
returns c =
    let l = c.loop in
    listing_end l.rest c.args.old.now (omega (arith, c.loop.invariant.4, c.loop-test.false)) _ _ _ _ _ l.invariant.1
