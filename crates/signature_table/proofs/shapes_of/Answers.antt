-- `shapes_of` meets its contract. Assumes nothing.
use mathlib.Core.Path.{◌≡◌, refl}
use mathlib.Core.Bool.{Bool, true, false, not}
use native.Mathlib.Omega.{arith}
use lib.Dec.{eqb}
use lib.ListN.{set}
use borrow.Author.Tests.{eqb-true, eqb-false, eq-eqb}
use Rattle.signature.specs.Shapes.{Answered}
use Rattle.signature.proofs.ShapeLaws.{answered_lone_none, answered_lone, answered_none, answered_found}
use Rattle.signature_table.proofs.shapes_of.Goals as goal

pub returns-then-text-eq1 : goal.returns-then-text-eq1
returns-then-text-eq1 c = go (eqb c.lone_shape-lone.result 0) refl
  where
    go : (q : Bool) → eqb c.lone_shape-lone.result 0 ≡ q → Answered c.args.text.now c.args.shapes.now (set c.args.shapes.now 0 c.lone_shape-lone.result) (not q)
    go true e = answered_lone_none c.args.text.now c.args.shapes.now _ c.if-text-eq1.true c.if-shapes-text.false c.lone_shape-lone.ensures (eqb-true _ _ e)
    go false e = answered_lone c.args.text.now c.args.shapes.now _ c.if-text-eq1.true c.if-shapes-text.false c.lone_shape-lone.ensures (eqb-false _ _ e)

pub returns-else-whole-ne0 : goal.returns-else-whole-ne0
returns-else-whole-ne0 c =
    rw (eq-eqb c.seen-whole.result 0 c.if-whole-ne0.false)
    (answered_none c.args.text.now c.args.shapes.now c.fill.new.shapes c.seen-whole.result c.if-text-gt-LONGEST_TYPE.false c.if-shapes-text.false
    c.fill.ensures (c.seen-whole.ensures 0 (omega arith) c.fill.ensures.each) c.if-whole-ne0.false)

pub returns-then-whole-ne0 : goal.returns-then-whole-ne0
returns-then-whole-ne0 c =
    answered_found c.args.text.now c.args.shapes.now c.fill.new.shapes c.seen-whole.result c.if-text-gt-LONGEST_TYPE.false c.if-shapes-text.false
    c.fill.ensures (c.seen-whole.ensures 0 (omega arith) c.fill.ensures.each) c.if-whole-ne0.true c.next_of.result c.next_of.ensures
