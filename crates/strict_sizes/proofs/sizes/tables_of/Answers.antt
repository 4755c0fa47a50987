-- `tables_of` meets its contract: the loop keeps a table that has what stands behind a place. Assumes nothing.
use mathlib.Core.Bool.{false≢true}
use Rattle.strict_sizes.proofs.TableLaws.{table_judges, table_begin, table_turn, table_next, table_end}
use mathlib.Core.Path.{sym, ◌∙◌}
use native.Mathlib.Omega.{arith}
use Rattle.strict_sizes.proofs.sizes.tables_of.Goals as goal

pub returns-then-not-shapes_of : goal.returns-then-not-shapes_of
returns-then-not-shapes_of c =
    record { judged = sym c.if-not-shapes_of.true ∙ table_judges _ _ _ _ c.requires c.shapes_of.ensures; filled = λ z. absurd (false≢true z) }

pub loop-i-init : goal.loop-i-init
loop-i-init c =
    (omega arith, table_begin _ _ _ _ c.requires c.shapes_of.ensures c.if-not-shapes_of.false)

pub measure-requires : goal.measure-requires
measure-requires c =
    (table_turn c.loop-i-test.true c.loop-i.invariant.1, omega (arith, c.loop-i.invariant.0, c.loop-i-test.true))

pub overflow_cast-tables : goal.overflow_cast-tables
overflow_cast-tables c =
    omega (arith, c.measure.ensures.1)

pub bounds-tables-i : goal.bounds-tables-i
bounds-tables-i c =
    omega (arith, c.loop-i.invariant.0, c.loop-i-test.true, c.loop-i.invariant.1.shapes.few, c.loop-i.invariant.1.room)

pub loop-i-preserved : goal.loop-i-preserved
loop-i-preserved c = (
  omega (arith, c.loop-i.invariant.0),
  table_next _ _ _ _ (table_turn c.loop-i-test.true c.loop-i.invariant.1) (omega (arith, c.loop-i.invariant.0, c.loop-i-test.true)) c.measure.ensures.0,
)

pub returns : goal.returns
returns c =
    record {
      judged = sym c.if-not-shapes_of.false ∙ table_judges _ _ _ _ c.requires c.shapes_of.ensures;
      filled = λ z. table_end c.loop-i-test.false c.loop-i.invariant.1;
    }
