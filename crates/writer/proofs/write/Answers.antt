-- `writer::write` meets its contract. Assumes nothing.
use native.Mathlib.Omega.{arith}
use mathlib.Core.Path.{refl}
use borrow.Author.Tests.{not-true, not-false}
use Rattle.signature.proofs.ShapeLaws.{table_filled, table_refused, table_type}
use Rattle.writer.proofs.Frames.{write_untyped}
use Rattle.writer.proofs.write.Goals as goal

pub returns-then-not-shapes_of : goal.returns-then-not-shapes_of
returns-then-not-shapes_of c =
    let whole = write_untyped _ _ _ _ _ (table_refused _ _ _ _ refl c.shapes_of.ensures (not-true _ c.if-not-shapes_of.true-raw)) in
    record { answer = whole.0; slice = whole.1 }

pub write_by_walks-requires : goal.write_by_walks-requires
write_by_walks-requires c =
    let good = not-false _ c.if-not-shapes_of.false-raw in
    (table_type _ _ _ _ refl c.shapes_of.ensures good, table_filled _ _ _ _ refl c.shapes_of.ensures c.shapes_of.auto.shapes good, omega arith)

pub write_by_walks-requires-2 : goal.write_by_walks-requires-2
write_by_walks-requires-2 c =
    let good = not-false _ c.if-not-shapes_of.false-raw in
    (table_type _ _ _ _ refl c.shapes_of.ensures good, table_filled _ _ _ _ refl c.shapes_of.ensures c.shapes_of.auto.shapes good, omega arith)
