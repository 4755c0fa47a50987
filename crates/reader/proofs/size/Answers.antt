-- `reader::size` meets its contract. Assumes nothing.
use mathlib.Core.Path.{refl}
use Rattle.signature.proofs.ShapeLaws.{table_refused, table_filled, table_type}
use borrow.Author.Tests.{not-true, not-false}
use Rattle.reader.proofs.Frames.{type_refused_lem}
use Rattle.reader.proofs.size.Goals as goal

pub returns-then-not-shapes_of : goal.returns-then-not-shapes_of
returns-then-not-shapes_of c =
    type_refused_lem _ _ _ _ (table_refused _ _ _ _ refl c.shapes_of.ensures (not-true _ c.if-not-shapes_of.true-raw))

pub sized-requires : goal.sized-requires
sized-requires c =
    (table_type _ _ _ _ refl c.shapes_of.ensures (not-false _ c.if-not-shapes_of.false-raw), table_filled _ _ _ _ refl c.shapes_of.ensures c.shapes_of.auto.shapes (not-false _ c.if-not-shapes_of.false-raw))
