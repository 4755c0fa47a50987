-- `reader::read` meets its contract. Assumes nothing.
use mathlib.Core.Path.{refl}
use Rattle.signature.proofs.ShapeLaws.{table_refused, table_filled, table_type}
use borrow.Author.Tests.{not-true, not-false}
use Rattle.reader.proofs.Frames.{type_read, type_slice}
use Rattle.reader.proofs.read.Goals as goal

pub returns-then-not-shapes_of : goal.returns-then-not-shapes_of
returns-then-not-shapes_of c =
    let w = table_refused _ _ _ _ refl c.shapes_of.ensures (not-true _ c.if-not-shapes_of.true-raw) in
    record { answer = type_read _ _ _ _ w _; slice = type_slice _ _ _ _ w _ }

pub read_once-requires : goal.read_once-requires
read_once-requires c = (
  table_type _ _ _ _ refl c.shapes_of.ensures (not-false _ c.if-not-shapes_of.false-raw),
  table_filled _ _ _ _ refl
      c.shapes_of.ensures c.shapes_of.auto.shapes (not-false _ c.if-not-shapes_of.false-raw),
)

pub read_twice-requires : goal.read_twice-requires
read_twice-requires c = (
  table_type _ _ _ _ refl c.shapes_of.ensures (not-false _ c.if-not-shapes_of.false-raw),
  table_filled _ _ _ _ refl
      c.shapes_of.ensures c.shapes_of.auto.shapes (not-false _ c.if-not-shapes_of.false-raw),
)
