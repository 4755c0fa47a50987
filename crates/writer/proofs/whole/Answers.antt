-- `writer::whole` meets its contract. Assumes nothing.
use native.Mathlib.Omega.{arith}
use mathlib.Core.Path.{refl, ap}
use Rattle.signature.proofs.TreeLaws.{described_as, front, front_described}
use Rattle.signature.specs.declared.shapes.Shape.{Shape}
use Rattle.writer.proofs.Frames.{start_shallow, whole_done}
use Rattle.writer.proofs.whole.Goals as goal

pub value-requires : goal.value-requires
value-requires c =
    (described_as c.shape_in-shape.ensures (front_described _ _ c.requires.1 (front _ c.requires.0)), start_shallow _ _ c.new-depths.ensures, record { within = omega arith; near = omega arith; few = omega arith })

pub returns : goal.returns
returns c = whole_done _ _ _ _ _ _ _ _ _ _ _ c.new-depths.ensures (ap (λ (s : Shape). s.at) c.shape_in-shape.ensures) refl c.value.ensures
