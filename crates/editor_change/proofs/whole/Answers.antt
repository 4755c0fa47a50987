-- `whole` meets its contract. Assumes nothing.
use mathlib.Core.Path.{ap}
use Rattle.signature.specs.declared.shapes.Shape.{Shape}
use Rattle.signature.proofs.TreeLaws.{front}
use Rattle.editor_change.proofs.Wholes.{whole_ready, whole_walks}
use Rattle.strict_sizes.proofs.TableLaws.{front_placed}
use Rattle.editor_change.proofs.whole.Goals as goal

pub value-requires : goal.value-requires
value-requires c = (
  front_placed _ _ c.requires.table (front _ c.requires.typed) _ c.shape_in-shape.ensures,
  whole_ready _ c.new-depths.ensures _ _ (ap (λ (s : Shape). s.at) c.shape_in-shape.ensures) _ _ c.requires,
)

pub returns : goal.returns
returns c = whole_walks _ c.new-depths.ensures _ _ (ap (λ (s : Shape). s.at) c.shape_in-shape.ensures) _ _ _ _ _ _ _ c.value.ensures
