-- `structure_measure` meets its contract. Assumes nothing.
use native.Mathlib.Omega.{arith}
use Rattle.strict_sizes.proofs.TableLaws.{no_structure, structure_there}
use Rattle.strict_sizes.proofs.sizes.structure_measure.Goals as goal

pub returns-then-shape-eq0 : goal.returns-then-shape-eq0
returns-then-shape-eq0 c =
    ((λ t. absurd (no_structure _ _ _ c.requires.0.shapes c.requires.1 _ c.shape_in-shape.ensures c.if-shape-eq0.true t)), omega arith)

pub fixed_measure-requires : goal.fixed_measure-requires
fixed_measure-requires c =
    let d = (structure_there _ _ _ c.requires.0.shapes c.requires.1 c.requires.2 _
    c.shape_in-shape.ensures c.if-shape-eq0.false) in (d.rowed, c.requires.0, d.all c.if-shape.true, d.aligned)

pub returns-then-shape : goal.returns-then-shape
returns-then-shape c =
    let d = (structure_there _ _ _ c.requires.0.shapes c.requires.1 c.requires.2 _
    c.shape_in-shape.ensures c.if-shape-eq0.false) in let m = d.whole _ c.if-shape.true c.fixed_measure.ensures in (
      (λ t. m.0),
      m.1,
    )

pub offsets_of-requires : goal.offsets_of-requires
offsets_of-requires c =
    let d = (structure_there _ _ _ c.requires.0.shapes c.requires.1 c.requires.2 _
    c.shape_in-shape.ensures c.if-shape-eq0.false) in (d.rowed, c.requires.0)

pub returns-else-shape : goal.returns-else-shape
returns-else-shape c =
    let d = (structure_there _ _ _ c.requires.0.shapes c.requires.1 c.requires.2 _
    c.shape_in-shape.ensures c.if-shape-eq0.false) in let m = d.offsets _ c.if-shape.false c.offsets_of.ensures.0 c.offsets_of.ensures.1 in
    ((λ t. m.0), m.1)
