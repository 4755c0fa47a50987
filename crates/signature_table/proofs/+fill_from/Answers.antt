-- `signature_table::fill_from`, which calls itself, meets its contract. The measure is what is left of the text. Assumes nothing.
use mathlib.Core.Path.{◌∙◌}
use native.Mathlib.Omega.{arith}
use Rattle.signature.proofs.ShapeLaws.{filled_none, filled_over}
use Rattle.signature_table.proofs.+fill_from.Goals as goal

pub returns-then-text-at : goal.returns-then-text-at
returns-then-text-at t c = filled_none _ _ _ c.if-text-at.true

pub block_end-stop-requires : goal.block_end-stop-requires
block_end-stop-requires t c = omega arith

pub fill_from-requires : goal.fill_from-requires
fill_from-requires t c =
    (omega (arith, c.block_end-stop.ensures.0, c.block_end-stop.ensures.1, c.decreases), c.requires)

pub fill_block-requires : goal.fill_block-requires
fill_block-requires t c =
    (c.requires.0, omega (arith, c.requires.1, c.fill_from.auto.shapes), omega (arith, c.block_end-stop.ensures.0), c.block_end-stop.ensures.1, c.fill_from.ensures.each)

pub shape_of-shapes : goal.shape_of-shapes
shape_of-shapes t c = c.fill_block.auto.shapes ∙ c.fill_from.auto.shapes

pub returns : goal.returns
returns t c =
    filled_over _ _ c.fill_from.new.shapes _ _ _ (omega (arith, c.block_end-stop.ensures.0)) c.fill_from.ensures c.fill_block.ensures
