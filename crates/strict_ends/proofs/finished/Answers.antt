-- `finished` meets its contract. Assumes nothing.
use mathlib.Core.Path.{◌∙◌}
use borrow.Author.Tests.{ne_eqb}
use Rattle.strict_ends.proofs.EndLaws.{finished_other, finished_short, finished_whole}
use Rattle.strict_ends.proofs.finished.Goals as goal

pub returns-then-not-whole : goal.returns-then-not-whole
returns-then-not-whole c =
    finished_other _ _ _ _ _ c.if-not-whole.true

pub returns-else-aligned-body : goal.returns-else-aligned-body
returns-else-aligned-body c =
    ne_eqb _ _ c.if-aligned-body.false ∙ finished_short _ _ _ _ _ _ c.if-not-whole.false c.aligned.ensures c.if-aligned-body.false

pub returns-then-aligned-body : goal.returns-then-aligned-body
returns-then-aligned-body c =
    finished_whole _ _ _ _ _ _ _ c.if-not-whole.false c.aligned.ensures c.if-aligned-body.true c.all_zero.ensures
