-- `start_of` meets its contract. Assumes nothing.
use mathlib.Core.Path.{sym, ◌∙◌}
use Rattle.strict_ends.proofs.EndLaws.{start_below, start_past, start_dirty, start_here}
use Rattle.strict_ends.proofs.start_of.Goals as goal
use Rattle.strict_ends.proofs.start_of.Goals.{then-e-at-via-then-e-at, then-e-at-via-else-e-at+then-limit-e, then-e-at-via-else-e-at+else-limit-e+then-not-all_zero}

pub returns-then-e-at : goal.returns-then-e-at
returns-then-e-at c =
    elim c.then-e-at.branch [
      | then-e-at-via-then-e-at w ↦ start_below _ _ _ _ _ _ c.aligned-at.ensures w.if-e-at.true
      | then-e-at-via-else-e-at+then-limit-e w ↦ start_past _ _ _ _ _ _ c.aligned-at.ensures w.if-e-at.false w.if-limit-e.true
      | then-e-at-via-else-e-at+else-limit-e+then-not-all_zero w ↦
          start_dirty _ _ _ _ _ _ c.aligned-at.ensures w.if-e-at.false w.if-limit-e.false (sym w.if-not-all_zero.true ∙ w.all_zero.ensures)
    ]

pub returns : goal.returns
returns c =
    start_here _ _ _ _ _ _ c.aligned-at.ensures c.if-e-at.false c.if-limit-e.false (sym c.if-not-all_zero.false ∙ c.all_zero.ensures)
