-- The needs of `value`, and what answers each.
use Rattle.reader_basic.proofs.Answers.{told_by}
use Rattle.reader_basic.proofs.Leaves.{child_before, child_past, child_there, within_child}
use Rattle.reader_steps.proofs.Characters.{contains_code, typed_within, value_leaf}
use native.Mathlib.Omega.{arith}
use Rattle.reader_cycle.proofs.+reading.Goals as goal
use Rattle.reader_cycle.proofs.+reading.Goals.{value-then-e-j-via-then-e-j, value-then-e-j-via-else-e-j+then-part-e}

pub returns-then-e-j : goal.value-returns-then-e-j
returns-then-e-j t c = told_by c.refused.ensures (elim c.then-e-j.branch [
  | value-then-e-j-via-then-e-j w ↦ child_before _ _ _ _ _ _ _ _ _ w.if-e-j.true
  | value-then-e-j-via-else-e-j+then-part-e w ↦ child_past _ _ _ _ _ _ _ _ _ w.if-e-j.false w.if-part-e.true
])

pub bounds-text-at : goal.value-bounds-text-at
bounds-text-at t c =
    omega (arith, typed_within c.requires.0.typed)

pub container-requires : goal.value-container-requires
container-requires t c =
    (omega (arith, c.decreases), (c.requires.0, within_child _ _ _ c.requires.1 c.if-e-j.false c.if-part-e.false, contains_code c.requires.0.typed c.in-97.is))

pub leaf-requires : goal.value-leaf-requires
leaf-requires t c =
    within_child _ _ _ c.requires.1 c.if-e-j.false c.if-part-e.false

pub returns-in-97 : goal.value-returns-in-97
returns-in-97 t c =
    child_there _ _ _ _ _ _ _ _ _ c.if-e-j.false c.if-part-e.false c.container.ensures

pub returns-in_default : goal.value-returns-in_default
returns-in_default t c =
    child_there _ _ _ _ _ _ _ _ _ c.if-e-j.false c.if-part-e.false (value_leaf c.requires.0.typed c.in_default.in_default-own.rest.1 _ _ _ _ _ _ _ _ _ _ _ _ c.leaf.ensures)
