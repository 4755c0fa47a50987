-- `framing_offset_size::FramingOffsetSize::for_bare_container` meets its contract. Assumes nothing.
use Rattle.framing_offset_size.proofs.WidthLaws.{trying_begin, trying_done, trying_next, trying_none, bumped_above, fitted}
use mathlib.Core.Path.{sym, ◌∙◌}
use Rattle.framing_offset_size.proofs.FramingOffsetSize.for_bare_container.Goals as goal

pub loop-size-init : goal.loop-size-init
loop-size-init c = trying_begin _ _

pub returns-then-holds : goal.returns-then-holds
returns-then-holds c = fitted _ _ _ (trying_done _ _ c.loop-size.size c.holds.ensures c.if-holds.true c.loop-size.invariant)

pub returns-in_err-size : goal.returns-in_err-size
returns-in_err-size c =
    rw c.from_residual.ensures
    (fitted _ _ _ (trying_none _ _ c.loop-size.size c.holds.ensures c.if-holds.false (sym c.in_err-size.was ∙ c.bump_up.ensures) c.loop-size.invariant))

pub loop-size-smaller : goal.loop-size-smaller
loop-size-smaller c = bumped_above c.loop-size.size _ (sym c.in_ok-size.was ∙ c.bump_up.ensures)

pub loop-size-preserved : goal.loop-size-preserved
loop-size-preserved c =
    trying_next _ _ c.loop-size.size _ c.holds.ensures c.if-holds.false (sym c.in_ok-size.was ∙ c.bump_up.ensures) c.loop-size.invariant
