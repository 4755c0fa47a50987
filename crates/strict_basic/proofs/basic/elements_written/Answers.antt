-- `elements_written` meets its contract: the loop keeps what is left of the elements. Assumes nothing.
use mathlib.Core.Path.{refl}
use native.Mathlib.Omega.{arith}
use Rattle.strict_basic.proofs.ElementLaws.{each_absent, each_stop, each_next, each_end}
use Rattle.strict_basic.proofs.basic.elements_written.Goals as goal

pub returns-in_default : goal.returns-in_default
returns-in_default g c = each_absent _ _ _ _ _ _ _ c.loop-i.invariant (omega arith) _ c.offset_at-stop.ensures c.in_default.ensures

pub returns-then-not-accepts : goal.returns-then-not-accepts
returns-then-not-accepts g c =
    each_stop _ _ _ _ _ _ _ c.loop-i.invariant (omega arith) _ c.offset_at-stop.ensures _ c.in-Some.ensures _
    (record { shown = _; shows = refl; says = record { met = c.accepts.ensures } }) c.if-not-accepts.true

pub loop-i-preserved : goal.loop-i-preserved
loop-i-preserved g c =
    each_next _ _ _ _ _ _ _ c.loop-i.invariant (omega arith) _ c.offset_at-stop.ensures _ c.in-Some.ensures _
    (record { shown = _; shows = refl; says = record { met = c.accepts.ensures } }) c.if-not-accepts.false

pub returns : goal.returns
returns g c = each_end _ _ _ _ _ _ _ c.loop-i.invariant (omega arith)
