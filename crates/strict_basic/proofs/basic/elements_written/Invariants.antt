-- `elements_written` meets its contract: the loop keeps what is left of the elements. Assumes nothing.
use Rattle.std.specs.Fn.{FnReturnsAt}
use Rattle.strict_basic.proofs.ElementLaws.{EachLeft}
use Rattle.strict_basic.proofs.basic.elements_written.Given as goal

abbrev pub invariant-loop-i : goal.invariant-loop-i
invariant-loop-i g l =
    EachLeft (FnReturnsAt g.F.Fn l.accepts) l.alignment l.part l.rows.width l.rows.body l.rows.count l.rows.from l.i l.place
