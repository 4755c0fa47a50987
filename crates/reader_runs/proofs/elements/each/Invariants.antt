-- `reader_runs::elements::each` meets its contract. Assumes nothing.
use Rattle.meaning.specs.Reading.{child}
use Rattle.reader_runs.proofs.Turns.{Left}
use Rattle.reader_runs.proofs.elements.each.Given as goal

abbrev pub invariant-loop-i : goal.invariant-loop-i
invariant-loop-i g l =
    Left (child (g.E.Element.reader l.element) l.place l.part) l.offsets l.part l.lead l.n l.initial.out l.i l.read.used l.read.count l.out
