-- `reader_steps::array::kind_by` meets its contract. Assumes nothing.
use Rattle.std.proofs.Common.{eq-eqb, ne_eqb}
use Rattle.reader_steps.proofs.array.kind_by.Goals as goal

pub returns-then-code-eq123 : goal.returns-then-code-eq123
returns-then-code-eq123 c = rw (eq-eqb c.args.code 123 c.if-code-eq123.true)

pub returns-else-code-eq123 : goal.returns-else-code-eq123
returns-else-code-eq123 c = rw (ne_eqb c.args.code 123 c.if-code-eq123.false)
