-- `writer_basic::basic::boolean` meets its contract. Assumes nothing.
use native.Mathlib.Omega.{arith}
use Rattle.writer_basic.proofs.Answers.{refused_on, bool_absent, bool_large, bool_made}
use Rattle.writer_basic.proofs.basic.boolean.Goals as goal

pub returns-in_err-x : goal.returns-in_err-x
returns-in_err-x c = λ texts big d top s. refused_on _ _ c.from_residual.ensures (bool_absent texts big d _ _ _ top _ s _ c.in_err-x.ensures)

pub returns-then-x-gt1 : goal.returns-then-x-gt1
returns-then-x-gt1 c = λ texts big d top s. bool_large texts big d _ _ _ top _ s _ c.in_ok-x.ensures c.if-x-gt1.true

pub returns : goal.returns
returns c = λ texts big d top s. bool_made texts big d _ _ _ top _ s _ c.in_ok-x.ensures (omega arith) c.number_bytes.ensures
