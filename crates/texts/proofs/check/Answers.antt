-- `check` meets its contract. Assumes nothing.
use mathlib.Core.Path.{sym}
use Rattle.texts.proofs.Runs.{plain_on, plain_whole}
use Rattle.texts.proofs.check.Goals as goal

pub returns-then-plain_short : goal.returns-then-plain_short
returns-then-plain_short c = sym (plain_whole c.args.text.now (c.plain_short.ensures c.if-plain_short.true))

pub returns-then-plain_last : goal.returns-then-plain_last
returns-then-plain_last c = sym (plain_whole c.args.text.now (plain_on _ _ _ _ c.plain_sixteens-i.ensures (c.plain_last.ensures c.if-plain_last.true)))
