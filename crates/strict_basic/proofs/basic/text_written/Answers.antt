-- `text_written` meets its contract. Assumes nothing.
use mathlib.Core.Path.{◌∙◌}
use borrow.Author.Tests.{ne_eqb}
use Rattle.strict_basic.proofs.BasicLaws.{text_empty, text_open, text_ends}
use Rattle.strict_basic.proofs.basic.text_written.Goals as goal

pub returns-in_default : goal.returns-in_default
returns-in_default c =
    text_empty _ c.in_default.ensures.cases

pub returns-then-closed : goal.returns-then-closed
returns-then-closed c =
    c.is_ok.ensures.value ∙ text_ends _ _ _ c.in-Some.ensures.cases c.if-closed.true _ c.check.ensures

pub returns-else-closed : goal.returns-else-closed
returns-else-closed c =
    ne_eqb _ _ c.if-closed.false ∙ text_open _ _ _ c.in-Some.ensures.cases c.if-closed.false
