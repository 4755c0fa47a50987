-- `texts_written` meets its contract. Assumes nothing.
use mathlib.Core.Path.{refl}
use Rattle.std.proofs.Common.{rules, tests, of_calls}
use Rattle.meaning.proofs.PaddingLaws.{by1}
use Rattle.strict_basic.specs.Basics.{text_test}
use Rattle.strict_basic.proofs.basic.texts_written.Goals as goal

pub elements_written-requires : goal.elements_written-requires
elements_written-requires c = (c.requires.0, c.requires.1, by1, search (rules, of_calls))

pub returns : goal.returns
unfolding text_test
returns c = λ d. c.elements_written.ensures text_test d (record { aligned = refl; same = λ l b h. search (rules, tests) })
