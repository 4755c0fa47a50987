-- `numerals::all_digits` meets its contract. Assumes nothing.
use mathlib.Core.Path.{◌∙◌}
use lib.Dec.{ltb}
use borrow.Author.Rules.{rules}
use borrow.Author.Tests.{tests}
use Rattle.std.proofs.lemmas.Iterator.{YieldsList-from_slice}
use Rattle.std.proofs.lemmas.Iterator.Search.{all_from_yields_List}
use Rattle.numerals.specs.Hexadecimal.{digit}
use Rattle.numerals.proofs.ByteLaws.{digits_by_all}
use Rattle.numerals.proofs.all_digits.Goals as goal

pub returns : goal.returns
returns c =
    all_from_yields_List (λ b. ltb (digit b) 16) _ _ _ c.all.ensures.ran (YieldsList-from_slice c.args.text.now cc) (λ x b q k. search (rules, tests)) ∙ digits_by_all c.args.text.now
