-- `byte_order::number_at` gives what `number_of` says, for every width. Assumes nothing.
use Rattle.std.proofs.Common.{rules, sym, ◌∙◌}
use Rattle.meaning.proofs.PaddingLaws.{by1, by2, by4, by8}
use Rattle.byte_order.proofs.Standings.{number_of_is, number_of_not}
use Rattle.byte_order.proofs.number_at.Goals as goal

pub returns-in-1 : goal.returns-in-1
returns-in-1 c = rw c.in-1.is (c.number.ensures ∙ sym (number_of_is _ _ _ by1))

pub returns-in-2 : goal.returns-in-2
returns-in-2 c = rw c.in-2.is (c.number-in-2.ensures ∙ sym (number_of_is _ _ _ by2))

pub returns-in-4 : goal.returns-in-4
returns-in-4 c = rw c.in-4.is (c.number-in-4.ensures ∙ sym (number_of_is _ _ _ by4))

pub returns-in-8 : goal.returns-in-8
returns-in-8 c = rw c.in-8.is (c.number-in-8.ensures ∙ sym (number_of_is _ _ _ by8))

pub returns-in_default : goal.returns-in_default
returns-in_default c = search (rules, number_of_not)
