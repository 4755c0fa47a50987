-- `key_written` meets its contract. Assumes nothing.
use Rattle.strict_basic.proofs.BasicLaws.{key_not, key_on}
use Rattle.strict_basic.proofs.basic.key_written.Goals as goal

pub returns-in_default : goal.returns-in_default
returns-in_default c =
    key_not c.args.key _ _ _ _ c.extent_of-extent.ensures c.in_default.ensures

pub returns : goal.returns
returns c =
    key_on c.args.key _ _ _ _ c.extent_of-extent.ensures _ c.in-Some.ensures _ c.letter_written.ensures
