-- `size_of` gives the width of so many bytes. Assumes nothing.
use Rattle.strict_ends.proofs.EndLaws.{width_is}
use Rattle.strict_ends.proofs.size_of.Goals as goal

pub returns-then-width-lt2 : goal.returns-then-width-lt2
returns-then-width-lt2 c = (width_is c.requires).0 c.if-width-lt2.true

pub returns-then-width-lt4 : goal.returns-then-width-lt4
returns-then-width-lt4 c = (width_is c.requires).1 c.if-width-lt2.false c.if-width-lt4.true

pub returns-then-width-lt8 : goal.returns-then-width-lt8
returns-then-width-lt8 c = (width_is c.requires).2 c.if-width-lt4.false c.if-width-lt8.true

pub returns : goal.returns
returns c = (width_is c.requires).3 c.if-width-lt8.false
