-- `seen` meets its contract: behind the text no type begins. Assumes nothing.
use Rattle.signature.proofs.ShapeLaws.{shape_end}
use Rattle.signature_table.proofs.seen.Goals as goal

pub returns-else-at-text : goal.returns-else-at-text
returns-else-at-text c = λ from h w. shape_end c.args.text.now c.args.at c.requires.0 c.if-at-text.false
