-- `reader_steps::codes::held_width` meets its contract. Assumes nothing.
use Rattle.std.proofs.Common.{arith}
use Rattle.reader_steps.proofs.Characters.{code_maybe, held_by}
use Rattle.reader_steps.proofs.codes.held_width.Goals as goal

pub returns : goal.returns
returns c =
    held_by c.args.text.now c.args.at _ (code_maybe c.args.text.now c.args.at c.requires c.if-text-at-ne109.false) (omega (arith, c.if-text-at-lt2.false)) c.number_width.ensures
