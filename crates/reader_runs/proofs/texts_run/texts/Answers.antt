-- `reader_runs::texts_run::texts` meets its contract. Assumes nothing.
use Rattle.meaning.specs.Reading.{child_step, read_text}
use Rattle.reader_runs.proofs.texts_run.texts.Goals as goal

pub returns : goal.returns
unfolding child_step read_text
returns c = λ d. c.each.ensures
