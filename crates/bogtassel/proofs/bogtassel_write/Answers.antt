-- `bogtassel_write` meets its contract. Assumes nothing.
use mathlib.Core.Path.{◌∙◌}
use Rattle.bogtassel.proofs.Handed.{handed_written}
use Rattle.bogtassel.proofs.bogtassel_write.Goals as goal

pub returns : goal.returns
returns c = record {
  answer = rw (c.hand_length.ensures.refusal, c.hand_length.ensures.length) (handed_written c.write-answer.result ∙ c.write-answer.ensures.answer);
  slice = c.write-answer.ensures.slice;
}
