-- `bogtassel_edit` meets its contract. Assumes nothing.
use mathlib.Core.Path.{◌∙◌}
use Rattle.bogtassel.proofs.Handed.{handed_edited}
use Rattle.bogtassel.proofs.bogtassel_edit.Goals as goal

pub returns : goal.returns
returns c =
    let edited = rw c.new_of-new.ensures at c.edit-answer.ensures in
    record {
      answer = rw (c.hand_length.ensures.refusal, c.hand_length.ensures.length) (handed_edited c.edit-answer.result ∙ edited.answer);
      memory = edited.memory;
    }
