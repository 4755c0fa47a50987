-- `writer_basic::basic::text_value` meets its contract. Assumes nothing.
use mathlib.Core.Path.{◌∙◌}
use Rattle.writer_basic.proofs.Answers.{refused_on, text_wrong, text_made}
use Rattle.writer_basic.proofs.basic.text_value.Goals as goal

pub returns-in_err-text : goal.returns-in_err-text
returns-in_err-text c = λ n big d top s e. refused_on _ _ c.from_residual.ensures (text_wrong _ big d _ _ _ top _ s n _ _ _ (c.from.ensures ∙ e) c.in_err-text.ensures)

pub returns : goal.returns
returns c = λ n big d top s e. text_made _ big d _ _ _ top _ s n _ _ _ _ (c.from.ensures ∙ e) c.in_ok-text.ensures c.put_text.ensures c.add.ensures
