-- The public contracts leave one answer. Assumes nothing.
use mathlib.Core.Path.{refl, sym, ◌∙◌}
use Rattle.meaning.specs.OneAnswer.{OneAnswer}
use Rattle.meaning.proofs.RefusalLaws.{refusal_one}
use Rattle.strict.proofs.is_written.Kinds as is_written_kinds
use Rattle.strict.proofs.is_written.Reads as is_written
use Rattle.strict.proofs.is_written_by.Kinds as is_written_by_kinds
use Rattle.strict.proofs.is_written_by.Reads as is_written_by

pub is_written_unique : OneAnswer is_written_kinds.ps is_written_kinds.r is_written.Learnt
is_written_unique κs a z z' w w' p q = (refusal_one (λ a b. refl) z z' (p ∙ sym q), refl)

pub is_written_by_unique : OneAnswer is_written_by_kinds.ps is_written_by_kinds.r is_written_by.Learnt
is_written_by_unique κs a z z' w w' p q = (refusal_one (λ a b. refl) z z' (p ∙ sym q), refl)
