-- Each public contract leaves one answer. Assumes nothing.
use mathlib.Core.Path.{refl, sym, ◌∙◌}
use Rattle.meaning.specs.OneAnswer.{OneAnswer, OneView}
use Rattle.meaning.proofs.RefusalLaws.{refusal_one}
use Rattle.texts.proofs.text.Kinds as text_kinds
use Rattle.texts.proofs.text.Reads as text
use Rattle.texts.proofs.check.Kinds as check_kinds
use Rattle.texts.proofs.check.Reads as check

pub text_unique : OneView text_kinds.ps text_kinds.r (λ κs z. z.now) text.Learnt
text_unique κs a z z' w w' p q = (p ∙ sym q, refl)

pub check_unique : OneAnswer check_kinds.ps check_kinds.r check.Learnt
check_unique κs a z z' w w' p q = (refusal_one (λ x y. refl) z z' (p ∙ sym q), refl)
