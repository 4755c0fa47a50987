-- Each public contract leaves one answer. Assumes nothing.
use Rattle.std.proofs.Common.{sym, refl, ◌∙◌}
use Rattle.meaning.specs.OneAnswer.{OneAnswer}
use Rattle.meaning.proofs.refusals.Refusal.number.Kinds as number_kinds
use Rattle.meaning.proofs.refusals.Refusal.number.Reads as number

pub number_unique : OneAnswer number_kinds.ps number_kinds.r number.Learnt
number_unique κs a z z' w w' p q = (p ∙ sym q, refl)
