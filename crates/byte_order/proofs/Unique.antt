-- Each public contract leaves one answer. Assumes nothing.
use mathlib.Core.Path.{refl, sym, ◌∙◌}
use Rattle.std.proofs.Common.{ℕ, Fits, w64}
use Rattle.meaning.specs.OneAnswer.{OneAnswer}
use Rattle.utils.proofs.Answered.{checked_one}
use Rattle.byte_order.proofs.number_at.Kinds as number_at_kinds
use Rattle.byte_order.proofs.number_at.Reads as number_at
use Rattle.byte_order.proofs.number.Kinds as number_kinds
use Rattle.byte_order.proofs.number.Reads as number

pub number_unique : (n : ℕ) (f : Fits w64 n) → OneAnswer (number_kinds.ps n f) (number_kinds.r n f) (number.Learnt n f)
number_unique n f κs a z z' w w' p q = (checked_one z z' (p ∙ sym q), refl)

pub number_at_unique : OneAnswer number_at_kinds.ps number_at_kinds.r number_at.Learnt
number_at_unique κs a z z' w w' p q = (checked_one z z' (p ∙ sym q), refl)
