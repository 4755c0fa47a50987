-- Each public contract leaves one answer. Assumes nothing.
use Rattle.std.proofs.Common.{sym, refl, ◌∙◌}
use Rattle.meaning.specs.OneAnswer.{OneAnswer}
use Rattle.utils.proofs.Answered.{checked_one}
use Rattle.utils.proofs.reaches.Kinds as reaches_kinds
use Rattle.utils.proofs.reaches.Reads as reaches
use Rattle.utils.proofs.padding_for_n_bytes.Kinds as padding_kinds
use Rattle.utils.proofs.padding_for_n_bytes.Reads as padding

pub reaches_unique : OneAnswer reaches_kinds.ps reaches_kinds.r reaches.Learnt
reaches_unique κs a z z' w w' p q = (p ∙ sym q, refl)

pub padding_for_n_bytes_unique : OneAnswer padding_kinds.ps padding_kinds.r padding.Learnt
padding_for_n_bytes_unique κs a z z' w w' p q = (checked_one z z' (p ∙ sym q), refl)
