-- Each public contract leaves one answer. Assumes nothing.
use mathlib.Core.Path.{refl, sym, ◌∙◌}
use Rattle.meaning.specs.OneAnswer.{OneAnswer, OneView}
use Rattle.utils.proofs.Answered.{checked_one}
use Rattle.de.proofs.PartAnswers.{bool_checked_one}
use Rattle.de.proofs.zeros.Kinds as zeros_kinds
use Rattle.de.proofs.zeros.Reads as zeros
use Rattle.de.proofs.parse_padding.Kinds as parse_padding_kinds
use Rattle.de.proofs.parse_padding.Reads as parse_padding
use Rattle.de.proofs.next_place.Kinds as next_place_kinds
use Rattle.de.proofs.next_place.Reads as next_place
use Rattle.de.proofs.read_number.Kinds as read_number_kinds
use Rattle.de.proofs.read_number.Reads as read_number
use Rattle.de.proofs.read_bool.Kinds as read_bool_kinds
use Rattle.de.proofs.read_bool.Reads as read_bool_lem
use Rattle.de.proofs.next_slice.Kinds as next_slice_kinds
use Rattle.de.proofs.next_slice.Reads as next_slice

pub zeros_unique : OneAnswer zeros_kinds.ps zeros_kinds.r zeros.Learnt
zeros_unique κs a z z' w w' p q = (p ∙ sym q, refl)

pub parse_padding_unique : OneAnswer parse_padding_kinds.ps parse_padding_kinds.r parse_padding.Learnt
parse_padding_unique κs a z z' w w' p q = (checked_one z z' (p ∙ sym q), refl)

pub next_place_unique : OneAnswer next_place_kinds.ps next_place_kinds.r next_place.Learnt
next_place_unique κs a z z' w w' p q = (checked_one z z' (p ∙ sym q), refl)

pub read_number_unique : OneAnswer read_number_kinds.ps read_number_kinds.r read_number.Learnt
read_number_unique κs a z z' w w' p q = (checked_one z z' (p ∙ sym q), refl)

pub read_bool_unique : OneAnswer read_bool_kinds.ps read_bool_kinds.r read_bool_lem.Learnt
read_bool_unique κs a z z' w w' p q = (bool_checked_one z z' (p ∙ sym q), refl)

pub next_slice_unique : OneView next_slice_kinds.ps next_slice_kinds.r (λ κs z. z.now) next_slice.Learnt
next_slice_unique κs a z z' w w' p q = (p ∙ sym q, refl)
