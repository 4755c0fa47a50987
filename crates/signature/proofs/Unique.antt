-- Each public contract leaves one answer. Assumes nothing.
use mathlib.Core.Path.{refl, sym, ◌∙◌}
use Rattle.meaning.specs.OneAnswer.{OneAnswer}
use Rattle.signature.proofs.letter_of.Kinds as letter_of_kinds
use Rattle.signature.proofs.letter_of.Reads as letter_of_lem
use Rattle.signature.proofs.letter_at.Kinds as letter_at_kinds
use Rattle.signature.proofs.letter_at.Reads as letter_at
use Rattle.signature.proofs.Letters.{closes_once}
use Rattle.signature.proofs.closes_at.Kinds as closes_at_kinds
use Rattle.signature.proofs.closes_at.Reads as closes_at
use Rattle.signature.proofs.shapes.shape_in.Kinds as shape_in_kinds
use Rattle.signature.proofs.shapes.shape_in.Reads as shape_in_lem
use Rattle.signature.proofs.shapes.next_of.Kinds as next_of_kinds
use Rattle.signature.proofs.shapes.next_of.Reads as next_of
use Rattle.signature.proofs.shapes.alignment_of.Kinds as alignment_of_kinds
use Rattle.signature.proofs.shapes.alignment_of.Reads as alignment_of
use Rattle.signature.proofs.shapes.fixed_of.Kinds as fixed_of_kinds
use Rattle.signature.proofs.shapes.fixed_of.Reads as fixed_of
use Rattle.signature.proofs.items.item_of.Kinds as item_of_kinds
use Rattle.signature.proofs.items.item_of.Reads as item_of

pub letter_of_unique : OneAnswer letter_of_kinds.ps letter_of_kinds.r letter_of_lem.Learnt
letter_of_unique κs a z z' w w' p q = (p ∙ sym q, refl)

pub letter_at_unique : OneAnswer letter_at_kinds.ps letter_at_kinds.r letter_at.Learnt
letter_at_unique κs a z z' w w' p q = (p ∙ sym q, refl)

pub closes_at_unique : OneAnswer closes_at_kinds.ps closes_at_kinds.r closes_at.Learnt
closes_at_unique κs a z z' w w' p q = (closes_once _ _ _ _ p q, refl)

pub shape_in_unique : OneAnswer shape_in_kinds.ps shape_in_kinds.r shape_in_lem.Learnt
shape_in_unique κs a z z' w w' p q = (p ∙ sym q, refl)

pub next_of_unique : OneAnswer next_of_kinds.ps next_of_kinds.r next_of.Learnt
next_of_unique κs a z z' w w' p q = (p ∙ sym q, refl)

pub alignment_of_unique : OneAnswer alignment_of_kinds.ps alignment_of_kinds.r alignment_of.Learnt
alignment_of_unique κs a z z' w w' p q = (p ∙ sym q, refl)

pub fixed_of_unique : OneAnswer fixed_of_kinds.ps fixed_of_kinds.r fixed_of.Learnt
fixed_of_unique κs a z z' w w' p q = (p ∙ sym q, refl)

pub item_of_unique : OneAnswer item_of_kinds.ps item_of_kinds.r item_of.Learnt
item_of_unique κs a z z' w w' p q = (p ∙ sym q, refl)
