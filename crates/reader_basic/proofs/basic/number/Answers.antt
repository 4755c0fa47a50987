-- `reader_basic::basic::number` meets its contract. Assumes nothing.
use native.Mathlib.Omega.{arith}
use mathlib.Core.Path.{refl, ◌∙◌}
use Rattle.meaning.proofs.RefusalLaws.{number_not_0}
use Rattle.meaning.proofs.TypeLaws.{aligns_most}
use Rattle.reader_basic.proofs.Answers.{made, refused_at}
use Rattle.reader_basic.proofs.Leaves.{pads_inside, number_given, number_unpadded, number_short, number_there}
use Rattle.reader_basic.proofs.basic.number.Goals as goal

pub returns-in_err-lead : goal.returns-in_err-lead
returns-in_err-lead c =
    let s = c.in_err-lead.ensures in
    let padded = pads_inside c.args.context _ _ _ _ c.requires.0 c.requires.1 (rw s.refusal at c.parse_padding.ensures) in
    λ d. refused_at _ _ c.from_residual.ensures s (number_unpadded _ _ _ _ d _ _ _ _ _ padded (number_not_0 _))

pub returns-in_err-found : goal.returns-in_err-found
returns-in_err-found c =
    let s = c.in_err-found.ensures in
    let padded = pads_inside c.args.context _ _ _ _ c.requires.0 c.requires.1 (rw c.in_ok-lead.ensures at c.parse_padding.ensures) in
    λ d. refused_at _ _ c.from_residual-in_err-found.ensures s (number_short _ _ _ _ d _ _ _ _ _ padded _ refl (rw (made s.refusal c.number_at-cut.result (grind arith)) at (c.number_at-cut.ensures ∙ number_given c.requires.1 _ _ _)) (number_not_0 _))

pub overflow_add-place : goal.overflow_add-place
overflow_add-place c =
    let padded = pads_inside c.args.context _ _ _ _ c.requires.0 c.requires.1 (rw c.in_ok-lead.ensures at c.parse_padding.ensures) in
    omega (arith, padded.fits, c.requires.0.in_frame)

pub overflow_add-lead : goal.overflow_add-lead
overflow_add-lead c =
    let padded = pads_inside c.args.context _ _ _ _ c.requires.0 c.requires.1 (rw c.in_ok-lead.ensures at c.parse_padding.ensures) in
    omega (arith, padded.fits, c.requires.0.in_frame, aligns_most c.requires.1)

pub returns : goal.returns
returns c =
    let padded = pads_inside c.args.context _ _ _ _ c.requires.0 c.requires.1 (rw c.in_ok-lead.ensures at c.parse_padding.ensures) in
    λ d. rw c.done.ensures (number_there _ _ _ _ d _ _ _ _ _ padded _ refl (rw (made c.in_ok-found.ensures c.number_at-cut.result (grind arith)) at (c.number_at-cut.ensures ∙ number_given c.requires.1 _ _ _))
    _ _ refl c.emit-count.ensures.counted (c.emit-count.ensures.written ∙ rw c.from.ensures))
