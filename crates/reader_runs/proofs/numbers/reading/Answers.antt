-- `reader_runs::numbers::reading` meets its contract. Assumes nothing.
use mathlib.Core.Path.{refl, sym, ◌∙◌}
use native.Mathlib.Omega.{arith}
use Rattle.meaning.proofs.RefusalLaws.{number_not_0}
use Rattle.meaning.proofs.TypeLaws.{aligns_most}
use Rattle.reader_basic.proofs.Answers.{made, refused_at}
use Rattle.reader_basic.proofs.Leaves.{pads_inside}
use Rattle.reader_runs.proofs.NumberLaws.{reading_unpadded, reading_nothing, reading_deep, reading_short, reading_there}
use Rattle.reader_runs.proofs.numbers.reading.Goals as goal

pub returns-in_err-lead : goal.returns-in_err-lead
returns-in_err-lead c =
    let s = c.in_err-lead.ensures in
    let padded = pads_inside c.args.context _ _ _ _ c.requires.0 c.requires.1 (rw s.refusal at c.parse_padding-padding.ensures) in
    refused_at _ _ c.from_residual.ensures s (reading_unpadded _ _ _ _ c.requires.1 _ _ _ _ _ _ padded (number_not_0 _))

pub overflow_add-place : goal.overflow_add-place
overflow_add-place c =
    let padded = pads_inside c.args.context _ _ _ _ c.requires.0 c.requires.1 (rw c.in_ok-lead.ensures at c.parse_padding-padding.ensures) in
    omega (arith, padded.fits, c.requires.0.in_frame)

pub returns-then-part-lead : goal.returns-then-part-lead
returns-then-part-lead c =
    let padded = pads_inside c.args.context _ _ _ _ c.requires.0 c.requires.1 (rw c.in_ok-lead.ensures at c.parse_padding-padding.ensures) in
    rw c.done.ensures (reading_nothing _ _ _ _ c.requires.1 _ _ _ _ _ _ padded refl _ _ c.if-part-lead.true c.emit-count.ensures.counted c.emit-count.ensures.written)

pub returns-in_err-or_stop : goal.returns-in_err-or_stop
returns-in_err-or_stop c =
    let s = c.in_err-or_stop.ensures in
    let padded = pads_inside c.args.context _ _ _ _ c.requires.0 c.requires.1 (rw c.in_ok-lead.ensures at c.parse_padding-padding.ensures) in
    refused_at _ _ c.from_residual-in_err-or_stop.ensures s
    (reading_deep _ _ _ _ c.requires.1 _ _ _ _ _ _ padded refl c.if-part-lead.false _ (sym (rw s.refusal at c.inc_maybe.ensures).refusal) (number_not_0 _))

pub returns-in_err-found : goal.returns-in_err-found
returns-in_err-found c =
    let s = c.in_err-found.ensures in
    let padded = pads_inside c.args.context _ _ _ _ c.requires.0 c.requires.1 (rw c.in_ok-lead.ensures at c.parse_padding-padding.ensures) in
    refused_at _ _ c.from_residual-in_err-found.ensures s
    (reading_short _ _ _ _ c.requires.1 _ _ _ _ _ _ padded refl c.if-part-lead.false (sym (rw c.in_ok-or_stop.ensures at c.inc_maybe.ensures).refusal)
    _ _ c.emit-m.ensures.counted c.emit-m.ensures.written _ (rw (made s.refusal c.reading_number-cut.result (first_of (cc, grind arith))) at (c.reading_number-cut.ensures c.requires.1)) (number_not_0 _))

pub overflow_add-lead : goal.overflow_add-lead
overflow_add-lead c =
    let padded = pads_inside c.args.context _ _ _ _ c.requires.0 c.requires.1 (rw c.in_ok-lead.ensures at c.parse_padding-padding.ensures) in
    omega (arith, padded.fits, c.requires.0.in_frame, aligns_most c.requires.1)

pub returns : goal.returns
returns c =
    let padded = pads_inside c.args.context _ _ _ _ c.requires.0 c.requires.1 (rw c.in_ok-lead.ensures at c.parse_padding-padding.ensures) in
    rw c.done-2.ensures (reading_there _ _ _ _ c.requires.1 _ _ _ _ _ _ padded refl c.if-part-lead.false (sym (rw c.in_ok-or_stop.ensures at c.inc_maybe.ensures).refusal)
    _ _ c.emit-m.ensures.counted c.emit-m.ensures.written _ _ _ (rw (made c.in_ok-found.ensures c.reading_number-cut.result (first_of (cc, grind arith))) at (c.reading_number-cut.ensures c.requires.1)) refl
    c.emit-count-2.ensures.counted (c.emit-count-2.ensures.written ∙ rw c.from.ensures))
