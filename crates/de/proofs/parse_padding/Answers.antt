-- `de::parse_padding` gives what `padding_at` says: the sum is taken first, then the alignment judged, then the bytes. Assumes nothing.
use Rattle.de.proofs.PaddingAnswers.{sum_past, sum_within, none_due, due_short, due_there, due_not_zero}
use Rattle.utils.proofs.Places.{within}
use Rattle.utils.specs.Checks.{passed, failed}
use Rattle.meaning.specs.Refused.{number_of}
use mathlib.Core.Path.{refl, ◌∙◌}
use Rattle.std.proofs.lemmas.Result.{err_from_is_err_and}
use Rattle.de.proofs.parse_padding.Goals as goal

pub returns-then-position-place : goal.returns-then-position-place
returns-then-position-place c = sum_past c.args.position c.args.place c.args.alignment c.args.part.now c.ranges.position.fits c.if-position-place.true

pub returns-in_err-size : goal.returns-in_err-size
returns-in_err-size c =
    let a = c.args in
    let p = err_from_is_err_and c.from_residual.result c.from_residual.ensures.1 in
    rw (p.1, p.2)
    (none_due (failed (number_of c.in_err-size.field-0.0)) a.place a.part.now refl
    ∙ sum_within a.position a.place a.alignment a.part.now c.ranges.position.fits c.if-position-place.false c.in_err-size.ensures)

pub returns-then-size-eq0 : goal.returns-then-size-eq0
returns-then-size-eq0 c =
    let due = rw c.in_ok-size.was at c.padding_for_n_bytes.ensures in
    let a = c.args in
    rw c.if-size-eq0.true at
    (none_due (passed c.in_ok-size.size) a.place a.part.now c.if-size-eq0.true ∙ sum_within a.position a.place a.alignment a.part.now c.ranges.position.fits c.if-position-place.false due)

pub returns-then-not-reaches : goal.returns-then-not-reaches
returns-then-not-reaches c =
    let due = rw c.in_ok-size.was at c.padding_for_n_bytes.ensures in
    let a = c.args in
    due_short (passed c.in_ok-size.size) a.place a.part.now c.if-size-eq0.false c.reaches.ensures c.if-not-reaches.true
    ∙ sum_within a.position a.place a.alignment a.part.now c.ranges.position.fits c.if-position-place.false due

pub zeros-requires : goal.zeros-requires
zeros-requires c = within c.args.part.now c.args.place _ c.reaches.ensures c.if-not-reaches.false

pub returns-then-not-zeros : goal.returns-then-not-zeros
returns-then-not-zeros c =
    let due = rw c.in_ok-size.was at c.padding_for_n_bytes.ensures in
    let a = c.args in
    due_not_zero (passed c.in_ok-size.size) a.place a.part.now c.if-size-eq0.false c.reaches.ensures c.if-not-reaches.false c.zeros.ensures c.if-not-zeros.true
    ∙ sum_within a.position a.place a.alignment a.part.now c.ranges.position.fits c.if-position-place.false due

pub returns : goal.returns
returns c =
    let due = rw c.in_ok-size.was at c.padding_for_n_bytes.ensures in
    let a = c.args in
    due_there (passed c.in_ok-size.size) a.place a.part.now c.if-size-eq0.false c.reaches.ensures c.if-not-reaches.false c.zeros.ensures c.if-not-zeros.false
    ∙ sum_within a.position a.place a.alignment a.part.now c.ranges.position.fits c.if-position-place.false due
